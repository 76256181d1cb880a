use Rattle.std.proofs.Common.{◌≡◌, ◌-◌, ◌<◌, ◌∙◌, [], ◌∷◌, get_or, length, take, drop, sym, ap, subst, map, string_bytes, arith}
use Rattle.std.specs.Prelude.{IfOk}
use Rattle.ob_settings.specs.Jobs.{AsksForJob, IsJobOf, IsUsage}
use Rattle.ob_settings.proofs.Read.{all_within, job_read, read_within, unnumbered, unplaced, unread, was_read, word_in, words_in}
use Rattle.ob_settings.proofs.Ranges.{read_some}
use Rattle.ob_settings.proofs.Steps.{all_behind}
use Rattle.ob_settings.proofs.reader.read_words.Goals as goal

pub returns-in_default-read_all-clause-usage : goal.returns-in_default-read_all-clause-usage
returns-in_default-read_all-clause-usage c e =
    let others = map string_bytes (take (length c.as_slice.result.now - 1) (drop 1 c.as_slice.result.now)) in
    let same : map string_bytes c.args.words.now.items ≡ c.as_str.result.now ∷ others = ap (map string_bytes) (sym c.as_slice.ensures.value) ∙ words_in string_bytes c.as_slice.result.now (take (length c.as_slice.result.now - 1) (drop 1 c.as_slice.result.now)) c.command-item.result c.as_str.result.now (omega arith) c.command-item.is c.as_str.ensures.value (all_behind c.as_slice.result.now 1) in
    subst IsUsage (sym same) (unread c.as_str.result.now others c.in-Some.verb (sym c.named.ensures ∙ c.in-Some.is) (sym c.read_all.ensures ∙ c.in_default-read_all.is))

pub returns-in_default-place-clause-usage : goal.returns-in_default-place-clause-usage
returns-in_default-place-clause-usage c e =
    let others = map string_bytes (take (length c.as_slice.result.now - 1) (drop 1 c.as_slice.result.now)) in
    let same : map string_bytes c.args.words.now.items ≡ c.as_str.result.now ∷ others = ap (map string_bytes) (sym c.as_slice.ensures.value) ∙ words_in string_bytes c.as_slice.result.now (take (length c.as_slice.result.now - 1) (drop 1 c.as_slice.result.now)) c.command-item.result c.as_str.result.now (omega arith) c.command-item.is c.as_str.ensures.value (all_behind c.as_slice.result.now 1) in
    subst IsUsage (sym same) (unplaced c.as_str.result.now others c.in-Some.verb c.in-Some-read_all.reader (sym c.named.ensures ∙ c.in-Some.is) (sym c.read_all.ensures ∙ c.in-Some-read_all.is) c.in_default-place.is)

pub index-requires : goal.index-requires
index-requires c =
    let others = map string_bytes (take (length c.as_slice.result.now - 1) (drop 1 c.as_slice.result.now)) in
    let same : map string_bytes c.args.words.now.items ≡ c.as_str.result.now ∷ others = ap (map string_bytes) (sym c.as_slice.ensures.value) ∙ words_in string_bytes c.as_slice.result.now (take (length c.as_slice.result.now - 1) (drop 1 c.as_slice.result.now)) c.command-item.result c.as_str.result.now (omega arith) c.command-item.is c.as_str.ensures.value (all_behind c.as_slice.result.now 1) in
    let it = was_read c.as_str.result.now others c.in-Some.verb c.in-Some-read_all.reader c.in-Some-place.at (sym c.named.ensures ∙ c.in-Some.is) (sym c.read_all.ensures ∙ c.in-Some-read_all.is) c.in-Some-place.is in
    subst (λ n. c.in-Some-place.at < n) (ap length (sym c.as_slice.ensures.value) ∙ c.as_slice.ensures.len) (all_within string_bytes c.args.words.now.items (c.as_str.result.now ∷ others) c.in-Some-place.at same (read_within (c.as_str.result.now ∷ others) c.in-Some.verb c.in-Some-read_all.reader c.in-Some-place.at it))

pub returns-clause-job : goal.returns-clause-job
returns-clause-job c =
    let others = map string_bytes (take (length c.as_slice.result.now - 1) (drop 1 c.as_slice.result.now)) in
    let same : map string_bytes c.args.words.now.items ≡ c.as_str.result.now ∷ others = ap (map string_bytes) (sym c.as_slice.ensures.value) ∙ words_in string_bytes c.as_slice.result.now (take (length c.as_slice.result.now - 1) (drop 1 c.as_slice.result.now)) c.command-item.result c.as_str.result.now (omega arith) c.command-item.is c.as_str.ensures.value (all_behind c.as_slice.result.now 1) in
    let it = was_read c.as_str.result.now others c.in-Some.verb c.in-Some-read_all.reader c.in-Some-place.at (sym c.named.ensures ∙ c.in-Some.is) (sym c.read_all.ensures ∙ c.in-Some-read_all.is) c.in-Some-place.is in
    let argument_is : c.as_str-2.result.now ≡ get_or (c.as_str.result.now ∷ others) c.in-Some-place.at [] =
    c.as_str-2.ensures.value ∙ word_in string_bytes c.args.words.now.items c.in-Some-place.at c.index.result.now (all_within string_bytes c.args.words.now.items (c.as_str.result.now ∷ others) c.in-Some-place.at same (read_within (c.as_str.result.now ∷ others) c.in-Some.verb c.in-Some-read_all.reader c.in-Some-place.at it)) c.index.ensures ∙
    ap (λ w. get_or w c.in-Some-place.at []) same
    in
    subst (λ w. IfOk c.job_at.result (λ job. IsJobOf w job)) (sym same) (job_read (c.as_str.result.now ∷ others) c.in-Some.verb c.in-Some-read_all.reader c.in-Some-place.at c.as_str-2.result.now c.job_at.result it argument_is c.job_at.ensures.job)

pub returns-clause-usage : goal.returns-clause-usage
returns-clause-usage c e =
    let others = map string_bytes (take (length c.as_slice.result.now - 1) (drop 1 c.as_slice.result.now)) in
    let same : map string_bytes c.args.words.now.items ≡ c.as_str.result.now ∷ others = ap (map string_bytes) (sym c.as_slice.ensures.value) ∙ words_in string_bytes c.as_slice.result.now (take (length c.as_slice.result.now - 1) (drop 1 c.as_slice.result.now)) c.command-item.result c.as_str.result.now (omega arith) c.command-item.is c.as_str.ensures.value (all_behind c.as_slice.result.now 1) in
    let it = was_read c.as_str.result.now others c.in-Some.verb c.in-Some-read_all.reader c.in-Some-place.at (sym c.named.ensures ∙ c.in-Some.is) (sym c.read_all.ensures ∙ c.in-Some-read_all.is) c.in-Some-place.is in
    let argument_is : c.as_str-2.result.now ≡ get_or (c.as_str.result.now ∷ others) c.in-Some-place.at [] =
    c.as_str-2.ensures.value ∙ word_in string_bytes c.args.words.now.items c.in-Some-place.at c.index.result.now (all_within string_bytes c.args.words.now.items (c.as_str.result.now ∷ others) c.in-Some-place.at same (read_within (c.as_str.result.now ∷ others) c.in-Some.verb c.in-Some-read_all.reader c.in-Some-place.at it)) c.index.ensures ∙
    ap (λ w. get_or w c.in-Some-place.at []) same
    in
    subst IsUsage (sym same) (unnumbered c.as_str.result.now others c.in-Some.verb c.in-Some-read_all.reader c.in-Some-place.at c.as_str-2.result.now (sym c.named.ensures ∙ c.in-Some.is) (sym c.read_all.ensures ∙ c.in-Some-read_all.is) c.in-Some-place.is argument_is (c.job_at.ensures.usage e))

pub returns-clause-memory : goal.returns-clause-memory
returns-clause-memory c e =
    let others = map string_bytes (take (length c.as_slice.result.now - 1) (drop 1 c.as_slice.result.now)) in
    let same : map string_bytes c.args.words.now.items ≡ c.as_str.result.now ∷ others = ap (map string_bytes) (sym c.as_slice.ensures.value) ∙ words_in string_bytes c.as_slice.result.now (take (length c.as_slice.result.now - 1) (drop 1 c.as_slice.result.now)) c.command-item.result c.as_str.result.now (omega arith) c.command-item.is c.as_str.ensures.value (all_behind c.as_slice.result.now 1) in
    let it = was_read c.as_str.result.now others c.in-Some.verb c.in-Some-read_all.reader c.in-Some-place.at (sym c.named.ensures ∙ c.in-Some.is) (sym c.read_all.ensures ∙ c.in-Some-read_all.is) c.in-Some-place.is in
    let argument_is : c.as_str-2.result.now ≡ get_or (c.as_str.result.now ∷ others) c.in-Some-place.at [] =
    c.as_str-2.ensures.value ∙ word_in string_bytes c.args.words.now.items c.in-Some-place.at c.index.result.now (all_within string_bytes c.args.words.now.items (c.as_str.result.now ∷ others) c.in-Some-place.at same (read_within (c.as_str.result.now ∷ others) c.in-Some.verb c.in-Some-read_all.reader c.in-Some-place.at it)) c.index.ensures ∙
    ap (λ w. get_or w c.in-Some-place.at []) same
    in
    subst AsksForJob (sym same) (read_some (c.as_str.result.now ∷ others) c.in-Some.verb c.in-Some-read_all.reader c.in-Some-place.at c.as_str-2.result.now it argument_is (c.job_at.ensures.memory e))
