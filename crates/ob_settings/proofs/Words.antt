-- What a word is by itself, and what it is to be of a kind.
use Rattle.std.proofs.Common.{◌≡◌, ℕ, Bool, true, false, cond, List, [], ◌∷◌, ◌++◌, Option, Some, None, unwrap_or, refl, sym, ap, ◌∙◌}
use Rattle.std.specs.Cmp.Lexicographic.{same_text}
use Rattle.std.specs.Prelude.{codes, not, ◌&&◌, ◌==◌}
use Rattle.std.specs.Str.{bytes_eq}
use Rattle.ob_settings.specs.Lines.{is_plain, two_dashes}
use Rattle.ob_settings.specs.Options.{is_report, setting_name, verb_name}
use Rattle.ob_settings.specs.Reading.{Kind, ends, argument, waits, flag, valued, unknown, Split, flag_or_waits, named_kind, option_kind, setting_named, split_word, valued_kind, verb_named, word_kind}
use Rattle.ob_settings.specs.declared.option.Setting.{Setting}
use Rattle.ob_settings.specs.declared.option.Setting.TheVariants as setting
use Rattle.ob_settings.specs.declared.verb.Verb.{Verb}
use Rattle.ob_settings.specs.declared.verb.Verb.TheVariants as verb
use Rattle.ob_settings.proofs.Splits.{split_is}

-- ---- names

same_some : {A : Type 0} (a b : A) → Some a ≡ Some b → a ≡ b
same_some a b same = ap (λ o. unwrap_or o a) same

none_some : {A P : Type 0} (a : A) → None ≡ Some a → P
none_some {A = A} a is = absurd (let e : ◌≡◌ {A = Option A} None (Some a) = is in cc)

-- a test for a name, among others
tested : (name text : List ℕ) (t s : Setting) (rest : Option Setting) (b : Bool) → b ≡ bytes_eq name text → text ≡ setting_name t → cond b (Some t) rest ≡ Some s → (rest ≡ Some s → name ≡ setting_name s) → name ≡ setting_name s
tested name text t s rest true test is found others = same_text name text test ∙ is ∙ ap setting_name (same_some t s found)
tested name text t s rest false test is found others = others found

pub setting_is : (name : List ℕ) (s : Setting) → setting_named name ≡ Some s → name ≡ setting_name s
setting_is name s named =
    tested name (codes "--mode") setting.Mode s _ (bytes_eq name (codes "--mode")) refl refl named
    (λ more. tested name (codes "--steps") setting.Steps s _ (bytes_eq name (codes "--steps")) refl refl more
    (λ more. tested name (codes "--store") setting.Store s _ (bytes_eq name (codes "--store")) refl refl more
    (λ more. tested name (codes "--away") setting.Away s _ (bytes_eq name (codes "--away")) refl refl more
    (λ more. tested name (codes "--heap") setting.Heap s _ (bytes_eq name (codes "--heap")) refl refl more
    (λ more. tested name (codes "--maker") setting.Maker s _ (bytes_eq name (codes "--maker")) refl refl more
    (λ more. tested name (codes "--profile") setting.Profile s _ (bytes_eq name (codes "--profile")) refl refl more
    (λ more. tested name (codes "--report") setting.Report s None (bytes_eq name (codes "--report")) refl refl more
    (λ more. none_some s more))))))))

tested_verb : (name text : List ℕ) (t s : Verb) (rest : Option Verb) (b : Bool) → b ≡ bytes_eq name text → text ≡ verb_name t → cond b (Some t) rest ≡ Some s → (rest ≡ Some s → name ≡ verb_name s) → name ≡ verb_name s
tested_verb name text t s rest true test is found others = same_text name text test ∙ is ∙ ap verb_name (same_some t s found)
tested_verb name text t s rest false test is found others = others found

pub verb_is : (name : List ℕ) (s : Verb) → verb_named name ≡ Some s → name ≡ verb_name s
verb_is name s named =
    tested_verb name (codes "run") verb.Run s _ (bytes_eq name (codes "run")) refl refl named
    (λ more. tested_verb name (codes "compile") verb.Compile s _ (bytes_eq name (codes "compile")) refl refl more
    (λ more. tested_verb name (codes "exec") verb.Exec s _ (bytes_eq name (codes "exec")) refl refl more
    (λ more. tested_verb name (codes "check") verb.Check s _ (bytes_eq name (codes "check")) refl refl more
    (λ more. tested_verb name (codes "audit") verb.Audit s _ (bytes_eq name (codes "audit")) refl refl more
    (λ more. tested_verb name (codes "sample") verb.Sample s _ (bytes_eq name (codes "sample")) refl refl more
    (λ more. tested_verb name (codes "migrate") verb.Migrate s None (bytes_eq name (codes "migrate")) refl refl more
    (λ more. none_some s more)))))))

pub verb_found : (v : Verb) → verb_named (verb_name v) ≡ Some v
verb_found verb.Run = refl
verb_found verb.Compile = refl
verb_found verb.Exec = refl
verb_found verb.Check = refl
verb_found verb.Audit = refl
verb_found verb.Sample = refl
verb_found verb.Migrate = refl

-- ---- what a word of a kind looks like

abbrev pub Looks : List ℕ → Kind → Type 0
Looks word ends = word ≡ two_dashes
Looks word argument = is_plain word ≡ true
Looks word (waits s) = word ≡ setting_name s
Looks word (flag s) = word ≡ setting_name s
Looks word (valued s value) = word ≡ setting_name s ++ (61 ∷ value)
Looks word unknown = Unit {0}

named_looks : (word : List ℕ) (s : Setting) (b : Bool) → word ≡ setting_name s → Looks word (cond b (flag s) (waits s))
named_looks word s true is = is
named_looks word s false is = is

named : (word : List ℕ) (o : Option Setting) → o ≡ setting_named word → Looks word (named_kind o)
named word None is = tt
named word (Some s) is = named_looks word s (is_report s) (setting_is word s (sym is))

valued_looks : (word name value : List ℕ) (o : Option Setting) → o ≡ setting_named name → word ≡ name ++ (61 ∷ value) → Looks word (valued_kind value o)
valued_looks word name value None is split = tt
valued_looks word name value (Some s) is split = split ∙ ap (λ n. n ++ (61 ∷ value)) (setting_is name s (sym is))

option_looks : (word : List ℕ) (o : Option Split) → o ≡ split_word word → Looks word (option_kind word o)
option_looks word None is = named word (setting_named word) refl
option_looks word (Some s) is = valued_looks word s.name s.value (setting_named s.name) refl (split_is word s (sym is))

plain_looks : (word : List ℕ) (b : Bool) → b ≡ is_plain word → Looks word (cond b argument (option_kind word (split_word word)))
plain_looks word true is = sym is
plain_looks word false is = option_looks word (split_word word) refl

looks_by : (word : List ℕ) (b : Bool) → b ≡ bytes_eq word two_dashes → Looks word (cond b ends (cond (is_plain word) argument (option_kind word (split_word word))))
looks_by word true is = same_text word two_dashes is
looks_by word false is = plain_looks word (is_plain word) refl

pub looks : (word : List ℕ) → Looks word (word_kind word)
looks word = looks_by word (bytes_eq word two_dashes) refl

-- ---- the kinds of the words that a line has

pub waits_kind : (s : Setting) → word_kind (setting_name s) ≡ flag_or_waits s
waits_kind setting.Mode = refl
waits_kind setting.Steps = refl
waits_kind setting.Store = refl
waits_kind setting.Away = refl
waits_kind setting.Heap = refl
waits_kind setting.Maker = refl
waits_kind setting.Profile = refl
waits_kind setting.Report = refl

pub valued_kind_is : (s : Setting) (value : List ℕ) → word_kind (setting_name s ++ (61 ∷ value)) ≡ valued s value
valued_kind_is setting.Mode value = refl
valued_kind_is setting.Steps value = refl
valued_kind_is setting.Store value = refl
valued_kind_is setting.Away value = refl
valued_kind_is setting.Heap value = refl
valued_kind_is setting.Maker value = refl
valued_kind_is setting.Profile value = refl
valued_kind_is setting.Report value = refl

flipped : (b : Bool) → not b ≡ true → b ≡ false
flipped true is = let e : ◌≡◌ {A = Bool} false true = is in absurd (cc)
flipped false is = refl

neither : (b : Bool) → (b && false) ≡ false
neither true = refl
neither false = refl

not_dashes : (word : List ℕ) → is_plain word ≡ true → bytes_eq word two_dashes ≡ false
not_dashes [] plain = refl
not_dashes (byte ∷ []) plain = neither (byte == 45)
not_dashes (byte ∷ next ∷ word) plain = rw (flipped (byte == 45) plain) refl

pub argument_kind : (word : List ℕ) → is_plain word ≡ true → word_kind word ≡ argument
argument_kind word plain = rw (not_dashes word plain, plain) refl
