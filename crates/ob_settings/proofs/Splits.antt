-- A word around its first `=`.
use Rattle.std.proofs.Common.{◌≡◌, ◌≢◌, ℕ, suc, ◌<◌, Bool, true, false, cond, List, [], ◌∷◌, ◌++◌, length, get_or, Option, Some, None, unwrap_or, refl, ap, ◌∙◌, subst, arith, Bor}
use Rattle.std.proofs.lemmas.Str.Pattern.{IsSplitOnceResult, split_parts}
use Rattle.std.proofs.lemmas.Bool.Decides.{nat_tests}
use Rattle.std.specs.Prelude.{◌==◌}
use Rattle.std.specs.Option.{option_map}
use Rattle.ob_settings.specs.Reading.{Split, behind, split_word}

-- none of these bytes is `=`
abbrev pub NoEquals : List ℕ → Type 0
NoEquals word = (i : ℕ) → i < length word → get_or word i 0 ≢ 61

tail_of : (byte : ℕ) (word : List ℕ) → NoEquals (byte ∷ word) → NoEquals word
tail_of byte word none i inside = none (suc i) (omega arith)

is_other : (byte : ℕ) → byte ≢ 61 → (byte == 61) ≡ false
is_other byte other = grind (arith, nat_tests)

mapped : (byte : ℕ) (b : Bool) (word : List ℕ) (s : Split) (o : Option Split) → b ≡ false → o ≡ Some s → (cond b (Some (record { name = []; value = word })) (option_map (behind byte) o)) ≡ Some (behind byte s)
mapped byte b word s o is split = rw (is, split) refl

unmapped : (byte : ℕ) (b : Bool) (word : List ℕ) (o : Option Split) → b ≡ false → o ≡ None → (cond b (Some (record { name = []; value = word })) (option_map (behind byte) o)) ≡ None
unmapped byte b word o is split = rw (is, split) refl

pub split_of : (name value : List ℕ) → NoEquals name → split_word (name ++ (61 ∷ value)) ≡ Some (record { name = name; value = value })
split_of [] value none = refl
split_of (byte ∷ name) value none =
    mapped byte (byte == 61) (name ++ (61 ∷ value)) (record { name = name; value = value }) (split_word (name ++ (61 ∷ value))) (is_other byte (none 0 (omega arith))) (split_of name value (tail_of byte name none))

pub no_split : (word : List ℕ) → NoEquals word → split_word word ≡ None
no_split [] none = refl
no_split (byte ∷ word) none = unmapped byte (byte == 61) word (split_word word) (is_other byte (none 0 (omega arith))) (no_split word (tail_of byte word none))

split_by : (byte : ℕ) (word : List ℕ) (b : Bool) (o : Option Split) (s : Split) → b ≡ (byte == 61) → ((t : Split) → o ≡ Some t → word ≡ t.name ++ (61 ∷ t.value)) → cond b (Some (record { name = []; value = word })) (option_map (behind byte) o) ≡ Some s → byte ∷ word ≡ s.name ++ (61 ∷ s.value)
split_by byte word true o s test parts is =
    let same : byte ≡ 61 = grind (arith, nat_tests) in
    ap (λ b. b ∷ word) same ∙ ap (λ t. t.name ++ (61 ∷ t.value)) (ap (λ o. unwrap_or o s) is)
split_by byte word false None s test parts is = absurd (let e : ◌≡◌ {A = Option Split} None (Some s) = is in cc)
split_by byte word false (Some t) s test parts is =
    ap (λ w. byte ∷ w) (parts t refl) ∙ ap (λ u. u.name ++ (61 ∷ u.value)) (ap (λ o. unwrap_or o s) is)

-- a word is what stands around its `=`
pub split_is : (word : List ℕ) (s : Split) → split_word word ≡ Some s → word ≡ s.name ++ (61 ∷ s.value)
split_is [] s is = absurd (let e : ◌≡◌ {A = Option Split} None (Some s) = is in cc)
split_is (byte ∷ word) s is = split_by byte word (byte == 61) (split_word word) s refl (split_is word) is

-- what `split_once` gives
pub split_some : (word : List ℕ) (r : Option (Bor (List ℕ) × Bor (List ℕ))) (name value : Bor (List ℕ)) → IsSplitOnceResult 61 word r → r ≡ Some (name, value) → split_word word ≡ Some (record { name = name.now; value = value.now })
split_some word r name value is some =
    let parts = split_parts 61 word (Some (name, value)) (subst (IsSplitOnceResult 61 word) some is) (omega arith) in
    ap split_word parts.0 ∙ split_of name.now value.now parts.1

pub split_none : (word : List ℕ) (r : Option (Bor (List ℕ) × Bor (List ℕ))) → IsSplitOnceResult 61 word r → r ≡ None → split_word word ≡ None
split_none word r is none = no_split word (split_parts 61 word None (subst (IsSplitOnceResult 61 word) none is) (omega arith))
