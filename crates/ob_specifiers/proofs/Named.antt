-- Members found by their names in a symbol table.
use Rattle.std.proofs.Common.{◌≡◌, ℕ, Bool, List, [], ◌∷◌, map, reverse, refl, ap, sym, ◌∙◌, ⊎_elim}
use Rattle.std.specs.Prelude.{Some, ◌||◌}
use Rattle.std.specs.Str.{bytes_eq}
use Rattle.std.specs.Option.{is_some}
use Rattle.std.specs.List.{list_any}
use Rattle.std.proofs.lemmas.Bool.{cases_Bool, cond-true, cond-false}
use Rattle.std.proofs.lemmas.List.Sorted.{IsPermutation-reverse, list_any-IsPermutation}
use Rattle.ob_tree.specs.declared.types.MemberRow.{MemberRow}
use Rattle.ob_tree.specs.TypeView.{plain_members}
use Rattle.ob_typed.specs.Specifiers.{has_member}
use Rattle.ob_scopes.specs.Bindings.{bound}
use Rattle.ob_specifiers.specs.Members.{AreNamed}

abbrev named : List ℕ → List ℕ → Bool
named name x = bytes_eq x name

bound-any : {T : Type 0} (name : List ℕ) (bs : List (List ℕ × T)) → is_some (bound name bs) ≡ list_any (named name) (map (λ (b : List ℕ × T). b.0) bs)
bound-any name [] = refl
bound-any name (b ∷ bs) =
    ⊎_elim
    (λ y. ap is_some (cond-true (bytes_eq b.0 name) (Some b.1) (bound name bs) y) ∙ sym (ap (λ t. t || list_any (named name) (map (λ (b : List ℕ × _). b.0) bs)) y))
    (λ f. ap is_some (cond-false (bytes_eq b.0 name) (Some b.1) (bound name bs) f) ∙ bound-any name bs ∙ sym (ap (λ t. t || list_any (named name) (map (λ (b : List ℕ × _). b.0) bs)) f))
    (cases_Bool (bytes_eq b.0 name))

member-any : (name : List ℕ) (rows : List MemberRow) → list_any (named name) (map (λ (r : MemberRow). r.name) rows) ≡ has_member name (plain_members rows)
member-any name [] = refl
member-any name (r ∷ rs) = ap (λ t. bytes_eq r.name name || t) (member-any name rs)

pub bound-member : (rows : List MemberRow) (bs : List (List ℕ × Unit {0})) (name : List ℕ) → AreNamed rows bs → is_some (bound name bs) ≡ has_member name (plain_members rows)
bound-member rows bs name h =
    let ns = map (λ (b : List ℕ × Unit {0}). b.0) bs in
    bound-any name bs ∙ list_any-IsPermutation (named name) ns (reverse ns) (IsPermutation-reverse ns)
    ∙ ap (list_any (named name)) (sym h) ∙ member-any name rows
