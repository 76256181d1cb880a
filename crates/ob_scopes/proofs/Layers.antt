-- Tags whose depths never increase from the newest on, and blocks that are entered and left.
use Rattle.std.proofs.Common.{◌≡◌, ℕ, suc, ◌<◌, ◌≤◌, Some, None, Result, Ok, Err, List, [], ◌∷◌, length, map, refl, sym, ap, subst, ◌∙◌, arith, ⊎_elim, if◌then◌else◌}
use Rattle.std.specs.Prelude.{nat_eq, OnErr, OnOk}
use Rattle.std.proofs.lemmas.List.{length-map}
use Rattle.std.specs.Str.{bytes_eq}
use Rattle.std.proofs.lemmas.Bool.{cases_Bool, cases_eq, cond-true, cond-false, eq-eqb, ne_eqb}
use Rattle.ob_typed.specs.Scopes.{TagDeclared, find_tag, tag_at}
use Rattle.ob_scopes.specs.declared.tags.Tag.{Tag}
use Rattle.ob_scopes.specs.Bindings.{Scopes, entered, left, left_to, with_binding}
use Rattle.ob_scopes.specs.Tags.{AreLayered, AreWithin, here, tag_as, tags_of}

pub within-more : (n m : ℕ) (ds : List TagDeclared) → AreWithin n ds → n ≤ m → AreWithin m ds
within-more n m [] w h = tt
within-more n m (d ∷ ds) w h = (omega (arith, w.0), w.1)

pub layered-within : (ds : List TagDeclared) (os : List (List TagDeclared)) → AreLayered ds os → AreWithin (length os) ds
layered-within ds [] h = h
layered-within ds (o ∷ os) h = h.0

pub layered-entered : (ds : List TagDeclared) (os : List (List TagDeclared)) → AreLayered ds os → AreLayered ds (ds ∷ os)
layered-entered ds os h = (within-more (length os) (suc (length os)) ds (layered-within ds os h) (omega arith), h)

-- one more tag, of the depth of the innermost block
more-within : (d : TagDeclared) (ds : List TagDeclared) (n : ℕ) → AreWithin n ds → d.depth ≡ n → AreWithin n (d ∷ ds)
more-within d ds n w e = (omega (arith, e), subst (λ k. AreWithin k ds) (sym e) w)

pub layered-more : (d : TagDeclared) (ds : List TagDeclared) (os : List (List TagDeclared)) → AreLayered ds os → d.depth ≡ length os → AreLayered (d ∷ ds) os
layered-more d ds [] h e = more-within d ds 0 h e
layered-more d ds (o ∷ os) h e = (more-within d ds (suc (length os)) h.0 e, h.1)

none-here : (name : List ℕ) (n m : ℕ) (ds : List TagDeclared) → AreWithin m ds → m < n → here n (find_tag name ds) ≡ None
none-here name n m [] w h = refl
none-here name n m (d ∷ ds) w h =
    ⊎_elim
    (λ y. ap (here n) (cond-true (bytes_eq d.name name) (Some d) (find_tag name ds) y)
    ∙ cond-false (nat_eq d.depth n) (Some d) None (ne_eqb d.depth n (λ e. absurd (omega (arith, w.0, e)))))
    (λ f. ap (here n) (cond-false (bytes_eq d.name name) (Some d) (find_tag name ds) f) ∙ none-here name n d.depth ds w.1 (omega (arith, w.0)))
    (cases_Bool (bytes_eq d.name name))

pub tag-here : (name : List ℕ) (n : ℕ) (ds : List TagDeclared) → AreWithin n ds → tag_at name n ds ≡ here n (find_tag name ds)
tag-here name n [] w = refl
tag-here name n (d ∷ ds) w =
    ⊎_elim
    (λ e. cond-true (nat_eq d.depth n) (if bytes_eq d.name name then Some d else tag_at name n ds) None (eq-eqb d.depth n e)
    ∙ ⊎_elim
    (λ y. cond-true (bytes_eq d.name name) (Some d) (tag_at name n ds) y ∙ sym (cond-true (nat_eq d.depth n) (Some d) None (eq-eqb d.depth n e))
    ∙ sym (ap (here n) (cond-true (bytes_eq d.name name) (Some d) (find_tag name ds) y)))
    (λ f. cond-false (bytes_eq d.name name) (Some d) (tag_at name n ds) f ∙ tag-here name n ds (subst (λ k. AreWithin k ds) e w.1)
    ∙ sym (ap (here n) (cond-false (bytes_eq d.name name) (Some d) (find_tag name ds) f)))
    (cases_Bool (bytes_eq d.name name)))
    (λ ne. cond-false (nat_eq d.depth n) (if bytes_eq d.name name then Some d else tag_at name n ds) None (ne_eqb d.depth n ne)
    ∙ sym (⊎_elim
    (λ y. ap (here n) (cond-true (bytes_eq d.name name) (Some d) (find_tag name ds) y) ∙ cond-false (nat_eq d.depth n) (Some d) None (ne_eqb d.depth n ne))
    (λ f. ap (here n) (cond-false (bytes_eq d.name name) (Some d) (find_tag name ds) f) ∙ none-here name n d.depth ds w.1 (omega (arith, w.0, ne)))
    (cases_Bool (bytes_eq d.name name))))
    (cases_eq d.depth n)

-- a block is left alike in bindings and in declarations
pub tags-left : (bs : List (List ℕ × Tag)) (os : List (List (List ℕ × Tag))) → tags_of (left_to bs os) ≡ left_to (map tag_as bs) (map (map tag_as) os)
tags-left bs [] = refl
tags-left bs (o ∷ os) = refl

-- ---- a table of tags, after each call

abbrev pub IsLayered : Scopes (List ℕ × Tag) → Type 0
IsLayered s = AreLayered (map tag_as s.bindings) (map (map tag_as) s.outer)

pub layered-enter : {A E : Type 0} (r : Result A E) (old new : Scopes (List ℕ × Tag)) → OnOk r (new ≡ entered old) → OnErr r (new ≡ old) → IsLayered old → IsLayered new
layered-enter (Ok a) old new ok err h = subst IsLayered (sym ok) (layered-entered (map tag_as old.bindings) (map (map tag_as) old.outer) h)
layered-enter (Err e) old new ok err h = subst IsLayered (sym err) h

pub layered-declare : {A E : Type 0} (r : Result A E) (old new : Scopes (List ℕ × Tag)) (name : List ℕ) (tag : Tag) → OnOk r (new ≡ with_binding (name, tag) old) → OnErr r (new ≡ old) → tag.depth ≡ length old.outer → IsLayered old → IsLayered new
layered-declare (Ok a) old new name tag ok err d h =
    subst IsLayered (sym ok) (layered-more (tag_as (name, tag)) (map tag_as old.bindings) (map (map tag_as) old.outer) h (d ∙ sym (length-map old.outer (map tag_as))))
layered-declare (Err e) old new name tag ok err d h = subst IsLayered (sym err) h

left-layered : (bs : List (List ℕ × Tag)) (os : List (List (List ℕ × Tag))) → AreLayered (map tag_as bs) (map (map tag_as) os) → IsLayered (left_to bs os)
left-layered bs [] h = h
left-layered bs (o ∷ os) h = h.1

pub layered-leave : (old new : Scopes (List ℕ × Tag)) → new ≡ left old → IsLayered old → IsLayered new
layered-leave old new is h = subst IsLayered (sym is) (left-layered old.bindings old.outer h)

-- what is known of a table of tags by what it shows
pub shown-within : (s : Scopes (List ℕ × Tag)) (t : Scopes TagDeclared) → tags_of s ≡ t → IsLayered s → AreWithin (length t.outer) t.bindings
shown-within s t is h = layered-within t.bindings t.outer (subst (λ (u : Scopes TagDeclared). AreLayered u.bindings u.outer) is h)
