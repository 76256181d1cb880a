-- Two stages come to one outcome where each of them does, and to some outcome likewise.
use Rattle.std.proofs.Common.{◌≡◌, refl, sym, ap, ◌∙◌, subst}
use Rattle.std.specs.Prelude.{Ok, Err}
use Rattle.ob_tree.specs.declared.faults.SourceFault.{SourceFault}
use Rattle.ob_sources.specs.Stages.{Outcome, Then, passes, stops}

abbrev pub OneOutcome : {A : Type 0} → (Outcome A → Type 0) → Type 0
OneOutcome {A} comes = (a b : Outcome A) → comes a → comes b → a ≡ b

abbrev pub SomeOutcome : {A : Type 0} → (Outcome A → Type 0) → Type 0
SomeOutcome {A} comes = (a : Outcome A) × comes a

module _ {A B : Type 0} (first : Outcome A → Type 0) (second : A → Outcome B → Type 0) where
  same_fault : (f g : SourceFault) → ◌≡◌ {A = Outcome A} (Err f) (Err g) → f ≡ g
  same_fault f g e = cc

  same_made : (x y : A) → ◌≡◌ {A = Outcome A} (Ok x) (Ok y) → x ≡ y
  same_made x y e = cc

  no_both : (x : A) (f : SourceFault) → ◌≡◌ {A = Outcome A} (Ok x) (Err f) → ⊥
  no_both x f e = cc

  pub one_then : OneOutcome first → ((x : A) → OneOutcome (second x)) → OneOutcome (Then first second)
  one_then one then a b (passes x h s) (passes y i t) =
      let same : x ≡ y = same_made x y (one (Ok x) (Ok y) h i) in
      then y a b (subst (λ (z : A). second z a) same s) t
  one_then one then a b (passes x h s) (stops f i is) = absurd (no_both x f (one (Ok x) (Err f) h i))
  one_then one then a b (stops f h is) (passes y i t) = absurd (no_both y f (one (Ok y) (Err f) i h))
  one_then one then a b (stops f h is) (stops g i eq) =
      let same : f ≡ g = same_fault f g (one (Err f) (Err g) h i) in
      is ∙ ap Err same ∙ sym eq

  pub some_then : SomeOutcome first → ((x : A) → first (Ok x) → SomeOutcome (second x)) → SomeOutcome (Then first second)
  some_then some then = by some.0 some.1
    where
      on : (x : A) → first (Ok x) → SomeOutcome (second x) → SomeOutcome (Then first second)
      on x h s = (s.0, passes x h s.1)

      by : (a : Outcome A) → first a → SomeOutcome (Then first second)
      by (Ok x) h = on x h (then x h)
      by (Err f) h = (Err f, stops f h refl)
