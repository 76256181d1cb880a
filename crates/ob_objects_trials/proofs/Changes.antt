-- One entry more, and one less.
use Rattle.std.proofs.Common.{◌≡◌, ℕ, zero, suc, ◌<◌, ◌≤◌, true, false, not, List, [], ◌∷◌, length, get_or, arith, Some, None, ap, ⊎_elim, sym, ◌∙◌, refl}
use Rattle.std.specs.Prelude.{◌==◌, insert, remove}
use Rattle.std.proofs.lemmas.Bool.{cases_lt, lt-ltb, le-ltb, eq-eqb, ne_eqb, cond-true, cond-false}
use Rattle.ob_model.specs.declared.objects.Entry.{Entry}
use Rattle.ob_model.specs.Entries.{with_entry, without_base, at_base}
use Rattle.ob_model.specs.Ordered.{before_or_after}
use Rattle.ob_objects.specs.Objects.{IsInOrder}
use Rattle.ob_objects_trials.proofs.Order.{bases_rise, find_first, find_none}

-- entered at its place
pub with_entry-insert : (e : Entry) (entries : List Entry) (at : ℕ) → at ≤ length entries → ((k : ℕ) (d : Entry) → k < at → (get_or entries k d).base ≤ e.base) → ((k : ℕ) (d : Entry) → at ≤ k → k < length entries → e.base < (get_or entries k d).base) → insert entries at e ≡ with_entry e entries
with_entry-insert e [] zero within before after = refl
with_entry-insert e [] (suc at) within before after = absurd (omega arith)
with_entry-insert e (f ∷ fs) zero within before after =
    ap (λ b. before_or_after b e f fs (with_entry e fs)) (sym (lt-ltb e.base f.base (after 0 e (omega arith) (omega arith))))
with_entry-insert e (f ∷ fs) (suc at) within before after =
    ap (λ (es : List Entry). f ∷ es) (with_entry-insert e fs at (omega arith) (λ k d less. before (suc k) d (omega arith)) (λ k d more below. after (suc k) d (omega arith) (omega arith)))
    ∙ ap (λ b. before_or_after b e f fs (with_entry e fs)) (sym (le-ltb e.base f.base (before 0 e (omega arith))))

-- none has the base
pub without_base-none : (base : ℕ) (entries : List Entry) → ((k : ℕ) (d : Entry) → k < length entries → (get_or entries k d).base ≡ base → ⊥) → without_base base entries ≡ entries
without_base-none base [] none = refl
without_base-none base (e ∷ es) none =
    let other : (e.base == base) ≡ false = ne_eqb e.base base (none 0 e (omega arith)) in
    cond-true (not (e.base == base)) (e ∷ without_base base es) (without_base base es) (ap not other)
    ∙ ap (λ (fs : List Entry). e ∷ fs) (without_base-none base es (λ k d below. none (suc k) d (omega arith)))

-- one has it
pub without_base-remove : (base : ℕ) (entries : List Entry) (i : ℕ) → i < length entries → ((d : Entry) → (get_or entries i d).base ≡ base) → ((k : ℕ) (d : Entry) → k < length entries → (k ≡ i → ⊥) → (get_or entries k d).base ≡ base → ⊥) → without_base base entries ≡ remove entries i
without_base-remove base [] i within here others = absurd (omega arith)
without_base-remove base (e ∷ es) zero within here others =
    let own : (e.base == base) ≡ true = eq-eqb e.base base (here e) in
    cond-false (not (e.base == base)) (e ∷ without_base base es) (without_base base es) (ap not own)
    ∙ without_base-none base es (λ k d below. others (suc k) d (omega arith) (λ is. omega arith))
without_base-remove base (e ∷ es) (suc i) within here others =
    let other : (e.base == base) ≡ false = ne_eqb e.base base (others 0 e (omega arith) (λ is. omega arith)) in
    cond-true (not (e.base == base)) (e ∷ without_base base es) (without_base base es) (ap not other)
    ∙ ap (λ (fs : List Entry). e ∷ fs) (without_base-remove base es i (omega arith) here (λ k d below apart. others (suc k) d (omega arith) (λ is. apart (omega arith))))

-- no two entries have one base
pub one_base : (entries : List Entry) (i : ℕ) (base : ℕ) → IsInOrder entries → i < length entries → ((d : Entry) → (get_or entries i d).base ≡ base) → (k : ℕ) (d : Entry) → k < length entries → (k ≡ i → ⊥) → (get_or entries k d).base ≡ base → ⊥
one_base entries i base in_order within here k d below apart same =
    ⊎_elim
    (λ less. let rise = bases_rise entries d k i in_order less within in let e = here d in omega arith)
    (λ more. let rise = bases_rise entries d i k in_order (omega arith) below in let e = here d in omega arith)
    (cases_lt k i)

pub at_base-found : (entries : List Entry) (i : ℕ) (base : ℕ) (d : Entry) → IsInOrder entries → i < length entries → ((d : Entry) → (get_or entries i d).base ≡ base) → at_base base entries ≡ Some (get_or entries i d)
at_base-found entries i base d in_order within here =
    find_first (λ e. e.base == base) entries d i within (eq-eqb _ _ (here d))
    (λ k less. ne_eqb _ _ (one_base entries i base in_order within here k d (omega arith) (λ is. omega arith)))

pub at_base-none : (entries : List Entry) (base : ℕ) (d : Entry) → ((k : ℕ) (d : Entry) → k < length entries → (get_or entries k d).base ≡ base → ⊥) → at_base base entries ≡ None
at_base-none entries base d none = find_none (λ e. e.base == base) entries d (λ k below. ne_eqb _ _ (none k d below))
