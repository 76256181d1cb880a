-- One object more.
use Rattle.std.proofs.Common.{◌≡◌, ℕ, suc, ◌+◌, ◌<◌, ◌≤◌, ◌≢◌, ◌^◌, ◌⊎◌, Bool, true, false, ltb, List, [], ◌∷◌, arith, Option, Some, None, ap, subst, ⊎_elim, inl, inr, sym, ◌∙◌, refl}
use Rattle.std.specs.List.{All, AllPairs, Contains}
use Rattle.std.specs.Option.{option_map}
use Rattle.std.proofs.lemmas.Bool.{cases_lt, lt-ltb, le-ltb}
use Rattle.std.proofs.lemmas.List.Elements.{All-nil, All-contains}
use Rattle.std.proofs.lemmas.List.Kept.{AllPairs-cons}
use Rattle.ob_model.specs.declared.objects.Entry.{Entry}
use Rattle.ob_model.specs.Descriptors.{Pair, Slots}
use Rattle.ob_model.specs.Entries.{Known, with_entry, with_known, with_live, entries_of}
use Rattle.ob_model.specs.Ordered.{before_or_after}
use Rattle.ob_away.specs.Slots.{Descriptors}
use Rattle.ob_objects.specs.Objects.{Objects, Precedes, AreApart, IsInOrder}
use Rattle.ob_pointers.specs.Pointing.{Pointing, IsHeapPlace}
use Rattle.ob_pointers.specs.Kept.{IsKept, Begins, HaveTwoNumbers, known, known_in, numbered, number_at, slots_in, pointing_in}
use Rattle.ob_pointers.proofs.Lists.{here, later, here_or_later, all_from, map_agree, among_mapped}
use Rattle.ob_pointers.proofs.Known.{number_at_its_base}
use Rattle.ob_pointers.proofs.Marks.{unmarked}

-- ---- entered among others

first : (e f : Entry) (fs : List Entry) → e.base < f.base → with_entry e (f ∷ fs) ≡ e ∷ f ∷ fs
first e f fs less = ap (λ b. before_or_after b e f fs (with_entry e fs)) (lt-ltb e.base f.base less)

behind : (e f : Entry) (fs : List Entry) → f.base ≤ e.base → with_entry e (f ∷ fs) ≡ f ∷ with_entry e fs
behind e f fs more = ap (λ b. before_or_after b e f fs (with_entry e fs)) (le-ltb e.base f.base more)

pub among_entered : (e : Entry) (entries : List Entry) (x : Entry) → Contains (with_entry e entries) x → (e ≡ x) ⊎ Contains entries x
among_entered e [] x among = here_or_later e [] x among
among_entered e (f ∷ fs) x among =
    ⊎_elim
    (λ less. here_or_later e (f ∷ fs) x (subst (λ (es : List Entry). Contains es x) (first e f fs less) among))
    (λ more. ⊎_elim
    (λ same. inr (subst (λ (y : Entry). Contains (f ∷ fs) y) same (here f fs)))
    (λ rest. ⊎_elim (λ new. inl new) (λ old. inr (later f fs x old)) (among_entered e fs x rest))
    (here_or_later f (with_entry e fs) x (subst (λ (es : List Entry). Contains es x) (behind e f fs more) among)))
    (cases_lt e.base f.base)

pub entered_stays : (e : Entry) (entries : List Entry) (x : Entry) → Contains entries x → Contains (with_entry e entries) x
entered_stays e [] x among = later e [] x among
entered_stays e (f ∷ fs) x among =
    ⊎_elim
    (λ less. subst (λ (es : List Entry). Contains es x) (sym (first e f fs less)) (later e (f ∷ fs) x among))
    (λ more. subst (λ (es : List Entry). Contains es x) (sym (behind e f fs more))
    (⊎_elim
    (λ same. subst (λ (y : Entry). Contains (f ∷ with_entry e fs) y) same (here f (with_entry e fs)))
    (λ rest. later f (with_entry e fs) x (entered_stays e fs x rest))
    (here_or_later f fs x among)))
    (cases_lt e.base f.base)

pairs_head : (R : Entry → Entry → Type 0) (x : Entry) (xs : List Entry) → AllPairs R (x ∷ xs) → All (R x) xs
pairs_head R x xs pairs k d within = pairs 0 (suc k) d (omega arith) (omega arith)

pairs_tail : (R : Entry → Entry → Type 0) (x : Entry) (xs : List Entry) → AllPairs R (x ∷ xs) → AllPairs R xs
pairs_tail R x xs pairs i j d less within = pairs (suc i) (suc j) d (omega arith) (omega arith)

pub pairs_entered : (R : Entry → Entry → Type 0) (e : Entry) (entries : List Entry) → IsInOrder entries → AllPairs R entries → ((f : Entry) → Contains entries f → (e.base < f.base → R e f) × (f.base ≤ e.base → R f e)) → AllPairs R (with_entry e entries)
pairs_entered R e [] in_order pairs each = AllPairs-cons R e [] (All-nil (R e)) pairs
pairs_entered R e (f ∷ fs) in_order pairs each =
    ⊎_elim
    (λ less. subst (λ (es : List Entry). AllPairs R es) (sym (first e f fs less))
    (AllPairs-cons R e (f ∷ fs)
    (all_from (R e) (f ∷ fs) (λ x at. (each x at).0
    (⊎_elim
    (λ same. subst (λ (y : Entry). e.base < y.base) same less)
    (λ rest. let p : Precedes f x = All-contains (Precedes f) fs x (pairs_head Precedes f fs in_order) rest in omega arith)
    (here_or_later f fs x at))))
    pairs))
    (λ more. subst (λ (es : List Entry). AllPairs R es) (sym (behind e f fs more))
    (AllPairs-cons R f (with_entry e fs)
    (all_from (R f) (with_entry e fs) (λ x at.
    ⊎_elim
    (λ new. subst (λ (y : Entry). R f y) new ((each f (here f fs)).1 more))
    (λ old. All-contains (R f) fs x (pairs_head R f fs pairs) old)
    (among_entered e fs x at)))
    (pairs_entered R e fs (pairs_tail Precedes f fs in_order) (pairs_tail R f fs pairs) (λ x at. each x (later f fs x at)))))
    (cases_lt e.base f.base)

-- ---- as callers see it

joined : (marks : List Bool) (b : Bool) (e f : Entry) (fs others : List Entry) → known_in marks (before_or_after b e f fs others) ≡ before_or_after b (known marks e) (known marks f) (known_in marks fs) (known_in marks others)
joined marks true e f fs others = refl
joined marks false e f fs others = refl

pub known_entered : (marks : List Bool) (e : Entry) (entries : List Entry) → known_in marks (with_entry e entries) ≡ with_known (known marks e) (known_in marks entries)
known_entered marks e [] = refl
known_entered marks e (f ∷ fs) =
    joined marks (ltb e.base f.base) e f fs (with_entry e fs)
    ∙ ap (before_or_after (ltb e.base f.base) (known marks e) (known marks f) (known_in marks fs)) (known_entered marks e fs)

pub entries_known : (marks : List Bool) (entries : List Entry) → entries_of (known_in marks entries) ≡ entries
entries_known marks [] = refl
entries_known marks (e ∷ es) = ap (λ (fs : List Entry). e ∷ fs) (entries_known marks es)

-- the slots of objects that stand in both lists have the same numbers
slot_alike : (entries others : List Entry) → IsInOrder entries → IsInOrder others → (slot : Option Pair) → ((pair : Pair) → slot ≡ Some pair → (e : Entry) × Contains entries e × Contains others e × (e.base ≡ pair.0)) → option_map (numbered others) slot ≡ option_map (numbered entries) slot
slot_alike entries others in_order also None stands = refl
slot_alike entries others in_order also (Some pair) stands =
    let e = stands pair refl in
    let here_is = ap (number_at entries) (sym e.3) ∙ number_at_its_base entries in_order e.0 e.1 in
    let there_is = ap (number_at others) (sym e.3) ∙ number_at_its_base others also e.0 e.2 in
    ap (λ n. Some (n, pair.1)) (there_is ∙ sym here_is)

pub slots_alike : (entries others : List Entry) (slots : Slots) → IsInOrder entries → IsInOrder others → ((pair : Pair) → Contains slots (Some pair) → (e : Entry) × Contains entries e × Contains others e × (e.base ≡ pair.0)) → slots_in others slots ≡ slots_in entries slots
slots_alike entries others slots in_order also stands =
    map_agree (option_map (numbered others)) (option_map (numbered entries)) slots
    (λ slot at. slot_alike entries others in_order also slot (λ pair is. stands pair (subst (λ (s : Option Pair). Contains slots s) is at)))

-- ---- what is kept

-- an object may become known
pub record MayEnter (e : Entry) (entries : List Entry) (heap : ℕ) : Type 0 where
  pub apart : (f : Entry) → Contains entries f → AreApart e f
  pub number : (f : Entry) → Contains entries f → f.object ≢ e.object
  pub end : e.base + e.size < 2 ^ 63
  pub place : IsHeapPlace heap e

module _ (e : Entry) (entries : List Entry) (marks : List Bool) (slots : Slots) (heap : ℕ) (kept : IsKept entries marks slots heap) (may : MayEnter e entries heap) where
  later_begins : (base : ℕ) → Begins entries base → Begins (with_entry e entries) base
  later_begins base begins = record { entry = begins.entry; among = entered_stays e entries begins.entry begins.among; there = begins.there }

  each_entered : (P : Entry → Type 0) → P e → All P entries → All P (with_entry e entries)
  each_entered P own all =
      all_from P (with_entry e entries) (λ x at.
      ⊎_elim (λ new. subst P new own) (λ old. All-contains P entries x all old) (among_entered e entries x at))

  pub kept_entered : IsKept (with_entry e entries) marks slots heap
  kept_entered = record {
    in_order =
        pairs_entered Precedes e entries kept.in_order kept.in_order (λ f at. (
          λ less. ⊎_elim (λ p. p) (λ p. absurd (omega arith)) (may.apart f at),
          λ more. ⊎_elim (λ p. absurd (omega arith)) (λ p. p) (may.apart f at),
        ));
    numbers = pairs_entered HaveTwoNumbers e entries kept.in_order kept.numbers (λ f at. (λ less same. may.number f at (sym same), λ more same. may.number f at same));
    near = each_entered (λ (f : Entry). f.base + f.size < 2 ^ 63) may.end kept.near;
    places = each_entered (IsHeapPlace heap) may.place kept.places;
    bases = λ pair at. later_begins pair.0 (kept.bases pair at);
    marked = λ i set. later_begins _ (kept.marked i set);
    room = kept.room;
  }

  pub slots_entered : slots_in (with_entry e entries) slots ≡ slots_in entries slots
  slots_entered =
      slots_alike entries (with_entry e entries) slots kept.in_order kept_entered.in_order (λ pair at.
      let begins = kept.bases pair at in
      (begins.entry, begins.among, entered_stays e entries begins.entry begins.among, begins.there))

  pub live_entered : known_in marks (with_entry e entries) ≡ with_live e (known_in marks entries)
  live_entered =
      known_entered marks e entries
      ∙ ap (λ b. with_known (record { entry = e; freed = b }) (known_in marks entries))
      (unmarked entries marks slots heap kept e.base (λ above. (may.place above).0)
      (λ begins. let there = begins.there in ⊎_elim (λ p. let q : Precedes e begins.entry = p in omega arith) (λ p. let q : Precedes begins.entry e = p in omega arith) (may.apart begins.entry begins.among)))

-- ---- the call

-- what the call asks, of what callers see
pub record Asks (e : Entry) (p : Pointing) : Type 0 where
  pub apart : All (AreApart e) (entries_of p.entries)
  pub number : All (λ k. k.entry.object ≢ e.object) p.entries
  pub end : e.base + e.size < 2 ^ 63
  pub place : IsHeapPlace p.heap e

pub may_enter : (e : Entry) (objects : Objects) (marks : List Bool) (away : Descriptors) (heap : ℕ) → Asks e (pointing_in objects marks away heap) → MayEnter e objects.entries heap
may_enter e objects marks away heap asks = record {
  apart = λ f at. All-contains (AreApart e) (entries_of (known_in marks objects.entries)) f asks.apart (subst (λ (es : List Entry). Contains es f) (sym (entries_known marks objects.entries)) at);
  number = λ f at. All-contains (λ (k : Known). k.entry.object ≢ e.object) (known_in marks objects.entries) (known marks f) asks.number (among_mapped (known marks) objects.entries f at);
  end = asks.end;
  place = asks.place;
}

pub pointing_entered : (e : Entry) (old new : Objects) (marks : List Bool) (away : Descriptors) (heap : ℕ) → IsKept old.entries marks away.slots heap → MayEnter e old.entries heap → new.entries ≡ with_entry e old.entries → new.most ≡ old.most → pointing_in new marks away heap ≡ record (pointing_in old marks away heap) { entries = with_live e (known_in marks old.entries) }
pointing_entered e old new marks away heap kept may entries most =
    ap (λ (es : List Entry). record { most = new.most; away = away.limit; heap = heap; entries = known_in marks es; slots = slots_in es away.slots }) entries
    ∙ ap (λ n. record { most = n; away = away.limit; heap = heap; entries = known_in marks (with_entry e old.entries); slots = slots_in (with_entry e old.entries) away.slots }) most
    ∙ ap (λ (ks : List Known). record { most = old.most; away = away.limit; heap = heap; entries = ks; slots = slots_in (with_entry e old.entries) away.slots }) (live_entered e old.entries marks away.slots heap kept may)
    ∙ ap (λ (slots : Slots). record { most = old.most; away = away.limit; heap = heap; entries = with_live e (known_in marks old.entries); slots = slots }) (slots_entered e old.entries marks away.slots heap kept may)
