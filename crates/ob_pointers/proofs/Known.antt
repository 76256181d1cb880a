-- What the order and the numbers of the objects say of searches among them.
use Rattle.std.proofs.Common.{◌≡◌, ◌==◌, ℕ, ◌+◌, ◌-◌, ◌<◌, ◌≤◌, ◌^◌, Bool, true, List, refl, ap, subst, ⊎_elim, arith, Option, Some, None, sym, ◌∙◌}
use Rattle.std.specs.Prelude.{nat_le}
use Rattle.std.specs.List.{All, AllPairs, Contains}
use Rattle.std.specs.Option.{option_map}
use Rattle.std.proofs.lemmas.Bool.{and_from, and_parts, eq-eqb, eqb-true, le-leb, leb-true}
use Rattle.std.proofs.lemmas.List.Elements.{All-contains}
use Rattle.ob_model.specs.declared.objects.Entry.{Entry}
use Rattle.ob_model.specs.Entries.{Known, at_base, entry_at, holds_address, known_of, known_at}
use Rattle.ob_objects.specs.Objects.{Precedes, IsInOrder}
use Rattle.ob_code.specs.Pointers.{Target, into, by_address}
use Rattle.ob_access.specs.declared.pointee.Pointee.{Pointee}
use Rattle.ob_pointers.specs.Pointing.{IsKnownPointee}
use Rattle.ob_pointers.specs.Kept.{HaveTwoNumbers, known, known_in, number_of, number_at, pointee_at}
use Rattle.ob_pointers.proofs.Lists.{alike, find_only, found_among, find_mapped, among_mapped}

pub holds_parts : (w : ℕ) (e : Entry) → holds_address w e ≡ true → (e.base ≤ w) × (w ≤ e.base + e.size)
holds_parts w e holds =
    let parts = and_parts (nat_le e.base w) (nat_le w (e.base + e.size)) holds in
    (leb-true e.base w parts.0, leb-true w (e.base + e.size) parts.1)

pub holds_from : (w : ℕ) (e : Entry) → e.base ≤ w → w ≤ e.base + e.size → holds_address w e ≡ true
holds_from w e low high = and_from (nat_le e.base w) (nat_le w (e.base + e.size)) (le-leb e.base w low) (le-leb w (e.base + e.size) high)

-- the object that an address names
pub at_address : (w : ℕ) (entries : List Entry) (e : Entry) → All (λ (f : Entry). f.base + f.size < 2 ^ 63) entries → entry_at w entries ≡ Some e → (e.base ≤ w) × (w - e.base < 2 ^ 63)
at_address w entries e near is =
    let found = found_among (holds_address w) entries e is in
    let holds = holds_parts w e found.1 in
    let ends : e.base + e.size < 2 ^ 63 = All-contains (λ (f : Entry). f.base + f.size < 2 ^ 63) entries e near found.0 in
    (holds.0, omega arith)

module _ (entries : List Entry) (in_order : IsInOrder entries) where
  pub one_address : (w : ℕ) (e f : Entry) → Contains entries e → Contains entries f → holds_address w e ≡ true → holds_address w f ≡ true → e ≡ f
  one_address w e f at_e at_f holds_e holds_f =
      let p = holds_parts w e holds_e in
      let q = holds_parts w f holds_f in
      ⊎_elim (λ same. same)
      (⊎_elim (λ before. absurd (omega arith)) (λ behind. absurd (omega arith)))
      (alike Precedes entries e f in_order at_e at_f)

  pub one_base : (e f : Entry) → Contains entries e → Contains entries f → e.base ≡ f.base → e ≡ f
  one_base e f at_e at_f same =
      one_address e.base e f at_e at_f (holds_from e.base e (omega arith) (omega arith)) (holds_from e.base f (omega arith) (omega arith))

  pub at_its_base : (e : Entry) → Contains entries e → at_base e.base entries ≡ Some e
  at_its_base e among =
      find_only (λ (f : Entry). f.base == e.base) entries e among (eq-eqb e.base e.base (omega arith))
      (λ f at same. one_base f e at among (eqb-true f.base e.base same))

  pub at_its_address : (e : Entry) → Contains entries e → entry_at e.base entries ≡ Some e
  at_its_address e among =
      let own = holds_from e.base e (omega arith) (omega arith) in
      find_only (holds_address e.base) entries e among own
      (λ f at holds. one_address e.base f e at among holds own)

  pub number_at_its_base : (e : Entry) → Contains entries e → number_at entries e.base ≡ e.object
  number_at_its_base e among = ap number_of (at_its_base e among)

module _ (entries : List Entry) (numbers : AllPairs HaveTwoNumbers entries) where
  pub one_number : (e f : Entry) → Contains entries e → Contains entries f → e.object ≡ f.object → e ≡ f
  one_number e f at_e at_f same =
      ⊎_elim (λ is. is)
      (⊎_elim (λ apart. absurd (apart same)) (λ apart. absurd (apart (sym same))))
      (alike HaveTwoNumbers entries e f numbers at_e at_f)

  pub known_by_number : (marks : List Bool) (e : Entry) → Contains entries e → known_of e.object (known_in marks entries) ≡ Some (known marks e)
  known_by_number marks e among =
      find_mapped (known marks) (λ (k : Known). k.entry.object == e.object) (λ (f : Entry). f.object == e.object) entries (λ f at. refl)
      ∙ ap (option_map (known marks)) (find_only (λ (f : Entry). f.object == e.object) entries e among (eq-eqb e.object e.object refl)
      (λ f at same. one_number f e at among (eqb-true f.object e.object same)))

pub known_by_address : (marks : List Bool) (w : ℕ) (entries : List Entry) → known_at w (known_in marks entries) ≡ option_map (known marks) (entry_at w entries)
known_by_address marks w entries =
    find_mapped (known marks) (λ (k : Known). holds_address w k.entry) (holds_address w) entries (λ f at. refl)

-- ---- what an address names

pub record IsThere (marks : List Bool) (w : ℕ) (entries : List Entry) (p : Pointee) (other : Target) : Type 0 where
  pub target : into (record { entry = p.entry; freed = p.freed }) p.offset ≡ by_address (known_at w (known_in marks entries)) w other
  pub known_there : IsKnownPointee (known_in marks entries) p

-- the pointee of an entry that the address names
there_by : (marks : List Bool) (w : ℕ) (entries : List Entry) (p : Pointee) (other : Target) (o : Option Entry) → entry_at w entries ≡ o → Some p ≡ option_map (pointee_at marks w) o → IsThere marks w entries p other
there_by marks w entries p other None at is = absurd (cc)
there_by marks w entries p other (Some e) at is =
    let same : p ≡ pointee_at marks w e = cc in
    record {
      target =
          ap (λ (q : Pointee). into (record { entry = q.entry; freed = q.freed }) q.offset) same
          ∙ ap (λ (k : Option Known). by_address k w other) (sym (known_by_address marks w entries ∙ ap (option_map (known marks)) at));
      known_there =
          subst (λ (q : Pointee). IsKnownPointee (known_in marks entries) q) (sym same)
          (among_mapped (known marks) entries e (found_among (holds_address w) entries e at).0);
    }

pub is_there : (marks : List Bool) (w : ℕ) (entries : List Entry) (p : Pointee) (other : Target) → Some p ≡ option_map (pointee_at marks w) (entry_at w entries) → IsThere marks w entries p other
is_there marks w entries p other is = there_by marks w entries p other (entry_at w entries) refl is

not_there_by : (marks : List Bool) (w : ℕ) (entries : List Entry) (other : Target) (o : Option Entry) → entry_at w entries ≡ o → None ≡ option_map (pointee_at marks w) o → other ≡ by_address (known_at w (known_in marks entries)) w other
not_there_by marks w entries other None at is = ap (λ (k : Option Known). by_address k w other) (sym (known_by_address marks w entries ∙ ap (option_map (known marks)) at))
not_there_by marks w entries other (Some e) at is = absurd (cc)

pub is_not_there : (marks : List Bool) (w : ℕ) (entries : List Entry) (other : Target) → None ≡ option_map (pointee_at marks w) (entry_at w entries) → other ≡ by_address (known_at w (known_in marks entries)) w other
is_not_there marks w entries other is = not_there_by marks w entries other (entry_at w entries) refl is
