-- What a word names, by the table of slots.
use Rattle.std.proofs.Common.{◌≡◌, ℕ, ℤ, length, ◌-◌, ◌/◌, Bool, true, false, cond, List, ap, ⊎_elim, Option, Some, None, sym, ◌∙◌, refl}
use Rattle.std.specs.List.{Contains}
use Rattle.std.specs.Option.{option_map}
use Rattle.std.proofs.Math.ListN.{get_or-map}
use Rattle.std.proofs.lemmas.Bool.{cases_Bool, cases_lt, cond-true, cond-false}
use Rattle.std.proofs.lemmas.List.{get_or_past, get_or_default}
use Rattle.ob_model.specs.declared.objects.Entry.{Entry}
use Rattle.ob_model.specs.Descriptors.{Pair, Slots, pair_in, named_pair, is_slot_word}
use Rattle.ob_model.specs.Limits.{slots_start, slot_distance}
use Rattle.ob_model.specs.Entries.{Known, entry_at, known_of}
use Rattle.ob_code.specs.Pointers.{into, nothing, found, by_slot}
use Rattle.ob_pointers.specs.Kept.{IsKept, known, known_in, numbered, number_at, slots_in}
use Rattle.ob_pointers.proofs.Known.{number_at_its_base, known_by_number, at_its_address}

-- a slot that holds a pair is one of the slots
pub slot_among : (slots : Slots) (k : ℕ) (pair : Pair) → pair_in slots k ≡ Some pair → Contains slots (Some pair)
slot_among slots k pair is =
    ⊎_elim
    (λ within. (k, within, get_or_default slots k (Some pair) None within ∙ is))
    (λ past. absurd (let e : None ≡ Some pair = sym (get_or_past slots k None past) ∙ is in cc))
    (cases_lt k (length slots))

renamed_if : (f : Pair → Pair) (b : Bool) (slot : Option Pair) → cond b (option_map f slot) None ≡ option_map f (cond b slot None)
renamed_if f true slot = refl
renamed_if f false slot = refl

pub named_renamed : (entries : List Entry) (slots : Slots) (w : ℕ) → named_pair (slots_in entries slots) w ≡ option_map (numbered entries) (named_pair slots w)
named_renamed entries slots w =
    ap (λ (slot : Option Pair). cond (is_slot_word w) slot None) (get_or-map (option_map (numbered entries)) slots ((w - slots_start) / slot_distance) None)
    ∙ renamed_if (numbered entries) (is_slot_word w) (pair_in slots ((w - slots_start) / slot_distance))

pub named_among : (slots : Slots) (w : ℕ) (pair : Pair) → named_pair slots w ≡ Some pair → Contains slots (Some pair)
named_among slots w pair is =
    ⊎_elim
    (λ yes. slot_among slots ((w - slots_start) / slot_distance) pair (sym (cond-true (is_slot_word w) (pair_in slots ((w - slots_start) / slot_distance)) None yes) ∙ is))
    (λ no. absurd (let e : None ≡ Some pair = sym (cond-false (is_slot_word w) (pair_in slots ((w - slots_start) / slot_distance)) None no) ∙ is in cc))
    (cases_Bool (is_slot_word w))

pub by_no_slot : (entries : List Entry) (marks : List Bool) (slots : Slots) (w : ℕ) → named_pair slots w ≡ None → nothing ≡ by_slot (named_pair (slots_in entries slots) w) (known_in marks entries)
by_no_slot entries marks slots w none =
    ap (λ (slot : Option Pair). by_slot slot (known_in marks entries)) (sym (named_renamed entries slots w ∙ ap (option_map (numbered entries)) none))

-- the object of a slot
pub record IsOf (entries : List Entry) (marks : List Bool) (slots : Slots) (w base : ℕ) (offset : ℤ) : Type 0 where
  pub entry : Entry
  pub among : Contains entries entry
  pub found_there : entry_at base entries ≡ Some entry
  pub target : into (known marks entry) offset ≡ by_slot (named_pair (slots_in entries slots) w) (known_in marks entries)

pub by_its_slot : (entries : List Entry) (marks : List Bool) (slots : Slots) (heap w base : ℕ) (offset : ℤ) → IsKept entries marks slots heap → named_pair slots w ≡ Some (base, offset) → IsOf entries marks slots w base offset
by_its_slot entries marks slots heap w base offset kept is =
    let begins = kept.bases (base, offset) (named_among slots w (base, offset) is) in
    let e = begins.entry in
    let number : number_at entries base ≡ e.object = ap (number_at entries) (sym begins.there) ∙ number_at_its_base entries kept.in_order e begins.among in
    record {
      entry = e;
      among = begins.among;
      found_there = ap (λ n. entry_at n entries) (sym begins.there) ∙ at_its_address entries kept.in_order e begins.among;
      target =
          sym (ap (λ (slot : Option Pair). by_slot slot (known_in marks entries)) (named_renamed entries slots w ∙ ap (option_map (numbered entries)) is)
          ∙ ap (λ n. found (known_of n (known_in marks entries)) offset) number
          ∙ ap (λ (o : Option Known). found o offset) (known_by_number entries kept.numbers marks e begins.among));
    }
