-- What a load finds in a cell.
use Rattle.std.proofs.Common.{◌≡◌, ℕ, ◌+◌, ◌-◌, ◌*◌, ◌/◌, ◌%◌, ◌^◌, ◌<◌, ◌≤◌, ◌==◌, Bool, true, false, List, take, drop, Option, Some, None, if◌then◌else◌, arith, ap, sym, ◌∙◌, refl}
use Rattle.std.specs.Option.{option_map}
use Rattle.ob_words.specs.Fields.{from_bytes, low_bytes}
use Rattle.ob_model.specs.declared.values.Cell.{Cell}
use Rattle.ob_model.specs.Cells.{content, entries_of, held, read_number, set_bytes}
use Rattle.ob_outside.specs.Digits.{digits_at}
use Rattle.ob_outside.proofs.Bytes.{all_set, drop_entries, from_low, set_is, take_entries}

mapped : (f : List ℕ → ℕ) (b : Bool) (bs : List ℕ) → option_map f (if b then Some bs else None) ≡ (if b then Some (f bs) else None)
mapped f true bs = refl
mapped f false bs = refl

pub number_found : (k place s w : ℕ) → place + k ≤ 8 → option_map from_bytes (set_bytes (take k (drop place (entries_of 8 s w)))) ≡ (if digits_at s place k == 2 ^ k - 1 then Some (digits_at w (8 * place) (8 * k)) else None)
number_found k place s w within =
    ap (λ (es : List (Option ℕ)). option_map from_bytes (set_bytes (take k es))) (drop_entries 8 place s w (omega arith))
    ∙ ap (λ (es : List (Option ℕ)). option_map from_bytes (set_bytes es)) (take_entries (8 - place) k (s / 2 ^ place) (w / 2 ^ (8 * place)) (omega arith))
    ∙ ap (option_map from_bytes) (set_is k (s / 2 ^ place) (w / 2 ^ (8 * place)))
    ∙ mapped from_bytes (all_set k (s / 2 ^ place)) (low_bytes k (w / 2 ^ (8 * place)))
    ∙ ap (λ (n : ℕ). if all_set k (s / 2 ^ place) then Some n else None) (from_low k (w / 2 ^ (8 * place)))

-- in a cell of bytes
pub number_in : (cell : Cell) (k place : ℕ) → cell.pointer ≡ false → place + k ≤ 8 → read_number k place (content cell) ≡ (if digits_at cell.set place k == 2 ^ k - 1 then Some (digits_at cell.word (8 * place) (8 * k)) else None)
number_in cell k place unmet within =
    ap (λ (b : Bool). read_number k place (held b cell.set cell.word)) unmet ∙ number_found k place cell.set cell.word within
