-- What a store makes of a cell.
use Rattle.std.proofs.Common.{◌≡◌, ℕ, ◌+◌, ◌-◌, ◌*◌, ◌/◌, ◌%◌, ◌^◌, ◌<◌, ◌≤◌, List, ◌∷◌, ◌++◌, length, map, take, drop, Option, Some, arith, ap, sym, ◌∙◌, refl}
use Rattle.std.proofs.lemmas.List.{drop-drop, take-append-drop}
use Rattle.ob_words.specs.Fields.{low_bytes}
use Rattle.ob_model.specs.Cells.{entries_of, put_bytes}
use Rattle.ob_outside.specs.Digits.{IsSpliced}
use Rattle.ob_outside.proofs.Bytes.{drop_entries, entries_mod, entries_same, entries_set, length-low, low_same, take_entries}

module _ (place k s w s1 w1 v : ℕ) (within : place + k ≤ 8) (bits : IsSpliced place k s (2 ^ k - 1) s1) (bytes : IsSpliced (8 * place) (8 * k) w (v % 2 ^ (8 * k)) w1) where
  abbrev old : List (Option ℕ)
  old = entries_of 8 s w

  abbrev new : List (Option ℕ)
  new = entries_of 8 s1 w1

  first_part : take place new ≡ take place old
  first_part =
      take_entries 8 place s1 w1 (omega arith)
      ∙ entries_same place s1 s w1 w bits.below bytes.below
      ∙ sym (take_entries 8 place s w (omega arith))

  behind : drop place new ≡ entries_of (8 - place) (s1 / 2 ^ place) (w1 / 2 ^ (8 * place))
  behind = drop_entries 8 place s1 w1 (omega arith)

  middle : take k (drop place new) ≡ map Some (low_bytes k v)
  middle =
      ap (take k) behind
      ∙ take_entries (8 - place) k (s1 / 2 ^ place) (w1 / 2 ^ (8 * place)) (omega arith)
      ∙ entries_set k (s1 / 2 ^ place) (w1 / 2 ^ (8 * place)) bits.between
      ∙ ap (map Some) (low_same k (w1 / 2 ^ (8 * place)) v bytes.between)

  end_part : drop (place + k) new ≡ drop (place + k) old
  end_part =
      let exponent : 8 * (place + k) ≡ 8 * place + 8 * k = omega arith in
      let top : w1 / 2 ^ (8 * (place + k)) ≡ w / 2 ^ (8 * (place + k)) =
      ap (λ (e : ℕ). w1 / 2 ^ e) exponent ∙ bytes.above ∙ sym (ap (λ (e : ℕ). w / 2 ^ e) exponent) in
      drop_entries 8 (place + k) s1 w1 within
      ∙ ap (λ (n : ℕ). entries_of (8 - (place + k)) n (w1 / 2 ^ (8 * (place + k)))) bits.above
      ∙ ap (λ (n : ℕ). entries_of (8 - (place + k)) (s / 2 ^ (place + k)) n) top
      ∙ sym (drop_entries 8 (place + k) s w within)

  pub entries_written : entries_of 8 (s1 % 256) (w1 % 2 ^ 64) ≡ put_bytes place (low_bytes k v) (entries_of 8 s w)
  entries_written =
      let long : place + k ≡ place + length (low_bytes k v) = ap (λ (n : ℕ). place + n) (sym (length-low k v)) in
      entries_mod 8 s1 w1
      ∙ sym (take-append-drop place new)
      ∙ ap (λ (es : List (Option ℕ)). es ++ drop place new) first_part
      ∙ ap (λ (es : List (Option ℕ)). take place old ++ es) (sym (take-append-drop k (drop place new)))
      ∙ ap (λ (es : List (Option ℕ)). take place old ++ (es ++ drop k (drop place new))) middle
      ∙ ap (λ (es : List (Option ℕ)). take place old ++ (map Some (low_bytes k v) ++ es)) (drop-drop k place new ∙ ap (λ (n : ℕ). drop n new) (omega arith) ∙ end_part)
      ∙ ap (λ (n : ℕ). take place old ++ (map Some (low_bytes k v) ++ drop n old)) long
