-- What shows of a live object is what a load of it gives.
use Rattle.std.proofs.Common.{◌≡◌, ◌%◌, ◌≤◌, false, pos, Option, unwrap_or, arith, refl, sym, ◌∙◌, ap}
use Rattle.std.proofs.lemmas.Int.{ints}
use Rattle.ob_words.specs.declared.types.IntType.TheVariants.{Char, SChar, UChar, Short, UShort, Int, UInt, Long, ULong, LLong, ULLong}
use Rattle.ob_model.specs.declared.values.LoadKind.{LoadKind}
use Rattle.ob_model.specs.declared.values.LoadKind.TheVariants.{Num, Ptr}
use Rattle.ob_model.specs.declared.values.Value.{Value}
use Rattle.ob_model.specs.Accesses.{IsInside, bytes_of_kind}
use Rattle.ob_model.specs.Objects.{live, is_dead_state, is_freed}
use Rattle.ob_model.proofs.Astray.{strays_are_others}
use Rattle.ob_meaning.specs.Accesses.{Target, load_at, or_made}
use Rattle.ob_meaning.specs.Memory.{Object, object_at, own_cell}
use Rattle.ob_meaning.specs.MemoryLaws.{Reaches, is_astray}
use Rattle.ob_meaning.specs.Shown.{ShownIsLoaded, first_value}
use Rattle.ob_meaning.specs.Values.{Cell, nothing}
use Rattle.ob_meaning.specs.World.{go}
use Rattle.ob_meaning.proofs.ReadBack.{full_at, full_read, inside_target}

zero_divides : (kind : LoadKind) → 0 % bytes_of_kind kind ≡ 0
zero_divides (Num Char) = refl
zero_divides (Num SChar) = refl
zero_divides (Num UChar) = refl
zero_divides (Num Short) = refl
zero_divides (Num UShort) = refl
zero_divides (Num Int) = refl
zero_divides (Num UInt) = refl
zero_divides (Num Long) = refl
zero_divides (Num ULong) = refl
zero_divides (Num LLong) = refl
zero_divides (Num ULLong) = refl
zero_divides Ptr = refl

first_inside : (kind : LoadKind) (o : Object) → o.state ≡ live → bytes_of_kind kind ≤ o.size → is_astray kind o (pos 0) ≡ false
first_inside kind o alive fits =
    let inside : IsInside o.size (pos 0) (bytes_of_kind kind) = (omega (arith, ints), omega (arith, ints, fits)) in
    (strays_are_others (is_freed o.state) o.size (pos 0) (bytes_of_kind kind)).1 (ap is_freed alive, zero_divides kind, inside)

pub shown_is_loaded : ShownIsLoaded
shown_is_loaded rule cycle kind line object w alive whole fits =
    let o : Object = object_at w.objects object in
    let reached : Reaches w object (pos 0) (pos 0) = record { known = ap is_dead_state alive; near = refl; near_offset = refl } in
    let c : Cell = own_cell w.objects object (pos 0) in
    let v = full_read kind (pos 0) c (full_at o.own 0 whole.full) in
    let shows : first_value w object kind ≡ v.0 = ap (λ (x : Option Value). unwrap_or x nothing) v.1 in
    ap (λ (t : Target). load_at t rule cycle kind line w) (inside_target rule w object (pos 0) (pos 0) kind reached (first_inside kind o alive fits))
    ∙ ap (λ (x : Option Value). or_made x cycle kind w) v.1
    ∙ ap (λ (x : Value). go x w) (sym shows)
