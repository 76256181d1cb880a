use Rattle.std.specs.List.{find}
use Rattle.std.proofs.Common.{◌≡◌, ◌==◌, ap, ◌∙◌, sym, subst, arith, inr}
use Rattle.ob_code.specs.Accesses.{read_memory}
use Rattle.ob_machine.proofs.ShownRows.{IsPlaceIn, few_locals, local_is, local_missing, local_shown, not_placed, placed_in}
use Rattle.ob_machine.proofs.shown.variable_word.Goals as goal

pub overflow_cast-place : goal.overflow_cast-place
overflow_cast-place c =
    let is : IsPlaceIn c.args.name.now.ordinal c.args.function.now.locals c.in-Some.place = subst (λ xs. IsPlaceIn c.args.name.now.ordinal xs c.in-Some.place) c.as_slice.ensures (placed_in c.args.name.now.ordinal c.as_slice.result.now c.in-Some.place (sym c.place_of.ensures ∙ c.in-Some.is)) in
    omega (arith, is.within, few_locals c.args.function.now c.requires.frame)

pub peek-requires : goal.peek-requires
peek-requires c =
    let zero : c.args.name.now.word ≡ 0 = omega arith in
    let is : IsPlaceIn c.args.name.now.ordinal c.args.function.now.locals c.in-Some.place = subst (λ xs. IsPlaceIn c.args.name.now.ordinal xs c.in-Some.place) c.as_slice.ensures (placed_in c.args.name.now.ordinal c.as_slice.result.now c.in-Some.place (sym c.place_of.ensures ∙ c.in-Some.is)) in
    inr (local_shown c.args.space.now c.args.function.now c.args.name.now c.args.kind c.in-Some.place c.requires.innermost zero is c.local_word-w.result c.local_word-w.ensures c.requires.name c.requires.kind)

pub returns-in-Some : goal.returns-in-Some
returns-in-Some c =
    let s = c.args.space.now in
    let zero : c.args.name.now.word ≡ 0 = omega arith in
    let is : IsPlaceIn c.args.name.now.ordinal c.args.function.now.locals c.in-Some.place = subst (λ xs. IsPlaceIn c.args.name.now.ordinal xs c.in-Some.place) c.as_slice.ensures (placed_in c.args.name.now.ordinal c.as_slice.result.now c.in-Some.place (sym c.place_of.ensures ∙ c.in-Some.is)) in
    c.peek.ensures ∙ ap (read_memory c.args.kind s.space.memory) c.local_word-w.ensures
    ∙ local_is s c.args.function.now c.args.name.now c.args.kind c.in-Some.place c.requires.innermost zero is

pub returns-in-None : goal.returns-in-None
returns-in-None c =
    let zero : c.args.name.now.word ≡ 0 = omega arith in
    let none = not_placed c.args.name.now.ordinal c.as_slice.result.now (sym c.place_of.ensures ∙ c.in-None.is) in
    absurd (local_missing c.args.function.now c.args.name.now c.requires.name zero (ap (λ xs. find (λ l. l.ordinal == c.args.name.now.ordinal) xs) (sym c.as_slice.ensures) ∙ none))
