-- A run that agrees with the bounded run agrees with the unlimited one.
use Rattle.std.proofs.Common.{◌≡◌, refl, sym, subst}
use Rattle.ob_model.specs.Endings.{Agrees, AgreesTo, Begins, Finish, Outcome, plain, dead, dropped}
use Rattle.ob_meaning.specs.FirstDrop.{AgreementGoesThrough, GoesOnFrom}
use Rattle.ob_meaning.proofs.Alike.{begins_self, begins_then}

abbrev BothBegin : Outcome → Outcome → Type 0
BothBegin y x = Begins y.output x.output × Begins y.events x.events

-- whatever a run's ending, what agrees with it begins with it
begins_with : (finish : Finish) (x y : Outcome) → AgreesTo finish x y → BothBegin y x
begins_with (plain e) x y h = subst (λ z. BothBegin y z) (sym h) (begins_self y.output, begins_self y.events)
begins_with (dead line) x y h = h
begins_with (dropped line) x y h = h

pub agreement_goes_through : AgreementGoesThrough
agreement_goes_through x u k end agrees goes_on = by_finish u.finish refl goes_on
  where
    by_finish : (f : Finish) → u.finish ≡ f → GoesOnFrom f u k end → Agrees x u
    by_finish (plain e) is h = subst (λ (z : Outcome). Agrees x z) h.0 agrees
    by_finish (dead line) is h = subst (λ (z : Outcome). Agrees x z) h.0 agrees
    by_finish (dropped line) is h =
        let first : BothBegin u k = begins_with u.finish k u h.0 in
        let later : BothBegin k x = begins_with k.finish x k agrees in
        subst (λ f. AgreesTo f x u) (sym is) (begins_then u.output k.output x.output first.0 later.0, begins_then u.events k.events x.events first.1 later.1)
