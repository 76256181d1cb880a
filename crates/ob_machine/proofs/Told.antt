-- Events that are told one after another, and output of which a part is sent.
use Rattle.std.proofs.Common.{◌≡◌, ℕ, List, [], ◌∷◌, ◌++◌, length, map, take, Option, Some, None, refl, sym, ap, ◌∙◌, subst, arith}
use Rattle.std.specs.List.{Contains}
use Rattle.std.proofs.lemmas.List.Elements.{Contains-append_left, Contains-append_right}
use Rattle.std.specs.Io.KnownBytes.{append_known}
use Rattle.std.proofs.Math.Seq.{take-append_seam}
use Rattle.ob_base.specs.Sink.{Tally, TakesPrefix, tally_known}
use Rattle.ob_model.specs.declared.strays.Act.TheVariants as act
use Rattle.ob_model.specs.declared.strays.StrayEvent.{StrayEvent}
use Rattle.ob_model.specs.Endings.{Begins}
use Rattle.ob_watch.specs.Watching.{Watch, after_event, after_events}
use Rattle.ob_telling.specs.Telling.{watches_after}
use Rattle.ob_machine.specs.Buffers.{SentOrPending}
use Rattle.ob_machine.specs.Hearing.{Audience, Hears, events_of}
use Rattle.ob_machine.specs.Machines.{HasStore}

then_told : (told told' : List StrayEvent) (w : Watch) → after_events told' (after_events told w) ≡ after_events (told ++ told') w
then_told [] told' w = refl
then_told (e ∷ told) told' w = then_told told told' (after_event w e)

pub events_then : (told told' : List StrayEvent) (ws : List Watch) → map (after_events told') (map (after_events told) ws) ≡ map (after_events (told ++ told')) ws
events_then told told' [] = refl
events_then told told' (w ∷ ws) =
    ap (λ (v : Watch). v ∷ map (after_events told') (map (after_events told) ws)) (then_told told told' w)
    ∙ ap (λ (vs : List Watch). after_events (told ++ told') w ∷ vs) (events_then told told' ws)

pub told_none : (ws : List Watch) → ws ≡ map (after_events []) ws
told_none [] = refl
told_none (w ∷ ws) = ap (λ (vs : List Watch). w ∷ vs) (told_none ws)

-- one event, which may be none
pub events_one : (e : Option StrayEvent) (ws : List Watch) → watches_after e ws ≡ map (after_events (events_of e)) ws
events_one None ws = told_none ws
events_one (Some e) ws = refl

pub hears_then : (h h' h'' : Audience) (told told' : List StrayEvent) → Hears h h' told → Hears h' h'' told' → Hears h h'' (told ++ told')
hears_then h h' h'' told told' p q = record { cycle = q.cycle ∙ p.cycle; seen = q.seen ∙ ap (map (after_events told')) p.seen ∙ events_then told told' h.seen }

pub hears_same : (h h' h'' : Audience) (told : List StrayEvent) → Hears h h' told → h'' ≡ h' → Hears h h'' told
hears_same h h' h'' told p same = record { cycle = ap (λ x. x.cycle) same ∙ p.cycle; seen = ap (λ x. x.seen) same ∙ p.seen }

last_of : (told : List StrayEvent) (e : StrayEvent) → Contains (told ++ e ∷ []) e
last_of told e = Contains-append_right told (e ∷ []) e (0, omega arith, refl)

pub store_told : (told : List StrayEvent) (e : StrayEvent) → e.act ≡ act.Store → HasStore (told ++ e ∷ [])
store_told told e is = (e, last_of told e, is)

-- events that begin others
pub store_begins : (told events : List StrayEvent) → HasStore told → Begins told events → HasStore events
store_begins told events s begins =
    (s.0, subst (λ es. Contains es s.0) (sym begins.1) (Contains-append_left told begins.0 s.0 s.1), s.2)

-- what was sent of bytes is a prefix of them
pub sent_part : (t0 t1 : Option (List ℕ)) (c0 c1 : Option Tally) (pending bytes : List ℕ) → SentOrPending t0 t1 c0 c1 pending bytes → TakesPrefix t0 t1 c0 c1 bytes
sent_part t0 t1 c0 c1 pending bytes s =
    let cut : take (length s.sent) bytes ≡ s.sent = ap (take (length s.sent)) (sym s.rest) ∙ take-append_seam s.sent pending in
    (length s.sent, (s.took ∙ ap (append_known t0) (sym cut), s.tallied ∙ ap (tally_known c0) (sym cut)))
