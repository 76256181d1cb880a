-- Walks over a tree: what is known only grows, and what a walk gives is right by what is known at the end.
use Rattle.std.proofs.Common.{◌≡◌, ℕ, Bool, true, false, Ok, Err, List, [], ◌∷◌, ◌++◌, refl}
use Rattle.std.specs.Prelude.{IsTrue, if◌then◌else◌}
use Rattle.ob_typed.specs.Faults.{Answer, Fault, Walk, by, inside, next, then_rule}
use Rattle.ob_typed.specs.Functions.{is_one_of}
use Rattle.ob_typed.specs.Scopes.{Called, Known, leaving}
use Rattle.ob_typed.specs.WellTyped.{Around}
use Rattle.ob_typed.proofs.GrowingStructs.{AreSound, Grows, grows_more, grows_same}

-- ---- answers

-- what a rule gives is so
abbrev pub Fine : {A : Type 0} → (A → Type 0) → Answer A → Type 0
Fine P (Ok a) = P a
Fine P (Err f) = Unit {0}

abbrev pub Any : {A : Type 0} → A → Type 0
Any a = Unit {0}

pub fine_any : {A : Type 0} (a : Answer A) → Fine Any a
fine_any (Ok a) = tt
fine_any (Err f) = tt

pub fine_if : {A : Type 0} (P : A → Type 0) (b : Bool) (x y : Answer A) → (b ≡ true → Fine P x) → (b ≡ false → Fine P y) → Fine P (if b then x else y)
fine_if P true x y h k = h refl
fine_if P false x y h k = k refl

pub fine_map : {A : Type 0} (P Q : A → Type 0) (a : Answer A) → ((x : A) → P x → Q x) → Fine P a → Fine Q a
fine_map P Q (Ok x) f h = f x h
fine_map P Q (Err e) f h = tt

pub fine_then : {A B : Type 0} (P : A → Type 0) (Q : B → Type 0) (a : Answer A) (f : A → Answer B) → Fine P a → ((x : A) → P x → Fine Q (f x)) → Fine Q (then_rule a f)
fine_then P Q (Ok x) f h k = k x h
fine_then P Q (Err e) f h k = tt

-- what a walk gives is so, whatever follows
abbrev pub Said : {S A : Type 0} → (A → Type 0) → Walk S A → Type 0
Said P (Ok r) = P r.0
Said P (Err f) = Unit {0}

pub record Says {S A : Type 0} (P : A → Type 0) (w : Walk S A) : Type 0 where
  pub said : Said P w

any_said : {S A : Type 0} (w : Walk S A) → Said Any w
any_said (Ok r) = tt
any_said (Err f) = tt

pub says_any : {S A : Type 0} (w : Walk S A) → Says Any w
says_any w = record { said = any_said w }

by_said : {S A : Type 0} (P : A → Type 0) (a : Answer A) (s : S) → Fine P a → Said P (by a s)
by_said P (Ok x) s h = h
by_said P (Err f) s h = tt

pub says_by : {S A : Type 0} {P : A → Type 0} (a : Answer A) (s : S) → Fine P a → Says P (by a s)
says_by {P = P} a s h = record { said = by_said P a s h }

pub says_ok : {S A : Type 0} {P : A → Type 0} {a : A} {s : S} → P a → Says P (Ok (a, s))
says_ok h = record { said = h }

next_said : {S A B : Type 0} (P : A → Type 0) (Q : B → Type 0) (w : Walk S A) (f : A → S → Walk S B) → Said P w → ((x : A) (s : S) → P x → Says Q (f x s)) → Said Q (next w f)
next_said P Q (Ok r) f h k = (k r.0 r.1 h).said
next_said P Q (Err e) f h k = tt

pub says_next : {S A B : Type 0} {P : A → Type 0} {Q : B → Type 0} {w : Walk S A} {f : A → S → Walk S B} → Says P w → ((x : A) (s : S) → P x → Says Q (f x s)) → Says Q (next w f)
says_next {P = P} {Q = Q} {w = w} {f = f} h k = record { said = next_said P Q w f h.said k }

-- any part, then what follows it
pub says_after : {S A B : Type 0} {Q : B → Type 0} {f : A → S → Walk S B} (w : Walk S A) → ((x : A) (s : S) → Says Q (f x s)) → Says Q (next w f)
says_after {Q = Q} {f = f} w k = record { said = next_said Any Q w f (any_said w) (λ x s any. k x s) }

-- a rule, then what follows it
pub says_rule : {S A B : Type 0} {P : A → Type 0} {Q : B → Type 0} {f : A → S → Walk S B} (a : Answer A) (s : S) → Fine P a → ((x : A) (t : S) → P x → Says Q (f x t)) → Says Q (next (by a s) f)
says_rule {P = P} {Q = Q} {f = f} a s h k = record { said = next_said P Q (by a s) f (by_said P a s h) k }

inside_said : {S T A : Type 0} (P : A → Type 0) (put : T → S → S) (s : S) (w : Walk T A) → Said P w → Said P (inside put s w)
inside_said P put s (Ok r) h = h
inside_said P put s (Err f) h = tt

pub says_inside : {S T A : Type 0} {P : A → Type 0} (put : T → S → S) (s : S) {w : Walk T A} → Says P w → Says P (inside put s w)
says_inside {P = P} put s {w = w} h = record { said = inside_said P put s w h.said }

-- ---- what is known grows

-- each of these functions has a body
abbrev pub HaveBodies : List (List ℕ) → List Called → Type 0
HaveBodies bodies [] = Unit {0}
HaveBodies bodies (c ∷ cs) = IsTrue (is_one_of c.name bodies) × HaveBodies bodies cs

pub bodies_before : (bodies : List (List ℕ)) (cs ds : List Called) → HaveBodies bodies (cs ++ ds) → HaveBodies bodies cs
bodies_before bodies [] ds h = tt
bodies_before bodies (c ∷ cs) ds h = (h.0, bodies_before bodies cs ds h.1)

pub body_of_last : (bodies : List (List ℕ)) (cs : List Called) (c : Called) → HaveBodies bodies (cs ++ c ∷ []) → IsTrue (is_one_of c.name bodies)
body_of_last bodies [] c h = h.0
body_of_last bodies (d ∷ cs) c h = body_of_last bodies cs c h.1

pub record Moves (before after : Known) : Type 0 where
  pub grows : Grows before.structs after.structs
  pub sound : AreSound before.structs → AreSound after.structs
  pub called : (bodies : List (List ℕ)) → HaveBodies bodies after.calls → HaveBodies bodies before.calls

pub moves_same : (k : Known) → Moves k k
moves_same k = record { grows = grows_same k.structs; sound = λ h. h; called = λ bodies h. h }

pub moves_more : (k l m : Known) → Moves k l → Moves l m → Moves k m
moves_more k l m first second =
    record {
      grows = grows_more k.structs l.structs m.structs first.grows second.grows;
      sound = λ h. second.sound (first.sound h);
      called = λ bodies h. first.called bodies (second.called bodies h);
    }

pub moves_left : (before k after : Known) → Moves before after → Moves before (leaving k after)
moves_left before k after m = record { grows = m.grows; sound = m.sound; called = m.called }

-- what is known leads to the program: its structures are among those of the end, and the functions that were called
-- have bodies
pub record Leads (c : Around) (bodies : List (List ℕ)) (k : Known) : Type 0 where
  pub grows : Grows k.structs c.structs
  pub called : HaveBodies bodies k.calls

pub leads_before : (c : Around) (bodies : List (List ℕ)) (k l : Known) → Moves k l → Leads c bodies l → Leads c bodies k
leads_before c bodies k l m h =
    record { grows = grows_more k.structs l.structs c.structs m.grows h.grows; called = m.called bodies h.called }

-- ---- walks

module _ (c : Around) (bodies : List (List ℕ)) where
  abbrev pub GivesIn : {A : Type 0} → (P : A → Type 0) → Known → Walk Known A → Type 0
  GivesIn P k (Ok r) = Moves k r.1 × (AreSound k.structs → Leads c bodies r.1 → P r.0)
  GivesIn P k (Err f) = Unit {0}

  pub record Gives {A : Type 0} (P : A → Type 0) (k : Known) (w : Walk Known A) : Type 0 where
    pub each : GivesIn P k w

  pub gives_ok : {A : Type 0} {P : A → Type 0} {k : Known} {a : A} → P a → Gives P k (Ok (a, k))
  gives_ok {k = k} h = record { each = (moves_same k, λ s l. h) }

  pub gives_moved : {A : Type 0} {P : A → Type 0} {k l : Known} {a : A} → Moves k l → (AreSound k.structs → Leads c bodies l → P a) → Gives P k (Ok (a, l))
  gives_moved m h = record { each = (m, h) }

  pub gives_err : {A : Type 0} {P : A → Type 0} {k : Known} {f : Fault} → Gives P k (Err f)
  gives_err = record { each = tt }

  rule_gives : {A : Type 0} (P : A → Type 0) (k l : Known) (a : Answer A) → Moves k l → (AreSound k.structs → Leads c bodies l → Fine P a) → GivesIn P k (by a l)
  rule_gives P k l (Ok x) m h = (m, h)
  rule_gives P k l (Err e) m h = tt

  -- a rule
  pub gives_by : {A : Type 0} {P : A → Type 0} {k : Known} (a : Answer A) → (AreSound k.structs → Leads c bodies k → Fine P a) → Gives P k (by a k)
  gives_by {P = P} {k = k} a h = record { each = rule_gives P k k a (moves_same k) h }

  -- a rule, after which more is known
  pub gives_by_moved : {A : Type 0} {P : A → Type 0} {k l : Known} (a : Answer A) → Moves k l → (AreSound k.structs → Leads c bodies l → Fine P a) → Gives P k (by a l)
  gives_by_moved {P = P} {k = k} {l = l} a m h = record { each = rule_gives P k l a m h }

  mapped_gives : {A : Type 0} (P Q : A → Type 0) (k : Known) (w : Walk Known A) → ((a : A) → P a → Q a) → GivesIn P k w → GivesIn Q k w
  mapped_gives P Q k (Ok r) f h = (h.0, λ s l. f r.0 (h.1 s l))
  mapped_gives P Q k (Err e) f h = tt

  -- what follows from what a walk gives
  pub gives_map : {A : Type 0} {P Q : A → Type 0} {k : Known} {w : Walk Known A} → ((a : A) → P a → Q a) → Gives P k w → Gives Q k w
  gives_map {P = P} {Q = Q} {k = k} {w = w} f h = record { each = mapped_gives P Q k w f h.each }

  after_gives : {A : Type 0} (P : A → Type 0) (k l : Known) (w : Walk Known A) → Moves k l → GivesIn P l w → GivesIn P k w
  after_gives P k l (Ok r) m h = (moves_more k l r.1 m h.0, λ s e. h.1 (m.sound s) e)
  after_gives P k l (Err e) m h = tt

  -- a walk that goes on from more
  pub gives_after : {A : Type 0} {P : A → Type 0} {k l : Known} {w : Walk Known A} → Moves k l → Gives P l w → Gives P k w
  gives_after {P = P} {k = k} {l = l} {w = w} m h = record { each = after_gives P k l w m h.each }

  joined_gives : {A B : Type 0} (P : A → Type 0) (Q : B → Type 0) (k l : Known) (x : A) (w : Walk Known B) → Moves k l → (AreSound k.structs → Leads c bodies l → P x) → GivesIn (λ y. P x → Q y) l w → GivesIn Q k w
  joined_gives P Q k l x (Ok r) m p h =
      (moves_more k l r.1 m h.0, λ s e. h.1 (m.sound s) e (p s (leads_before c bodies l r.1 h.0 e)))
  joined_gives P Q k l x (Err e) m p h = tt

  next_gives : {A B : Type 0} (P : A → Type 0) (Q : B → Type 0) (k : Known) (w : Walk Known A) (f : A → Known → Walk Known B) → GivesIn P k w → ((x : A) (l : Known) → Gives (λ y. P x → Q y) l (f x l)) → GivesIn Q k (next w f)
  next_gives P Q k (Ok r) f h each = joined_gives P Q k r.1 r.0 (f r.0 r.1) h.0 h.1 (each r.0 r.1).each
  next_gives P Q k (Err e) f h each = tt

  -- one part, then what follows it
  pub gives_next : {A B : Type 0} {P : A → Type 0} {Q : B → Type 0} {k : Known} {w : Walk Known A} {f : A → Known → Walk Known B} → Gives P k w → ((x : A) (l : Known) → Gives (λ y. P x → Q y) l (f x l)) → Gives Q k (next w f)
  gives_next {P = P} {Q = Q} {k = k} {w = w} {f = f} h each =
      record { each = next_gives P Q k w f h.each each }

  step_gives : {A B : Type 0} (P U : A → Type 0) (Q : B → Type 0) (k : Known) (w : Walk Known A) (f : A → Known → Walk Known B) → GivesIn P k w → Says U w → ((x : A) (l : Known) → Moves k l → U x → Gives (λ y. P x → Q y) l (f x l)) → GivesIn Q k (next w f)
  step_gives P U Q k (Ok r) f h u each = joined_gives P Q k r.1 r.0 (f r.0 r.1) h.0 h.1 (each r.0 r.1 h.0 u.said).each
  step_gives P U Q k (Err e) f h u each = tt

  -- one part of which something is so, then what follows it
  pub gives_step : {A B : Type 0} {P U : A → Type 0} {Q : B → Type 0} {k : Known} {f : A → Known → Walk Known B} (w : Walk Known A) → Gives P k w → Says U w → ((x : A) (l : Known) → Moves k l → U x → Gives (λ y. P x → Q y) l (f x l)) → Gives Q k (next w f)
  gives_step {P = P} {U = U} {Q = Q} {k = k} {f = f} w h u each =
      record { each = step_gives P U Q k w f h.each u each }

  rule_step : {A B : Type 0} (P : A → Type 0) (Q : B → Type 0) (k : Known) (a : Answer A) (f : A → Known → Walk Known B) → Fine P a → ((x : A) → P x → Gives Q k (f x k)) → GivesIn Q k (next (by a k) f)
  rule_step P Q k (Ok x) f h each = (each x h).each
  rule_step P Q k (Err e) f h each = tt

  -- a rule, then what follows it
  pub gives_rule : {A B : Type 0} {P : A → Type 0} {Q : B → Type 0} {k : Known} (a : Answer A) (f : A → Known → Walk Known B) → Fine P a → ((x : A) → P x → Gives Q k (f x k)) → Gives Q k (next (by a k) f)
  gives_rule {P = P} {Q = Q} {k = k} a f h each = record { each = rule_step P Q k a f h each }

  led_gives : {A : Type 0} (P Q : A → Type 0) (k : Known) (w : Walk Known A) → ((a : A) → Leads c bodies k → P a → Q a) → GivesIn P k w → GivesIn Q k w
  led_gives P Q k (Ok r) f h = (h.0, λ s l. f r.0 (leads_before c bodies k r.1 h.0 l) (h.1 s l))
  led_gives P Q k (Err e) f h = tt

  -- what a walk gives, by what is known at its begin
  pub gives_led : {A : Type 0} {P Q : A → Type 0} {k : Known} {w : Walk Known A} → ((a : A) → Leads c bodies k → P a → Q a) → Gives P k w → Gives Q k w
  gives_led {P = P} {Q = Q} {k = k} {w = w} f h = record { each = led_gives P Q k w f h.each }

  if_gives : {A : Type 0} (P : A → Type 0) (k : Known) (b : Bool) (v w : Walk Known A) → (b ≡ true → Gives P k v) → (b ≡ false → Gives P k w) → GivesIn P k (if b then v else w)
  if_gives P k true v w h i = (h refl).each
  if_gives P k false v w h i = (i refl).each

  pub gives_if : {A : Type 0} {P : A → Type 0} {k : Known} {v w : Walk Known A} (b : Bool) → (b ≡ true → Gives P k v) → (b ≡ false → Gives P k w) → Gives P k (if b then v else w)
  gives_if {P = P} {k = k} {v = v} {w = w} b h i = record { each = if_gives P k b v w h i }

  -- rules after one, two and three parts
  given : {A : Type 0} (P : Type 0) (Q : A → Type 0) (a : Answer A) → (P → Fine Q a) → Fine (λ x. P → Q x) a
  given P Q (Ok x) h = h
  given P Q (Err e) h = tt

  pub gives_by_one : {A : Type 0} {P : Type 0} {Q : A → Type 0} {k : Known} (a : Answer A) → (AreSound k.structs → Leads c bodies k → P → Fine Q a) → Gives (λ x. P → Q x) k (by a k)
  gives_by_one {P = P} {Q = Q} a h = gives_by a (λ s l. given P Q a (h s l))

  pub gives_by_two : {A : Type 0} {P R : Type 0} {Q : A → Type 0} {k : Known} (a : Answer A) → (AreSound k.structs → Leads c bodies k → P → R → Fine Q a) → Gives (λ x. P → R → Q x) k (by a k)
  gives_by_two {P = P} {R = R} {Q = Q} a h =
      gives_by a (λ s l. given P (λ x. R → Q x) a (λ p. given R Q a (h s l p)))

  pub gives_by_three : {A : Type 0} {P R S : Type 0} {Q : A → Type 0} {k : Known} (a : Answer A) → (AreSound k.structs → Leads c bodies k → P → R → S → Fine Q a) → Gives (λ x. P → R → S → Q x) k (by a k)
  gives_by_three {P = P} {R = R} {S = S} {Q = Q} a h =
      gives_by a (λ s l. given P (λ x. R → S → Q x) a (λ p. given R (λ x. S → Q x) a (λ r. given S Q a (h s l p r))))
