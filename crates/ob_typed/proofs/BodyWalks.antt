-- Walks over the statements of a function: beside what is known its automatic objects grow.
use Rattle.std.proofs.Common.{◌≡◌, ◌≢◌, ◌≤◌, ◌<◌, ℕ, zero, suc, Option, Some, None, Ok, Err, List, [], ◌∷◌, ◌++◌, length, slice_get, slice_set, take, refl, ap, arith, ◌∙◌, length-append}
use Rattle.std.proofs.lemmas.List.{length-set}
use Rattle.std.proofs.lemmas.Option.{none-some, slice_get_within}
use Rattle.ob_tree.proofs.KeptLayouts.{get_set_other}
use Rattle.ob_tree.specs.Types.{PlainType}
use Rattle.ob_typed.specs.Declarations.{Body, in_body, with_known}
use Rattle.ob_typed.specs.Faults.{Answer, Walk, by, next}
use Rattle.ob_typed.specs.Scopes.{Known}
use Rattle.ob_typed.specs.Statements.{block}
use Rattle.ob_typed.specs.WellTyped.{Around}
use Rattle.ob_typed.proofs.GrowingStructs.{AreSound}
use Rattle.ob_typed.proofs.Walks.{Fine, Gives, GivesIn, Leads, Moves, Says, leads_before, moves_left, moves_more, moves_same}

-- ---- automatic objects

-- the objects of the first are the first of the second
pub record Keeps (before after : List PlainType) : Type 0 where
  pub each : (n : ℕ) (t : PlainType) → slice_get before n ≡ Some t → slice_get after n ≡ Some t
  pub count : length before ≤ length after

pub keeps_same : (ts : List PlainType) → Keeps ts ts
keeps_same ts = record { each = λ n t is. is; count = omega arith }

pub keeps_more : (ts us vs : List PlainType) → Keeps ts us → Keeps us vs → Keeps ts vs
keeps_more ts us vs h i =
    let first = h.count in
    let second = i.count in
    record { each = λ n t is. i.each n t (h.each n t is); count = omega arith }

get_front : (ts us : List PlainType) (n : ℕ) (t : PlainType) → slice_get ts n ≡ Some t → slice_get (ts ++ us) n ≡ Some t
get_front [] us n t is = absurd (none-some t is)
get_front (x ∷ ts) us zero t is = is
get_front (x ∷ ts) us (suc n) t is = get_front ts us n t is

pub keeps_one : (ts : List PlainType) (u : PlainType) → Keeps ts (ts ++ u ∷ [])
keeps_one ts u =
    let count = length-append ts (u ∷ []) in
    record { each = λ n t is. get_front ts (u ∷ []) n t is; count = omega (arith, count) }

-- the last object gets its type
pub keeps_last : (ts : List PlainType) (u v : PlainType) → Keeps ts (slice_set (ts ++ u ∷ []) (length ts) v)
keeps_last ts u v =
    let more = length-append ts (u ∷ []) in
    let same = length-set (ts ++ u ∷ []) (length ts) v in
    record {
      each = λ n t is. get_set_other (ts ++ u ∷ []) v (length ts) n (other n t is) ∙ get_front ts (u ∷ []) n t is;
      count = omega (arith, more, same);
    }
  where
    other : (n : ℕ) (t : PlainType) → slice_get ts n ≡ Some t → n ≢ length ts
    other n t is same =
        let within : n < length ts = slice_get_within ts n t is in
        absurd (omega arith)

pub last_set : (ts : List PlainType) (u v : PlainType) → slice_get (slice_set (ts ++ u ∷ []) (length ts) v) (length ts) ≡ Some v
last_set [] u v = refl
last_set (t ∷ ts) u v = last_set ts u v

abbrev or_type : PlainType → Option PlainType → PlainType
or_type d None = d
or_type d (Some t) = t

-- the first objects stay the first ones
pub front_kept : (ts us : List PlainType) → ((n : ℕ) (t : PlainType) → slice_get ts n ≡ Some t → slice_get us n ≡ Some t) → take (length ts) us ≡ ts
front_kept [] us h = refl
front_kept (t ∷ ts) [] h = absurd (none-some t (h 0 t refl))
front_kept (t ∷ ts) (u ∷ us) h =
    ap (λ x. x ∷ take (length ts) us) (some_type u t (h 0 t refl))
    ∙ ap (λ xs. t ∷ xs) (front_kept ts us (λ n. h (suc n)))
  where
    some_type : (x y : PlainType) → Some x ≡ Some y → x ≡ y
    some_type x y is = ap (λ (o : Option PlainType). or_type x o) is

-- ---- the state of a function's body

pub record BodyMoves (before after : Body) : Type 0 where
  pub known : Moves before.known after.known
  pub locals : Keeps before.locals after.locals

pub body_same : (b : Body) → BodyMoves b b
body_same b = record { known = moves_same b.known; locals = keeps_same b.locals }

pub body_more : (b d e : Body) → BodyMoves b d → BodyMoves d e → BodyMoves b e
body_more b d e first second =
    record {
      known = moves_more b.known d.known e.known first.known second.known;
      locals = keeps_more b.locals d.locals e.locals first.locals second.locals;
    }

-- what is known leads to the program, and the objects to those of the whole function
pub record BodyLeads (c : Around) (bodies : List (List ℕ)) (locals : List PlainType) (b : Body) : Type 0 where
  pub known : Leads c bodies b.known
  pub kept : Keeps b.locals locals

pub body_before : (c : Around) (bodies : List (List ℕ)) (locals : List PlainType) (b d : Body) → BodyMoves b d → BodyLeads c bodies locals d → BodyLeads c bodies locals b
body_before c bodies locals b d m h =
    record {
      known = leads_before c bodies b.known d.known m.known h.known;
      kept = keeps_more b.locals d.locals locals m.locals h.kept;
    }

-- ---- walks

module _ (c : Around) (bodies : List (List ℕ)) (locals : List PlainType) where
  abbrev pub BodyGivesIn : {A : Type 0} → (P : A → Type 0) → Body → Walk Body A → Type 0
  BodyGivesIn P b (Ok r) = BodyMoves b r.1 × (AreSound b.known.structs → BodyLeads c bodies locals r.1 → P r.0)
  BodyGivesIn P b (Err f) = Unit {0}

  pub record BodyGives {A : Type 0} (P : A → Type 0) (b : Body) (w : Walk Body A) : Type 0 where
    pub each : BodyGivesIn P b w

  pub body_ok : {A : Type 0} {P : A → Type 0} {b : Body} {a : A} → P a → BodyGives P b (Ok (a, b))
  body_ok {b = b} h = record { each = (body_same b, λ s l. h) }

  pub body_moved : {A : Type 0} {P : A → Type 0} {b d : Body} {a : A} → BodyMoves b d → (AreSound b.known.structs → BodyLeads c bodies locals d → P a) → BodyGives P b (Ok (a, d))
  body_moved m h = record { each = (m, h) }

  rule_gives : {A : Type 0} (P : A → Type 0) (b : Body) (a : Answer A) → Fine P a → BodyGivesIn P b (by a b)
  rule_gives P b (Ok x) h = (body_same b, λ s l. h)
  rule_gives P b (Err e) h = tt

  pub body_by : {A : Type 0} {P : A → Type 0} {b : Body} (a : Answer A) → Fine P a → BodyGives P b (by a b)
  body_by {P = P} {b = b} a h = record { each = rule_gives P b a h }

  given : {A : Type 0} (P : Type 0) (Q : A → Type 0) (a : Answer A) → (P → Fine Q a) → Fine (λ x. P → Q x) a
  given P Q (Ok x) h = h
  given P Q (Err e) h = tt

  pub body_by_one : {A : Type 0} {P : Type 0} {Q : A → Type 0} {b : Body} (a : Answer A) → (P → Fine Q a) → BodyGives (λ x. P → Q x) b (by a b)
  body_by_one {P = P} {Q = Q} a h = body_by a (given P Q a h)

  mapped_gives : {A : Type 0} (P Q : A → Type 0) (b : Body) (w : Walk Body A) → ((a : A) → P a → Q a) → BodyGivesIn P b w → BodyGivesIn Q b w
  mapped_gives P Q b (Ok r) f h = (h.0, λ s l. f r.0 (h.1 s l))
  mapped_gives P Q b (Err e) f h = tt

  pub body_map : {A : Type 0} {P Q : A → Type 0} {b : Body} {w : Walk Body A} → ((a : A) → P a → Q a) → BodyGives P b w → BodyGives Q b w
  body_map {P = P} {Q = Q} {b = b} {w = w} f h = record { each = mapped_gives P Q b w f h.each }

  joined_gives : {A B : Type 0} (P : A → Type 0) (Q : B → Type 0) (b d : Body) (x : A) (w : Walk Body B) → BodyMoves b d → (AreSound b.known.structs → BodyLeads c bodies locals d → P x) → BodyGivesIn (λ y. P x → Q y) d w → BodyGivesIn Q b w
  joined_gives P Q b d x (Ok r) m p h =
      (body_more b d r.1 m h.0, λ s e. h.1 (m.known.sound s) e (p s (body_before c bodies locals d r.1 h.0 e)))
  joined_gives P Q b d x (Err e) m p h = tt

  step_gives : {A B : Type 0} (P U : A → Type 0) (Q : B → Type 0) (b : Body) (w : Walk Body A) (f : A → Body → Walk Body B) → BodyGivesIn P b w → Says U w → ((x : A) (d : Body) → U x → BodyGives (λ y. P x → Q y) d (f x d)) → BodyGivesIn Q b (next w f)
  step_gives P U Q b (Ok r) f h u each = joined_gives P Q b r.1 r.0 (f r.0 r.1) h.0 h.1 (each r.0 r.1 u.said).each
  step_gives P U Q b (Err e) f h u each = tt

  -- one part of which something is so, then what follows it
  pub body_step : {A B : Type 0} {P U : A → Type 0} {Q : B → Type 0} {b : Body} {f : A → Body → Walk Body B} (w : Walk Body A) → BodyGives P b w → Says U w → ((x : A) (d : Body) → U x → BodyGives (λ y. P x → Q y) d (f x d)) → BodyGives Q b (next w f)
  body_step {P = P} {U = U} {Q = Q} {b = b} {f = f} w h u each =
      record { each = step_gives P U Q b w f h.each u each }

  next_gives : {A B : Type 0} (P : A → Type 0) (Q : B → Type 0) (b : Body) (w : Walk Body A) (f : A → Body → Walk Body B) → BodyGivesIn P b w → ((x : A) (d : Body) → BodyGives (λ y. P x → Q y) d (f x d)) → BodyGivesIn Q b (next w f)
  next_gives P Q b (Ok r) f h each = joined_gives P Q b r.1 r.0 (f r.0 r.1) h.0 h.1 (each r.0 r.1).each
  next_gives P Q b (Err e) f h each = tt

  pub body_next : {A B : Type 0} {P : A → Type 0} {Q : B → Type 0} {b : Body} {w : Walk Body A} {f : A → Body → Walk Body B} → BodyGives P b w → ((x : A) (d : Body) → BodyGives (λ y. P x → Q y) d (f x d)) → BodyGives Q b (next w f)
  body_next {P = P} {Q = Q} {b = b} {w = w} {f = f} h each =
      record { each = next_gives P Q b w f h.each each }

  rule_step : {A B : Type 0} (P : A → Type 0) (Q : B → Type 0) (b : Body) (a : Answer A) (f : A → Body → Walk Body B) → Fine P a → ((x : A) → P x → BodyGives Q b (f x b)) → BodyGivesIn Q b (next (by a b) f)
  rule_step P Q b (Ok x) f h each = (each x h).each
  rule_step P Q b (Err e) f h each = tt

  -- a rule, then what follows it
  pub body_rule : {A B : Type 0} {P : A → Type 0} {Q : B → Type 0} {b : Body} (a : Answer A) (f : A → Body → Walk Body B) → Fine P a → ((x : A) → P x → BodyGives Q b (f x b)) → BodyGives Q b (next (by a b) f)
  body_rule {P = P} {Q = Q} {b = b} a f h each = record { each = rule_step P Q b a f h each }

  -- ---- walks of expressions, which change what is known alone

  pub known_moves : (b : Body) (k : Known) → Moves b.known k → BodyMoves b (with_known k b)
  known_moves b k m = record { known = m; locals = keeps_same b.locals }

  in_gives : {A : Type 0} (P : A → Type 0) (b : Body) (w : Walk Known A) → GivesIn c bodies P b.known w → BodyGivesIn P b (in_body b w)
  in_gives P b (Ok r) h = (known_moves b r.1 h.0, λ s l. h.1 s l.known)
  in_gives P b (Err e) h = tt

  pub body_in : {A : Type 0} {P : A → Type 0} {b : Body} {w : Walk Known A} → Gives c bodies P b.known w → BodyGives P b (in_body b w)
  body_in {P = P} {b = b} {w = w} h = record { each = in_gives P b w h.each }

  in_step : {A B : Type 0} (P : A → Type 0) (Q : B → Type 0) (b : Body) (w : Walk Known A) (f : A → Body → Walk Body B) → GivesIn c bodies P b.known w → ((x : A) (k : Known) → BodyGives (λ y. P x → Q y) (with_known k b) (f x (with_known k b))) → BodyGivesIn Q b (next (in_body b w) f)
  in_step P Q b (Ok r) f h each =
      joined_gives P Q b (with_known r.1 b) r.0 (f r.0 (with_known r.1 b)) (known_moves b r.1 h.0) (λ s l. h.1 s l.known) (each r.0 r.1).each
  in_step P Q b (Err e) f h each = tt

  -- an expression, then what follows it with the same objects
  pub body_in_next : {A B : Type 0} {P : A → Type 0} {Q : B → Type 0} {b : Body} {w : Walk Known A} (f : A → Body → Walk Body B) → Gives c bodies P b.known w → ((x : A) (k : Known) → BodyGives (λ y. P x → Q y) (with_known k b) (f x (with_known k b))) → BodyGives Q b (next (in_body b w) f)
  body_in_next {P = P} {Q = Q} {b = b} {w = w} f h each =
      record { each = in_step P Q b w f h.each each }

  -- ---- blocks

  block_gives : {A : Type 0} (P : A → Type 0) (b : Body) (w : Walk Body A) → BodyGivesIn P b w → BodyGivesIn P b (block b w)
  block_gives P b (Ok r) h = (
    record { known = moves_left b.known b.known r.1.known h.0.known; locals = h.0.locals },
    λ s l. h.1 s (record { known = record { grows = l.known.grows; called = l.known.called }; kept = l.kept }),
  )
  block_gives P b (Err e) h = tt

  pub body_block : {A : Type 0} {P : A → Type 0} {b : Body} {w : Walk Body A} → BodyGives P b w → BodyGives P b (block b w)
  body_block {P = P} {b = b} {w = w} h = record { each = block_gives P b w h.each }
