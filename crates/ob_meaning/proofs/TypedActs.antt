-- Acts that give values of the types that are meant, and leave worlds with pointers in their pointer granules.
use Rattle.std.proofs.Common.{ℕ, zero, suc, ◌<◌, Bool, true, false, ℤ, pos, List, if◌then◌else◌, arith}
use Rattle.std.proofs.lemmas.Int.{ints}
use Rattle.ob_words.specs.declared.types.IntType.TheVariants as type
use Rattle.ob_words.specs.Types.{IsNumber}
use Rattle.ob_model.specs.declared.endings.Ending.{Ending}
use Rattle.ob_model.specs.declared.endings.Ending.TheVariants.{Far}
use Rattle.ob_model.specs.declared.values.LoadKind.{LoadKind}
use Rattle.ob_model.specs.declared.values.LoadKind.TheVariants.{Num, Ptr}
use Rattle.ob_model.specs.declared.values.Value.{Value}
use Rattle.ob_model.specs.Accesses.{is_far}
use Rattle.ob_model.specs.Endings.{plain}
use Rattle.ob_meaning.specs.Expressions.{choose}
use Rattle.ob_meaning.specs.Pointers.{formed}
use Rattle.ob_meaning.specs.Values.{nothing, truth}
use Rattle.ob_meaning.specs.ValueTypes.{Class, GivesIn, HasClass, HoldsPointers, IsScalar, IsTypedWorld, class_of, none}
use Rattle.ob_meaning.specs.ValueTypes as class
use Rattle.ob_meaning.specs.World.{World, Call, Run, stop, go, bind, step, take_step}

-- ---- how acts follow one another

pub record Typed {A : Type 0} (calls : List Call) (P : A → Type 0) (f : World → Run A) : Type 0 where
  pub each : (w : World) → IsTypedWorld calls w → GivesIn calls P (f w)

pub typed_go : {A : Type 0} (calls : List Call) (P : A → Type 0) (a : A) → P a → Typed calls P (go a)
typed_go calls P a p = record { each = λ w ok. (p, ok) }

pub typed_stop : {A : Type 0} (calls : List Call) (P : A → Type 0) (e : Ending) → Typed calls P (stop (plain e))
typed_stop calls P e = record { each = λ w ok. tt }

bind_gives : {A B : Type 0} (calls : List Call) (P : A → Type 0) (Q : B → Type 0) (r : Run A) (k : A → World → Run B) → GivesIn calls P r → ((a : A) → P a → Typed calls Q (k a)) → GivesIn calls Q (bind r k)
bind_gives calls P Q (go a w) k h each = (each a h.0).each w h.1
bind_gives calls P Q (stop finish w) k h each = tt

pub typed_bind : {A B : Type 0} (calls : List Call) (P : A → Type 0) (Q : B → Type 0) (f : World → Run A) (k : A → World → Run B) → Typed calls P f → ((a : A) → P a → Typed calls Q (k a)) → Typed calls Q (λ w. bind (f w) k)
typed_bind calls P Q f k s each = record { each = λ w ok. bind_gives calls P Q (f w) k (s.each w ok) each }

weaken_gives : {A : Type 0} (calls : List Call) (P Q : A → Type 0) (r : Run A) → ((a : A) → P a → Q a) → GivesIn calls P r → GivesIn calls Q r
weaken_gives calls P Q (go a w) more h = (more a h.0, h.1)
weaken_gives calls P Q (stop finish w) more h = tt

pub typed_weaken : {A : Type 0} (calls : List Call) (P Q : A → Type 0) (f : World → Run A) → ((a : A) → P a → Q a) → Typed calls P f → Typed calls Q f
typed_weaken calls P Q f more s = record { each = λ w ok. weaken_gives calls P Q (f w) more (s.each w ok) }

step_gives : {A : Type 0} (calls : List Call) (P : A → Type 0) (n : ℕ) (f : World → Run A) (w : World) → Typed calls P f → IsTypedWorld calls w → GivesIn calls P (take_step n w f)
step_gives calls P zero f w s ok = tt
step_gives calls P (suc n) f w s ok = s.each (record w { left = n }) ok

pub typed_step : {A : Type 0} (calls : List Call) (P : A → Type 0) (f : World → Run A) → Typed calls P f → Typed calls P (λ w. step w f)
typed_step calls P f s = record { each = λ w ok. step_gives calls P w.left f w s ok }

pub typed_choose : {A : Type 0} (calls : List Call) (P : A → Type 0) (b : Bool) (f g : World → Run A) → Typed calls P f → Typed calls P g → Typed calls P (choose b f g)
typed_choose calls P true f g s t = s
typed_choose calls P false f g s t = t

pub gives_if : {A : Type 0} (calls : List Call) (P : A → Type 0) (b : Bool) (r s : Run A) → GivesIn calls P r → GivesIn calls P s → GivesIn calls P (if b then r else s)
gives_if calls P true r s x y = x
gives_if calls P false r s x y = y

far_gives : {A : Type 0} (calls : List Call) (P : A → Type 0) (b : Bool) (f : World → Run A) → Typed calls P f → Typed calls P (λ w. if b then stop (plain Far) w else f w)
far_gives calls P true f s = typed_stop calls P Far
far_gives calls P false f s = s

pub typed_formed : {A : Type 0} (calls : List Call) (P : A → Type 0) (d : ℤ) (f : ℤ → World → Run A) → ((e : ℤ) → Typed calls P (f e)) → Typed calls P (λ w. formed d w f)
typed_formed calls P d f each = far_gives calls P (is_far d) (f d) (each d)

-- ---- values of types

pub small_number : (n : ℕ) → n < 256 → IsNumber type.Int (pos n)
small_number n h = record { from_least = omega (arith, ints); below_past = omega (arith, ints) }

pub truth_is : (b : Bool) → HasClass (class.number type.Int) (truth b)
truth_is true = small_number 1 (omega arith)
truth_is false = small_number 0 (omega arith)

pub nothing_is : HasClass none nothing
nothing_is = tt

abbrev pub OfKind : LoadKind → Value → Type 0
OfKind (Num t) v = HasClass (class.number t) v
OfKind Ptr v = HasClass class.pointer v
