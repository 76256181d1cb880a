-- Two runs, one where objects are unlimited and one with a bounded list, go alike until the list drops a granule: their worlds
-- differ in the order of the granules outside of objects alone. Where the first run ends because one granule too many would be
-- kept, the second one drops a granule in that store, and goes on from there.
use Rattle.std.proofs.Common.{◌≡◌, ℕ, zero, suc, ◌≤◌, Bool, true, false, List, [], ◌++◌, length, Some, None, if◌then◌else◌, refl, sym, subst, ◌∙◌, ap, append_assoc, append-nil}
use Rattle.ob_model.specs.declared.endings.Ending.{Ending}
use Rattle.ob_model.specs.Bounded.{Listed}
use Rattle.ob_model.specs.Endings.{Begins, Finish, plain, dead, dropped}
use Rattle.ob_meaning.specs.Expressions.{choose}
use Rattle.ob_meaning.specs.Values.{Cell}
use Rattle.ob_meaning.specs.World.{World, Run, stop, go, end_of, bind, step, take_step}
use Rattle.ob_meaning.proofs.SameMaps.{SameMap}

-- ---- what a run adds to

pub begins_self : {A : Type 0} (xs : List A) → Begins xs xs
begins_self xs = ([], sym (append-nil xs))

pub begins_more : {A : Type 0} (xs ys : List A) → Begins xs (xs ++ ys)
begins_more xs ys = (ys, refl)

pub begins_then : {A : Type 0} (xs ys zs : List A) → Begins xs ys → Begins ys zs → Begins xs zs
begins_then xs ys zs b c = (b.0 ++ c.0, c.1 ∙ ap (λ l. l ++ c.0) b.1 ∙ append_assoc xs b.0 c.0)

-- a later world has written more, has told more, and keeps the first drop
abbrev pub IsLater : World → World → Type 0
IsLater w v =
    Begins w.output v.output × Begins w.events v.events × ((n : ℕ) → w.first_drop ≡ Some n → v.first_drop ≡ Some n)

pub later_self : (w : World) → IsLater w w
later_self w = (begins_self w.output, begins_self w.events, λ n h. h)

pub later_then : (w v x : World) → IsLater w v → IsLater v x → IsLater w x
later_then w v x b c =
    (begins_then w.output v.output x.output b.0 c.0, begins_then w.events v.events x.events b.1 c.1, λ n h. c.2 n (b.2 n h))

-- ---- worlds side by side

abbrev pub with_outside : List (Listed Cell) → World → World
with_outside ks w = record w { outside = ks }

module _ (cap : ℕ) where
  -- the two lists are one map, which has room, and nothing was dropped
  abbrev pub Beside : World → List (Listed Cell) → Type 0
  Beside w ks = SameMap w.outside ks × (length w.outside ≤ cap) × (w.first_drop ≡ None)

  -- the second run has dropped a granule in the store at which the first one ended
  abbrev pub HasDropped : World → World → Type 0
  HasDropped w v = Begins w.output v.output × Begins w.events v.events × (v.first_drop ≡ Some (length w.events))

  abbrev pub AlikeStop : {A : Type 0} → Finish → World → Run A → Type 0
  AlikeStop {A} (plain e) w s = (ks : List (Listed Cell)) × (s ≡ stop (plain e) (with_outside ks w)) × Beside w ks
  AlikeStop {A} (dead line) w s = (ks : List (Listed Cell)) × (s ≡ stop (dead line) (with_outside ks w)) × Beside w ks
  AlikeStop {A} (dropped line) w s = HasDropped w (end_of s)

  abbrev pub Alike : {A : Type 0} → Run A → Run A → Type 0
  Alike {A} (go a w) s = (ks : List (Listed Cell)) × (s ≡ go a (with_outside ks w)) × Beside w ks
  Alike {A} (stop finish w) s = AlikeStop finish w s

  -- two acts go alike, and the second one only adds
  pub record Acts {A : Type 0} (f g : World → Run A) : Type 0 where
    pub alike : (w : World) (ks : List (Listed Cell)) → Beside w ks → Alike (f w) (g (with_outside ks w))
    pub later : (w : World) → IsLater w (end_of (g w))

  -- ---- how acts are made of acts

  pub go_acts : {A : Type 0} (a : A) → Acts (go a) (go a)
  go_acts a = record { alike = λ w ks b. (ks, refl, b); later = λ w. later_self w }

  pub stop_acts : {A : Type 0} (e : Ending) → Acts {A = A} (stop (plain e)) (stop (plain e))
  stop_acts e = record { alike = λ w ks b. (ks, refl, b); later = λ w. later_self w }

  pub dead_acts : {A : Type 0} (line : ℕ) → Acts {A = A} (stop (dead line)) (stop (dead line))
  dead_acts line = record { alike = λ w ks b. (ks, refl, b); later = λ w. later_self w }

  -- a choice that does not look at the world
  pub if_acts : {A : Type 0} (b : Bool) (f g h k : World → Run A) → Acts f g → Acts h k → Acts (λ w. if b then f w else h w) (λ w. if b then g w else k w)
  if_acts true f g h k s t = s
  if_acts false f g h k s t = t

  -- one that does, and sees the same in both
  pub alike_if : {A : Type 0} (b : Bool) (r s x y : Run A) → Alike r s → Alike x y → Alike (if b then r else x) (if b then s else y)
  alike_if true r s x y h k = h
  alike_if false r s x y h k = k

  pub later_if : {A : Type 0} (w : World) (b : Bool) (r s : Run A) → IsLater w (end_of r) → IsLater w (end_of s) → IsLater w (end_of (if b then r else s))
  later_if w true r s h k = h
  later_if w false r s h k = k

  pub choose_acts : {A : Type 0} (b : Bool) (f g h k : World → Run A) → Acts f g → Acts h k → Acts (choose b f h) (choose b g k)
  choose_acts true f g h k s t = s
  choose_acts false f g h k s t = t

  -- one act after another
  later_bind : {A B : Type 0} (w : World) (r : Run A) (k : A → World → Run B) → IsLater w (end_of r) → ((a : A) (v : World) → IsLater v (end_of (k a v))) → IsLater w (end_of (bind r k))
  later_bind w (go a v) k h each = later_then w v (end_of (k a v)) h (each a v)
  later_bind w (stop finish v) k h each = h

  dropped_bind : {A B : Type 0} (w : World) (r : Run A) (k : A → World → Run B) → HasDropped w (end_of r) → ((a : A) (v : World) → IsLater v (end_of (k a v))) → HasDropped w (end_of (bind r k))
  dropped_bind w (go a v) k h each =
      let more = each a v in (
        begins_then w.output v.output (end_of (k a v)).output h.0 more.0,
        begins_then w.events v.events (end_of (k a v)).events h.1 more.1,
        more.2 (length w.events) h.2,
      )
  dropped_bind w (stop finish v) k h each = h

  stop_bind : {A B : Type 0} (finish : Finish) (w : World) (s : Run A) (l : A → World → Run B) → AlikeStop finish w s → ((a : A) (v : World) → IsLater v (end_of (l a v))) → AlikeStop finish w (bind s l)
  stop_bind (plain e) w s l h each = (h.0, ap (λ x. bind x l) h.1, h.2)
  stop_bind (dead line) w s l h each = (h.0, ap (λ x. bind x l) h.1, h.2)
  stop_bind (dropped line) w s l h each = dropped_bind w s l h each

  alike_bind : {A B : Type 0} (r s : Run A) (k l : A → World → Run B) → Alike r s → ((a : A) → Acts (k a) (l a)) → Alike (bind r k) (bind s l)
  alike_bind (go a w) s k l h each =
      subst (λ x. Alike (k a w) (bind x l)) (sym h.1) ((each a).alike w h.0 h.2)
  alike_bind (stop finish w) s k l h each = stop_bind finish w s l h (λ a v. (each a).later v)

  pub bind_acts : {A B : Type 0} (f g : World → Run A) (k l : A → World → Run B) → Acts f g → ((a : A) → Acts (k a) (l a)) → Acts (λ w. bind (f w) k) (λ w. bind (g w) l)
  bind_acts f g k l s each =
      record {
        alike = λ w ks b. alike_bind (f w) (g (with_outside ks w)) k l (s.alike w ks b) each;
        later = λ w. later_bind w (g w) l (s.later w) (λ a v. (each a).later v);
      }

  -- a step
  alike_step : {A : Type 0} (n : ℕ) (f g : World → Run A) (w : World) (ks : List (Listed Cell)) → Acts f g → Beside w ks → Alike (take_step n w f) (take_step n (with_outside ks w) g)
  alike_step zero f g w ks s b = (ks, refl, b)
  alike_step (suc n) f g w ks s b = s.alike (record w { left = n }) ks b

  later_step : {A : Type 0} (n : ℕ) (g : World → Run A) (w : World) → ((v : World) → IsLater v (end_of (g v))) → IsLater w (end_of (take_step n w g))
  later_step zero g w each = later_self w
  later_step (suc n) g w each = each (record w { left = n })

  pub step_acts : {A : Type 0} (f g : World → Run A) → Acts f g → Acts (λ w. step w f) (λ w. step w g)
  step_acts f g s =
      record { alike = λ w ks b. alike_step w.left f g w ks s b; later = λ w. later_step w.left g w s.later }
