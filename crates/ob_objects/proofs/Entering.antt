-- A node more.
use Rattle.std.proofs.Common.{◌≡◌, ℕ, ◌+◌, ◌<◌, ◌≤◌, ◌==◌, List, [], ◌∷◌, ◌++◌, length, length-append, set, length-set, ap, sym, ◌∙◌, subst, refl, arith, ⊎_elim}
use Rattle.std.specs.Prelude.{cond}
use Rattle.std.specs.List.{AllByRecursion}
use Rattle.std.proofs.lemmas.Bool.{cases_lt, cases_eq, ne_eqb}
use Rattle.std.proofs.lemmas.List.{get_or-set_same, get_or-set_other, get_or_append_left, get_or_push, length_push}
use Rattle.ob_model.specs.declared.objects.Entry.{Entry}
use Rattle.ob_objects.specs.declared.node.Node.{Node}
use Rattle.ob_objects.specs.Objects.{IsInOrder, Precedes, AreApart}
use Rattle.ob_objects.specs.Nodes.{no_node, node_at}
use Rattle.ob_objects.specs.Trees.{Tree, fork, walk, one_if, times, Stands, IsRising, IsPast, IsAhead}
use Rattle.ob_objects.specs.Arena.{times_listed, AreFree, IsArena, IsOpened, place_for, with_node, next_free}
use Rattle.ob_objects.proofs.Lists.{all_append, all_left, all_right, rising_in_order, in_order_rising}
use Rattle.ob_objects.proofs.Kept.{one_same, one_apart, stands_still, stands_kept, stands_within}
use Rattle.ob_objects.proofs.Arenas.{free_still, arena_once, free_apart}
use Rattle.ob_objects.proofs.Changing.{is_one}

pub record IsEntered (e : Entry) (new : List Node) (node : Node) (free : ℕ) (less more : Tree) : Type 0 where
  pub rest : List ℕ
  pub arena : IsArena (with_node new free node) (place_for new free) (next_free new free) (fork less (place_for new free) e more) rest
  pub few : (most : ℕ) → length new ≤ most + 1 → length (walk less ++ e ∷ walk more) ≤ most → length (with_node new free node) ≤ most + 1

behind_all : (e : Entry) (xs : List Entry) → AllByRecursion (AreApart e) xs → AllByRecursion (IsAhead e.base) xs → AllByRecursion (Precedes e) xs
behind_all e [] apart above = tt
behind_all e (f ∷ fs) apart above =
    (⊎_elim (λ (p : Precedes e f). p) (λ (p : Precedes f e). absurd (let q = above.0 in omega arith)) apart.0, behind_all e fs apart.1 above.1)

pub rising_between : (e : Entry) (xs ys : List Entry) → IsRising (xs ++ ys) → AllByRecursion (IsPast e.base) xs → AllByRecursion (Precedes e) ys → IsRising (xs ++ e ∷ ys)
rising_between e [] ys rising below above = (above, rising)
rising_between e (f ∷ fs) ys rising below above = (
  all_append (Precedes f) fs (e ∷ ys) (all_left (Precedes f) fs ys rising.0) (below.0, all_right (Precedes f) fs ys rising.0),
  rising_between e fs ys rising.1 below.1 above,
)

module _ (e : Entry) (old new : List Node) (node : Node) (root free : ℕ) (t : Tree) (frees : List ℕ) (arena : IsArena old root free t frees) (opened : IsOpened e old new node t) (apart : AllByRecursion (AreApart e) (walk t)) where
  more_order : IsInOrder (walk opened.less ++ e ∷ walk opened.more)
  more_order =
      rising_in_order (walk opened.less ++ e ∷ walk opened.more)
      (rising_between e (walk opened.less) (walk opened.more)
      (subst IsRising (sym opened.same_walk) (in_order_rising (walk t) arena.in_order))
      opened.below
      (behind_all e (walk opened.more) (all_right (AreApart e) (walk opened.less) (walk opened.more) (subst (AllByRecursion (AreApart e)) (sym opened.same_walk) apart)) opened.above))

  pub more_length : length (walk opened.less ++ e ∷ walk opened.more) ≡ length (walk t) + 1
  more_length = omega (arith, length-append (walk opened.less) (e ∷ walk opened.more), length-append (walk opened.less) (walk opened.more), ap length opened.same_walk)

  new_listed : AreFree new free frees
  new_listed = free_still old new (omega (arith, opened.size)) free frees
      (λ k some. let p = free_apart old root free t frees arena k some in opened.others k p.0 p.1)
      arena.listed

  -- behind the others
  pub entered_last : frees ≡ [] → IsArena (new ++ node ∷ []) (length new) 0 (fork opened.less (length new) e opened.more) []
  entered_last none =
      let last : List Node = new ++ node ∷ [] in
      let size : length last ≡ length new + 1 = length_push new node in
      let some : 0 < length new = omega (arith, arena.count, opened.size) in
      let own : node_at last (length new) ≡ node = get_or_push new node no_node (length new) refl in
      let still : (u : Tree) → Stands new u → Stands last u = λ u stands. stands_still new last (omega (arith, size)) u
      (λ k many. get_or_append_left new (node ∷ []) no_node k (⊎_elim (λ (below : k < length new). below) (λ (past : length new ≤ k). absurd (let no = stands_within new u k stands past in omega arith)) (cases_lt k (length new))))
      stands in
      let listed : (k : ℕ) → times_listed k frees ≡ 0 = λ k. ap (times_listed k) none in
      record {
        link = refl;
        stands = (
          record {
            some = some;
            within = omega (arith, size);
            entry = ap (λ (n : Node). n.entry) own ∙ opened.entry;
            less = ap (λ (n : Node). n.less) own ∙ opened.less_link;
            more = ap (λ (n : Node). n.more) own ∙ opened.more_link;
          },
          still opened.less opened.less_stands,
          still opened.more opened.more_stands,
        );
        listed = refl;
        each = λ k positive within. ⊎_elim
            (λ (is : k ≡ length new). omega (arith, is_one k (length new) is, stands_within new opened.less k opened.less_stands (omega arith), stands_within new opened.more k opened.more_stands (omega arith)))
            (λ (other : k ≡ length new → ⊥). omega (arith, one_apart k (length new) other, opened.same_times k, listed k, arena.each k positive (omega (arith, size, opened.size))))
            (cases_eq k (length new));
        count = omega (arith, size, more_length, arena.count, opened.size, ap length none);
        in_order = more_order;
      }

  -- in a free place
  pub entered_free : (i : ℕ) (is : List ℕ) → frees ≡ i ∷ is → IsArena (set new i node) i (node_at new i).more (fork opened.less i e opened.more) is
  entered_free i is free_is =
      let listed : AreFree new free (i ∷ is) = subst (AreFree new free) free_is new_listed in
      let within : i < length new = listed.2 in
      let some : 0 < i = listed.1 in
      let last : List Node = set new i node in
      let size : length last ≡ length new = length-set new i node in
      let one = one_same i in
      let count : (k : ℕ) → times_listed k frees ≡ one_if (k == i) + times_listed k is = λ k. ap (times_listed k) free_is in
      let clear : (k : ℕ) → times k opened.less + times k opened.more + one_if (k == i) + times_listed k is ≤ 1 = λ k. omega (arith, arena_once old root free t frees arena k, count k, opened.same_times k) in
      let own : node_at last i ≡ node = get_or-set_same new i node no_node within in
      let kept : (k : ℕ) → (k ≡ i → ⊥) → node_at last k ≡ node_at new k = λ k other. get_or-set_other new i k node no_node other in
      record {
        link = refl;
        stands = (
          record {
            some = some;
            within = omega (arith, size);
            entry = ap (λ (n : Node). n.entry) own ∙ opened.entry;
            less = ap (λ (n : Node). n.less) own ∙ opened.less_link;
            more = ap (λ (n : Node). n.more) own ∙ opened.more_link;
          },
          stands_kept new last size opened.less (λ k many. kept k (λ at. omega (arith, clear k, is_one k i at))) opened.less_stands,
          stands_kept new last size opened.more (λ k many. kept k (λ at. omega (arith, clear k, is_one k i at))) opened.more_stands,
        );
        listed = free_still new last (omega (arith, size)) (node_at new i).more is (λ k many. kept k (λ at. omega (arith, clear k, is_one k i at))) listed.3;
        each = λ k positive inside. omega (arith, opened.same_times k, count k, arena.each k positive (omega (arith, inside, size, opened.size)));
        count = omega (arith, size, more_length, arena.count, opened.size, ap length free_is);
        in_order = more_order;
      }

  -- wherever it comes
  entered_by : (fs : List ℕ) → frees ≡ fs → AreFree new free fs → IsEntered e new node free opened.less opened.more
  entered_by [] fs_is listed =
      subst (λ k. IsEntered e new node k opened.less opened.more) (sym listed)
      (record {
        rest = [];
        arena = entered_last fs_is;
        few = λ most inside entries. (let count = (entered_last fs_is).count in omega arith);
      })
  entered_by (i ∷ is) fs_is listed =
      let some = listed.1 in
      subst (λ k. IsEntered e new node k opened.less opened.more) (sym listed.0)
      (record {
        rest = is;
        arena = subst (λ b. IsArena (cond b (new ++ node ∷ []) (set new i node)) (cond b (length new) i) (cond b 0 (node_at new i).more) (fork opened.less (cond b (length new) i) e opened.more) is)
            (sym (ne_eqb i 0 (λ zero_is. omega arith)))
            (entered_free i is fs_is);
        few = λ most inside entries. subst (λ b. length (cond b (new ++ node ∷ []) (set new i node)) ≤ most + 1) (sym (ne_eqb i 0 (λ zero_is. omega arith))) (omega (arith, length-set new i node));
      })

  pub entered : IsEntered e new node free opened.less opened.more
  entered = entered_by frees refl new_listed
