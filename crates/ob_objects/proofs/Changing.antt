-- An entry is looked up, the arena is opened for a new one, and a node leaves it.
use Rattle.std.proofs.Common.{◌≡◌, ℕ, ◌+◌, ◌<◌, ◌≤◌, ◌==◌, Bool, true, false, List, [], ◌∷◌, ◌++◌, length, length-append, append_assoc, ap, sym, ◌∙◌, subst, refl, arith, Option, Some, None, ⊎_elim}
use Rattle.std.specs.Prelude.{nat_lt, not, IfSome}
use Rattle.std.specs.List.{AllByRecursion}
use Rattle.std.proofs.lemmas.Bool.{cases_eq, ltb-true, ltb-false}
use Rattle.std.proofs.lemmas.List.Kept.{AllPairs-filter}
use Rattle.ob_model.specs.declared.objects.Entry.{Entry}
use Rattle.ob_model.specs.Entries.{entry_at, at_base, without_base}
use Rattle.ob_objects.specs.declared.node.Node.{Node}
use Rattle.ob_objects.specs.declared.node.Side.{Side}
use Rattle.ob_objects.specs.declared.node.Side.TheVariants.{Less, More}
use Rattle.ob_objects.specs.Objects.{IsInOrder, Precedes, AreApart}
use Rattle.ob_objects.specs.Nodes.{other, side_of, node_at, with_child}
use Rattle.ob_objects.specs.Trees.{Tree, leaf, fork, top, walk, one_if, times, IsNode, Stands, IsPast, IsAhead}
use Rattle.ob_objects.specs.Spread.{IsSplit}
use Rattle.ob_objects.specs.Arena.{AreFree, IsArena, IsOpened, IsJoined, AreBeside, IsTaken, IsFound, entry_if, cut_nodes, cut_node}
use Rattle.ob_objects.proofs.Nodes.{length-with_child, node_at-other, child-own, other-own, entry-own}
use Rattle.ob_objects.proofs.Lists.{all_append, all_right, rising_left, rising_right}
use Rattle.ob_objects.proofs.Kept.{one_same, stands_kept, stands_no_zero}
use Rattle.ob_objects.proofs.Arenas.{free_still, free_apart, split_arena}
use Rattle.ob_objects.proofs.Entries.{entry_at-split, without_base-here, at_base-here, without_base-nowhere, at_base-nowhere}

pub is_one : (k i : ℕ) → k ≡ i → one_if (k == i) ≡ 1
is_one k i is = ap (λ j. one_if (j == i)) is ∙ one_same i

-- ---- an entry is looked up

root_is : (o : Option Side) (e : Entry) (found : Option Entry) → found ≡ entry_if o e → IfSome found (λ f. Some e ≡ Some f)
root_is o e found is = subst (λ r. IfSome r (λ f. Some e ≡ Some f)) (sym is) (by_side o)
  where
    by_side : (o : Option Side) → IfSome (entry_if o e) (λ f. Some e ≡ Some f)
    by_side None = refl
    by_side (Some s) = tt

pub finds : (address : ℕ) (old new : List Node) (root at free : ℕ) (t : Tree) (frees : List ℕ) (found : Option Entry) → IsArena old root free t frees → IsSplit address old new at t → found ≡ entry_if (side_of address (node_at new at).entry) (node_at new at).entry → IsFound address old new at free found t frees
finds address old new root at free t frees found arena split is =
    let same : found ≡ entry_if (side_of address split.entry) split.entry = is ∙ ap (λ (g : Entry). entry_if (side_of address g) g) (split.rooted.stands.0).entry in
    record {
      to = fork split.less at split.entry split.more;
      arena = split_arena address old new root at free t frees arena split;
      size = split.size;
      same_walk = split.same_walk;
      found = same ∙ sym (entry_at-split address (walk split.less) split.entry (walk split.more) split.below split.above) ∙ ap (entry_at address) split.same_walk;
      at_root = root_is (side_of address split.entry) split.entry found same;
    }

-- no entry has the base
pub takes_none : (base : ℕ) (old new : List Node) (root at free : ℕ) (t : Tree) (frees : List ℕ) → IsArena old root free t frees → IsSplit base old new at t → ((node_at new at).entry.base ≡ base → ⊥) → IsTaken base old new at free None t
takes_none base old new root at free t frees arena split apart =
    let own = split.rooted.stands.0 in
    let other : split.entry.base ≡ base → ⊥ = λ is. apart (ap (λ (g : Entry). g.base) own.entry ∙ is) in
    record {
      to = fork split.less at split.entry split.more;
      frees = frees;
      arena = split_arena base old new root at free t frees arena split;
      size = split.size;
      others = sym (without_base-nowhere base (walk split.less) split.entry (walk split.more) split.below split.above other) ∙ ap (without_base base) split.same_walk;
      found = sym (ap (at_base base) (sym split.same_walk) ∙ at_base-nowhere base (walk split.less) split.entry (walk split.more) split.below split.above other);
    }

-- ---- the root is cut off one side

-- an entry that shares no address with another
before_it : (e f : Entry) → AreApart e f → f.base < e.base → IsPast e.base f
before_it e f apart less = ⊎_elim (λ (p : Precedes e f). absurd (omega arith)) (λ (p : Precedes f e). p) apart

behind_it : (e f : Entry) → AreApart e f → e.base ≤ f.base → IsAhead e.base f
behind_it e f apart more = ⊎_elim (λ (p : Precedes e f). omega arith) (λ (p : Precedes f e). absurd (omega arith)) apart

module _ (e : Entry) (old mid : List Node) (at : ℕ) (t : Tree) (split : IsSplit e.base old mid at t) (apart : AllByRecursion (AreApart e) (walk t)) where
  own : IsNode mid at split.entry (top split.less) (top split.more)
  own = split.rooted.stands.0

  once : (k : ℕ) → times k split.less + one_if (k == at) + times k split.more ≤ 1
  once k = split.rooted.once k

  root_apart : AreApart e split.entry
  root_apart = (all_right (AreApart e) (walk split.less) (split.entry ∷ walk split.more) (subst (AllByRecursion (AreApart e)) (sym split.same_walk) apart)).0

  cut_kept : (s : Side) (k : ℕ) → (k ≡ at → ⊥) → node_at (with_child mid at s 0) k ≡ node_at mid k
  cut_kept s k other = node_at-other mid at s 0 k other

  cut_tree : (s : Side) (u : Tree) → times at u ≡ 0 → Stands mid u → Stands (with_child mid at s 0) u
  cut_tree s u none stands =
      stands_kept mid (with_child mid at s 0) (length-with_child mid at s 0) u
      (λ k some. cut_kept s k (λ is. let n : times k u ≡ 0 = ap (λ j. times j u) is ∙ none in omega arith))
      stands

  cut_others : (s : Side) (k : ℕ) → 0 < k → times k t ≡ 0 → node_at (with_child mid at s 0) k ≡ node_at old k
  cut_others s k some none =
      cut_kept s k (λ is. omega (arith, split.same_times k, is_one k at is))
      ∙ split.others k some none

  pub opens_less : nat_lt split.entry.base e.base ≡ true → IsOpened e old (with_child mid at More 0) (record { entry = e; less = at; more = (node_at mid at).more }) t
  opens_less test =
      let here = once at in
      let one = one_same at in
      let less : split.entry.base < e.base = ltb-true _ _ test in
      record {
        less = fork split.less at split.entry leaf;
        more = split.more;
        entry = refl;
        less_link = refl;
        more_link = own.more;
        less_stands = (
          record {
            some = own.some;
            within = omega (arith, own.within, length-with_child mid at More 0);
            entry = entry-own mid at More 0 own.within ∙ own.entry;
            less = other-own mid at More 0 own.within ∙ own.less;
            more = child-own mid at More 0 own.within;
          },
          cut_tree More split.less (omega arith) split.rooted.stands.1,
          tt,
        );
        more_stands = cut_tree More split.more (omega arith) split.rooted.stands.2;
        size = length-with_child mid at More 0 ∙ split.size;
        same_walk = append_assoc (walk split.less) (split.entry ∷ []) (walk split.more) ∙ split.same_walk;
        same_times = λ k. omega (arith, split.same_times k);
        others = cut_others More;
        below = all_append (IsPast e.base) (walk split.less) (split.entry ∷ []) split.below (before_it e split.entry root_apart less, tt);
        above = split.above;
      }

  pub opens_more : nat_lt split.entry.base e.base ≡ false → IsOpened e old (with_child mid at Less 0) (record { entry = e; less = (node_at mid at).less; more = at }) t
  opens_more test =
      let here = once at in
      let one = one_same at in
      let more : e.base ≤ split.entry.base = ltb-false _ _ test in
      record {
        less = split.less;
        more = fork leaf at split.entry split.more;
        entry = refl;
        less_link = own.less;
        more_link = refl;
        less_stands = cut_tree Less split.less (omega arith) split.rooted.stands.1;
        more_stands = (
          record {
            some = own.some;
            within = omega (arith, own.within, length-with_child mid at Less 0);
            entry = entry-own mid at Less 0 own.within ∙ own.entry;
            less = child-own mid at Less 0 own.within;
            more = other-own mid at Less 0 own.within ∙ own.more;
          },
          tt,
          cut_tree Less split.more (omega arith) split.rooted.stands.2,
        );
        size = length-with_child mid at Less 0 ∙ split.size;
        same_walk = split.same_walk;
        same_times = λ k. omega (arith, split.same_times k);
        others = cut_others Less;
        below = split.below;
        above = (behind_it e split.entry root_apart more, split.above);
      }

  opens_by : (b : Bool) → nat_lt split.entry.base e.base ≡ b → IsOpened e old (cut_nodes b mid at) (cut_node b mid at e) t
  opens_by true test = opens_less test
  opens_by false test = opens_more test

  pub opens : (new : List Node) (node : Node) → new ≡ cut_nodes (nat_lt (node_at mid at).entry.base e.base) mid at → node ≡ cut_node (nat_lt (node_at mid at).entry.base e.base) mid at e → IsOpened e old new node t
  opens new node new_is node_is =
      subst (λ (ns : List Node). IsOpened e old ns node t) (sym new_is)
      (subst (λ (n : Node). IsOpened e old (cut_nodes (nat_lt (node_at mid at).entry.base e.base) mid at) n t) (sym node_is)
      (opens_by (nat_lt (node_at mid at).entry.base e.base) (ap (λ (g : Entry). nat_lt g.base e.base) (sym own.entry))))

-- ---- two trees are joined

no_entries : (address : ℕ) (t : Tree) → AllByRecursion (IsPast address) (walk t) → AllByRecursion (IsAhead address) (walk t) → t ≡ leaf
no_entries address leaf past ahead = refl
no_entries address (fork l i e r) past ahead =
    let p : IsPast address e = (all_right (IsPast address) (walk l) (e ∷ walk r) past).0 in
    let q : IsAhead address e = (all_right (IsAhead address) (walk l) (e ∷ walk r) ahead).0 in
    absurd (omega arith)

module _ (address : ℕ) (old mid : List Node) (less more at : ℕ) (first second : Tree) (beside : AreBeside address old less more first second) (split : IsSplit address old mid at first) where
  nothing : split.more ≡ leaf
  nothing =
      let all : AllByRecursion (IsPast address) (walk split.less ++ split.entry ∷ walk split.more) = subst (AllByRecursion (IsPast address)) (sym split.same_walk) beside.past in
      no_entries address split.more ((all_right (IsPast address) (walk split.less) (split.entry ∷ walk split.more) all).1) split.above

  no_times : (k : ℕ) → times k split.more ≡ 0
  no_times k = ap (times k) nothing

  at_first : times at first ≡ 1
  at_first = omega (arith, split.same_times at, split.rooted.once at, one_same at)

  joined_kept : (k : ℕ) → (k ≡ at → ⊥) → node_at (with_child mid at More more) k ≡ node_at mid k
  joined_kept k other = node_at-other mid at More more k other

  second_kept : (k : ℕ) → 0 < k → times k first ≡ 0 → node_at (with_child mid at More more) k ≡ node_at old k
  second_kept k some none =
      joined_kept k (λ is. let one : times k first ≡ 1 = ap (λ j. times j first) is ∙ at_first in omega arith)
      ∙ split.others k some none

  joined_size : length (with_child mid at More more) ≡ length old
  joined_size = length-with_child mid at More more ∙ split.size

  pub joins : IsJoined old (with_child mid at More more) at first second
  joins =
      let own = split.rooted.stands.0 in
      let here = split.rooted.once at in
      let one = one_same at in
      record {
        to = fork split.less at split.entry second;
        link = refl;
        stands = (
          record {
            some = own.some;
            within = omega (arith, own.within, length-with_child mid at More more);
            entry = entry-own mid at More more own.within ∙ own.entry;
            less = other-own mid at More more own.within ∙ own.less;
            more = child-own mid at More more own.within ∙ beside.second_rooted.link;
          },
          stands_kept mid (with_child mid at More more) (length-with_child mid at More more) split.less
              (λ k some. joined_kept k (λ is. omega (arith, split.rooted.once k, is_one k at is)))
              split.rooted.stands.1,
          stands_kept old (with_child mid at More more) joined_size second
              (λ k some. second_kept k
              (⊎_elim (λ (is : k ≡ 0). absurd (let none : times k second ≡ 0 = ap (λ j. times j second) is ∙ stands_no_zero old second beside.second_rooted.stands in omega arith)) (λ (apart : k ≡ 0 → ⊥). omega arith) (cases_eq k 0))
              (omega (arith, beside.apart k)))
              beside.second_rooted.stands,
        );
        size = joined_size;
        same_walk =
            sym (append_assoc (walk split.less) (split.entry ∷ []) (walk second))
            ∙ ap (λ t. (walk split.less ++ split.entry ∷ walk t) ++ walk second) (sym nothing)
            ∙ ap (λ (es : List Entry). es ++ walk second) split.same_walk;
        same_times = λ k. omega (arith, split.same_times k, no_times k);
        others = λ k some none. second_kept k some (omega arith);
      }

-- ---- the children of a root can be joined

pub children_beside : (address : ℕ) (old mid : List Node) (at less more : ℕ) (t : Tree) → (split : IsSplit address old mid at t) → less ≡ (node_at mid at).less → more ≡ (node_at mid at).more → AreBeside address mid less more split.less split.more
children_beside address old mid at less more t split less_is more_is =
    let own = split.rooted.stands.0 in
    let few = split.rooted.few in
    let long = length-append (walk split.less) (split.entry ∷ walk split.more) in
    record {
      first_rooted = record {
        link = less_is ∙ own.less;
        stands = split.rooted.stands.1;
        once = λ k. omega (arith, split.rooted.once k);
        few = omega arith;
        rising = rising_left (walk split.less) (split.entry ∷ walk split.more) split.rooted.rising;
      };
      second_rooted = record {
        link = more_is ∙ own.more;
        stands = split.rooted.stands.2;
        once = λ k. omega (arith, split.rooted.once k);
        few = omega arith;
        rising = (rising_right (walk split.less) (split.entry ∷ walk split.more) split.rooted.rising).1;
      };
      apart = λ k. omega (arith, split.rooted.once k);
      past = split.below;
    }

-- ---- a node less

pub takes_out : (base : ℕ) (old mid joint : List Node) (root at free rest : ℕ) (t : Tree) (frees : List ℕ) → IsArena old root free t frees → (split : IsSplit base old mid at t) → split.entry.base ≡ base → IsJoined mid joint rest split.less split.more → IsTaken base old (with_child joint at More free) rest at (Some split.entry) t
takes_out base old mid joint root at free rest t frees arena split base_is join =
    let own = split.rooted.stands.0 in
    let before : IsArena mid at free (fork split.less at split.entry split.more) frees = split_arena base old mid root at free t frees arena split in
    let new : List Node = with_child joint at More free in
    let size : length new ≡ length joint = length-with_child joint at More free in
    let whole : length joint ≡ length mid = join.size in
    let within : at < length joint = omega (arith, own.within, whole) in
    let one = one_same at in
    let kept : (k : ℕ) → (k ≡ at → ⊥) → node_at new k ≡ node_at joint k = λ k apart. node_at-other joint at More free k apart in
    let gone : walk join.to ≡ without_base base (walk t) = join.same_walk ∙ sym (without_base-here base (walk split.less) split.entry (walk split.more) split.below split.above base_is) ∙ ap (without_base base) split.same_walk in
    record {
      to = join.to;
      frees = at ∷ frees;
      arena = record {
        link = join.link;
        stands = stands_kept joint new size join.to (λ k some. kept k (λ is. omega (arith, join.same_times k, split.rooted.once k, is_one k at is))) join.stands;
        listed = (
          refl,
          own.some,
          omega (arith, within, size),
          subst (λ link. AreFree new link frees) (sym (child-own joint at More free within))
              (free_still mid new (omega (arith, size, whole)) free frees
              (λ k some.
              let p = free_apart mid at free (fork split.less at split.entry split.more) frees before k some in
              let q = p.1 in
              kept k (λ is. omega (arith, is_one k at is)) ∙ join.others k p.0 (omega arith))
              before.listed),
        );
        each = λ k some inside. omega (arith, join.same_times k, before.each k some (omega (arith, inside, size, whole)));
        count = omega (arith, before.count, size, whole, ap length join.same_walk, length-append (walk split.less) (walk split.more), length-append (walk split.less) (split.entry ∷ walk split.more));
        in_order = subst IsInOrder (sym gone) (AllPairs-filter Precedes (λ e. not (e.base == base)) (walk t) arena.in_order);
      };
      size = size ∙ whole ∙ split.size;
      others = gone;
      found = sym (ap (at_base base) (sym split.same_walk) ∙ at_base-here base (walk split.less) split.entry (walk split.more) split.below split.above base_is);
    }
