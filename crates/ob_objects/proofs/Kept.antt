-- Trees and hung nodes stand as long as their nodes do.
use Rattle.std.proofs.Common.{◌≡◌, ℕ, ◌+◌, ◌<◌, ◌≤◌, ◌==◌, Bool, true, false, List, [], ◌∷◌, length, ap, ◌∙◌, refl, arith}
use Rattle.std.proofs.lemmas.Bool.{eq-eqb, ne_eqb}
use Rattle.ob_model.specs.declared.objects.Entry.{Entry}
use Rattle.ob_objects.specs.declared.node.Node.{Node}
use Rattle.ob_objects.specs.declared.node.Side.{Side}
use Rattle.ob_objects.specs.declared.node.Side.TheVariants.{Less, More}
use Rattle.ob_objects.specs.Nodes.{other, child, node_at}
use Rattle.ob_objects.specs.Trees.{Tree, leaf, fork, top, one_if, times, join, Stands}
use Rattle.ob_objects.specs.Spread.{Hung, end, times_hung, Hangs}

pub one_same : (k : ℕ) → one_if (k == k) ≡ 1
one_same k = ap one_if (eq-eqb k k refl)

pub one_apart : (k i : ℕ) → (k ≡ i → ⊥) → one_if (k == i) ≡ 0
one_apart k i apart = ap one_if (ne_eqb k i apart)

-- an index that occurs
pub one_most : (b : Bool) → one_if b ≤ 1
one_most true = omega arith
one_most false = omega arith

module _ (nodes new : List Node) (size : length nodes ≤ length new) where
  pub stands_still : (t : Tree) → ((k : ℕ) → 0 < times k t → node_at new k ≡ node_at nodes k) → Stands nodes t → Stands new t
  stands_still leaf kept s = tt
  stands_still (fork l i e r) kept s =
      let one : one_if (i == i) ≡ 1 = one_same i in
      let same : node_at new i ≡ node_at nodes i = kept i (omega arith) in
      let own = s.0 in (
        record {
          some = own.some;
          within = omega (arith, size, own.within);
          entry = ap (λ (n : Node). n.entry) same ∙ own.entry;
          less = ap (λ (n : Node). n.less) same ∙ own.less;
          more = ap (λ (n : Node). n.more) same ∙ own.more;
        },
        stands_still l (λ k some. kept k (omega arith)) s.1,
        stands_still r (λ k some. kept k (omega arith)) s.2,
      )

module _ (nodes new : List Node) (size : length new ≡ length nodes) where
  pub stands_kept : (t : Tree) → ((k : ℕ) → 0 < times k t → node_at new k ≡ node_at nodes k) → Stands nodes t → Stands new t
  stands_kept t kept s = stands_still nodes new (omega (arith, size)) t kept s

  pub hangs_kept : (side : Side) (hs : List Hung) → ((k : ℕ) → 0 < times_hung k hs → node_at new k ≡ node_at nodes k) → child side (node_at new 0) ≡ child side (node_at nodes 0) → Hangs nodes side hs → Hangs new side hs
  hangs_kept side [] kept header s = tt
  hangs_kept side (h ∷ hs) kept header s =
      let one : one_if (h.index == h.index) ≡ 1 = one_same h.index in
      let same : node_at new h.index ≡ node_at nodes h.index = kept h.index (omega arith) in
      let own = s.0 in
      let rest : (k : ℕ) → 0 < times_hung k hs → node_at new k ≡ node_at nodes k = λ k some. kept k (omega arith) in (
        record {
          some = own.some;
          within = omega (arith, size, own.within);
          entry = ap (λ (n : Node). n.entry) same ∙ own.entry;
          rest = ap (child (other side)) same ∙ own.rest;
          stands = stands_kept h.rest (λ k some. kept k (omega arith)) own.stands;
          link = parent_kept hs rest ∙ own.link;
        },
        hangs_kept side hs rest header s.1,
      )
    where
      parent_kept : (hs : List Hung) → ((k : ℕ) → 0 < times_hung k hs → node_at new k ≡ node_at nodes k) → child side (node_at new (end hs)) ≡ child side (node_at nodes (end hs))
      parent_kept [] kept = header
      parent_kept (h ∷ hs) kept =
          let one : one_if (h.index == h.index) ≡ 1 = one_same h.index in
          ap (child side) (kept h.index (omega arith))

-- index 0 is in no tree
pub stands_no_zero : (nodes : List Node) (t : Tree) → Stands nodes t → times 0 t ≡ 0
stands_no_zero nodes leaf s = refl
stands_no_zero nodes (fork l i e r) s =
    let some = (s.0).some in
    let one = one_apart 0 i (λ is. omega arith) in
    omega (arith, stands_no_zero nodes l s.1, stands_no_zero nodes r s.2)

pub hangs_no_zero : (nodes : List Node) (side : Side) (hs : List Hung) → Hangs nodes side hs → times_hung 0 hs ≡ 0
hangs_no_zero nodes side [] s = refl
hangs_no_zero nodes side (h ∷ hs) s =
    let some = (s.0).some in
    let one = one_apart 0 h.index (λ is. omega arith) in
    omega (arith, stands_no_zero nodes h.rest (s.0).stands, hangs_no_zero nodes side hs s.1)

-- nor one past the end
pub stands_within : (nodes : List Node) (t : Tree) (k : ℕ) → Stands nodes t → length nodes ≤ k → times k t ≡ 0
stands_within nodes leaf k s past = refl
stands_within nodes (fork l i e r) k s past =
    let within = (s.0).within in
    let one = one_apart k i (λ is. omega arith) in
    omega (arith, stands_within nodes l k s.1 past, stands_within nodes r k s.2 past)

-- ---- a fork seen from a side

pub record IsJoin (nodes : List Node) (side : Side) (near : Tree) (i : ℕ) (e : Entry) (far : Tree) : Type 0 where
  pub some : 0 < i
  pub within : i < length nodes
  pub entry : (node_at nodes i).entry ≡ e
  pub near_is : child side (node_at nodes i) ≡ top near
  pub far_is : child (other side) (node_at nodes i) ≡ top far
  pub near_stands : Stands nodes near
  pub far_stands : Stands nodes far

pub joined : (nodes : List Node) (side : Side) (near : Tree) (i : ℕ) (e : Entry) (far : Tree) → IsJoin nodes side near i e far → Stands nodes (join side near i e far)
joined nodes Less near i e far j =
    (record { some = j.some; within = j.within; entry = j.entry; less = j.near_is; more = j.far_is }, j.near_stands, j.far_stands)
joined nodes More near i e far j =
    (record { some = j.some; within = j.within; entry = j.entry; less = j.far_is; more = j.near_is }, j.far_stands, j.near_stands)

pub parts : (nodes : List Node) (side : Side) (near : Tree) (i : ℕ) (e : Entry) (far : Tree) → Stands nodes (join side near i e far) → IsJoin nodes side near i e far
parts nodes Less near i e far s =
    record { some = (s.0).some; within = (s.0).within; entry = (s.0).entry; near_is = (s.0).less; far_is = (s.0).more; near_stands = s.1; far_stands = s.2 }
parts nodes More near i e far s =
    record { some = (s.0).some; within = (s.0).within; entry = (s.0).entry; near_is = (s.0).more; far_is = (s.0).less; near_stands = s.2; far_stands = s.1 }

pub times-join : (k : ℕ) (side : Side) (near : Tree) (i : ℕ) (e : Entry) (far : Tree) → times k (join side near i e far) ≡ times k near + one_if (k == i) + times k far
times-join k Less near i e far = refl
times-join k More near i e far = omega arith

pub top-join : (side : Side) (near : Tree) (i : ℕ) (e : Entry) (far : Tree) → top (join side near i e far) ≡ i
top-join Less near i e far = refl
top-join More near i e far = refl

-- a tree that isn't empty is one
pub by_join : (P : Tree → Type 0) (side : Side) (t : Tree) → 0 < top t → ((near : Tree) (i : ℕ) (e : Entry) (far : Tree) → P (join side near i e far)) → P t
by_join P side leaf some each = absurd (omega arith)
by_join P Less (fork l i e r) some each = each l i e r
by_join P More (fork l i e r) some each = each r i e l
