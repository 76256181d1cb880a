-- What stands in a block, one item after another: from an item on, the walk gives what it gives from the start.
use Rattle.std.proofs.Common.{◌≡◌, ℕ, zero, suc, ◌+◌, ◌<◌, ◌≤◌, Bool, List, [], ◌∷◌, ◌++◌, length, drop, get_or, refl, sym, ap, ◌∙◌, subst, arith, Result, Ok, Err, add-one}
use Rattle.ob_tree.specs.declared.faults.TypeFault.{TypeFault}
use Rattle.ob_tree.specs.declared.faults.TypeFault.TheVariants as code
use Rattle.ob_tree.specs.declared.programs.BlockItem as item
use Rattle.ob_tree.specs.declared.programs.BlockItem.{BlockItem}
use Rattle.ob_tree.specs.Programs.{BlockTrees}
use Rattle.ob_tree.specs.ProgramView.{in_front, local_tree, one_item, stmt_node_tree}
use Rattle.ob_tree.specs.Types.{PlainType}
use Rattle.ob_typed.specs.Declarations.{Body, Entered, check_declaration}
use Rattle.ob_typed.specs.Faults.{Walk, next}
use Rattle.ob_typed.specs.Scopes.{Env}
use Rattle.ob_typed.specs.Statements.{check_block, check_stmt}
use Rattle.ob_typed.specs.TypedTree.{TypedStmt}
use Rattle.ob_context.specs.Walks.{Walks}
use Rattle.ob_statements.specs.BlockTrees.{block_trees}
use Rattle.ob_statements.specs.Parts.{check_first}

-- what a walk gives at its first part's fault, whatever follows
walks_fault : {S A B C D : Type 0} (v : A → B) (u : C → D) (y : TypeFault) (s t : S) (part : Walk S B) (k : B → S → Walk S D) →
    Walks v (Err y) s part → Walks u (Err y) t (next part k)
walks_fault v u (code.Fault kind place) s t part k is = ap (λ w. next w k) is
walks_fault v u code.NoMemory s t part k is = tt

-- two steps, one after the other
in_turn : {A B C : Type 0} (w : Walk Body A) (f : A → B) (k : B → Body → Walk Body C) →
    next w (λ x b. k (f x) b) ≡ next (next w (λ x b. Ok (f x, b))) k
in_turn (Ok r) f k = refl
in_turn (Err f) g k = refl

item_at : {A : Type 0} (xs : List A) (i : ℕ) (x : A) → i < length xs → x ≡ get_or xs i x → drop i xs ≡ x ∷ drop (suc i) xs
item_at [] i x h is = absurd (omega (arith, h))
item_at (y ∷ ys) zero x h is = ap (λ z. z ∷ ys) (sym is)
item_at (y ∷ ys) (suc i) x h is = item_at ys i x (omega (arith, h)) is

none_left : {A : Type 0} (xs : List A) (i : ℕ) → length xs ≤ i → drop i xs ≡ []
none_left [] zero h = refl
none_left [] (suc i) h = refl
none_left (x ∷ xs) zero h = absurd (omega (arith, h))
none_left (x ∷ xs) (suc i) h = none_left xs i (omega (arith, h))

module _ (loop : Bool) (t : PlainType) where
  first : (env : Env) (done : List TypedStmt) (i : BlockItem) (rest : BlockTrees) (b : Body) →
      check_block env loop t done (in_front i rest) b ≡ next (check_first env loop t done (one_item i) b) (λ e b1. check_block e.env loop t e.statements rest b1)
  first env done (item.Local l) rest b =
      in_turn (check_declaration env (local_tree l) b) (λ (e : Entered). record { env = e.env; statements = done ++ e.statements }) (λ e b1. check_block e.env loop t e.statements rest b1)
  first env done (item.Stmt' f l s) rest b =
      in_turn (check_stmt env loop t (stmt_node_tree s f l) b) (λ (x : TypedStmt). record { env = env; statements = done ++ x ∷ [] }) (λ e b1. check_block e.env loop t e.statements rest b1)

  turn : (start : Walk Body (List TypedStmt)) (env : Env) (done : List TypedStmt) (is : List BlockItem) (n : ℕ) (i : BlockItem) (b : Body) →
      start ≡ check_block env loop t done (block_trees (drop n is)) b → n < length is → i ≡ get_or is n i →
      start ≡ next (check_first env loop t done (one_item i) b) (λ e b1. check_block e.env loop t e.statements (block_trees (drop (suc n) is)) b1)
  turn start env done is n i b before h at =
      before ∙ ap (λ xs. check_block env loop t done (block_trees xs) b) (item_at is n i h at) ∙ first env done i (block_trees (drop (suc n) is)) b

  -- one item more
  pub turn_on : (start : Walk Body (List TypedStmt)) (env : Env) (done : List TypedStmt) (is : List BlockItem) (n : ℕ) (i : BlockItem) (b b1 : Body) (e : Entered) →
      start ≡ check_block env loop t done (block_trees (drop n is)) b → n < length is → i ≡ get_or is n i →
      check_first env loop t done (one_item i) b ≡ Ok (e, b1) →
      start ≡ check_block e.env loop t e.statements (block_trees (drop (n + 1) is)) b1
  turn_on start env done is n i b b1 e before h at one =
      turn start env done is n i b before h at
      ∙ ap (λ w. next w (λ x b2. check_block x.env loop t x.statements (block_trees (drop (suc n) is)) b2)) one
      ∙ ap (λ m. check_block e.env loop t e.statements (block_trees (drop m is)) b1) (sym (add-one n))

  -- an item has a fault
  pub turn_err : {A B : Type 0} (v : A → Entered) (u : B → List TypedStmt) (y : TypeFault) (start : Walk Body (List TypedStmt)) (env : Env) (done : List TypedStmt) (is : List BlockItem) (n : ℕ) (i : BlockItem) (b s r : Body) →
      start ≡ check_block env loop t done (block_trees (drop n is)) b → n < length is → i ≡ get_or is n i →
      Walks v (Err y) s (check_first env loop t done (one_item i) b) → Walks u (Err y) r start
  turn_err v u y start env done is n i b s r before h at one =
      subst (λ w. Walks u (Err y) r w) (sym (turn start env done is n i b before h at))
      (walks_fault v u y s r (check_first env loop t done (one_item i) b) (λ e b1. check_block e.env loop t e.statements (block_trees (drop (suc n) is)) b1) one)

  -- there is none
  pub turn_end : (start : Walk Body (List TypedStmt)) (env : Env) (done : List TypedStmt) (is : List BlockItem) (n : ℕ) (b : Body) →
      start ≡ check_block env loop t done (block_trees (drop n is)) b → length is ≤ n → start ≡ Ok (done, b)
  turn_end start env done is n b before h = before ∙ ap (λ xs. check_block env loop t done (block_trees xs) b) (none_left is n h)
