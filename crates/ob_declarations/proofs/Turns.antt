-- What closing the pending statements that a last part makes whole does, a turn at a time.
use Rattle.std.proofs.Common.{◌≡◌, ◌≢◌, ℕ, zero, ◌<◌, List, [], ◌∷◌, length, map, Bool, true, false, Option, Some, None, refl, sym, ◌∙◌, ap, subst, arith}
use Rattle.ob_tree.specs.declared.tokens.TokenKind.{TokenKind}
use Rattle.ob_tree.specs.declared.tokens.TokenKind.TheVariants as kind
use Rattle.ob_tree.specs.declared.tokens.Keyword.TheVariants as word
use Rattle.ob_tree.specs.declared.programs.Item.{Item}
use Rattle.ob_tree.specs.ProgramView.{item_tree}
use Rattle.ob_tree.specs.Trees.{Mark}
use Rattle.ob_tree.specs.Programs.{StmtTree}
use Rattle.ob_tree.specs.ProgramStates.{PendingStmt, InBody, InBlock, InIf, InElse, InWhile, InDo, InFor, State, Items, Begin, Done}
use Rattle.ob_tree.specs.ProgramMachine.{to_else, reduce, done, after_whole, whole, finish}
use Rattle.ob_declarations.specs.Statements.{closes, closed_top, closed, else_at, is_else}

-- what one turn does
pub record Turn (ifs : Bool) (s : StmtTree) (fs : List PendingStmt) (r : StmtTree × List PendingStmt) : Type 0 where
  pub same : closed ifs r.0 r.1 ≡ closed ifs s fs
  pub fewer : length r.1 < length fs

turn-at : (ifs : Bool) (s : StmtTree) (fs : List PendingStmt) → true ≡ closes ifs fs → Turn ifs s fs (closed_top s fs)
turn-at ifs s [] h = absurd cc
turn-at ifs s (InBody d ∷ fs) h = absurd cc
turn-at ifs s (InBlock f n is ∷ fs) h = absurd cc
turn-at false s (InIf f n c ∷ fs) h = absurd cc
turn-at true s (InIf f n c ∷ fs) h = record { same = refl; fewer = omega arith }
turn-at ifs s (InElse f n c x ∷ fs) h = record { same = refl; fewer = omega arith }
turn-at ifs s (InWhile f n c ∷ fs) h = record { same = refl; fewer = omega arith }
turn-at ifs s (InDo f n ∷ fs) h = absurd cc
turn-at ifs s (InFor f n i c x ∷ fs) h = record { same = refl; fewer = omega arith }

pub turn : (ifs : Bool) (s s2 : StmtTree) (fs gs : List PendingStmt) → true ≡ closes ifs fs → (s2, gs) ≡ closed_top s fs → Turn ifs s fs (s2, gs)
turn ifs s s2 fs gs h g = subst (Turn ifs s fs) (sym g) (turn-at ifs s fs h)

-- where none closes
pub stops : (ifs : Bool) (s : StmtTree) (fs : List PendingStmt) → false ≡ closes ifs fs → (s, fs) ≡ closed ifs s fs
stops ifs s [] h = refl
stops ifs s (InBody d ∷ fs) h = refl
stops ifs s (InBlock f n is ∷ fs) h = refl
stops false s (InIf f n c ∷ fs) h = refl
stops true s (InIf f n c ∷ fs) h = absurd cc
stops ifs s (InElse f n c x ∷ fs) h = absurd cc
stops ifs s (InWhile f n c ∷ fs) h = absurd cc
stops ifs s (InDo f n ∷ fs) h = refl
stops ifs s (InFor f n i c x ∷ fs) h = absurd cc

-- the statements whose last part was read
pub reduced : (s : StmtTree) (fs : List PendingStmt) → closed true s fs ≡ reduce s fs
reduced s [] = refl
reduced s (InBody d ∷ fs) = refl
reduced s (InBlock f n is ∷ fs) = refl
reduced s (InIf f n c ∷ fs) = reduced (StmtTree.If f n c s) fs
reduced s (InElse f n c x ∷ fs) = reduced (StmtTree.IfElse f n c x s) fs
reduced s (InWhile f n c ∷ fs) = reduced (StmtTree.While f n c s) fs
reduced s (InDo f n ∷ fs) = refl
reduced s (InFor f n i c x ∷ fs) = reduced (StmtTree.For f n i c x s) fs

-- an `else` behind the statement
else-closed : (s : StmtTree) (fs : List PendingStmt) → to_else s fs ≡ else_at (closed false s fs).0 (closed false s fs).1
else-closed s [] = refl
else-closed s (InBody d ∷ fs) = refl
else-closed s (InBlock f n is ∷ fs) = refl
else-closed s (InIf f n c ∷ fs) = refl
else-closed s (InElse f n c x ∷ fs) = else-closed (StmtTree.IfElse f n c x s) fs
else-closed s (InWhile f n c ∷ fs) = else-closed (StmtTree.While f n c s) fs
else-closed s (InDo f n ∷ fs) = refl
else-closed s (InFor f n i c x ∷ fs) = else-closed (StmtTree.For f n i c x s) fs

pub to_else_closed : (s s2 : StmtTree) (fs gs : List PendingStmt) → (s2, gs) ≡ closed false s fs → to_else s fs ≡ else_at s2 gs
to_else_closed s s2 fs gs h = else-closed s fs ∙ sym (ap (λ r. else_at r.0 r.1) h)

-- behind a whole statement
pub else_comes : (m : Mark) (k : TokenKind) (s : StmtTree) (fs : List PendingStmt) → is_else k ≡ true → done m k s fs ≡ to_else s fs
else_comes m (kind.Word word.Else) s fs h = refl
else_comes m k s fs h = absurd cc

pub other_comes : (m : Mark) (k : TokenKind) (s s2 : StmtTree) (fs gs : List PendingStmt) → is_else k ≡ false → (s2, gs) ≡ closed true s fs
    → done m k s fs ≡ after_whole m k s2 gs
other_comes m (kind.Word word.Else) s s2 fs gs h g = absurd cc
other_comes m k s s2 fs gs h g = ap (λ r. after_whole m k r.0 r.1) (sym (reduced s fs) ∙ sym g)

pub finish_done : (s s2 : StmtTree) (fs gs : List PendingStmt) → (s2, gs) ≡ closed true s fs → finish (Done s fs) ≡ whole s2 gs
finish_done s s2 fs gs g = ap (λ r. whole r.0 r.1) (sym (reduced s fs) ∙ sym g)

pub finish_none : (is : List Item) → length is ≡ 0 → finish (Items (map item_tree is)) ≡ None
finish_none [] h = refl
finish_none (i ∷ is) h = absurd (omega arith)

pub finish_some : (is : List Item) → length is ≢ 0 → finish (Items (map item_tree is)) ≡ Some (map item_tree is)
finish_some [] h = absurd (h refl)
finish_some (i ∷ is) h = refl
