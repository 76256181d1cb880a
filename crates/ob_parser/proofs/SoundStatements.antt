-- Each shift of the machine through statements keeps the shape of what it holds and spells one token more; so does
-- each shift that it takes.
use Rattle.std.proofs.Common.{◌≡◌, ℕ, List, [], ◌∷◌, ◌++◌, Bool, true, false, Option, refl, sym, ◌∙◌, ap, arith, append_assoc, append-nil}
use Rattle.std.specs.Prelude.{cond}
use Rattle.std.specs.List.{AllByRecursion}
use Rattle.ob_tree.specs.declared.tokens.TokenKind.{TokenKind}
use Rattle.ob_tree.specs.declared.tokens.TokenKind.TheVariants as kind
use Rattle.ob_tree.specs.declared.tokens.Keyword.{Keyword}
use Rattle.ob_tree.specs.declared.tokens.Keyword.TheVariants as word
use Rattle.ob_tree.specs.declared.tokens.Sign.TheVariants as sign
use Rattle.ob_tree.specs.Trees.{Mark}
use Rattle.ob_tree.specs.Programs.{StmtTree, BlockTrees, ItemTree}
use Rattle.ob_tree.specs.Spelling.{spell, spell_spec}
use Rattle.ob_tree.specs.ProgramSpelling.{spell_option, spell_static, spell_start, spell_stmt, spell_block, spell_function, spell_program}
use Rattle.ob_tree.specs.Valid.{IsOfSource}
use Rattle.ob_tree.specs.ProgramValid.{ValidStmt, ValidItem, IsBlock, ends_in_if}
use Rattle.ob_tree.specs.ExprMachine as reader
use Rattle.ob_tree.specs.ProgramStates.{Definition, PendingStmt, InBody, InBlock, InIf, InElse, InWhile, InDo, InFor, FileScope, BlockScope, ForScope, ForDeclaration, ExprContext, Statement, IfTest, WhileTest, DoTest, ForStart, State, Items, Specifying, Declare, Dims, Optional, Reading, Init, AfterInit, Params, NextParam, Param, Closed, Begin, Opening, ForWord, ForOpen, Semi, Done}
use Rattle.ob_tree.specs.ProgramParts.{at_semi, at_open, add_statement}
use Rattle.ob_tree.specs.ProgramMachine.{read, optional, heading, statement_word, statement, begins_declaration, begin_declaration, block_item, begin, for_start, specify, to_else, reduce, define, after_whole, done, shift}
use Rattle.ob_parser.proofs.Shapes.{if_open, while_open, for_open, stack_spell, opening_spell, semi_spell, state_spell, TakesStmt, Takes, Stands, IsTest, ContextOk, SemiOk, StateOk}
use Rattle.ob_parser.proofs.Adding.{statement-spelled, statement-valid, item-spelled, all-more}
use Rattle.ob_parser.proofs.Sound.{Good, same-good, declare-good, dims-good, param-good}
use Rattle.ob_parser.proofs.SoundDeclarations.{specify-good, begin-spec-good, begin-param-good, first-param-good, begin-declaration-good, closed-good, initialised-good}
use Rattle.ob_parser.proofs.SoundContexts.{semi-good, open-good, while-good, last, read-good, optional-good, begin-init-good, takes-any, takes-block, takes-under}

-- Statements.
statement-word-good : (m : Mark) (w : Keyword) (fs : List PendingStmt) → IsOfSource (kind.Word w) → TakesStmt fs → Stands fs → Good (stack_spell fs) (kind.Word w) (statement_word m w fs)
statement-word-good m word.If fs t a b = ((tt, (a, b)), refl)
statement-word-good m word.While fs t a b = ((tt, (a, b)), refl)
statement-word-good m word.Do fs t a b = ((tt, (a, b)), refl)
statement-word-good m word.For fs t a b = ((a, b), refl)
statement-word-good m word.Break fs t a b = ((tt, a, b), refl)
statement-word-good m word.Continue fs t a b = ((tt, a, b), refl)
statement-word-good m word.Return fs t a b = ((a, b), refl)
statement-word-good m w fs t a b = optional-good m (kind.Word w) (Statement m.first m.line fs) t (a, b)

statement-good : (m : Mark) (k : TokenKind) (fs : List PendingStmt) → IsOfSource k → TakesStmt fs → Stands fs → Good (stack_spell fs) k (statement m k fs)
statement-good m (kind.Word w) fs t a b = statement-word-good m w fs t a b
statement-good m (kind.Sign sign.OpenBrace) fs t a b = ((tt, (tt, b, takes-under fs a)), refl)
statement-good m (kind.Sign s) fs t a b = optional-good m (kind.Sign s) (Statement m.first m.line fs) t (a, b)
statement-good m k fs t a b = optional-good m k (Statement m.first m.line fs) t (a, b)

either-good : (read : List TokenKind) (k : TokenKind) (b : Bool) (x y : Option State) → Good read k x → Good read k y → Good read k (cond b x y)
either-good read k true x y g h = g
either-good read k false x y g h = h

block-good : (m : Mark) (k : TokenKind) (f n : ℕ) (items : BlockTrees) (fs : List PendingStmt) → IsOfSource k → Stands (InBlock f n items ∷ fs)
    → Good (stack_spell (InBlock f n items ∷ fs)) k (block_item m k f n items fs)
block-good m (kind.Word w) f n items fs t ok =
    either-good (stack_spell (InBlock f n items ∷ fs)) (kind.Word w) (begins_declaration w) (begin_declaration m (kind.Word w) (BlockScope f n items fs)) (statement_word m w (InBlock f n items ∷ fs))
    (begin-declaration-good m (kind.Word w) (BlockScope f n items fs) t ok (λ b. tt)) (statement-word-good m w (InBlock f n items ∷ fs) t tt ok)
block-good m (kind.Sign sign.CloseBrace) f n items fs t ok =
    ((ok.0, takes-block fs f n items ok.2, ok.1, refl), last (stack_spell fs) (kind.Sign sign.OpenBrace ∷ spell_block items) (kind.Sign sign.CloseBrace))
block-good m (kind.Sign s) f n items fs t ok = statement-good m (kind.Sign s) (InBlock f n items ∷ fs) t tt ok
block-good m k f n items fs t ok = statement-good m k (InBlock f n items ∷ fs) t tt ok

begin-good : (m : Mark) (k : TokenKind) (fs : List PendingStmt) → IsOfSource k → TakesStmt fs → Stands fs → Good (stack_spell fs) k (begin m k fs)
begin-good m k [] t a b = absurd a
begin-good m k (InBlock f n items ∷ fs) t a b = block-good m k f n items fs t b
begin-good m k (InBody d ∷ fs) t a b = absurd a
begin-good m k (InIf f n c ∷ fs) t a b = statement-good m k (InIf f n c ∷ fs) t a b
begin-good m k (InElse f n c x ∷ fs) t a b = statement-good m k (InElse f n c x ∷ fs) t a b
begin-good m k (InWhile f n c ∷ fs) t a b = statement-good m k (InWhile f n c ∷ fs) t a b
begin-good m k (InDo f n ∷ fs) t a b = statement-good m k (InDo f n ∷ fs) t a b
begin-good m k (InFor f n i c x ∷ fs) t a b = statement-good m k (InFor f n i c x ∷ fs) t a b

for-good : (m : Mark) (k : TokenKind) (f n : ℕ) (fs : List PendingStmt) → IsOfSource k → TakesStmt fs → Stands fs → Good (stack_spell fs ++ for_open) k (for_start m k f n fs)
for-good m (kind.Word w) f n fs t a b =
    let h = heading (ForScope f n fs) m false in
    either-good (stack_spell fs ++ for_open) (kind.Word w) (reader.is_spec_word w) (specify m (kind.Word w) (ForDeclaration h) (reader.Specifier [])) (optional m (kind.Word w) (ForStart f n fs))
    (same-good ((stack_spell fs ++ for_open) ++ []) (stack_spell fs ++ for_open) (kind.Word w) (specify m (kind.Word w) (ForDeclaration h) (reader.Specifier [])) (append-nil (stack_spell fs ++ for_open))
    (begin-spec-good m (kind.Word w) (ForDeclaration h) t ((a, b), refl)))
    (optional-good m (kind.Word w) (ForStart f n fs) t (a, b))
for-good m k f n fs t a b = optional-good m k (ForStart f n fs) t (a, b)

-- Behind a statement.
else-good : (s : StmtTree) (fs : List PendingStmt) → ValidStmt s → Takes fs s → Stands fs → ends_in_if s ≡ false → Good (stack_spell fs ++ spell_stmt s) (kind.Word word.Else) (to_else s fs)
else-good s [] v a b e = tt
else-good s (InBody d ∷ fs) v a b e = tt
else-good s (InBlock f n items ∷ fs) v a b e = tt
else-good s (InDo f n ∷ fs) v a b e = tt
else-good s (InIf f n c ∷ fs) v a b e = ((tt, (b.0, b.1, b.2, v, e)), groups (stack_spell fs) if_open (spell c) (kind.Sign sign.CloseParen) (spell_stmt s) (kind.Word word.Else))
  where
    groups : (a b c : List TokenKind) (p : TokenKind) (s : List TokenKind) (k : TokenKind) → a ++ (b ++ (c ++ p ∷ (s ++ k ∷ []))) ≡ ((a ++ (b ++ (c ++ p ∷ []))) ++ s) ++ k ∷ []
    groups a b c p s k = simp append_assoc
else-good s (InElse f n c x ∷ fs) v a b e =
    let y = StmtTree.IfElse f n c x s in
    same-good (stack_spell fs ++ spell_stmt y) (stack_spell (InElse f n c x ∷ fs) ++ spell_stmt s) (kind.Word word.Else) (to_else y fs)
    (groups (stack_spell fs) if_open (spell c) (kind.Sign sign.CloseParen) (spell_stmt x) (kind.Word word.Else) (spell_stmt s))
    (else-good y fs (b.0, b.3, b.4, v) (takes-any fs y b.1) b.2 e)
  where
    groups : (a b c : List TokenKind) (p : TokenKind) (x : List TokenKind) (e : TokenKind) (s : List TokenKind) → a ++ (b ++ (c ++ p ∷ (x ++ e ∷ s))) ≡ (a ++ (b ++ (c ++ p ∷ (x ++ e ∷ [])))) ++ s
    groups a b c p x e s = simp append_assoc
else-good s (InWhile f n c ∷ fs) v a b e =
    let y = StmtTree.While f n c s in
    same-good (stack_spell fs ++ spell_stmt y) (stack_spell (InWhile f n c ∷ fs) ++ spell_stmt s) (kind.Word word.Else) (to_else y fs)
    (groups (stack_spell fs) while_open (spell c) (kind.Sign sign.CloseParen) (spell_stmt s))
    (else-good y fs (b.0, v) (takes-any fs y b.1) b.2 e)
  where
    groups : (a b c : List TokenKind) (p : TokenKind) (s : List TokenKind) → a ++ (b ++ (c ++ p ∷ s)) ≡ (a ++ (b ++ (c ++ p ∷ []))) ++ s
    groups a b c p s = simp append_assoc
else-good s (InFor f n i c x ∷ fs) v a b e =
    let y = StmtTree.For f n i c x s in
    same-good (stack_spell fs ++ spell_stmt y) (stack_spell (InFor f n i c x ∷ fs) ++ spell_stmt s) (kind.Word word.Else) (to_else y fs)
    (groups (stack_spell fs) for_open (spell_start i) (spell_option c) (kind.Sign sign.Semi) (spell_option x) (kind.Sign sign.CloseParen) (spell_stmt s))
    (else-good y fs (b.0, b.3, b.4, v) (takes-any fs y b.1) b.2 e)
  where
    groups : (a b c d : List TokenKind) (q : TokenKind) (x : List TokenKind) (p : TokenKind) (s : List TokenKind) → a ++ (b ++ (c ++ (d ++ q ∷ (x ++ p ∷ s)))) ≡ (a ++ (b ++ (c ++ (d ++ q ∷ (x ++ p ∷ []))))) ++ s
    groups a b c d q x p s = simp append_assoc

-- what closing pending statements keeps
pub record Kept (s : StmtTree) (fs : List PendingStmt) (r : StmtTree × List PendingStmt) : Type 0 where
  pub valid : ValidStmt r.0
  pub takes : Takes r.1 r.0
  pub stands : Stands r.1
  pub spelled : stack_spell r.1 ++ spell_stmt r.0 ≡ stack_spell fs ++ spell_stmt s

keeps : (s t : StmtTree) (fs gs : List PendingStmt) (r : StmtTree × List PendingStmt) → stack_spell gs ++ spell_stmt t ≡ stack_spell fs ++ spell_stmt s → Kept t gs r → Kept s fs r
keeps s t fs gs r e k = record { valid = k.valid; takes = k.takes; stands = k.stands; spelled = k.spelled ∙ e }

pub stmt-kept : (s : StmtTree) (fs : List PendingStmt) → ValidStmt s → Takes fs s → Stands fs → Kept s fs (reduce s fs)
stmt-kept s [] v a b = absurd a
stmt-kept s (InBody d ∷ fs) v a b = record { valid = v; takes = a; stands = b; spelled = refl }
stmt-kept s (InBlock f n items ∷ fs) v a b = record { valid = v; takes = a; stands = b; spelled = refl }
stmt-kept s (InDo f n ∷ fs) v a b = record { valid = v; takes = a; stands = b; spelled = refl }
stmt-kept s (InIf f n c ∷ fs) v a b =
    let y = StmtTree.If f n c s in
    keeps s y (InIf f n c ∷ fs) fs (reduce y fs) (groups (stack_spell fs) if_open (spell c) (kind.Sign sign.CloseParen) (spell_stmt s)) (stmt-kept y fs (b.0, v) (takes-any fs y b.1) b.2)
  where
    groups : (a b c : List TokenKind) (p : TokenKind) (s : List TokenKind) → a ++ (b ++ (c ++ p ∷ s)) ≡ (a ++ (b ++ (c ++ p ∷ []))) ++ s
    groups a b c p s = simp append_assoc
stmt-kept s (InElse f n c x ∷ fs) v a b =
    let y = StmtTree.IfElse f n c x s in
    keeps s y (InElse f n c x ∷ fs) fs (reduce y fs) (groups (stack_spell fs) if_open (spell c) (kind.Sign sign.CloseParen) (spell_stmt x) (kind.Word word.Else) (spell_stmt s))
    (stmt-kept y fs (b.0, b.3, b.4, v) (takes-any fs y b.1) b.2)
  where
    groups : (a b c : List TokenKind) (p : TokenKind) (x : List TokenKind) (e : TokenKind) (s : List TokenKind) → a ++ (b ++ (c ++ p ∷ (x ++ e ∷ s))) ≡ (a ++ (b ++ (c ++ p ∷ (x ++ e ∷ [])))) ++ s
    groups a b c p x e s = simp append_assoc
stmt-kept s (InWhile f n c ∷ fs) v a b =
    let y = StmtTree.While f n c s in
    keeps s y (InWhile f n c ∷ fs) fs (reduce y fs) (groups (stack_spell fs) while_open (spell c) (kind.Sign sign.CloseParen) (spell_stmt s)) (stmt-kept y fs (b.0, v) (takes-any fs y b.1) b.2)
  where
    groups : (a b c : List TokenKind) (p : TokenKind) (s : List TokenKind) → a ++ (b ++ (c ++ p ∷ s)) ≡ (a ++ (b ++ (c ++ p ∷ []))) ++ s
    groups a b c p s = simp append_assoc
stmt-kept s (InFor f n i c x ∷ fs) v a b =
    let y = StmtTree.For f n i c x s in
    keeps s y (InFor f n i c x ∷ fs) fs (reduce y fs) (groups (stack_spell fs) for_open (spell_start i) (spell_option c) (kind.Sign sign.Semi) (spell_option x) (kind.Sign sign.CloseParen) (spell_stmt s))
    (stmt-kept y fs (b.0, b.3, b.4, v) (takes-any fs y b.1) b.2)
  where
    groups : (a b c d : List TokenKind) (q : TokenKind) (x : List TokenKind) (p : TokenKind) (s : List TokenKind) → a ++ (b ++ (c ++ (d ++ q ∷ (x ++ p ∷ s)))) ≡ (a ++ (b ++ (c ++ (d ++ q ∷ (x ++ p ∷ []))))) ++ s
    groups a b c d q x p s = simp append_assoc

pub define-valid : (d : Definition) (s : StmtTree) → Stands (InBody d ∷ []) → ValidStmt s → IsBlock s → AllByRecursion ValidItem (define d s)
define-valid d s ok v b =
    all-more ValidItem d.items (ItemTree.Function d.first d.line d.fixed d.spec d.stars d.name d.at d.params s) ok.1.0 (ok.1.1, ok.1.2, ok.1.3, ok.1.4, b, v)

pub define-spelled : (d : Definition) (s : StmtTree) → spell_program (define d s) ≡ stack_spell (InBody d ∷ []) ++ spell_stmt s
define-spelled d s =
    let i = ItemTree.Function d.first d.line d.fixed d.spec d.stars d.name d.at d.params s in
    item-spelled d.items i ∙ groups (spell_program d.items) (spell_static d.fixed) (spell_spec d.spec) (spell_function d.stars d.name d.params) (spell_stmt s)
  where
    groups : (a b c d e : List TokenKind) → a ++ (b ++ (c ++ (d ++ e))) ≡ (a ++ (b ++ (c ++ d))) ++ e
    groups a b c d e = simp append_assoc

whole-good : (m : Mark) (k : TokenKind) (s : StmtTree) (fs : List PendingStmt) → IsOfSource k → ValidStmt s → Takes fs s → Stands fs → Good (stack_spell fs ++ spell_stmt s) k (after_whole m k s fs)
whole-good m k s [] t v a b = tt
whole-good m k s (InBlock f n items ∷ fs) t v a b =
    same-good (stack_spell (InBlock f n (add_statement items s) ∷ fs)) (stack_spell (InBlock f n items ∷ fs) ++ spell_stmt s) k (block_item m k f n (add_statement items s) fs)
    (ap (λ ks. stack_spell fs ++ kind.Sign sign.OpenBrace ∷ ks) (statement-spelled items s) ∙ sym (append_assoc (stack_spell fs) (kind.Sign sign.OpenBrace ∷ spell_block items) (spell_stmt s)))
    (block-good m k f n (add_statement items s) fs t (statement-valid items s b.0 v, b.1, b.2))
whole-good m k s (InDo f n ∷ fs) t v a b =
    while-good (stack_spell (InDo f n ∷ fs) ++ spell_stmt s) k (Opening (DoTest f n s fs))
    ((tt, (b.0, b.1, v)), groups (stack_spell fs) (kind.Word word.Do) (spell_stmt s) (kind.Word word.While))
  where
    groups : (a : List TokenKind) (d : TokenKind) (s : List TokenKind) (k : TokenKind) → a ++ d ∷ (s ++ k ∷ []) ≡ ((a ++ d ∷ []) ++ s) ++ k ∷ []
    groups a d s k = simp append_assoc
whole-good m k s (InBody d ∷ []) t v a b =
    same-good (spell_program (define d s)) (stack_spell (InBody d ∷ []) ++ spell_stmt s) k (begin_declaration m k (FileScope (define d s))) (define-spelled d s)
    (begin-declaration-good m k (FileScope (define d s)) t (define-valid d s b v a) (λ x. tt))
whole-good m k s (InBody d ∷ (f ∷ fs)) t v a b = absurd b.0
whole-good m k s (InIf f n c ∷ fs) t v a b = tt
whole-good m k s (InElse f n c x ∷ fs) t v a b = tt
whole-good m k s (InWhile f n c ∷ fs) t v a b = tt
whole-good m k s (InFor f n i c x ∷ fs) t v a b = tt

reduced-good : (m : Mark) (k : TokenKind) (s : StmtTree) (fs : List PendingStmt) → IsOfSource k → ValidStmt s → Takes fs s → Stands fs
    → Good (stack_spell fs ++ spell_stmt s) k (after_whole m k (reduce s fs).0 (reduce s fs).1)
reduced-good m k s fs t v a b =
    let r = stmt-kept s fs v a b in
    same-good (stack_spell (reduce s fs).1 ++ spell_stmt (reduce s fs).0) (stack_spell fs ++ spell_stmt s) k (after_whole m k (reduce s fs).0 (reduce s fs).1) r.spelled
    (whole-good m k (reduce s fs).0 (reduce s fs).1 t r.valid r.takes r.stands)

done-good : (m : Mark) (k : TokenKind) (s : StmtTree) (fs : List PendingStmt) → IsOfSource k → ValidStmt s → Takes fs s → Stands fs → ends_in_if s ≡ false
    → Good (stack_spell fs ++ spell_stmt s) k (done m k s fs)
done-good m (kind.Word word.Else) s fs t v a b e = else-good s fs v a b e
done-good m (kind.Word w) s fs t v a b e = reduced-good m (kind.Word w) s fs t v a b
done-good m k s fs t v a b e = reduced-good m k s fs t v a b

semi-stmt-good : (k : TokenKind) (s : StmtTree) (fs : List PendingStmt) → SemiOk s → TakesStmt fs → Stands fs → Good (stack_spell fs ++ semi_spell s) k (at_semi k (Done s fs))
semi-stmt-good k (StmtTree.Break f n) fs v a b = semi-good (stack_spell fs ++ kind.Word word.Break ∷ []) k (Done (StmtTree.Break f n) fs) ((tt, takes-any fs (StmtTree.Break f n) a, b, refl), last (stack_spell fs) (kind.Word word.Break ∷ []) (kind.Sign sign.Semi))
semi-stmt-good k (StmtTree.Continue f n) fs v a b = semi-good (stack_spell fs ++ kind.Word word.Continue ∷ []) k (Done (StmtTree.Continue f n) fs) ((tt, takes-any fs (StmtTree.Continue f n) a, b, refl), last (stack_spell fs) (kind.Word word.Continue ∷ []) (kind.Sign sign.Semi))
semi-stmt-good k (StmtTree.Do f n s c) fs v a b =
    semi-good (stack_spell fs ++ semi_spell (StmtTree.Do f n s c)) k (Done (StmtTree.Do f n s c) fs)
    ((v, takes-any fs (StmtTree.Do f n s c) a, b, refl), groups (stack_spell fs) (kind.Word word.Do) (spell_stmt s) while_open (spell c) (kind.Sign sign.CloseParen) (kind.Sign sign.Semi))
  where
    groups : (a : List TokenKind) (d : TokenKind) (s w c : List TokenKind) (p k : TokenKind) → a ++ d ∷ (s ++ (w ++ (c ++ p ∷ (k ∷ [])))) ≡ (a ++ d ∷ (s ++ (w ++ (c ++ p ∷ [])))) ++ k ∷ []
    groups a d s w c p k = simp append_assoc
semi-stmt-good k s fs v a b = absurd v

opening-good : (k : TokenKind) (u : ExprContext) → IsTest u → ContextOk u → Good (opening_spell u) k (at_open k (Reading u (reader.BeforeOperand [])))
opening-good k (IfTest f n fs) i ok = open-good (opening_spell (IfTest f n fs)) k (Reading (IfTest f n fs) (reader.BeforeOperand [])) ((ok, (tt, omega arith)), groups (stack_spell fs) (kind.Word word.If) (kind.Sign sign.OpenParen))
  where
    groups : (a : List TokenKind) (w k : TokenKind) → (a ++ w ∷ (k ∷ [])) ++ [] ≡ (a ++ w ∷ []) ++ k ∷ []
    groups a w k = append-nil (a ++ w ∷ (k ∷ [])) ∙ simp append_assoc
opening-good k (WhileTest f n fs) i ok = open-good (opening_spell (WhileTest f n fs)) k (Reading (WhileTest f n fs) (reader.BeforeOperand [])) ((ok, (tt, omega arith)), groups (stack_spell fs) (kind.Word word.While) (kind.Sign sign.OpenParen))
  where
    groups : (a : List TokenKind) (w k : TokenKind) → (a ++ w ∷ (k ∷ [])) ++ [] ≡ (a ++ w ∷ []) ++ k ∷ []
    groups a w k = append-nil (a ++ w ∷ (k ∷ [])) ∙ simp append_assoc
opening-good k (DoTest f n s fs) i ok = open-good (opening_spell (DoTest f n s fs)) k (Reading (DoTest f n s fs) (reader.BeforeOperand [])) ((ok, (tt, omega arith)), groups (stack_spell fs) (kind.Word word.Do) (spell_stmt s) (kind.Word word.While) (kind.Sign sign.OpenParen))
  where
    groups : (a : List TokenKind) (d : TokenKind) (s : List TokenKind) (w k : TokenKind) → (a ++ d ∷ (s ++ w ∷ (k ∷ []))) ++ [] ≡ (a ++ d ∷ (s ++ w ∷ [])) ++ k ∷ []
    groups a d s w k = append-nil (a ++ d ∷ (s ++ w ∷ (k ∷ []))) ∙ simp append_assoc
opening-good k u i ok = absurd i

pub program-shift-good : (m : Mark) (k : TokenKind) (s : State) → IsOfSource k → StateOk s → Good (state_spell s) k (shift m k s)
program-shift-good m k (Items items) t ok = begin-declaration-good m k (FileScope items) t ok (λ b. tt)
program-shift-good m k (Specifying u s) t ok = specify-good m k u s t ok.0 ok.1
program-shift-good m k (Declare d n) t ok = declare-good m k d n t ok
program-shift-good m k (Dims h ds) t ok = dims-good k h ds ok.0 ok.1
program-shift-good m k (Optional u) t ok = optional-good m k u t ok
program-shift-good m k (Reading u s) t ok = read-good m k u s t ok.0 ok.1
program-shift-good m k (Init x is) t ok = begin-init-good m k x is t ok.0 ok.1
program-shift-good m k (AfterInit x is i) t ok = initialised-good k x is i ok.0 ok.1 ok.2
program-shift-good m k (Params l) t ok = first-param-good m k l t ok.0 ok.1
program-shift-good m k (NextParam l) t ok = begin-param-good m k l t ok
program-shift-good m k (Param l f n s i) t ok = param-good m k l f n s i t ok.0 ok.1
program-shift-good m k (Closed x ps) t ok = closed-good m k x ps ok.0 ok.1 ok.2
program-shift-good m k (Begin fs) t ok = begin-good m k fs t ok.0 ok.1
program-shift-good m k (Opening u) t ok = opening-good k u ok.0 ok.1
program-shift-good m k (ForWord f n fs) t ok = open-good (stack_spell fs ++ kind.Word word.For ∷ []) k (ForOpen f n fs) (ok, last (stack_spell fs) (kind.Word word.For ∷ []) (kind.Sign sign.OpenParen))
program-shift-good m k (ForOpen f n fs) t ok = for-good m k f n fs t ok.0 ok.1
program-shift-good m k (Semi s fs) t ok = semi-stmt-good k s fs ok.0 ok.1 ok.2
program-shift-good m k (Done s fs) t ok = done-good m k s fs t ok.0 ok.1 ok.2 ok.3
