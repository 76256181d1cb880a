-- What an expression is read for, and what may stand on pending statements: each shift keeps the shape of what the machine holds
-- and spells one token more.
use Rattle.std.proofs.Common.{◌≡◌, ℕ, ◌≤◌, List, [], ◌∷◌, ◌++◌, Option, Some, None, refl, sym, ◌∙◌, ap, subst, arith, append_assoc, append-nil}
use Rattle.std.specs.List.{AllByRecursion}
use Rattle.ob_tree.specs.declared.tokens.TokenKind.{TokenKind}
use Rattle.ob_tree.specs.declared.tokens.TokenKind.TheVariants as kind
use Rattle.ob_tree.specs.declared.tokens.Keyword.TheVariants as word
use Rattle.ob_tree.specs.declared.tokens.Sign.TheVariants as sign
use Rattle.ob_tree.specs.Trees.{Mark, ExprTree, DimTrees, InitTree}
use Rattle.ob_tree.specs.Programs.{StartTree, StmtTree, BlockTrees}
use Rattle.ob_tree.specs.Spelling.{spell, spell_dims}
use Rattle.ob_tree.specs.ProgramSpelling.{spell_option, spell_start, spell_stmt}
use Rattle.ob_tree.specs.Valid.{ValidInits, IsOfSource, IsOf}
use Rattle.ob_tree.specs.ProgramValid.{ValidOption}
use Rattle.ob_tree.specs.ExprMachine as reader
use Rattle.ob_tree.specs.ProgramStates.{PendingStmt, InBody, InBlock, InIf, InElse, InWhile, InDo, InFor, Head, InitDeclarator, InitList, ExprContext, Statement, IfTest, WhileTest, DoTest, ForStart, ForTest, ForNext, Return, Length, Item, State, Dims, Optional, Begin, Semi, Done}
use Rattle.ob_tree.specs.ProgramParts.{at_semi, at_open, at_close, at_bracket, at_while}
use Rattle.ob_tree.specs.ProgramMachine.{context_level, first_length, used, read_to, read_whole, read, optional_to, optional, begin_init}
use Rattle.ob_tree.proofs.ProgramInits.{AtLevel}
use Rattle.ob_exprs.proofs.Adding.{dims-added}
use Rattle.ob_exprs.proofs.Kept.{reduce-kept}
use Rattle.ob_exprs.proofs.Shapes as expr
use Rattle.ob_exprs.proofs.Sound as expr_sound
use Rattle.ob_exprs.proofs.SoundSpecs.{shift-good}
use Rattle.ob_parser.proofs.Shapes.{if_open, while_open, for_open, stack_spell, head_spell, lists_spell, context_spell, TakesStmt, Takes, IsUnder, HeadOk, InitDeclaratorOk, ContextOk}
use Rattle.ob_parser.proofs.Adding.{open-valid}
use Rattle.ob_parser.proofs.Sound.{Good, same-good}
use Rattle.ob_parser.proofs.SoundDeclarations.{initialised-good, comma-good}

-- a token that has to be this one
pub semi-good : (read : List TokenKind) (k : TokenKind) (s : State) → Good read (kind.Sign sign.Semi) (Some s) → Good read k (at_semi k s)
semi-good read (kind.Sign sign.Semi) s g = g
semi-good read (kind.Sign x) s g = tt
semi-good read k s g = tt

pub open-good : (read : List TokenKind) (k : TokenKind) (s : State) → Good read (kind.Sign sign.OpenParen) (Some s) → Good read k (at_open k s)
open-good read (kind.Sign sign.OpenParen) s g = g
open-good read (kind.Sign x) s g = tt
open-good read k s g = tt

close-good : (read : List TokenKind) (k : TokenKind) (s : State) → Good read (kind.Sign sign.CloseParen) (Some s) → Good read k (at_close k s)
close-good read (kind.Sign sign.CloseParen) s g = g
close-good read (kind.Sign x) s g = tt
close-good read k s g = tt

bracket-good : (read : List TokenKind) (k : TokenKind) (s : State) → Good read (kind.Sign sign.CloseBracket) (Some s) → Good read k (at_bracket k s)
bracket-good read (kind.Sign sign.CloseBracket) s g = g
bracket-good read (kind.Sign x) s g = tt
bracket-good read k s g = tt

pub while-good : (read : List TokenKind) (k : TokenKind) (s : State) → Good read (kind.Word word.While) (Some s) → Good read k (at_while k s)
while-good read (kind.Word word.While) s g = g
while-good read (kind.Word x) s g = tt
while-good read k s g = tt

-- What may stand on pending statements.
pub takes-any : (fs : List PendingStmt) (s : StmtTree) → TakesStmt fs → Takes fs s
takes-any [] s h = absurd h
takes-any (InBody d ∷ fs) s h = absurd h
takes-any (InBlock f n items ∷ fs) s h = tt
takes-any (InIf f n c ∷ fs) s h = tt
takes-any (InElse f n c x ∷ fs) s h = tt
takes-any (InWhile f n c ∷ fs) s h = tt
takes-any (InDo f n ∷ fs) s h = tt
takes-any (InFor f n i c x ∷ fs) s h = tt

pub takes-block : (fs : List PendingStmt) (f n : ℕ) (items : BlockTrees) → IsUnder fs → Takes fs (StmtTree.Block f n items)
takes-block [] f n items h = absurd h
takes-block (InBody d ∷ fs) f n items h = tt
takes-block (InBlock g m xs ∷ fs) f n items h = tt
takes-block (InIf g m c ∷ fs) f n items h = tt
takes-block (InElse g m c x ∷ fs) f n items h = tt
takes-block (InWhile g m c ∷ fs) f n items h = tt
takes-block (InDo g m ∷ fs) f n items h = tt
takes-block (InFor g m i c x ∷ fs) f n items h = tt

pub takes-under : (fs : List PendingStmt) → TakesStmt fs → IsUnder fs
takes-under [] h = absurd h
takes-under (f ∷ fs) h = tt

-- What an expression is read for.
valid-option : (e : Option ExprTree) → AtLevel 0 e → ValidOption e
valid-option None v = tt
valid-option (Some e) v = v.0

pub last : (a b : List TokenKind) (k : TokenKind) → a ++ (b ++ k ∷ []) ≡ (a ++ b) ++ k ∷ []
last a b k = sym (append_assoc a b (k ∷ []))

first-length-good : (k : TokenKind) (h : Head) (ds : DimTrees) → HeadOk h → Good (context_spell (Length h ds)) k (first_length k h ds)
first-length-good k h DimTrees.NoDims ok =
    bracket-good (context_spell (Length h DimTrees.NoDims)) k (Dims h (DimTrees.Unsized DimTrees.NoDims)) ((ok, tt), last (head_spell h) (kind.Sign sign.OpenBracket ∷ []) (kind.Sign sign.CloseBracket))
first-length-good k h (DimTrees.Unsized ds) ok = tt
first-length-good k h (DimTrees.Sized e ds) ok = tt

used-good : (k : TokenKind) (u : ExprContext) (e : Option ExprTree) → ContextOk u → AtLevel (context_level u) e → Good (context_spell u ++ spell_option e) k (used k u e)
used-good k (Statement f n fs) e ok v =
    semi-good (stack_spell fs ++ spell_option e) k (Done (StmtTree.Expr f n e) fs)
    ((valid-option e v, takes-any fs (StmtTree.Expr f n e) ok.0, ok.1, refl), last (stack_spell fs) (spell_option e) (kind.Sign sign.Semi))
used-good k (ForStart f n fs) e ok v =
    semi-good (context_spell (ForStart f n fs) ++ spell_option e) k (Optional (ForTest f n (StartTree.Expr e) fs))
    ((ok.0, ok.1, valid-option e v), groups (stack_spell fs) for_open (spell_option e) (kind.Sign sign.Semi))
  where
    groups : (a b c : List TokenKind) (k : TokenKind) → a ++ (b ++ (c ++ k ∷ [])) ≡ ((a ++ b) ++ c) ++ k ∷ []
    groups a b c k = simp append_assoc
used-good k (ForTest f n start fs) e ok v =
    semi-good (context_spell (ForTest f n start fs) ++ spell_option e) k (Optional (ForNext f n start e fs))
    ((ok.0, ok.1, ok.2, valid-option e v), groups (stack_spell fs) for_open (spell_start start) (spell_option e) (kind.Sign sign.Semi))
  where
    groups : (a b c d : List TokenKind) (k : TokenKind) → a ++ (b ++ (c ++ (d ++ k ∷ []))) ≡ ((a ++ (b ++ c)) ++ d) ++ k ∷ []
    groups a b c d k = simp append_assoc
used-good k (ForNext f n start test fs) e ok v =
    close-good (context_spell (ForNext f n start test fs) ++ spell_option e) k (Begin (InFor f n start test e ∷ fs))
    ((tt, (ok.2, ok.0, ok.1, ok.3, valid-option e v)), groups (stack_spell fs) for_open (spell_start start) (spell_option test) (kind.Sign sign.Semi) (spell_option e) (kind.Sign sign.CloseParen))
  where
    groups : (a b c d : List TokenKind) (s : TokenKind) (e : List TokenKind) (k : TokenKind) → a ++ (b ++ (c ++ (d ++ s ∷ (e ++ k ∷ [])))) ≡ ((a ++ (b ++ (c ++ (d ++ s ∷ [])))) ++ e) ++ k ∷ []
    groups a b c d s e k = simp append_assoc
used-good k (Return f n fs) e ok v =
    semi-good (context_spell (Return f n fs) ++ spell_option e) k (Done (StmtTree.Return f n e) fs)
    ((valid-option e v, takes-any fs (StmtTree.Return f n e) ok.0, ok.1, refl), groups (stack_spell fs) (kind.Word word.Return) (spell_option e) (kind.Sign sign.Semi))
  where
    groups : (a : List TokenKind) (r : TokenKind) (c : List TokenKind) (k : TokenKind) → a ++ r ∷ (c ++ k ∷ []) ≡ ((a ++ r ∷ []) ++ c) ++ k ∷ []
    groups a r c k = simp append_assoc
used-good k (IfTest f n fs) (Some e) ok v =
    close-good (context_spell (IfTest f n fs) ++ spell e) k (Begin (InIf f n e ∷ fs))
    ((tt, (v.0, ok.0, ok.1)), groups (stack_spell fs) if_open (spell e) (kind.Sign sign.CloseParen))
  where
    groups : (a b c : List TokenKind) (k : TokenKind) → a ++ (b ++ (c ++ k ∷ [])) ≡ ((a ++ b) ++ c) ++ k ∷ []
    groups a b c k = simp append_assoc
used-good k (WhileTest f n fs) (Some e) ok v =
    close-good (context_spell (WhileTest f n fs) ++ spell e) k (Begin (InWhile f n e ∷ fs))
    ((tt, (v.0, ok.0, ok.1)), groups (stack_spell fs) while_open (spell e) (kind.Sign sign.CloseParen))
  where
    groups : (a b c : List TokenKind) (k : TokenKind) → a ++ (b ++ (c ++ k ∷ [])) ≡ ((a ++ b) ++ c) ++ k ∷ []
    groups a b c k = simp append_assoc
used-good k (DoTest f n s fs) (Some e) ok v =
    close-good (context_spell (DoTest f n s fs) ++ spell e) k (Semi (StmtTree.Do f n s e) fs)
    (((ok.2, v.0), ok.0, ok.1), groups (stack_spell fs) (kind.Word word.Do) (spell_stmt s) while_open (spell e) (kind.Sign sign.CloseParen))
  where
    groups : (a : List TokenKind) (d : TokenKind) (s w c : List TokenKind) (k : TokenKind) → a ++ d ∷ (s ++ (w ++ (c ++ k ∷ []))) ≡ ((a ++ d ∷ (s ++ w)) ++ c) ++ k ∷ []
    groups a d s w c k = simp append_assoc
used-good k (Length h ds) (Some e) ok v =
    bracket-good (context_spell (Length h ds) ++ spell e) k (Dims h (reader.add_dim ds e))
    ((ok.0, open-valid ds e ok.1 v), ap (λ ks. head_spell h ++ ks) (dims-added ds e) ∙ groups (head_spell h) (spell_dims ds) (kind.Sign sign.OpenBracket) (spell e) (kind.Sign sign.CloseBracket))
  where
    groups : (a b : List TokenKind) (o : TokenKind) (c : List TokenKind) (k : TokenKind) → a ++ (b ++ o ∷ (c ++ k ∷ [])) ≡ ((a ++ (b ++ o ∷ [])) ++ c) ++ k ∷ []
    groups a b o c k = simp append_assoc
used-good k (Length h ds) None ok v = same-good (context_spell (Length h ds)) (context_spell (Length h ds) ++ []) k (first_length k h ds) (sym (append-nil (context_spell (Length h ds)))) (first-length-good k h ds ok.0)
used-good k (Item t is) (Some e) ok v = initialised-good k t is (InitTree.Value e) ok.0 ok.1 v
used-good k (Item t is) None ok v = same-good (lists_spell t is) (lists_spell t is ++ []) k (used k (Item t is) None) (sym (append-nil (lists_spell t is))) (comma-good k t is ok.0 ok.1)
used-good k (IfTest f n fs) None ok v = tt
used-good k (WhileTest f n fs) None ok v = tt
used-good k (DoTest f n s fs) None ok v = tt

pub use-low : (u : ExprContext) → context_level u ≤ 2
use-low (Length h ds) = omega arith
use-low (Item t is) = omega arith
use-low (Statement f n fs) = omega arith
use-low (IfTest f n fs) = omega arith
use-low (WhileTest f n fs) = omega arith
use-low (DoTest f n s fs) = omega arith
use-low (ForStart f n fs) = omega arith
use-low (ForTest f n s fs) = omega arith
use-low (ForNext f n s t fs) = omega arith
use-low (Return f n fs) = omega arith

-- what a whole expression spells
pub record IsRead (level : ℕ) (s : reader.State) (e : ExprTree) : Type 0 where
  pub of : IsOf level e
  pub spelled : spell e ≡ expr.state_spell s

whole-read : (level : ℕ) (s : reader.State) (r : ExprTree × List reader.PendingNode) (e : ExprTree) → IsOf (reader.top_operand_level level r.1) r.0 → expr.stack_spell r.1 ++ spell r.0 ≡ expr.state_spell s
    → reader.whole_of r ≡ Some e → IsRead level s e
whole-read level s (x, []) e v g h =
    let q : x ≡ e = cc in record { of = subst (IsOf level) q v; spelled = subst (λ y. spell y ≡ expr.state_spell s) q g }
whole-read level s (x, f ∷ fs) e v g h = let n : None ≡ Some e = h in cc

pub finish-read : (level : ℕ) (s : reader.State) (e : ExprTree) → expr.StateOk level s → reader.finish s ≡ Some e → IsRead level s e
finish-read level (reader.AfterOperand x fs) e ok h =
    let k = reduce-kept level 0 x fs ok.0 ok.1 in whole-read level (reader.AfterOperand x fs) (reader.reduce 0 x fs) e k.of k.spelled h
finish-read level s e ok h = let n : None ≡ Some e = h in cc

pub read-good : (m : Mark) (k : TokenKind) (u : ExprContext) (s : reader.State) → IsOfSource k → ContextOk u → expr.StateOk (context_level u) s
    → Good (context_spell u ++ expr.state_spell s) k (read m k u s)
read-good m k u s t ok v = go (reader.shift (context_level u) m k s) (shift-good (context_level u) (λ _. use-low u) m k s t v)
  where
    ends : (o : Option ExprTree) → ((e : ExprTree) → o ≡ Some e → IsRead (context_level u) s e) → Good (context_spell u ++ expr.state_spell s) k (read_whole k u o)
    ends None f = tt
    ends (Some e) f =
        let r = f e refl in
        same-good (context_spell u ++ spell e) (context_spell u ++ expr.state_spell s) k (used k u (Some e)) (ap (λ ks. context_spell u ++ ks) r.spelled) (used-good k u (Some e) ok r.of)

    go : (o : Option reader.State) → expr_sound.Good (context_level u) (expr.state_spell s) k o → Good (context_spell u ++ expr.state_spell s) k (read_to k u s o)
    go (Some x) g = ((ok, g.0), ap (λ ks. context_spell u ++ ks) g.1 ∙ sym (append_assoc (context_spell u) (expr.state_spell s) (k ∷ [])))
    go None g = ends (reader.finish s) (λ e h. finish-read (context_level u) s e v h)

pub optional-good : (m : Mark) (k : TokenKind) (u : ExprContext) → IsOfSource k → ContextOk u → Good (context_spell u) k (optional m k u)
optional-good m k u t ok =
    go (used k u None) (same-good (context_spell u ++ []) (context_spell u) k (used k u None) (append-nil (context_spell u)) (used-good k u None ok tt))
    (same-good (context_spell u ++ []) (context_spell u) k (read m k u (reader.BeforeOperand [])) (append-nil (context_spell u)) (read-good m k u (reader.BeforeOperand []) t ok (tt, omega (arith, use-low u))))
  where
    go : (o : Option State) → Good (context_spell u) k o → Good (context_spell u) k (read m k u (reader.BeforeOperand [])) → Good (context_spell u) k (optional_to m k u o)
    go (Some s) g h = g
    go None g h = h

pub begin-init-good : (m : Mark) (k : TokenKind) (t : InitDeclarator) (is : List InitList) → IsOfSource k → InitDeclaratorOk t → AllByRecursion (λ b. ValidInits b.items) is
    → Good (lists_spell t is) k (begin_init m k t is)
begin-init-good m (kind.Sign sign.OpenBrace) t is x ok v = ((ok, (tt, v)), refl)
begin-init-good m (kind.Sign s) t is x ok v = optional-good m (kind.Sign s) (Item t is) x (ok, v)
begin-init-good m k t is x ok v = optional-good m k (Item t is) x (ok, v)
