-- A shift adds no more nodes to a path than those on the path to what it reads.
use Rattle.std.proofs.Common.{◌≡◌, ℕ, ◌+◌, ◌≤◌, List, [], ◌∷◌, length, Bool, true, false, Option, Some, None, refl, sym, ap, subst, arith}
use Rattle.std.specs.Prelude.{cond}
use Rattle.ob_tree.specs.declared.tokens.TokenKind.{TokenKind}
use Rattle.ob_tree.specs.declared.tokens.TokenKind.TheVariants as kind
use Rattle.ob_tree.specs.declared.tokens.Keyword.{Keyword}
use Rattle.ob_tree.specs.declared.tokens.Keyword.TheVariants as word
use Rattle.ob_tree.specs.declared.tokens.Sign.TheVariants as sign
use Rattle.ob_tree.specs.Trees.{Mark, ExprTree, SpecTree, DimTrees, InitTree}
use Rattle.ob_tree.specs.Programs.{StmtTree, BlockTrees, ParamTree, ParamsTree, ItemTree}
use Rattle.ob_tree.specs.Paths.{height_spec, height_init}
use Rattle.ob_tree.specs.ProgramPaths.{height_option, height_param}
use Rattle.ob_tree.specs.ExprMachine as reader
use Rattle.ob_tree.specs.ProgramStates.{PendingStmt, InBody, InBlock, InIf, InElse, InWhile, InDo, InFor, Scope, FileScope, BlockScope, ForScope, Heading, Declaration, Declarator, ParamList, Head, OfName, OfParam, InitDeclarator, InitList, SpecContext, ForDeclaration, ForParam, ExprContext, Statement, IfTest, WhileTest, DoTest, ForStart, ForTest, ForNext, Return, Length, Item, State, Items, Specifying, Declare, Dims, Optional, Reading, Init, AfterInit, Params, NextParam, Param, Closed, Begin, Opening, ForWord, ForOpen, Semi, Done}
use Rattle.ob_tree.specs.ProgramParts.{at_semi, at_open, at_close, at_bracket, at_brace, at_while, add_statement, add_init, add_name, add_param, declares_tag, has_lengths, has_dims, has_items, bare, initial, function}
use Rattle.ob_tree.specs.ProgramMachine.{end_declaration, next_name, declare, first_name, parameters, after_name, next_param, after_dims, param, specified, specify_to, specify, heading, begin_declaration, begin_body, closed, next_init, initialised, last_comma, context_level, first_length, used, read_to, read, optional_to, optional, begin_init, statement_word, statement, begins_declaration, block_item, begin, for_start, to_else, reduce, define, after_whole, done, shift}
use Rattle.ob_exprs.proofs.Heights.{dims-height}
use Rattle.ob_parser.specs.DeepestPaths.{deepest_stack_path, scope_depth, scope_path, depth_in, declaration_path, declarator_path, param_list_path, init_declarator_depth, lists_path, spec_depth, spec_path, context_depth, context_path, deepest_path, newest_path}
use Rattle.ob_parser.proofs.Adding.{statement-height, item-height, name-height, list-height, params-height, init-height}
use Rattle.ob_parser.proofs.ReachNames.{end-path}
use Rattle.ob_parser.proofs.CompleteStates.{stmt-some}
use Rattle.ob_parser.proofs.Exact.{reduce-path}

-- where all nodes before and those on the newest_path path keep the limit m, all do
abbrev pub Light : (m : ℕ) → Option State → Type 0
Light m None = Unit {0}
Light m (Some t) = newest_path t ≤ m → deepest_path t ≤ m

cond-light : (m : ℕ) (b : Bool) (o : Option State) → Light m o → Light m (cond b o None)
cond-light m true o l = l
cond-light m false o l = tt

either-light : (m : ℕ) (b : Bool) (x y : Option State) → Light m x → Light m y → Light m (cond b x y)
either-light m true x y l r = l
either-light m false x y l r = r

-- a token that has to be this one
semi-light : (m : ℕ) (k : TokenKind) (s : State) → Light m (Some s) → Light m (at_semi k s)
semi-light m (kind.Sign sign.Semi) s l = l
semi-light m (kind.Sign x) s l = tt
semi-light m k s l = tt

open-light : (m : ℕ) (k : TokenKind) (s : State) → Light m (Some s) → Light m (at_open k s)
open-light m (kind.Sign sign.OpenParen) s l = l
open-light m (kind.Sign x) s l = tt
open-light m k s l = tt

close-light : (m : ℕ) (k : TokenKind) (s : State) → Light m (Some s) → Light m (at_close k s)
close-light m (kind.Sign sign.CloseParen) s l = l
close-light m (kind.Sign x) s l = tt
close-light m k s l = tt

bracket-light : (m : ℕ) (k : TokenKind) (s : State) → Light m (Some s) → Light m (at_bracket k s)
bracket-light m (kind.Sign sign.CloseBracket) s l = l
bracket-light m (kind.Sign x) s l = tt
bracket-light m k s l = tt

brace-light : (m : ℕ) (k : TokenKind) (s : State) → Light m (Some s) → Light m (at_brace k s)
brace-light m (kind.Sign sign.CloseBrace) s l = l
brace-light m (kind.Sign x) s l = tt
brace-light m k s l = tt

while-light : (m : ℕ) (k : TokenKind) (s : State) → Light m (Some s) → Light m (at_while k s)
while-light m (kind.Word word.While) s l = l
while-light m (kind.Word x) s l = tt
while-light m k s l = tt

-- Declarators.
next-light : (m : ℕ) (k : TokenKind) (d : Declaration) → declaration_path d ≤ m → Light m (next_name k d)
next-light m (kind.Sign sign.Comma) d l = λ n. omega (arith, l, n)
next-light m (kind.Sign sign.Semi) d l = let h = d.heading in λ n. end-path m h.scope h.first h.line h.fixed d.spec d.names l
next-light m (kind.Sign x) d l = tt
next-light m k d l = tt

pub declare-light : (m : ℕ) (p : Mark) (k : TokenKind) (d : Declaration) (n : ℕ) → declaration_path d ≤ m → depth_in d + n ≤ m → Light m (declare p k d n)
declare-light m p (kind.Sign sign.Star) d n l a = λ z. omega (arith, l, z)
declare-light m p (kind.Name name) d n l a = λ z. omega (arith, l, a)
declare-light m p (kind.Sign x) d n l a = tt
declare-light m p k d n l a = tt

first-light : (m : ℕ) (p : Mark) (k : TokenKind) (h : Heading) (s : SpecTree) → scope_path h.scope ≤ m → scope_depth h.scope + 1 + height_spec s ≤ m
    → Light m (first_name p k (record { heading = h; spec = s; names = [] }))
first-light m p (kind.Sign sign.Semi) h s l a =
    let d : Declaration = record { heading = h; spec = s; names = [] } in
    cond-light m (declares_tag s) (Some (end_declaration d)) (λ n. end-path m h.scope h.first h.line h.fixed s [] (omega (arith, l, a)))
first-light m p (kind.Sign x) h s l a = declare-light m p (kind.Sign x) (record { heading = h; spec = s; names = [] }) 0 (omega (arith, l, a)) (omega (arith, a))
first-light m p k h s l a = declare-light m p k (record { heading = h; spec = s; names = [] }) 0 (omega (arith, l, a)) (omega (arith, a))

parameters-light : (m : ℕ) (o : Scope) (x : Declarator) → declarator_path x ≤ m → Light m (parameters o x)
parameters-light m (FileScope items) x l = λ n. omega (arith, l)
parameters-light m (BlockScope f n items fs) x l = tt
parameters-light m (ForScope f n fs) x l = tt

call-light : (m : ℕ) (x : Declarator) (ds : DimTrees) → declarator_path x ≤ m → Light m (cond (has_dims ds) None (parameters x.declaration.heading.scope x))
call-light m x ds l = either-light m (has_dims ds) None (parameters x.declaration.heading.scope x) tt (parameters-light m x.declaration.heading.scope x l)

bare-light : (m : ℕ) (k : TokenKind) (x : Declarator) (ds : DimTrees) → deepest_path (Dims (OfName x) ds) ≤ m
    → Light m (cond (has_lengths ds) (next_name k (add_name x.declaration (bare x ds))) None)
bare-light m k x ds l =
    cond-light m (has_lengths ds) (next_name k (add_name x.declaration (bare x ds)))
    (next-light m k (add_name x.declaration (bare x ds)) (omega (arith, l, name-height x.declaration.names (bare x ds))))

name-light : (m : ℕ) (k : TokenKind) (x : Declarator) (ds : DimTrees) → deepest_path (Dims (OfName x) ds) ≤ m → Light m (after_name k x ds)
name-light m (kind.Sign sign.OpenBracket) x ds l = λ n. omega (arith, l, n)
name-light m (kind.Sign sign.Assign) x ds l = λ n. omega (arith, l)
name-light m (kind.Sign sign.OpenParen) x ds l = call-light m x ds (omega (arith, l))
name-light m (kind.Sign s) x ds l = bare-light m (kind.Sign s) x ds l
name-light m k x ds l = bare-light m k x ds l

-- Parameters.
next-param-light : (m : ℕ) (k : TokenKind) (l : ParamList) (x : ParamTree) → param_list_path l ≤ m → depth_in l.function.declaration + height_param x ≤ m
    → Light m (next_param k (add_param l x))
next-param-light m (kind.Sign sign.Comma) l x a b = λ n. omega (arith, a, b, list-height l.params x)
next-param-light m (kind.Sign sign.CloseParen) l x a b = λ n. omega (arith, a, b, params-height l.params x)
next-param-light m (kind.Sign s) l x a b = tt
next-param-light m k l x a b = tt

param-dims-light : (m : ℕ) (k : TokenKind) (l : ParamList) (f n : ℕ) (s : SpecTree) (i : ℕ) (name : Option (List ℕ)) (a : ℕ) (ds : DimTrees) → deepest_path (Dims (OfParam l f n s i name a) ds) ≤ m
    → Light m (after_dims k (OfParam l f n s i name a) ds)
param-dims-light m (kind.Sign sign.OpenBracket) l f n s i name a ds b = λ z. omega (arith, b, z)
param-dims-light m (kind.Sign x) l f n s i name a ds b =
    next-param-light m (kind.Sign x) l (record { first = f; line = n; spec = s; stars = i; name = name; at = a; dims = ds }) (omega (arith, b)) (omega (arith, b))
param-dims-light m k l f n s i name a ds b =
    next-param-light m k l (record { first = f; line = n; spec = s; stars = i; name = name; at = a; dims = ds }) (omega (arith, b)) (omega (arith, b))

pub dims-light : (m : ℕ) (k : TokenKind) (h : Head) (ds : DimTrees) → deepest_path (Dims h ds) ≤ m → Light m (after_dims k h ds)
dims-light m k (OfName x) ds l = name-light m k x ds l
dims-light m k (OfParam l f n s i name a) ds b = param-dims-light m k l f n s i name a ds b

pub param-light : (m : ℕ) (p : Mark) (k : TokenKind) (l : ParamList) (f n : ℕ) (s : SpecTree) (i : ℕ) → deepest_path (Param l f n s i) ≤ m → Light m (param p k l f n s i)
param-light m p (kind.Sign sign.Star) l f n s i b = λ z. omega (arith, b, z)
param-light m p (kind.Name name) l f n s i b = λ z. omega (arith, b)
param-light m p (kind.Sign x) l f n s i b = dims-light m (kind.Sign x) (OfParam l f n s i None f) DimTrees.NoDims (omega (arith, b))
param-light m p k l f n s i b = dims-light m k (OfParam l f n s i None f) DimTrees.NoDims (omega (arith, b))

pub specified-light : (m : ℕ) (p : Mark) (k : TokenKind) (u : SpecContext) (s : SpecTree) → spec_path u ≤ m → spec_depth u + height_spec s ≤ m → Light m (specified p k u (Some s))
specified-light m p k (ForDeclaration h) s a b = first-light m p k h s (omega (arith, a)) (omega (arith, b))
specified-light m p k (ForParam l f n) s a b = param-light m p k l f n s 0 (omega (arith, a, b))

-- Behind the parameters of a function.
body-light : (m : ℕ) (p : Mark) (o : Scope) (x : Declarator) (ps : ParamsTree) → deepest_path (Closed x ps) ≤ m → o ≡ x.declaration.heading.scope → Light m (begin_body p o x ps)
body-light m p (BlockScope f n items fs) x ps l e = tt
body-light m p (ForScope f n fs) x ps l e = tt
body-light m p (FileScope items) x ps l e = λ z. omega (arith, l, z, ap scope_path e, ap scope_depth e)

closed-name : (m : ℕ) (k : TokenKind) (x : Declarator) (ps : ParamsTree) → deepest_path (Closed x ps) ≤ m → Light m (next_name k (add_name x.declaration (function x ps)))
closed-name m k x ps l = next-light m k (add_name x.declaration (function x ps)) (omega (arith, l, name-height x.declaration.names (function x ps)))

pub closed-light : (m : ℕ) (p : Mark) (k : TokenKind) (x : Declarator) (ps : ParamsTree) → deepest_path (Closed x ps) ≤ m → Light m (closed p k x ps)
closed-light m p (kind.Sign sign.OpenBrace) x ps l =
    cond-light m _ (begin_body p x.declaration.heading.scope x ps) (body-light m p x.declaration.heading.scope x ps l refl)
closed-light m p (kind.Sign s) x ps l = closed-name m (kind.Sign s) x ps l
closed-light m p k x ps l = closed-name m k x ps l

-- Initialisers.
list-light : (m : ℕ) (k : TokenKind) (t : InitDeclarator) (is : List InitList) (b : InitList) (i : InitTree) → lists_path t (b ∷ is) ≤ m → init_declarator_depth t + (length is + 1 + height_init i) ≤ m
    → Light m (next_init k t is (record { first = b.first; items = add_init b.items i }))
list-light m (kind.Sign sign.Comma) t is b i l h = λ n. omega (arith, l, h, init-height b.items i)
list-light m (kind.Sign sign.CloseBrace) t is b i l h = λ n. omega (arith, l, h, init-height b.items i)
list-light m (kind.Sign x) t is b i l h = tt
list-light m k t is b i l h = tt

pub initialised-light : (m : ℕ) (k : TokenKind) (t : InitDeclarator) (is : List InitList) (i : InitTree) → lists_path t is ≤ m → init_declarator_depth t + (length is + height_init i) ≤ m
    → Light m (initialised k t is i)
initialised-light m k t [] i l h = next-light m k (add_name t.declarator.declaration (initial t i)) (omega (arith, l, h, name-height t.declarator.declaration.names (initial t i)))
initialised-light m k t (b ∷ is) i l h = list-light m k t is b i l (omega (arith, h))

comma-light : (m : ℕ) (k : TokenKind) (t : InitDeclarator) (is : List InitList) → lists_path t is ≤ m → Light m (last_comma k t is)
comma-light m k t [] l = tt
comma-light m k t (b ∷ is) l = cond-light m (has_items b.items) _ (brace-light m k _ (λ n. omega (arith, l)))

-- What stands behind an expression, or in its place.
length-light : (m : ℕ) (k : TokenKind) (h : Head) (ds : DimTrees) → context_path (Length h ds) ≤ m → Light m (first_length k h ds)
length-light m k h DimTrees.NoDims l = bracket-light m k (Dims h (DimTrees.Unsized DimTrees.NoDims)) (λ n. omega (arith, l))
length-light m k h (DimTrees.Unsized ds) l = tt
length-light m k h (DimTrees.Sized e ds) l = tt

pub used-light : (m : ℕ) (k : TokenKind) (u : ExprContext) (e : Option ExprTree) → context_path u ≤ m → context_depth u + height_option e ≤ m → Light m (used k u e)
used-light m k (Statement f n fs) e l h = semi-light m k _ (λ z. omega (arith, l, h))
used-light m k (ForStart f n fs) e l h = semi-light m k _ (λ z. omega (arith, l, h))
used-light m k (ForTest f n s fs) e l h = semi-light m k _ (λ z. omega (arith, l, h))
used-light m k (ForNext f n s t fs) e l h = close-light m k _ (λ z. omega (arith, l, h))
used-light m k (Return f n fs) e l h = semi-light m k _ (λ z. omega (arith, l, h))
used-light m k (IfTest f n fs) (Some e) l h = close-light m k _ (λ z. omega (arith, l, h))
used-light m k (WhileTest f n fs) (Some e) l h = close-light m k _ (λ z. omega (arith, l, h))
used-light m k (DoTest f n s fs) (Some e) l h = close-light m k _ (λ z. omega (arith, l, h))
used-light m k (Length b ds) (Some e) l h = bracket-light m k _ (λ z. omega (arith, l, h, dims-height ds e))
used-light m k (Length b ds) None l h = length-light m k b ds l
used-light m k (Item t is) (Some e) l h = initialised-light m k t is (InitTree.Value e) l (omega (arith, h))
used-light m k (Item t is) None l h = comma-light m k t is l
used-light m k (IfTest f n fs) None l h = tt
used-light m k (WhileTest f n fs) None l h = tt
used-light m k (DoTest f n s fs) None l h = tt

-- An expression or a specifier that comes.
begin-expr : (m : ℕ) (p : Mark) (k : TokenKind) (u : ExprContext) → (context_depth u ≤ m → context_path u ≤ m) → Light m (read p k u (reader.BeforeOperand []))
begin-expr m p k u l = go (reader.shift (context_level u) p k (reader.BeforeOperand []))
  where
    go : (o : Option reader.State) → Light m (read_to k u (reader.BeforeOperand []) o)
    go (Some t) = λ n. (let a : context_depth u ≤ m = omega arith in omega (arith, n, l a))
    go None = tt

pub begin-spec : (m : ℕ) (p : Mark) (k : TokenKind) (u : SpecContext) → (spec_depth u ≤ m → spec_path u ≤ m) → Light m (specify p k u (reader.Specifier []))
begin-spec m p k u l = go u (reader.shift 17 p k (reader.Specifier [])) l
  where
    go : (u : SpecContext) (o : Option reader.State) → (spec_depth u ≤ m → spec_path u ≤ m) → Light m (specify_to p k u (reader.Specifier []) o)
    go u (Some t) l = λ n. (let a : spec_depth u ≤ m = omega arith in omega (arith, n, l a))
    go (ForDeclaration h) None l = tt
    go (ForParam y f n) None l = tt

optional-to-light : (m : ℕ) (p : Mark) (k : TokenKind) (u : ExprContext) (o : Option State) → (context_depth u ≤ m → context_path u ≤ m) → Light m o → Light m (optional_to p k u o)
optional-to-light m p k u (Some s) l h = h
optional-to-light m p k u None l h = begin-expr m p k u l

pub lists-depth : (t : InitDeclarator) (is : List InitList) → init_declarator_depth t + length is ≤ lists_path t is
lists-depth t [] = omega arith
lists-depth t (b ∷ is) = omega (arith, lists-depth t is)

pub use-deep : (u : ExprContext) → context_depth u ≤ context_path u
use-deep (Statement f n fs) = omega arith
use-deep (IfTest f n fs) = omega arith
use-deep (WhileTest f n fs) = omega arith
use-deep (DoTest f n s fs) = omega (arith, stmt-some s)
use-deep (ForStart f n fs) = omega arith
use-deep (ForTest f n start fs) = omega arith
use-deep (ForNext f n start test fs) = omega arith
use-deep (Return f n fs) = omega arith
use-deep (Length h ds) = omega arith
use-deep (Item t is) = lists-depth t is

pub optional-light : (m : ℕ) (p : Mark) (k : TokenKind) (u : ExprContext) → context_path u ≤ m → Light m (optional p k u)
optional-light m p k u l = optional-to-light m p k u (used k u None) (λ _. l) (used-light m k u None l (omega (arith, l, use-deep u)))

init-light : (m : ℕ) (p : Mark) (k : TokenKind) (t : InitDeclarator) (is : List InitList) → lists_path t is ≤ m → Light m (begin_init p k t is)
init-light m p (kind.Sign sign.OpenBrace) t is l = λ n. omega (arith, l, n)
init-light m p (kind.Sign x) t is l = optional-light m p (kind.Sign x) (Item t is) l
init-light m p k t is l = optional-light m p k (Item t is) l

-- Statements.
expression-light : (m : ℕ) (p : Mark) (k : TokenKind) (fs : List PendingStmt) → deepest_stack_path fs ≤ m → Light m (optional p k (Statement p.first p.line fs))
expression-light m p k fs l =
    let u = Statement p.first p.line fs in
    optional-to-light m p k u (used k u None) (λ a. omega (arith, l, a)) (semi-light m k (Done (StmtTree.Expr p.first p.line None) fs) (λ n. omega (arith, l, n)))

word-light : (m : ℕ) (p : Mark) (w : Keyword) (fs : List PendingStmt) → deepest_stack_path fs ≤ m → Light m (statement_word p w fs)
word-light m p word.If fs l = λ n. omega (arith, l, n)
word-light m p word.While fs l = λ n. omega (arith, l, n)
word-light m p word.Do fs l = λ n. omega (arith, l, n)
word-light m p word.For fs l = λ n. omega (arith, l, n)
word-light m p word.Break fs l = λ n. omega (arith, l, n)
word-light m p word.Continue fs l = λ n. omega (arith, l, n)
word-light m p word.Return fs l = λ n. omega (arith, l, n)
word-light m p w fs l = expression-light m p (kind.Word w) fs l

statement-light : (m : ℕ) (p : Mark) (k : TokenKind) (fs : List PendingStmt) → deepest_stack_path fs ≤ m → Light m (statement p k fs)
statement-light m p (kind.Word w) fs l = word-light m p w fs l
statement-light m p (kind.Sign sign.OpenBrace) fs l = λ n. omega (arith, l, n)
statement-light m p (kind.Sign s) fs l = expression-light m p (kind.Sign s) fs l
statement-light m p k fs l = expression-light m p k fs l

pub declaration-light : (m : ℕ) (p : Mark) (k : TokenKind) (o : Scope) → scope_path o ≤ m → Light m (begin_declaration p k o)
declaration-light m p (kind.Word word.Static) o l = λ n. omega (arith, l, n)
declaration-light m p (kind.Word w) o l = begin-spec m p (kind.Word w) (ForDeclaration (heading o p false)) (λ a. omega (arith, l, a))
declaration-light m p k o l = begin-spec m p k (ForDeclaration (heading o p false)) (λ a. omega (arith, l, a))

block-light : (m : ℕ) (p : Mark) (k : TokenKind) (f n : ℕ) (items : BlockTrees) (fs : List PendingStmt) → deepest_stack_path (InBlock f n items ∷ fs) ≤ m → Light m (block_item p k f n items fs)
block-light m p (kind.Word w) f n items fs l =
    either-light m (begins_declaration w) (begin_declaration p (kind.Word w) (BlockScope f n items fs)) (statement_word p w (InBlock f n items ∷ fs))
    (declaration-light m p (kind.Word w) (BlockScope f n items fs) (omega (arith, l))) (word-light m p w (InBlock f n items ∷ fs) l)
block-light m p (kind.Sign sign.CloseBrace) f n items fs l = λ z. omega (arith, l)
block-light m p (kind.Sign s) f n items fs l = statement-light m p (kind.Sign s) (InBlock f n items ∷ fs) l
block-light m p k f n items fs l = statement-light m p k (InBlock f n items ∷ fs) l

begin-light : (m : ℕ) (p : Mark) (k : TokenKind) (fs : List PendingStmt) → deepest_stack_path fs ≤ m → Light m (begin p k fs)
begin-light m p k (InBlock f n items ∷ fs) l = block-light m p k f n items fs l
begin-light m p k fs l = statement-light m p k fs l

for-light : (m : ℕ) (p : Mark) (k : TokenKind) (f n : ℕ) (fs : List PendingStmt) → deepest_path (ForOpen f n fs) ≤ m → Light m (for_start p k f n fs)
for-light m p (kind.Word w) f n fs l =
    either-light m (reader.is_spec_word w) (specify p (kind.Word w) (ForDeclaration (heading (ForScope f n fs) p false)) (reader.Specifier [])) (optional p (kind.Word w) (ForStart f n fs))
    (begin-spec m p (kind.Word w) (ForDeclaration (heading (ForScope f n fs) p false)) (λ a. omega (arith, l, a))) (optional-light m p (kind.Word w) (ForStart f n fs) l)
for-light m p k f n fs l = optional-light m p k (ForStart f n fs) l

else-light : (m : ℕ) (s : StmtTree) (fs : List PendingStmt) → deepest_path (Done s fs) ≤ m → Light m (to_else s fs)
else-light m s (InIf f n c ∷ fs) l = λ z. omega (arith, l)
else-light m s (InElse f n c x ∷ fs) l = else-light m (StmtTree.IfElse f n c x s) fs (omega (arith, l))
else-light m s (InWhile f n c ∷ fs) l = else-light m (StmtTree.While f n c s) fs (omega (arith, l))
else-light m s (InFor f n i c x ∷ fs) l = else-light m (StmtTree.For f n i c x s) fs (omega (arith, l))
else-light m s fs l = tt

whole-light : (m : ℕ) (p : Mark) (k : TokenKind) (s : StmtTree) (fs : List PendingStmt) → deepest_path (Done s fs) ≤ m → Light m (after_whole p k s fs)
whole-light m p k s (InBlock f n items ∷ fs) l = block-light m p k f n (add_statement items s) fs (omega (arith, l, statement-height items s))
whole-light m p k s (InDo f n ∷ fs) l = while-light m k (Opening (DoTest f n s fs)) (λ z. omega (arith, l))
whole-light m p k s (InBody d ∷ fs) l =
    declaration-light m p k (FileScope (define d s))
    (omega (arith, l, item-height d.items (ItemTree.Function d.first d.line d.fixed d.spec d.stars d.name d.at d.params s)))
whole-light m p k s fs l = tt

reduced-light : (m : ℕ) (p : Mark) (k : TokenKind) (s : StmtTree) (fs : List PendingStmt) → deepest_path (Done s fs) ≤ m → Light m (after_whole p k (reduce s fs).0 (reduce s fs).1)
reduced-light m p k s fs l = whole-light m p k (reduce s fs).0 (reduce s fs).1 (omega (arith, l, reduce-path s fs))

done-light : (m : ℕ) (p : Mark) (k : TokenKind) (s : StmtTree) (fs : List PendingStmt) → deepest_path (Done s fs) ≤ m → Light m (done p k s fs)
done-light m p (kind.Word word.Else) s fs l = else-light m s fs l
done-light m p (kind.Word w) s fs l = reduced-light m p (kind.Word w) s fs l
done-light m p k s fs l = reduced-light m p k s fs l

-- all states but those in which an expression or a specifier is read in part
abbrev pub IsBetween : State → Type 0
IsBetween (Reading u s) = s ≡ reader.BeforeOperand []
IsBetween (Specifying u s) = s ≡ reader.Specifier []
IsBetween s = Unit {0}

pub shift-light : (m : ℕ) (p : Mark) (k : TokenKind) (s : State) → IsBetween s → deepest_path s ≤ m → Light m (shift p k s)
shift-light m p k (Items items) b l = declaration-light m p k (FileScope items) l
shift-light m p k (Specifying u s) b l = subst (λ t. Light m (specify p k u t)) (sym b) (begin-spec m p k u (λ a. omega (arith, l)))
shift-light m p k (Declare d n) b l = declare-light m p k d n (omega (arith, l)) (omega (arith, l))
shift-light m p k (Dims h ds) b l = dims-light m k h ds l
shift-light m p k (Optional u) b l = optional-light m p k u l
shift-light m p k (Reading u s) b l = subst (λ t. Light m (read p k u t)) (sym b) (begin-expr m p k u (λ a. omega (arith, l)))
shift-light m p k (Init t is) b l = init-light m p k t is l
shift-light m p k (AfterInit t is i) b l = initialised-light m k t is i (omega (arith, l)) (omega (arith, l))
shift-light m p (kind.Sign sign.CloseParen) (Params y) b l = λ n. omega (arith, l)
shift-light m p (kind.Sign x) (Params y) b l = begin-spec m p (kind.Sign x) (ForParam y p.first p.line) (λ a. l)
shift-light m p k (Params y) b l = begin-spec m p k (ForParam y p.first p.line) (λ a. l)
shift-light m p k (NextParam y) b l = begin-spec m p k (ForParam y p.first p.line) (λ a. l)
shift-light m p k (Param y f n s i) b l = param-light m p k y f n s i l
shift-light m p k (Closed x ps) b l = closed-light m p k x ps l
shift-light m p k (Begin fs) b l = begin-light m p k fs l
shift-light m p k (Opening u) b l = open-light m k (Reading u (reader.BeforeOperand [])) (λ n. omega (arith, l, n))
shift-light m p k (ForWord f n fs) b l = open-light m k (ForOpen f n fs) (λ n. l)
shift-light m p k (ForOpen f n fs) b l = for-light m p k f n fs l
shift-light m p k (Semi s fs) b l = semi-light m k (Done s fs) (λ n. l)
shift-light m p k (Done s fs) b l = done-light m p k s fs l
