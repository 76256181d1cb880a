-- A shift-reduce parser of programs as a machine on plain data: what each token does (C99 6.7 to 6.9). A specifier or an
-- expression in it is read by the machine for these, for as long as that one goes on.
use Rattle.std.specs.Prelude.{ℕ, ◌+◌, List, [], ◌∷◌, ◌++◌, Bool, false, true, Option, Some, None, cond, ◌&&◌}
use Rattle.ob_tree.specs.declared.tokens.TokenKind.{TokenKind}
use Rattle.ob_tree.specs.declared.tokens.TokenKind.TheVariants as kind
use Rattle.ob_tree.specs.declared.tokens.Keyword.{Keyword}
use Rattle.ob_tree.specs.declared.tokens.Keyword.TheVariants as word
use Rattle.ob_tree.specs.declared.tokens.Sign.TheVariants as sign
use Rattle.ob_tree.specs.Trees.{Mark, ExprTree, SpecTree, DimTrees, InitTree, InitTrees}
use Rattle.ob_tree.specs.Programs.{StartTree, StmtTree, BlockTrees, ParamTree, ParamsTree, ItemTree, ProgramTree}
use Rattle.ob_tree.specs.Levels.{expr_level, assign_level, cond_level}
use Rattle.ob_tree.specs.Places.{here}
use Rattle.ob_tree.specs.ExprMachine as expr
use Rattle.ob_tree.specs.ProgramStates.{Definition, PendingStmt, InBody, InBlock, InIf, InElse, InWhile, InDo, InFor, Scope, FileScope, BlockScope, ForScope, Heading, Declaration, Declarator, ParamList, Head, OfName, OfParam, InitDeclarator, InitList, SpecContext, ForDeclaration, ForParam, ExprContext, Statement, IfTest, WhileTest, DoTest, ForStart, ForTest, ForNext, Return, Length, Item, State, Items, Specifying, Declare, Dims, Optional, Reading, Init, AfterInit, Params, NextParam, Param, Closed, Begin, Opening, ForWord, ForOpen, Semi, Done}
use Rattle.ob_tree.specs.ProgramParts.{at_semi, at_open, at_close, at_bracket, at_brace, at_while, add_statement, add_local, add_init, add_name, add_param, declares_tag, has_lengths, has_dims, has_items, are_named, params_of, local_of, item_of, bare, initial, function, is_first}

abbrev pub end_in : Scope → Declaration → State
end_in (FileScope items) d = Items (items ++ item_of d ∷ [])
end_in (BlockScope f n items fs) d = Begin (InBlock f n (add_local items (local_of d)) ∷ fs)
end_in (ForScope f n fs) d = Optional (ForTest f n (StartTree.Local (local_of d)) fs)

abbrev pub end_declaration : Declaration → State
end_declaration d = end_in d.heading.scope d

-- behind a declarator: a comma and the next one, or a semicolon
abbrev pub next_name : TokenKind → Declaration → Option State
next_name (kind.Sign sign.Comma) d = Some (Declare d 0)
next_name (kind.Sign sign.Semi) d = Some (end_declaration d)
next_name k d = None

abbrev pub declare : Mark → TokenKind → Declaration → (stars : ℕ) → Option State
declare m (kind.Sign sign.Star) d n = Some (Declare d (n + 1))
declare m (kind.Name name) d n = Some (Dims (OfName (record { declaration = d; stars = n; name = name; at = m.first })) DimTrees.NoDims)
declare m k d n = None

-- behind the specifier of a declaration
abbrev pub first_name : Mark → TokenKind → Declaration → Option State
first_name m (kind.Sign sign.Semi) d = cond (declares_tag d.spec) (Some (end_declaration d)) None
first_name m k d = declare m k d 0

-- only an external declaration declares functions
abbrev pub parameters : Scope → Declarator → Option State
parameters (FileScope items) x = Some (Params (record { function = x; params = [] }))
parameters o x = None

abbrev pub after_name : TokenKind → Declarator → DimTrees → Option State
after_name (kind.Sign sign.OpenBracket) x ds = Some (Optional (Length (OfName x) ds))
after_name (kind.Sign sign.Assign) x ds = Some (Init (record { declarator = x; dims = ds }) [])
after_name (kind.Sign sign.OpenParen) x ds = cond (has_dims ds) None (parameters x.declaration.heading.scope x)
after_name k x ds = cond (has_lengths ds) (next_name k (add_name x.declaration (bare x ds))) None

abbrev pub next_param : TokenKind → ParamList → Option State
next_param (kind.Sign sign.Comma) l = Some (NextParam l)
next_param (kind.Sign sign.CloseParen) l = Some (Closed l.function (params_of l.params))
next_param k l = None

abbrev pub after_param : TokenKind → Head → ParamList → ParamTree → DimTrees → Option State
after_param (kind.Sign sign.OpenBracket) h l x ds = Some (Optional (Length h ds))
after_param k h l x ds = next_param k (add_param l x)

abbrev pub after_dims : TokenKind → Head → DimTrees → Option State
after_dims k (OfName x) ds = after_name k x ds
after_dims k (OfParam l f n s i name a) ds =
    after_param k (OfParam l f n s i name a) l (record { first = f; line = n; spec = s; stars = i; name = name; at = a; dims = ds }) ds

abbrev pub param : Mark → TokenKind → ParamList → (first line : ℕ) → SpecTree → (stars : ℕ) → Option State
param m (kind.Sign sign.Star) l f n s i = Some (Param l f n s (i + 1))
param m (kind.Name name) l f n s i = Some (Dims (OfParam l f n s i (Some name) m.first) DimTrees.NoDims)
param m k l f n s i = after_dims k (OfParam l f n s i None f) DimTrees.NoDims

-- Specifiers.
abbrev pub specified : Mark → TokenKind → SpecContext → Option SpecTree → Option State
specified m k u None = None
specified m k (ForDeclaration h) (Some s) = first_name m k (record { heading = h; spec = s; names = [] })
specified m k (ForParam l f n) (Some s) = param m k l f n s 0

abbrev pub specify_to : Mark → TokenKind → SpecContext → expr.State → Option expr.State → Option State
specify_to m k u s (Some t) = Some (Specifying u t)
specify_to m k u s None = specified m k u (expr.finish_spec s)

abbrev pub specify : Mark → TokenKind → SpecContext → expr.State → Option State
specify m k u s = specify_to m k u s (expr.shift expr.no_level m k s)

abbrev pub begin_param : Mark → TokenKind → ParamList → Option State
begin_param m k l = specify m k (ForParam l m.first m.line) (expr.Specifier [])

abbrev pub first_param : Mark → TokenKind → ParamList → Option State
first_param m (kind.Sign sign.CloseParen) l = Some (Closed l.function ParamsTree.Empty)
first_param m k l = begin_param m k l

abbrev pub heading : Scope → Mark → (fixed : Bool) → Heading
heading o m fixed = record { scope = o; first = m.first; line = m.line; fixed = fixed }

-- a declaration comes, with `static` or without
abbrev pub begin_declaration : Mark → TokenKind → Scope → Option State
begin_declaration m (kind.Word word.Static) o = Some (Specifying (ForDeclaration (heading o m true)) (expr.Specifier []))
begin_declaration m k o = specify m k (ForDeclaration (heading o m false)) (expr.Specifier [])

-- the first declarator of an external declaration may be a function with a body
abbrev pub begin_body : Mark → Scope → Declarator → ParamsTree → Option State
begin_body m (FileScope items) x ps =
    Some (
    Begin (
    InBlock m.first m.line BlockTrees.NoItems
    ∷ (InBody (record {
      items = items;
      first = x.declaration.heading.first;
      line = x.declaration.heading.line;
      fixed = x.declaration.heading.fixed;
      spec = x.declaration.spec;
      stars = x.stars;
      name = x.name;
      at = x.at;
      params = ps;
    })
    ∷ [])
    )
    )
begin_body m o x ps = None

abbrev pub closed : Mark → TokenKind → Declarator → ParamsTree → Option State
closed m (kind.Sign sign.OpenBrace) x ps =
    cond (is_first x.declaration.names && are_named ps) (begin_body m x.declaration.heading.scope x ps) None
closed m k x ps = next_name k (add_name x.declaration (function x ps))

-- Initialisers. Behind one: a comma, or the end of the list or of the declarator.
abbrev pub next_init : TokenKind → InitDeclarator → List InitList → InitList → Option State
next_init (kind.Sign sign.Comma) t is b = Some (Init t (b ∷ is))
next_init (kind.Sign sign.CloseBrace) t is b = Some (AfterInit t is (InitTree.Braces b.first b.items false))
next_init k t is b = None

abbrev pub initialised : TokenKind → InitDeclarator → List InitList → InitTree → Option State
initialised k t [] i = next_name k (add_name t.declarator.declaration (initial t i))
initialised k t (b ∷ is) i = next_init k t is (record { first = b.first; items = add_init b.items i })

-- a comma may stand before the closing brace, behind an item
abbrev pub last_comma : TokenKind → InitDeclarator → List InitList → Option State
last_comma k t [] = None
last_comma k t (b ∷ is) = cond (has_items b.items) (at_brace k (AfterInit t is (InitTree.Braces b.first b.items true))) None

-- Expressions. The level of one that is read for this, and what comes behind it or, where there is none, in its place.
abbrev pub context_level : ExprContext → ℕ
context_level (Length h ds) = cond_level
context_level (Item t is) = assign_level
context_level u = expr_level

abbrev pub first_length : TokenKind → Head → DimTrees → Option State
first_length k h DimTrees.NoDims = at_bracket k (Dims h (DimTrees.Unsized DimTrees.NoDims))
first_length k h ds = None

abbrev pub used : TokenKind → ExprContext → Option ExprTree → Option State
used k (Statement f n fs) e = at_semi k (Done (StmtTree.Expr f n e) fs)
used k (ForStart f n fs) e = at_semi k (Optional (ForTest f n (StartTree.Expr e) fs))
used k (ForTest f n s fs) e = at_semi k (Optional (ForNext f n s e fs))
used k (ForNext f n s t fs) e = at_close k (Begin (InFor f n s t e ∷ fs))
used k (Return f n fs) e = at_semi k (Done (StmtTree.Return f n e) fs)
used k (IfTest f n fs) (Some e) = at_close k (Begin (InIf f n e ∷ fs))
used k (WhileTest f n fs) (Some e) = at_close k (Begin (InWhile f n e ∷ fs))
used k (DoTest f n s fs) (Some e) = at_close k (Semi (StmtTree.Do f n s e) fs)
used k (Length h ds) (Some e) = at_bracket k (Dims h (expr.add_dim ds e))
used k (Length h ds) None = first_length k h ds
used k (Item t is) (Some e) = initialised k t is (InitTree.Value e)
used k (Item t is) None = last_comma k t is
used k u None = None

abbrev pub read_whole : TokenKind → ExprContext → Option ExprTree → Option State
read_whole k u None = None
read_whole k u (Some e) = used k u (Some e)

abbrev pub read_to : TokenKind → ExprContext → expr.State → Option expr.State → Option State
read_to k u s (Some t) = Some (Reading u t)
read_to k u s None = read_whole k u (expr.finish s)

abbrev pub read : Mark → TokenKind → ExprContext → expr.State → Option State
read m k u s = read_to k u s (expr.shift (context_level u) m k s)

abbrev pub optional_to : Mark → TokenKind → ExprContext → Option State → Option State
optional_to m k u (Some s) = Some s
optional_to m k u None = read m k u (expr.BeforeOperand [])

abbrev pub optional : Mark → TokenKind → ExprContext → Option State
optional m k u = optional_to m k u (used k u None)

abbrev pub begin_init : Mark → TokenKind → InitDeclarator → List InitList → Option State
begin_init m (kind.Sign sign.OpenBrace) t is = Some (Init t (record { first = m.first; items = InitTrees.NoItems } ∷ is))
begin_init m k t is = optional m k (Item t is)

-- Statements.
abbrev pub statement_word : Mark → Keyword → List PendingStmt → Option State
statement_word m word.If fs = Some (Opening (IfTest m.first m.line fs))
statement_word m word.While fs = Some (Opening (WhileTest m.first m.line fs))
statement_word m word.Do fs = Some (Begin (InDo m.first m.line ∷ fs))
statement_word m word.For fs = Some (ForWord m.first m.line fs)
statement_word m word.Break fs = Some (Semi (StmtTree.Break m.first m.line) fs)
statement_word m word.Continue fs = Some (Semi (StmtTree.Continue m.first m.line) fs)
statement_word m word.Return fs = Some (Optional (Return m.first m.line fs))
statement_word m w fs = optional m (kind.Word w) (Statement m.first m.line fs)

abbrev pub statement : Mark → TokenKind → List PendingStmt → Option State
statement m (kind.Word w) fs = statement_word m w fs
statement m (kind.Sign sign.OpenBrace) fs = Some (Begin (InBlock m.first m.line BlockTrees.NoItems ∷ fs))
statement m k fs = optional m k (Statement m.first m.line fs)

-- a word that begins a declaration
abbrev pub begins_declaration : Keyword → Bool
begins_declaration word.Static = true
begins_declaration w = expr.is_spec_word w

abbrev pub block_word : Mark → Keyword → (first line : ℕ) → BlockTrees → List PendingStmt → Option State
block_word m w f n items fs = cond (begins_declaration w)
    (begin_declaration m (kind.Word w) (BlockScope f n items fs))
    (statement_word m w (InBlock f n items ∷ fs))

abbrev pub block_item : Mark → TokenKind → (first line : ℕ) → BlockTrees → List PendingStmt → Option State
block_item m (kind.Word w) f n items fs = block_word m w f n items fs
block_item m (kind.Sign sign.CloseBrace) f n items fs = Some (Done (StmtTree.Block f n items) fs)
block_item m k f n items fs = statement m k (InBlock f n items ∷ fs)

abbrev pub begin : Mark → TokenKind → List PendingStmt → Option State
begin m k (InBlock f n items ∷ fs) = block_item m k f n items fs
begin m k fs = statement m k fs

abbrev pub for_word : Mark → Keyword → (first line : ℕ) → List PendingStmt → Option State
for_word m w f n fs = cond (expr.is_spec_word w)
    (specify m (kind.Word w) (ForDeclaration (heading (ForScope f n fs) m false)) (expr.Specifier []))
    (optional m (kind.Word w) (ForStart f n fs))

abbrev pub for_start : Mark → TokenKind → (first line : ℕ) → List PendingStmt → Option State
for_start m (kind.Word w) f n fs = for_word m w f n fs
for_start m k f n fs = optional m k (ForStart f n fs)

-- an `else` goes to the nearest `if` that has none
abbrev pub to_else : StmtTree → List PendingStmt → Option State
to_else s (InIf f n c ∷ fs) = Some (Begin (InElse f n c s ∷ fs))
to_else s (InElse f n c x ∷ fs) = to_else (StmtTree.IfElse f n c x s) fs
to_else s (InWhile f n c ∷ fs) = to_else (StmtTree.While f n c s) fs
to_else s (InFor f n i c x ∷ fs) = to_else (StmtTree.For f n i c x s) fs
to_else s fs = None

-- the statements whose last part was read
abbrev pub reduce : StmtTree → List PendingStmt → StmtTree × List PendingStmt
reduce s (InIf f n c ∷ fs) = reduce (StmtTree.If f n c s) fs
reduce s (InElse f n c x ∷ fs) = reduce (StmtTree.IfElse f n c x s) fs
reduce s (InWhile f n c ∷ fs) = reduce (StmtTree.While f n c s) fs
reduce s (InFor f n i c x ∷ fs) = reduce (StmtTree.For f n i c x s) fs
reduce s fs = (s, fs)

abbrev pub define : Definition → StmtTree → ProgramTree
define d s = d.items ++ ItemTree.Function d.first d.line d.fixed d.spec d.stars d.name d.at d.params s ∷ []

abbrev pub after_whole : Mark → TokenKind → StmtTree → List PendingStmt → Option State
after_whole m k s (InBlock f n items ∷ fs) = block_item m k f n (add_statement items s) fs
after_whole m k s (InDo f n ∷ fs) = at_while k (Opening (DoTest f n s fs))
after_whole m k s (InBody d ∷ fs) = begin_declaration m k (FileScope (define d s))
after_whole m k s fs = None

abbrev pub done : Mark → TokenKind → StmtTree → List PendingStmt → Option State
done m (kind.Word word.Else) s fs = to_else s fs
done m k s fs = after_whole m k (reduce s fs).0 (reduce s fs).1

-- the next token, of this kind; the mark is that of a node that begins with it
abbrev pub shift : Mark → TokenKind → State → Option State
shift m k (Items items) = begin_declaration m k (FileScope items)
shift m k (Specifying u s) = specify m k u s
shift m k (Declare d n) = declare m k d n
shift m k (Dims h ds) = after_dims k h ds
shift m k (Optional u) = optional m k u
shift m k (Reading u s) = read m k u s
shift m k (Init t is) = begin_init m k t is
shift m k (AfterInit t is i) = initialised k t is i
shift m k (Params l) = first_param m k l
shift m k (NextParam l) = begin_param m k l
shift m k (Param l f n s i) = param m k l f n s i
shift m k (Closed x ps) = closed m k x ps
shift m k (Begin fs) = begin m k fs
shift m k (Opening u) = at_open k (Reading u (expr.BeforeOperand []))
shift m k (ForWord f n fs) = at_open k (ForOpen f n fs)
shift m k (ForOpen f n fs) = for_start m k f n fs
shift m k (Semi s fs) = at_semi k (Done s fs)
shift m k (Done s fs) = done m k s fs

abbrev pub shift_if : Mark → TokenKind → Option State → Option State
shift_if m k None = None
shift_if m k (Some s) = shift m k s

-- tokens of these kinds, the first at place p
abbrev pub run : (lines : ℕ → ℕ) → (p : ℕ) → List TokenKind → Option State → Option State
run lines p [] s = s
run lines p (k ∷ ks) s = run lines (p + 1) ks (shift_if (here lines p) k s)

-- the whole program, where nothing is open
abbrev pub whole : StmtTree → List PendingStmt → Option ProgramTree
whole s (InBody d ∷ fs) = Some (define d s)
whole s fs = None

abbrev pub finish : State → Option ProgramTree
finish (Items (i ∷ is)) = Some (i ∷ is)
finish (Done s fs) = whole (reduce s fs).0 (reduce s fs).1
finish s = None
