-- What the machine holds spells what it has read, and its parts are valid and stand where they may stand.
use Rattle.std.specs.Prelude.{◌≡◌, List, [], ◌∷◌, ◌++◌, Bool, false}
use Rattle.std.specs.List.{AllByRecursion}
use Rattle.ob_tree.specs.declared.tokens.TokenKind.{TokenKind}
use Rattle.ob_tree.specs.declared.tokens.TokenKind.TheVariants as kind
use Rattle.ob_tree.specs.declared.tokens.Keyword.TheVariants as word
use Rattle.ob_tree.specs.declared.tokens.Sign.TheVariants as sign
use Rattle.ob_tree.specs.Trees.{InitTrees}
use Rattle.ob_tree.specs.Programs.{StmtTree, ParamTree, FileTree}
use Rattle.ob_tree.specs.Spelling.{stars, spell, spell_spec, spell_name, spell_dims, spell_init}
use Rattle.ob_tree.specs.ProgramSpelling.{spell_option, spell_static, spell_start, spell_stmt, spell_block, spell_param, spell_params, spell_function, spell_file, spell_program}
use Rattle.ob_tree.specs.Valid.{Valid, ValidName, ValidTag, ValidSpec, ValidOpenDims, ValidInit, ValidInits}
use Rattle.ob_tree.specs.ProgramValid.{ValidOption, ValidStart, ValidStmt, ValidBlock, ValidParam, ValidParams, AreNamed, IsBlock, ValidFile, ValidItem, ends_in_if}
use Rattle.ob_tree.specs.ProgramStates.{Definition, PendingStmt, InBody, InBlock, InIf, InElse, InWhile, InDo, InFor, Scope, FileScope, BlockScope, ForScope, Heading, Declaration, Declarator, ParamList, Head, OfName, OfParam, InitDeclarator, InitList, SpecContext, ForDeclaration, ForParam, ExprContext, Statement, IfTest, WhileTest, DoTest, ForStart, ForTest, ForNext, Return, Length, Item, State, Items, Specifying, Declare, Dims, Optional, Reading, Init, AfterInit, Params, NextParam, Param, Closed, Begin, Opening, ForWord, ForOpen, Semi, Done}
use Rattle.ob_tree.specs.ProgramMachine.{context_level}
use Rattle.ob_tree.proofs.ProgramNames.{IsFileScope, MayDeclare}
use Rattle.ob_exprs.proofs.Shapes as expr

-- lists with a comma behind each item
abbrev pub names_before : List FileTree → List TokenKind
names_before [] = []
names_before (x ∷ xs) = spell_file x ++ kind.Sign sign.Comma ∷ names_before xs

abbrev pub params_before : List ParamTree → List TokenKind
params_before [] = []
params_before (x ∷ xs) = spell_param x ++ kind.Sign sign.Comma ∷ params_before xs

abbrev pub inits_before : InitTrees → List TokenKind
inits_before InitTrees.NoItems = []
inits_before (InitTrees.Item i is) = spell_init i ++ kind.Sign sign.Comma ∷ inits_before is

-- a word and an opening parenthesis
abbrev pub if_open : List TokenKind
if_open = kind.Word word.If ∷ (kind.Sign sign.OpenParen ∷ [])

abbrev pub while_open : List TokenKind
while_open = kind.Word word.While ∷ (kind.Sign sign.OpenParen ∷ [])

abbrev pub for_open : List TokenKind
for_open = kind.Word word.For ∷ (kind.Sign sign.OpenParen ∷ [])

abbrev pub definition_spell : Definition → List TokenKind
definition_spell d = spell_static d.fixed ++ (spell_spec d.spec ++ spell_function d.stars d.name d.params)

abbrev pub pending_spell : PendingStmt → List TokenKind
pending_spell (InBody d) = spell_program d.items ++ definition_spell d
pending_spell (InBlock f n items) = kind.Sign sign.OpenBrace ∷ spell_block items
pending_spell (InIf f n c) = if_open ++ (spell c ++ kind.Sign sign.CloseParen ∷ [])
pending_spell (InElse f n c s) = if_open ++ (spell c ++ kind.Sign sign.CloseParen ∷ (spell_stmt s ++ kind.Word word.Else ∷ []))
pending_spell (InWhile f n c) = while_open ++ (spell c ++ kind.Sign sign.CloseParen ∷ [])
pending_spell (InDo f n) = kind.Word word.Do ∷ []
pending_spell (InFor f n start test next) =
    for_open ++ (spell_start start ++ (spell_option test ++ kind.Sign sign.Semi ∷ (spell_option next ++ kind.Sign sign.CloseParen ∷ [])))

abbrev pub stack_spell : List PendingStmt → List TokenKind
stack_spell [] = []
stack_spell (f ∷ fs) = stack_spell fs ++ pending_spell f

abbrev pub scope_spell : Scope → List TokenKind
scope_spell (FileScope items) = spell_program items
scope_spell (BlockScope f n items fs) = stack_spell fs ++ kind.Sign sign.OpenBrace ∷ spell_block items
scope_spell (ForScope f n fs) = stack_spell fs ++ for_open

abbrev pub heading_spell : Heading → List TokenKind
heading_spell h = scope_spell h.scope ++ spell_static h.fixed

abbrev pub declaration_spell : Declaration → List TokenKind
declaration_spell d = heading_spell d.heading ++ (spell_spec d.spec ++ names_before d.names)

abbrev pub declarator_spell : Declarator → List TokenKind
declarator_spell x = declaration_spell x.declaration ++ (stars x.stars ++ kind.Name x.name ∷ [])

abbrev pub param_list_spell : ParamList → List TokenKind
param_list_spell l = declarator_spell l.function ++ kind.Sign sign.OpenParen ∷ params_before l.params

abbrev pub head_spell : Head → List TokenKind
head_spell (OfName x) = declarator_spell x
head_spell (OfParam l f n s i name a) = param_list_spell l ++ (spell_spec s ++ (stars i ++ spell_name name))

abbrev pub lists_spell : InitDeclarator → List InitList → List TokenKind
lists_spell t [] = declarator_spell t.declarator ++ (spell_dims t.dims ++ kind.Sign sign.Assign ∷ [])
lists_spell t (b ∷ is) = lists_spell t is ++ kind.Sign sign.OpenBrace ∷ inits_before b.items

abbrev pub spec_context_spell : SpecContext → List TokenKind
spec_context_spell (ForDeclaration h) = heading_spell h
spec_context_spell (ForParam l f n) = param_list_spell l

-- up to the parenthesis of a test
abbrev pub opening_spell : ExprContext → List TokenKind
opening_spell (IfTest f n fs) = stack_spell fs ++ kind.Word word.If ∷ []
opening_spell (WhileTest f n fs) = stack_spell fs ++ kind.Word word.While ∷ []
opening_spell (DoTest f n s fs) = stack_spell fs ++ kind.Word word.Do ∷ (spell_stmt s ++ kind.Word word.While ∷ [])
opening_spell u = []

abbrev pub context_spell : ExprContext → List TokenKind
context_spell (Statement f n fs) = stack_spell fs
context_spell (IfTest f n fs) = stack_spell fs ++ if_open
context_spell (WhileTest f n fs) = stack_spell fs ++ while_open
context_spell (DoTest f n s fs) = stack_spell fs ++ kind.Word word.Do ∷ (spell_stmt s ++ while_open)
context_spell (ForStart f n fs) = stack_spell fs ++ for_open
context_spell (ForTest f n start fs) = stack_spell fs ++ (for_open ++ spell_start start)
context_spell (ForNext f n start test fs) = stack_spell fs ++ (for_open ++ (spell_start start ++ (spell_option test ++ kind.Sign sign.Semi ∷ [])))
context_spell (Return f n fs) = stack_spell fs ++ kind.Word word.Return ∷ []
context_spell (Length h ds) = head_spell h ++ (spell_dims ds ++ kind.Sign sign.OpenBracket ∷ [])
context_spell (Item t is) = lists_spell t is

-- a statement but for its semicolon
abbrev pub semi_spell : StmtTree → List TokenKind
semi_spell (StmtTree.Break f n) = kind.Word word.Break ∷ []
semi_spell (StmtTree.Continue f n) = kind.Word word.Continue ∷ []
semi_spell (StmtTree.Do f n s c) = kind.Word word.Do ∷ (spell_stmt s ++ (while_open ++ (spell c ++ kind.Sign sign.CloseParen ∷ [])))
semi_spell s = []

abbrev pub state_spell : State → List TokenKind
state_spell (Items items) = spell_program items
state_spell (Specifying u s) = spec_context_spell u ++ expr.state_spell s
state_spell (Declare d n) = declaration_spell d ++ stars n
state_spell (Dims h ds) = head_spell h ++ spell_dims ds
state_spell (Optional u) = context_spell u
state_spell (Reading u s) = context_spell u ++ expr.state_spell s
state_spell (Init t is) = lists_spell t is
state_spell (AfterInit t is i) = lists_spell t is ++ spell_init i
state_spell (Params l) = param_list_spell l
state_spell (NextParam l) = param_list_spell l
state_spell (Param l f n s i) = param_list_spell l ++ (spell_spec s ++ stars i)
state_spell (Closed x ps) = declarator_spell x ++ kind.Sign sign.OpenParen ∷ (spell_params ps ++ kind.Sign sign.CloseParen ∷ [])
state_spell (Begin fs) = stack_spell fs
state_spell (Opening u) = opening_spell u
state_spell (ForWord f n fs) = stack_spell fs ++ kind.Word word.For ∷ []
state_spell (ForOpen f n fs) = stack_spell fs ++ for_open
state_spell (Semi s fs) = stack_spell fs ++ semi_spell s
state_spell (Done s fs) = stack_spell fs ++ spell_stmt s

-- The parts are valid.
abbrev pub DefinitionOk : Definition → Type 0
DefinitionOk d = AllByRecursion ValidItem d.items × ValidSpec d.spec × ValidName d.name × ValidParams d.params × AreNamed d.params

-- what stands on the pending statements is a function's body, or any statement
abbrev pub TakesStmt : List PendingStmt → Type 0
TakesStmt [] = ⊥
TakesStmt (InBody d ∷ fs) = ⊥
TakesStmt (f ∷ fs) = Unit {0}

abbrev pub Takes : List PendingStmt → StmtTree → Type 0
Takes [] s = ⊥
Takes (InBody d ∷ fs) s = IsBlock s
Takes (f ∷ fs) s = Unit {0}

abbrev pub IsEmpty : List PendingStmt → Type 0
IsEmpty [] = Unit {0}
IsEmpty (f ∷ fs) = ⊥

-- a block has pending statements below it
abbrev pub IsUnder : List PendingStmt → Type 0
IsUnder [] = ⊥
IsUnder (f ∷ fs) = Unit {0}

abbrev pub Stands : List PendingStmt → Type 0
Stands [] = Unit {0}
Stands (InBody d ∷ fs) = IsEmpty fs × DefinitionOk d
Stands (InBlock f n items ∷ fs) = ValidBlock items × Stands fs × IsUnder fs
Stands (InIf f n c ∷ fs) = Valid c × TakesStmt fs × Stands fs
Stands (InElse f n c s ∷ fs) = Valid c × TakesStmt fs × Stands fs × ValidStmt s × (ends_in_if s ≡ false)
Stands (InWhile f n c ∷ fs) = Valid c × TakesStmt fs × Stands fs
Stands (InDo f n ∷ fs) = TakesStmt fs × Stands fs
Stands (InFor f n start test next ∷ fs) = ValidStart start × TakesStmt fs × Stands fs × ValidOption test × ValidOption next

abbrev pub ScopeOk : Scope → Type 0
ScopeOk (FileScope items) = AllByRecursion ValidItem items
ScopeOk (BlockScope f n items fs) = ValidBlock items × Stands fs × IsUnder fs
ScopeOk (ForScope f n fs) = TakesStmt fs × Stands fs

-- a declaration of a `for` isn't `static`
abbrev pub MayBe : Scope → Bool → Type 0
MayBe (ForScope f n fs) fixed = fixed ≡ false
MayBe o fixed = Unit {0}

abbrev pub HeadingOk : Heading → Type 0
HeadingOk h = ScopeOk h.scope × MayBe h.scope h.fixed

abbrev pub DeclarationOk : Declaration → Type 0
DeclarationOk d = HeadingOk d.heading × ValidSpec d.spec × AllByRecursion ValidFile d.names × AllByRecursion (MayDeclare d.heading.scope) d.names

abbrev pub DeclaratorOk : Declarator → Type 0
DeclaratorOk x = DeclarationOk x.declaration × ValidName x.name

abbrev pub ParamListOk : ParamList → Type 0
ParamListOk l = DeclaratorOk l.function × IsFileScope l.function.declaration.heading.scope × AllByRecursion ValidParam l.params

abbrev pub HeadOk : Head → Type 0
HeadOk (OfName x) = DeclaratorOk x
HeadOk (OfParam l f n s i name a) = ParamListOk l × ValidSpec s × ValidTag name

abbrev pub InitDeclaratorOk : InitDeclarator → Type 0
InitDeclaratorOk t = DeclaratorOk t.declarator × ValidOpenDims t.dims

abbrev pub SpecContextOk : SpecContext → Type 0
SpecContextOk (ForDeclaration h) = HeadingOk h
SpecContextOk (ForParam l f n) = ParamListOk l

abbrev pub IsTest : ExprContext → Type 0
IsTest (IfTest f n fs) = Unit {0}
IsTest (WhileTest f n fs) = Unit {0}
IsTest (DoTest f n s fs) = Unit {0}
IsTest u = ⊥

abbrev pub ContextOk : ExprContext → Type 0
ContextOk (Statement f n fs) = TakesStmt fs × Stands fs
ContextOk (IfTest f n fs) = TakesStmt fs × Stands fs
ContextOk (WhileTest f n fs) = TakesStmt fs × Stands fs
ContextOk (DoTest f n s fs) = TakesStmt fs × Stands fs × ValidStmt s
ContextOk (ForStart f n fs) = TakesStmt fs × Stands fs
ContextOk (ForTest f n start fs) = TakesStmt fs × Stands fs × ValidStart start
ContextOk (ForNext f n start test fs) = TakesStmt fs × Stands fs × ValidStart start × ValidOption test
ContextOk (Return f n fs) = TakesStmt fs × Stands fs
ContextOk (Length h ds) = HeadOk h × ValidOpenDims ds
ContextOk (Item t is) = InitDeclaratorOk t × AllByRecursion (λ b. ValidInits b.items) is

abbrev pub SemiOk : StmtTree → Type 0
SemiOk (StmtTree.Break f n) = Unit {0}
SemiOk (StmtTree.Continue f n) = Unit {0}
SemiOk (StmtTree.Do f n s c) = ValidStmt s × Valid c
SemiOk s = ⊥

abbrev pub StateOk : State → Type 0
StateOk (Items items) = AllByRecursion ValidItem items
StateOk (Specifying u s) = SpecContextOk u × expr.StateOk 17 s
StateOk (Declare d n) = DeclarationOk d
StateOk (Dims h ds) = HeadOk h × ValidOpenDims ds
StateOk (Optional u) = ContextOk u
StateOk (Reading u s) = ContextOk u × expr.StateOk (context_level u) s
StateOk (Init t is) = InitDeclaratorOk t × AllByRecursion (λ b. ValidInits b.items) is
StateOk (AfterInit t is i) = InitDeclaratorOk t × AllByRecursion (λ b. ValidInits b.items) is × ValidInit i
StateOk (Params l) = ParamListOk l × (l.params ≡ [])
StateOk (NextParam l) = ParamListOk l
StateOk (Param l f n s i) = ParamListOk l × ValidSpec s
StateOk (Closed x ps) = DeclaratorOk x × IsFileScope x.declaration.heading.scope × ValidParams ps
StateOk (Begin fs) = TakesStmt fs × Stands fs
StateOk (Opening u) = IsTest u × ContextOk u
StateOk (ForWord f n fs) = TakesStmt fs × Stands fs
StateOk (ForOpen f n fs) = TakesStmt fs × Stands fs
StateOk (Semi s fs) = SemiOk s × TakesStmt fs × Stands fs
StateOk (Done s fs) = ValidStmt s × Takes fs s × Stands fs × (ends_in_if s ≡ false)
