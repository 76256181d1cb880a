-- How many nodes stand on the paths of what the machine holds that reads programs. Each statement that has begun
-- is a node, a function with its body is one, and so is a declaration.
use Rattle.std.specs.Prelude.{ℕ, ◌+◌, List, [], ◌∷◌, length, max}
use Rattle.ob_tree.specs.Paths.{height, height_spec, height_dims, height_init, height_inits}
use Rattle.ob_tree.specs.ProgramPaths.{height_option, height_start, height_stmt, height_block, height_list, height_params, height_function, height_files, height_program}
use Rattle.ob_tree.specs.ProgramStates.{PendingStmt, InBody, InBlock, InIf, InElse, InWhile, InDo, InFor, Scope, FileScope, BlockScope, ForScope, Declaration, Declarator, ParamList, Head, OfName, OfParam, InitDeclarator, InitList, SpecContext, ForDeclaration, ForParam, ExprContext, Statement, IfTest, WhileTest, DoTest, ForStart, ForTest, ForNext, Return, Length, Item, State, Items, Specifying, Declare, Dims, Optional, Reading, Init, AfterInit, Params, NextParam, Param, Closed, Begin, Opening, ForWord, ForOpen, Semi, Done}
use Rattle.ob_exprs.specs.DeepestPaths as expr

-- the most nodes on a path of the pending statements
abbrev pub deepest_stack_path : List PendingStmt → ℕ
deepest_stack_path [] = 0
deepest_stack_path (InBody d ∷ fs) = max (height_program d.items) (length fs + (1 + max (height_spec d.spec) (height_function d.stars d.params)))
deepest_stack_path (InBlock f n items ∷ fs) = max (deepest_stack_path fs) (length fs + (1 + height_block items))
deepest_stack_path (InIf f n c ∷ fs) = max (deepest_stack_path fs) (length fs + (1 + height c))
deepest_stack_path (InElse f n c s ∷ fs) = max (deepest_stack_path fs) (length fs + (1 + max (height c) (height_stmt s)))
deepest_stack_path (InWhile f n c ∷ fs) = max (deepest_stack_path fs) (length fs + (1 + height c))
deepest_stack_path (InDo f n ∷ fs) = max (deepest_stack_path fs) (length fs + 1)
deepest_stack_path (InFor f n start test next ∷ fs) =
    max (deepest_stack_path fs) (length fs + (1 + max (height_start start) (max (height_option test) (height_option next))))

-- the nodes above a declaration, and the most on a path beside it
abbrev pub scope_depth : Scope → ℕ
scope_depth (FileScope items) = 0
scope_depth (BlockScope f n items fs) = length fs + 1
scope_depth (ForScope f n fs) = length fs + 1

abbrev pub scope_path : Scope → ℕ
scope_path (FileScope items) = height_program items
scope_path (BlockScope f n items fs) = max (deepest_stack_path fs) (length fs + (1 + height_block items))
scope_path (ForScope f n fs) = max (deepest_stack_path fs) (length fs + 1)

-- the nodes above a declarator
abbrev pub depth_in : Declaration → ℕ
depth_in d = scope_depth d.heading.scope + 1

abbrev pub declaration_path : Declaration → ℕ
declaration_path d = max (scope_path d.heading.scope) (depth_in d + max (height_spec d.spec) (height_files d.names))

abbrev pub declarator_path : Declarator → ℕ
declarator_path x = max (declaration_path x.declaration) (depth_in x.declaration + x.stars)

abbrev pub param_list_path : ParamList → ℕ
param_list_path l = max (declarator_path l.function) (depth_in l.function.declaration + height_list l.params)

-- the nodes above a row of brackets, and the most on a path beside it
abbrev pub head_rise : Head → ℕ
head_rise (OfName x) = depth_in x.declaration + x.stars
head_rise (OfParam l f n s i name a) = depth_in l.function.declaration + i

abbrev pub head_path : Head → ℕ
head_path (OfName x) = declarator_path x
head_path (OfParam l f n s i name a) = max (param_list_path l) (depth_in l.function.declaration + max (height_spec s) i)

abbrev pub init_declarator_depth : InitDeclarator → ℕ
init_declarator_depth t = depth_in t.declarator.declaration

abbrev pub init_declarator_path : InitDeclarator → ℕ
init_declarator_path t = max (declarator_path t.declarator) (init_declarator_depth t + (t.declarator.stars + height_dims t.dims))

abbrev pub lists_path : InitDeclarator → List InitList → ℕ
lists_path t [] = init_declarator_path t
lists_path t (b ∷ is) = max (lists_path t is) (init_declarator_depth t + (length is + (1 + height_inits b.items)))

-- the nodes above a specifier, and the most on a path beside it
abbrev pub spec_depth : SpecContext → ℕ
spec_depth (ForDeclaration h) = scope_depth h.scope + 1
spec_depth (ForParam l f n) = depth_in l.function.declaration

abbrev pub spec_path : SpecContext → ℕ
spec_path (ForDeclaration h) = max (scope_path h.scope) (scope_depth h.scope + 1)
spec_path (ForParam l f n) = param_list_path l

-- the nodes above an expression, and the most on a path beside it
abbrev pub context_depth : ExprContext → ℕ
context_depth (Statement f n fs) = length fs + 1
context_depth (IfTest f n fs) = length fs + 1
context_depth (WhileTest f n fs) = length fs + 1
context_depth (DoTest f n s fs) = length fs + 1
context_depth (ForStart f n fs) = length fs + 1
context_depth (ForTest f n start fs) = length fs + 1
context_depth (ForNext f n start test fs) = length fs + 1
context_depth (Return f n fs) = length fs + 1
context_depth (Length h ds) = head_rise h + (expr.count ds + 1)
context_depth (Item t is) = init_declarator_depth t + length is

abbrev pub context_path : ExprContext → ℕ
context_path (Statement f n fs) = max (deepest_stack_path fs) (length fs + 1)
context_path (IfTest f n fs) = max (deepest_stack_path fs) (length fs + 1)
context_path (WhileTest f n fs) = max (deepest_stack_path fs) (length fs + 1)
context_path (DoTest f n s fs) = max (deepest_stack_path fs) (length fs + (1 + height_stmt s))
context_path (ForStart f n fs) = max (deepest_stack_path fs) (length fs + 1)
context_path (ForTest f n start fs) = max (deepest_stack_path fs) (length fs + (1 + height_start start))
context_path (ForNext f n start test fs) = max (deepest_stack_path fs) (length fs + (1 + max (height_start start) (height_option test)))
context_path (Return f n fs) = max (deepest_stack_path fs) (length fs + 1)
context_path (Length h ds) = max (head_path h) (head_rise h + max (height_dims ds) (expr.count ds + 1))
context_path (Item t is) = lists_path t is

-- the most nodes on a path that have begun
abbrev pub deepest_path : State → ℕ
deepest_path (Items items) = height_program items
deepest_path (Specifying u s) = max (spec_path u) (spec_depth u + expr.deepest_path s)
deepest_path (Declare d n) = max (declaration_path d) (depth_in d + n)
deepest_path (Dims h ds) = max (head_path h) (head_rise h + height_dims ds)
deepest_path (Optional u) = context_path u
deepest_path (Reading u s) = max (context_path u) (context_depth u + expr.deepest_path s)
deepest_path (Init t is) = lists_path t is
deepest_path (AfterInit t is i) = max (lists_path t is) (init_declarator_depth t + (length is + height_init i))
deepest_path (Params l) = param_list_path l
deepest_path (NextParam l) = param_list_path l
deepest_path (Param l f n s i) = max (param_list_path l) (depth_in l.function.declaration + max (height_spec s) i)
deepest_path (Closed x ps) = max (declarator_path x) (depth_in x.declaration + height_params ps)
deepest_path (Begin fs) = deepest_stack_path fs
deepest_path (Opening u) = context_path u
deepest_path (ForWord f n fs) = max (deepest_stack_path fs) (length fs + 1)
deepest_path (ForOpen f n fs) = max (deepest_stack_path fs) (length fs + 1)
deepest_path (Semi s fs) = max (deepest_stack_path fs) (length fs + height_stmt s)
deepest_path (Done s fs) = max (deepest_stack_path fs) (length fs + height_stmt s)

-- The nodes on the path to what was read last: where it keeps the limit, and all did before, all do.
abbrev pub newest_path : State → ℕ
newest_path (Items items) = 0
newest_path (Specifying u s) = spec_depth u + expr.deepest_path s
newest_path (Declare d n) = depth_in d + n
newest_path (Dims h ds) = 0
newest_path (Optional u) = context_depth u
newest_path (Reading u s) = context_depth u + expr.deepest_path s
newest_path (Init t is) = init_declarator_depth t + length is
newest_path (AfterInit t is i) = 0
newest_path (Params l) = 0
newest_path (NextParam l) = 0
newest_path (Param l f n s i) = depth_in l.function.declaration + i
newest_path (Closed x ps) = 0
newest_path (Begin fs) = length fs
newest_path (Opening u) = context_depth u
newest_path (ForWord f n fs) = length fs + 1
newest_path (ForOpen f n fs) = length fs + 1
newest_path (Semi s fs) = length fs + 1
newest_path (Done s fs) = length fs + 1
