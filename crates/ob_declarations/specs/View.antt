-- What the parser holds, as the machine sees it.
use Rattle.std.specs.Prelude.{List, [], ◌∷◌, map, reverse, Vec}
use Rattle.std.specs.declared.alloc.Global.{Global}
use Rattle.ob_tree.specs.declared.expressions.Dim.{Dim}
use Rattle.ob_tree.specs.declared.expressions.Init.{Init}
use Rattle.ob_tree.specs.declared.programs.BlockItem.{BlockItem}
use Rattle.ob_tree.specs.Trees.{Mark, InitTrees}
use Rattle.ob_tree.specs.Programs.{BlockTrees, ParamTree}
use Rattle.ob_tree.specs.ExpressionView.{expr_tree, spec_tree, dim_trees, init_tree}
use Rattle.ob_tree.specs.ProgramView.{option_tree, start_tree, stmt_tree, in_front, param_tree, params_tree, file_tree, item_tree}
use Rattle.ob_tree.specs.ProgramStates as plain
use Rattle.ob_declarations.specs.declared.state.TokenMark.{TokenMark}
use Rattle.ob_declarations.specs.declared.state.Definition.{Definition}
use Rattle.ob_declarations.specs.declared.state.PendingStmt.{PendingStmt}
use Rattle.ob_declarations.specs.declared.state.PendingStmt.TheVariants as parent
use Rattle.ob_declarations.specs.declared.state.Scope.{Scope}
use Rattle.ob_declarations.specs.declared.state.Scope.TheVariants as scope
use Rattle.ob_declarations.specs.declared.state.Heading.{Heading}
use Rattle.ob_declarations.specs.declared.state.Declaration.{Declaration}
use Rattle.ob_declarations.specs.declared.state.Declarator.{Declarator}
use Rattle.ob_declarations.specs.declared.state.ParamList.{ParamList}
use Rattle.ob_declarations.specs.declared.state.ParamHead.{ParamHead}
use Rattle.ob_declarations.specs.declared.state.Head.{Head}
use Rattle.ob_declarations.specs.declared.state.Head.TheVariants as head
use Rattle.ob_declarations.specs.declared.state.InitDeclarator.{InitDeclarator}
use Rattle.ob_declarations.specs.declared.state.InitList.{InitList}
use Rattle.ob_declarations.specs.declared.state.SpecContext.{SpecContext}
use Rattle.ob_declarations.specs.declared.state.SpecContext.TheVariants as for_spec
use Rattle.ob_declarations.specs.declared.state.ExprContext.{ExprContext}
use Rattle.ob_declarations.specs.declared.state.ExprContext.TheVariants as for_expr

-- the place of a token, as that of a node that begins with it
abbrev pub mark : TokenMark → Mark
mark p = record { first = p.at; at = p.at; line = p.line }

-- lists of the program as plain data
abbrev pub block_trees : List BlockItem → BlockTrees
block_trees [] = BlockTrees.NoItems
block_trees (i ∷ is) = in_front i (block_trees is)

abbrev pub init_trees : List Init → InitTrees
init_trees [] = InitTrees.NoItems
init_trees (i ∷ is) = InitTrees.Item (init_tree i) (init_trees is)

abbrev pub definition_of : Definition → plain.Definition
definition_of d = record {
  items = map item_tree d.items.items;
  first = d.first;
  line = d.line;
  fixed = d.fixed;
  spec = spec_tree d.spec;
  stars = d.stars;
  name = d.name;
  at = d.at;
  params = params_tree d.params;
}

abbrev pub pending_of : PendingStmt → plain.PendingStmt
pending_of (parent.Body d) = plain.InBody (definition_of d.value)
pending_of (parent.Block f n items) = plain.InBlock f n (block_trees items.items)
pending_of (parent.If f n c) = plain.InIf f n (expr_tree c)
pending_of (parent.Else f n c s) = plain.InElse f n (expr_tree c) (stmt_tree s.value)
pending_of (parent.While f n c) = plain.InWhile f n (expr_tree c)
pending_of (parent.Do f n) = plain.InDo f n
pending_of (parent.For f n i c x) = plain.InFor f n (start_tree i.value) (option_tree c) (option_tree x)

-- the innermost first
abbrev pub pending_stmts_of : List PendingStmt → List plain.PendingStmt
pending_stmts_of fs = map pending_of (reverse fs)

abbrev pub scope_of : Scope → plain.Scope
scope_of (scope.FileScope items) = plain.FileScope (map item_tree items.items)
scope_of (scope.BlockScope f n items fs) = plain.BlockScope f n (block_trees items.items) (pending_stmts_of fs.items)
scope_of (scope.ForScope f n fs) = plain.ForScope f n (pending_stmts_of fs.items)

abbrev pub heading_of : Heading → plain.Heading
heading_of h = record { scope = scope_of h.scope; first = h.first; line = h.line; fixed = h.fixed }

abbrev pub declaration_of : Declaration → plain.Declaration
declaration_of d = record { heading = heading_of d.heading; spec = spec_tree d.spec; names = map file_tree d.names.items }

abbrev pub declarator_of : Declarator → plain.Declarator
declarator_of x = record { declaration = declaration_of x.declaration.value; stars = x.stars; name = x.name; at = x.at }

abbrev pub param_list_of : ParamList → plain.ParamList
param_list_of l = record { function = declarator_of l.function; params = map param_tree l.params.items }

-- a parameter with these brackets
abbrev pub param_of : ParamHead → Vec Dim Global → ParamTree
param_of p ds = record {
  first = p.first;
  line = p.line;
  spec = spec_tree p.spec.value;
  stars = p.stars;
  name = p.name;
  at = p.at;
  dims = dim_trees ds.items;
}

abbrev pub head_of : Head → plain.Head
head_of (head.Name x) = plain.OfName (declarator_of x)
head_of (head.Param l p) = plain.OfParam (param_list_of l) p.first p.line (spec_tree p.spec.value) p.stars p.name p.at

abbrev pub init_declarator_of : InitDeclarator → plain.InitDeclarator
init_declarator_of t = record { declarator = declarator_of t.declarator; dims = dim_trees t.dims.items }

abbrev pub init_list_of : InitList → plain.InitList
init_list_of b = record { first = b.first; items = init_trees b.items.items }

-- the innermost first
abbrev pub init_lists_of : List InitList → List plain.InitList
init_lists_of bs = map init_list_of (reverse bs)

abbrev pub spec_context_of : SpecContext → plain.SpecContext
spec_context_of (for_spec.Declaration h) = plain.ForDeclaration (heading_of h)
spec_context_of (for_spec.Param l f n) = plain.ForParam (param_list_of l) f n

abbrev pub expr_context_of : ExprContext → plain.ExprContext
expr_context_of (for_expr.Statement f n fs) = plain.Statement f n (pending_stmts_of fs.items)
expr_context_of (for_expr.IfTest f n fs) = plain.IfTest f n (pending_stmts_of fs.items)
expr_context_of (for_expr.WhileTest f n fs) = plain.WhileTest f n (pending_stmts_of fs.items)
expr_context_of (for_expr.DoTest f n s fs) = plain.DoTest f n (stmt_tree s.value) (pending_stmts_of fs.items)
expr_context_of (for_expr.ForStart f n fs) = plain.ForStart f n (pending_stmts_of fs.items)
expr_context_of (for_expr.ForTest f n i fs) = plain.ForTest f n (start_tree i.value) (pending_stmts_of fs.items)
expr_context_of (for_expr.ForNext f n i c fs) = plain.ForNext f n (start_tree i.value) (option_tree c) (pending_stmts_of fs.items)
expr_context_of (for_expr.Return f n fs) = plain.Return f n (pending_stmts_of fs.items)
expr_context_of (for_expr.Length h ds) = plain.Length (head_of h) (dim_trees ds.items)
expr_context_of (for_expr.Item t bs) = plain.Item (init_declarator_of t) (init_lists_of bs.items)
