-- What the parser holds, as the machine sees it.
use Rattle.std.specs.Prelude.{List, [], ◌∷◌, map, reverse}
use Rattle.ob_tree.specs.Trees.{Mark, Infix, ExprTree}
use Rattle.ob_tree.specs.ExpressionView.{expr_tree, spec_tree, type_tree, obj_trees, dim_trees}
use Rattle.ob_tree.specs.ExprStates as plain
use Rattle.ob_tree.specs.ExprStates.{close}
use Rattle.ob_exprs.specs.declared.state.ExprMark.{ExprMark}
use Rattle.ob_exprs.specs.declared.state.Operator.{Operator}
use Rattle.ob_exprs.specs.declared.state.Operator.TheVariants as op
use Rattle.ob_exprs.specs.declared.state.StructBody.{StructBody}
use Rattle.ob_exprs.specs.declared.state.StructDeclaration.{StructDeclaration}
use Rattle.ob_exprs.specs.declared.state.Head.{Head}
use Rattle.ob_exprs.specs.declared.state.Head.TheVariants as head
use Rattle.ob_exprs.specs.declared.state.PendingNode.{PendingNode}
use Rattle.ob_exprs.specs.declared.state.PendingNode.TheVariants as pending
use Rattle.ob_exprs.specs.Lists.{argument_trees, member_trees}

abbrev pub mark : ExprMark → Mark
mark p = record { first = p.first; at = p.at; line = p.line }

abbrev pub infix_of : Operator → Infix
infix_of op.Comma = Infix.Comma
infix_of (op.Assign s) = Infix.Assign s
infix_of (op.Binary s) = Infix.Binary s

abbrev pub body_of : StructBody → plain.StructBody
body_of b = record { first = b.first; tag = b.tag; members = member_trees b.members.items.items }

abbrev pub line_of : StructDeclaration → plain.StructDeclaration
line_of l = record { body = body_of l.body; spec = spec_tree l.spec.spec; names = obj_trees l.names.items.items }

abbrev pub head_of : Head → plain.Head
head_of (head.Type p z s n) = plain.OfType (mark p) z (spec_tree s.spec) n
head_of (head.Member l n name a) = plain.OfMember (line_of l) n name a

abbrev pub pending_of : PendingNode → plain.PendingNode
pending_of (pending.Paren p) = plain.InParen (mark p)
pending_of (pending.Index p b) = plain.InIndex (mark p) (expr_tree b.expr.value)
pending_of (pending.Call p name es) = plain.InCall (mark p) name (argument_trees es.items.items)
pending_of (pending.Step p down) = plain.InStep (mark p) down
pending_of (pending.Unary p s) = plain.InUnary (mark p) s
pending_of (pending.Size p) = plain.InSize (mark p)
pending_of (pending.Cast p t) = plain.InCast (mark p) (type_tree t.name)
pending_of (pending.Join p o l) = plain.InJoin (mark p) (infix_of o) (expr_tree l.expr.value)
pending_of (pending.Then p c) = plain.InThen (mark p) (expr_tree c.expr.value)
pending_of (pending.Else p c x) = plain.InElse (mark p) (expr_tree c.expr.value) (expr_tree x.expr.value)
pending_of (pending.Length h ds) = plain.InLength (head_of h) (dim_trees ds.items.items)
pending_of (pending.Type p z) = plain.InType (mark p) z
pending_of (pending.Struct b) = plain.InStruct (body_of b)

-- the newest first
abbrev pub pending_nodes : List PendingNode → List plain.PendingNode
pending_nodes ps = map pending_of (reverse ps)

-- the newest node with its last operand
abbrev pub closed_top : ExprTree → List plain.PendingNode → ExprTree × List plain.PendingNode
closed_top e [] = (e, [])
closed_top e (f ∷ fs) = (close f e, fs)
