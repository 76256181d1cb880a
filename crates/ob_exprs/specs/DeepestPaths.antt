-- How many nodes stand on the paths of what the machine holds.
use Rattle.std.specs.Prelude.{ℕ, ◌+◌, List, [], ◌∷◌, max}
use Rattle.ob_exprs.specs.declared.level.Level.{Level}
use Rattle.ob_exprs.specs.declared.level.Level.TheVariants as level
use Rattle.ob_tree.specs.Trees.{DimTrees}
use Rattle.ob_tree.specs.Paths.{height, height_arguments, height_type, height_spec, height_members, height_objs, height_dims}
use Rattle.ob_tree.specs.ExprStates.{Head, OfType, OfMember, StructDeclaration, PendingNode, InIndex, InCall, InCast, InJoin, InThen, InElse, InLength, InStruct, State, BeforeOperand, Open, Size, SizeOpen, Called, Select, AfterOperand, Specifier, StructWord, Members, Declare, Dims, AfterSpec}
use Rattle.ob_tree.specs.Levels.{cond_level, assign_level, expr_level}

-- the number of the nonterminal
abbrev pub level_number : Level → ℕ
level_number level.Comma = expr_level
level_number level.Assign = assign_level
level_number level.Cond = cond_level

-- how many brackets there are
abbrev pub count : DimTrees → ℕ
count DimTrees.NoDims = 0
count (DimTrees.Unsized ds) = 1 + count ds
count (DimTrees.Sized e ds) = 1 + count ds

-- the nodes above a row of brackets from the cast, the `sizeof` or the structure on
abbrev pub head_rise : Head → ℕ
head_rise (OfType m z s n) = 1 + n
head_rise (OfMember l n name a) = 1 + n

-- the nodes on the paths of a structure's members so far
abbrev pub line_height : StructDeclaration → ℕ
line_height l = max (height_members l.body.members) (max (height_spec l.spec) (height_objs l.names))

-- the nodes on the paths beside a row of brackets
abbrev pub head_height : Head → ℕ
head_height (OfType m z s n) = 1 + height_spec s
head_height (OfMember l n name a) = 1 + line_height l

-- the nodes from a pending node's own on down to where its part is missing
abbrev pub rise : PendingNode → ℕ
rise (InLength h ds) = head_rise h + (count ds + 1)
rise f = 1

-- the most nodes on a path of a pending node
abbrev pub inner : PendingNode → ℕ
inner (InIndex m b) = 1 + height b
inner (InCall m name es) = 1 + height_arguments es
inner (InCast m t) = 1 + height_type t
inner (InJoin m op l) = 1 + height l
inner (InThen m c) = 1 + height c
inner (InElse m c x) = 1 + max (height c) (height x)
inner (InLength h ds) = max (head_height h) (head_rise h + max (height_dims ds) (count ds + 1))
inner (InStruct b) = 1 + height_members b.members
inner f = 1

-- the nodes above what is missing
abbrev pub depth_of : List PendingNode → ℕ
depth_of [] = 0
depth_of (f ∷ fs) = depth_of fs + rise f

-- the most nodes on a path of the pending nodes
abbrev pub deepest_stack_path : List PendingNode → ℕ
deepest_stack_path [] = 0
deepest_stack_path (f ∷ fs) = max (deepest_stack_path fs) (depth_of fs + inner f)

-- the nodes on the paths of what was read last
abbrev pub newest_stack_path : List PendingNode → ℕ
newest_stack_path [] = 0
newest_stack_path (f ∷ fs) = depth_of fs + inner f

abbrev pub newest_path : State → ℕ
newest_path (BeforeOperand fs) = newest_stack_path fs
newest_path (Open m fs) = depth_of fs + 1
newest_path (Size m fs) = depth_of fs + 1
newest_path (SizeOpen m n fs) = depth_of fs + 1
newest_path (Called m name fs) = depth_of fs + 1
newest_path (Select m arrow b fs) = depth_of fs + (1 + height b)
newest_path (AfterOperand e fs) = depth_of fs + height e
newest_path (Specifier fs) = newest_stack_path fs
newest_path (StructWord f fs) = depth_of fs + 1
newest_path (Members b fs) = depth_of fs + (1 + height_members b.members)
newest_path (Declare l n fs) = depth_of fs + (1 + max (line_height l) n)
newest_path (Dims h ds fs) = depth_of fs + max (head_height h) (head_rise h + height_dims ds)
newest_path (AfterSpec s fs) = depth_of fs + height_spec s

-- the pending nodes of a state
abbrev pub stack_of : State → List PendingNode
stack_of (BeforeOperand fs) = fs
stack_of (Open m fs) = fs
stack_of (Size m fs) = fs
stack_of (SizeOpen m n fs) = fs
stack_of (Called m name fs) = fs
stack_of (Select m arrow b fs) = fs
stack_of (AfterOperand e fs) = fs
stack_of (Specifier fs) = fs
stack_of (StructWord f fs) = fs
stack_of (Members b fs) = fs
stack_of (Declare l n fs) = fs
stack_of (Dims h ds fs) = fs
stack_of (AfterSpec s fs) = fs

-- the most nodes on a path that have begun
abbrev pub deepest_path : State → ℕ
deepest_path s = max (deepest_stack_path (stack_of s)) (newest_path s)
