-- What the machine holds spells what it has read, and each pending node stands where its node may stand.
use Rattle.std.specs.Prelude.{◌≡◌, ℕ, ◌≤◌, List, [], ◌∷◌, ◌++◌, Bool, false, true, IsTrue}
use Rattle.ob_tree.specs.declared.tokens.TokenKind.{TokenKind}
use Rattle.ob_tree.specs.declared.tokens.TokenKind.TheVariants as kind
use Rattle.ob_tree.specs.declared.tokens.Keyword.TheVariants as word
use Rattle.ob_tree.specs.declared.tokens.Sign.{Sign}
use Rattle.ob_tree.specs.declared.tokens.Sign.TheVariants as sign
use Rattle.ob_tree.specs.Trees.{ExprTrees, ObjTrees}
use Rattle.ob_tree.specs.Spelling.{spell, spell_type, spell_spec, spell_members, spell_obj, spell_dims, spell_name, stars, step_sign, infix_sign}
use Rattle.ob_tree.specs.Levels.{postfix_level, unary_level, cast_level, primary_level, is_unary, IsInfix, infix_level, left_level}
use Rattle.ob_tree.specs.Valid.{Valid, ValidName, ValidTag, ValidArguments, ValidType, ValidSpec, ValidMembers, ValidMemberNames, ValidDims, IsOf}
use Rattle.ob_tree.specs.ExprStates.{no_level, Head, OfType, OfMember, StructBody, StructDeclaration, PendingNode, InParen, InIndex, InCall, InStep, InUnary, InSize, InCast, InJoin, InThen, InElse, InLength, InType, InStruct, State, BeforeOperand, Open, Size, SizeOpen, Called, Select, AfterOperand, Specifier, StructWord, Members, Declare, Dims, AfterSpec, top_operand_level}

-- arguments and declarators with a comma behind each
abbrev pub spell_arguments_before : ExprTrees → List TokenKind
spell_arguments_before ExprTrees.NoArguments = []
spell_arguments_before (ExprTrees.Argument e es) = spell e ++ kind.Sign sign.Comma ∷ spell_arguments_before es

abbrev pub spell_objs_before : ObjTrees → List TokenKind
spell_objs_before ObjTrees.NoDeclarators = []
spell_objs_before (ObjTrees.Declarator o os) = spell_obj o ++ kind.Sign sign.Comma ∷ spell_objs_before os

-- a structure up to its next line of members, a line up to its next name
abbrev pub body_spell : StructBody → List TokenKind
body_spell b = kind.Word word.Struct ∷ (spell_name b.tag ++ kind.Sign sign.OpenBrace ∷ spell_members b.members)

abbrev pub line_spell : StructDeclaration → List TokenKind
line_spell l = body_spell l.body ++ (spell_spec l.spec ++ spell_objs_before l.names)

-- what stands before the specifier of a type name
abbrev pub type_start : (sized : Bool) → List TokenKind
type_start false = kind.Sign sign.OpenParen ∷ []
type_start true = kind.Word word.Sizeof ∷ (kind.Sign sign.OpenParen ∷ [])

abbrev pub head_spell : Head → List TokenKind
head_spell (OfType m z s n) = type_start z ++ (spell_spec s ++ stars n)
head_spell (OfMember l n name a) = line_spell l ++ (stars n ++ kind.Name name ∷ [])

abbrev pub pending_spell : PendingNode → List TokenKind
pending_spell (InParen m) = kind.Sign sign.OpenParen ∷ []
pending_spell (InIndex m b) = spell b ++ kind.Sign sign.OpenBracket ∷ []
pending_spell (InCall m name es) = kind.Name name ∷ (kind.Sign sign.OpenParen ∷ spell_arguments_before es)
pending_spell (InStep m down) = kind.Sign (step_sign down) ∷ []
pending_spell (InUnary m s) = kind.Sign s ∷ []
pending_spell (InSize m) = kind.Word word.Sizeof ∷ []
pending_spell (InCast m t) = kind.Sign sign.OpenParen ∷ (spell_type t ++ kind.Sign sign.CloseParen ∷ [])
pending_spell (InJoin m op l) = spell l ++ kind.Sign (infix_sign op) ∷ []
pending_spell (InThen m c) = spell c ++ kind.Sign sign.Question ∷ []
pending_spell (InElse m c x) = spell c ++ kind.Sign sign.Question ∷ (spell x ++ kind.Sign sign.Colon ∷ [])
pending_spell (InLength h ds) = head_spell h ++ (spell_dims ds ++ kind.Sign sign.OpenBracket ∷ [])
pending_spell (InType m z) = type_start z
pending_spell (InStruct b) = body_spell b

abbrev pub stack_spell : List PendingNode → List TokenKind
stack_spell [] = []
stack_spell (f ∷ fs) = stack_spell fs ++ pending_spell f

abbrev pub select_sign : (arrow : Bool) → Sign
select_sign false = sign.Dot
select_sign true = sign.Arrow

abbrev pub state_spell : State → List TokenKind
state_spell (BeforeOperand fs) = stack_spell fs
state_spell (Open m fs) = stack_spell fs ++ kind.Sign sign.OpenParen ∷ []
state_spell (Size m fs) = stack_spell fs ++ kind.Word word.Sizeof ∷ []
state_spell (SizeOpen m n fs) = stack_spell fs ++ kind.Word word.Sizeof ∷ (kind.Sign sign.OpenParen ∷ [])
state_spell (Called m name fs) = stack_spell fs ++ kind.Name name ∷ (kind.Sign sign.OpenParen ∷ [])
state_spell (Select m arrow b fs) = stack_spell fs ++ (spell b ++ kind.Sign (select_sign arrow) ∷ [])
state_spell (AfterOperand e fs) = stack_spell fs ++ spell e
state_spell (Specifier fs) = stack_spell fs
state_spell (StructWord f fs) = stack_spell fs ++ kind.Word word.Struct ∷ []
state_spell (Members b fs) = stack_spell fs ++ body_spell b
state_spell (Declare l n fs) = stack_spell fs ++ (line_spell l ++ stars n)
state_spell (Dims h ds fs) = stack_spell fs ++ (head_spell h ++ spell_dims ds)
state_spell (AfterSpec s fs) = stack_spell fs ++ spell_spec s

-- The parts are valid.
abbrev pub BodyOk : StructBody → Type 0
BodyOk b = ValidTag b.tag × ValidMembers b.members

abbrev pub LineOk : StructDeclaration → Type 0
LineOk l = BodyOk l.body × ValidSpec l.spec × ValidMemberNames l.names

abbrev pub HeadOk : Head → Type 0
HeadOk (OfType m z s n) = ValidSpec s
HeadOk (OfMember l n name a) = LineOk l × ValidName name

abbrev pub PendingOk : PendingNode → Type 0
PendingOk (InParen m) = Unit {0}
PendingOk (InIndex m b) = IsOf postfix_level b
PendingOk (InCall m name es) = ValidName name × ValidArguments es
PendingOk (InStep m down) = Unit {0}
PendingOk (InUnary m s) = IsTrue (is_unary s)
PendingOk (InSize m) = Unit {0}
PendingOk (InCast m t) = ValidType t
PendingOk (InJoin m op l) = IsInfix op × IsOf (left_level op) l
PendingOk (InThen m c) = IsOf 3 c
PendingOk (InElse m c x) = IsOf 3 c × Valid x
PendingOk (InLength h ds) = HeadOk h × ValidDims ds
PendingOk (InType m z) = Unit {0}
PendingOk (InStruct b) = BodyOk b

-- a specifier may stand there
abbrev pub TakesSpec : (least : ℕ) → List PendingNode → Type 0
TakesSpec least [] = least ≡ no_level
TakesSpec least (InType m z ∷ fs) = Unit {0}
TakesSpec least (InStruct b ∷ fs) = Unit {0}
TakesSpec least (f ∷ fs) = ⊥

-- the nonterminal of a cast and of a `sizeof`
abbrev pub type_level : (sized : Bool) → ℕ
type_level false = cast_level
type_level true = unary_level

abbrev pub HeadFits : (least : ℕ) → List PendingNode → Head → Type 0
HeadFits least fs (OfType m z s n) = top_operand_level least fs ≤ type_level z
HeadFits least fs (OfMember l n name a) = TakesSpec least fs

-- The node of the pending node may stand there.
abbrev pub PendingFits : (least : ℕ) → List PendingNode → PendingNode → Type 0
PendingFits least fs (InParen m) = top_operand_level least fs ≤ primary_level
PendingFits least fs (InIndex m b) = top_operand_level least fs ≤ postfix_level
PendingFits least fs (InCall m name es) = top_operand_level least fs ≤ primary_level
PendingFits least fs (InStep m down) = top_operand_level least fs ≤ unary_level
PendingFits least fs (InUnary m s) = top_operand_level least fs ≤ unary_level
PendingFits least fs (InSize m) = top_operand_level least fs ≤ unary_level
PendingFits least fs (InCast m t) = top_operand_level least fs ≤ cast_level
PendingFits least fs (InJoin m op l) = top_operand_level least fs ≤ infix_level op
PendingFits least fs (InThen m c) = top_operand_level least fs ≤ 2
PendingFits least fs (InElse m c x) = top_operand_level least fs ≤ 2
PendingFits least fs (InLength h ds) = HeadFits least fs h
PendingFits least fs (InType m z) = top_operand_level least fs ≤ type_level z
PendingFits least fs (InStruct b) = TakesSpec least fs

abbrev pub Stands : (least : ℕ) → List PendingNode → Type 0
Stands least [] = Unit {0}
Stands least (f ∷ fs) = PendingOk f × PendingFits least fs f × Stands least fs

abbrev pub StateOk : (least : ℕ) → State → Type 0
StateOk least (BeforeOperand fs) = Stands least fs × (top_operand_level least fs ≤ unary_level)
StateOk least (Open m fs) = Stands least fs × (top_operand_level least fs ≤ unary_level)
StateOk least (Size m fs) = Stands least fs × (top_operand_level least fs ≤ unary_level)
StateOk least (SizeOpen m n fs) = Stands least fs × (top_operand_level least fs ≤ unary_level)
StateOk least (Called m name fs) = Stands least fs × (top_operand_level least fs ≤ primary_level) × ValidName name
StateOk least (Select m arrow b fs) = Stands least fs × (top_operand_level least fs ≤ postfix_level) × IsOf postfix_level b
StateOk least (AfterOperand e fs) = Stands least fs × IsOf (top_operand_level least fs) e
StateOk least (Specifier fs) = Stands least fs × TakesSpec least fs
StateOk least (StructWord f fs) = Stands least fs × TakesSpec least fs
StateOk least (Members b fs) = Stands least fs × TakesSpec least fs × BodyOk b
StateOk least (Declare l n fs) = Stands least fs × TakesSpec least fs × LineOk l
StateOk least (Dims h ds fs) = Stands least fs × HeadFits least fs h × HeadOk h × ValidDims ds
StateOk least (AfterSpec s fs) = Stands least fs × TakesSpec least fs × ValidSpec s

-- `least` is the level of the expression that is read, or none where a specifier is read
abbrev pub IsGoal : (least : ℕ) → Type 0
IsGoal least = least ≤ primary_level → least ≤ 2
