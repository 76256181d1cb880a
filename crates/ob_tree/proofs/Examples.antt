-- Small trees, valid and not, as the grammar's definitions decide them.
use Rattle.std.proofs.Common.{◌≡◌, ℕ, [], ◌∷◌, true, false, None, refl, arith}
use Rattle.ob_tree.specs.declared.tokens.Keyword.TheVariants as word
use Rattle.ob_tree.specs.declared.tokens.Sign.TheVariants as sign
use Rattle.ob_tree.specs.declared.tokens.TokenKind.TheVariants as kind
use Rattle.ob_tree.specs.Trees.{Mark, Infix, ExprTree, ExprTrees, TypeTree, SpecTree, MemberTrees, ObjTree, ObjTrees, DimTrees, InitTree, InitTrees}
use Rattle.ob_tree.specs.Spelling.{spell}
use Rattle.ob_tree.specs.Integers.{is_integer}
use Rattle.ob_tree.specs.Valid.{Valid, ValidSpec, ValidType, ValidInit, ValidDims, ValidOpenDims}
use Rattle.ob_tree.specs.Places.{place, place_spec}
use Rattle.ob_tree.specs.Paths.{begun, height}

abbrev none : Mark
none = record { first = 0; at = 0; line = 0 }

-- `NULL`, the least expression
abbrev null : ExprTree
null = ExprTree.Null none

abbrev plus : ExprTree → ExprTree → ExprTree
plus l r = ExprTree.Join none (Infix.Binary sign.Plus) l r

abbrev times : ExprTree → ExprTree → ExprTree
times l r = ExprTree.Join none (Infix.Binary sign.Star) l r

abbrev assign : ExprTree → ExprTree → ExprTree
assign l r = ExprTree.Join none (Infix.Assign sign.Assign) l r

abbrev comma : ExprTree → ExprTree → ExprTree
comma l r = ExprTree.Join none Infix.Comma l r

-- `int` with so many stars and these brackets
abbrev int : ℕ → DimTrees → TypeTree
int stars dims = TypeTree.TypeName (SpecTree.Integer 0 (word.Int ∷ [])) stars dims

abbrev cast : ExprTree → ExprTree
cast e = ExprTree.Cast none (int 0 DimTrees.NoDims) e

-- `NULL + NULL * NULL`
product_in_sum : Valid (plus null (times null null))
product_in_sum = (omega arith, tt, omega arith, (omega arith, tt, omega arith, tt, omega arith), omega arith)

-- a sum is no factor without parentheses
sum_in_product : Valid (times (plus null null) null) → ⊥
sum_in_product v = omega (arith, v.2)

-- a sum of sums goes to the left
sum_to_the_right : Valid (plus null (plus null null)) → ⊥
sum_to_the_right v = omega (arith, v.4)

-- `-NULL = NULL` and `sizeof(int) = NULL` are assignments of the grammar, `(int)NULL = NULL` is none
assign_to_minus : Valid (assign (ExprTree.Unary none sign.Minus null) null)
assign_to_minus = (refl, (refl, tt, omega arith), omega arith, tt, omega arith)

assign_to_sizeof : Valid (assign (ExprTree.SizeType none (int 0 DimTrees.NoDims)) null)
assign_to_sizeof = (refl, (refl, tt), omega arith, tt, omega arith)

assign_to_cast : Valid (assign (cast null) null) → ⊥
assign_to_cast v = omega (arith, v.2)

-- a cast stands behind `-` and not behind `++`
cast_behind_minus : Valid (ExprTree.Unary none sign.Minus (cast null))
cast_behind_minus = (refl, ((refl, tt), tt, omega arith), omega arith)

cast_behind_step : Valid (ExprTree.Step none false false (cast null)) → ⊥
cast_behind_step v = omega (arith, v.1)

-- between `?` and `:` stands any expression, behind `:` a conditional
comma_in_conditional : Valid (ExprTree.Cond none null (comma null null) null)
comma_in_conditional = (tt, omega arith, (tt, tt, omega arith, tt, omega arith), tt, omega arith)

comma_behind_colon : Valid (ExprTree.Cond none null null (comma null null)) → ⊥
comma_behind_colon v = omega (arith, v.4)

-- `/` is no assignment operator, and `!` no binary one
slash_assigns : Valid (ExprTree.Join none (Infix.Assign sign.Slash) null null) → ⊥
slash_assigns v = let f : false ≡ true = v.0 in absurd cc

not_joins : Valid (ExprTree.Join none (Infix.Binary sign.Not) null null) → ⊥
not_joins v = omega (arith, v.0)

no_string : Valid (ExprTree.Str none []) → ⊥
no_string v = v

-- integer types
long_long_int : is_integer (word.Unsigned ∷ (word.Long ∷ (word.Long ∷ (word.Int ∷ [])))) ≡ true
long_long_int = refl

signed_alone : is_integer (word.Signed ∷ []) ≡ true
signed_alone = refl

long_thrice : is_integer (word.Long ∷ (word.Long ∷ (word.Long ∷ []))) ≡ false
long_thrice = refl

two_signs : is_integer (word.Unsigned ∷ (word.Signed ∷ [])) ≡ false
two_signs = refl

int_first : is_integer (word.Int ∷ (word.Long ∷ [])) ≡ false
int_first = refl

char_int : is_integer (word.Char ∷ (word.Int ∷ [])) ≡ false
char_int = refl

no_words : is_integer [] ≡ false
no_words = refl

-- a structure specifier has members, an initialiser list has items
no_members : ValidSpec (SpecTree.Struct 0 None MemberTrees.NoMembers) → ⊥
no_members v = v.1

no_items : ValidInit (InitTree.Braces 0 InitTrees.NoItems false) → ⊥
no_items v = v.0

-- the first length alone may be missing, and only where the row is one of that sort
no_first_length : ValidOpenDims (DimTrees.Unsized (DimTrees.Sized null DimTrees.NoDims))
no_first_length = (tt, omega arith, tt)

no_second_length : ValidOpenDims (DimTrees.Sized null (DimTrees.Unsized DimTrees.NoDims)) → ⊥
no_second_length v = v.2

type_without_length : ValidType (int 0 (DimTrees.Unsized DimTrees.NoDims)) → ⊥
type_without_length v = v.1

-- a length is a conditional expression
length_with_comma : ValidDims (DimTrees.Sized (comma null null) DimTrees.NoDims) → ⊥
length_with_comma v = omega (arith, v.1)

-- `(int*[NULL])NULL` from place 5 on, each token on a line of its own
abbrev lines : ℕ → ℕ
lines p = p

abbrev array_cast : ExprTree
array_cast = ExprTree.Cast none (int 1 (DimTrees.Sized null DimTrees.NoDims)) null

array_cast_spells : spell array_cast
    ≡ kind.Sign sign.OpenParen ∷ (kind.Word word.Int ∷ (kind.Sign sign.Star ∷ (kind.Sign sign.OpenBracket ∷ (kind.Word word.Null ∷ (kind.Sign sign.CloseBracket ∷ (kind.Sign sign.CloseParen ∷ (kind.Word word.Null ∷ [])))))))
array_cast_spells = refl

array_cast_placed : place lines 5 array_cast
    ≡ ExprTree.Cast (record { first = 5; at = 5; line = 5 }) (TypeTree.TypeName (SpecTree.Integer 6 (word.Int ∷ [])) 1 (DimTrees.Sized (ExprTree.Null (record { first = 9; at = 9; line = 9 })) DimTrees.NoDims)) (ExprTree.Null (record { first = 12; at = 12; line = 12 }))
array_cast_placed = refl

-- the cast, below it the star, below it the bracket, below it the length; the operand stands beside the star
array_cast_height : height array_cast ≡ 4
array_cast_height = refl

array_cast_begun : begun array_cast 3 ≡ 2
array_cast_begun = refl

array_cast_begun_length : begun array_cast 5 ≡ 4
array_cast_begun_length = refl

-- each further operator of a chain deepens what stands before it
chain_begun : begun (plus (plus null null) null) 3 ≡ 3
chain_begun = refl

sum_begun : begun (plus null null) 1 ≡ 2
sum_begun = refl

sum_not_begun : begun (plus null null) 0 ≡ 0
sum_not_begun = refl

-- a structure with one member of a type `void **`
abbrev pointer_member : SpecTree
pointer_member = SpecTree.Struct 0 None (MemberTrees.MemberLine (SpecTree.Void 0) (ObjTrees.Declarator (ObjTree.Bare 2 [] 0 DimTrees.NoDims) ObjTrees.NoDeclarators) MemberTrees.NoMembers)

pointer_member_placed : place_spec lines 3 pointer_member
    ≡ SpecTree.Struct 3 None (MemberTrees.MemberLine (SpecTree.Void 5) (ObjTrees.Declarator (ObjTree.Bare 2 [] 8 DimTrees.NoDims) ObjTrees.NoDeclarators) MemberTrees.NoMembers)
pointer_member_placed = refl

-- a call's name is no node, its arguments are nodes below the call
call_height : height (ExprTree.Call none [] (ExprTrees.Argument null (ExprTrees.Argument null ExprTrees.NoArguments))) ≡ 2
call_height = refl
