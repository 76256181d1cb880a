-- The words of an integer type are those of one at each of its words.
use Rattle.std.proofs.Common.{List, [], ◌∷◌, ◌++◌, refl}
use Rattle.std.specs.Prelude.{IsTrue}
use Rattle.ob_tree.specs.declared.tokens.Keyword.{Keyword}
use Rattle.ob_tree.specs.declared.tokens.Keyword.TheVariants as word
use Rattle.ob_tree.specs.Integers.{is_int_tail, is_long_tail, is_plain_integer, is_sign_tail, is_integer}
use Rattle.ob_tree.proofs.SignShifts.{no}

int-tail-part : (xs : List Keyword) (w : Keyword) (ys : List Keyword) → IsTrue (is_int_tail (xs ++ w ∷ ys)) → IsTrue (is_int_tail (xs ++ w ∷ []))
int-tail-part [] word.Int ys h = refl
int-tail-part [] w ys h = no h
int-tail-part (word.Int ∷ []) w ys h = no h
int-tail-part (word.Int ∷ (x ∷ xs)) w ys h = no h
int-tail-part (x ∷ xs) w ys h = no h

long-tail-part : (xs : List Keyword) (w : Keyword) (ys : List Keyword) → IsTrue (is_long_tail (xs ++ w ∷ ys)) → IsTrue (is_long_tail (xs ++ w ∷ []))
long-tail-part [] word.Int ys h = refl
long-tail-part [] word.Long ys h = refl
long-tail-part [] w ys h = no h
long-tail-part (word.Long ∷ xs) w ys h = int-tail-part xs w ys h
long-tail-part (word.Int ∷ xs) w ys h = int-tail-part (word.Int ∷ xs) w ys h
long-tail-part (x ∷ xs) w ys h = no h

plain-part : (xs : List Keyword) (w : Keyword) (ys : List Keyword) → IsTrue (is_plain_integer (xs ++ w ∷ ys)) → IsTrue (is_plain_integer (xs ++ w ∷ []))
plain-part [] word.Char ys h = refl
plain-part [] word.Short ys h = refl
plain-part [] word.Int ys h = refl
plain-part [] word.Long ys h = refl
plain-part [] w ys h = no h
plain-part (word.Short ∷ xs) w ys h = int-tail-part xs w ys h
plain-part (word.Long ∷ xs) w ys h = long-tail-part xs w ys h
plain-part (word.Char ∷ []) w ys h = no h
plain-part (word.Char ∷ (x ∷ xs)) w ys h = no h
plain-part (word.Int ∷ []) w ys h = no h
plain-part (word.Int ∷ (x ∷ xs)) w ys h = no h
plain-part (x ∷ xs) w ys h = no h

sign-tail-part : (xs : List Keyword) (w : Keyword) (ys : List Keyword) → IsTrue (is_sign_tail (xs ++ w ∷ ys)) → IsTrue (is_sign_tail (xs ++ w ∷ []))
sign-tail-part [] w ys h = plain-part [] w ys h
sign-tail-part (x ∷ xs) w ys h = plain-part (x ∷ xs) w ys h

pub integer-part : (xs : List Keyword) (w : Keyword) (ys : List Keyword) → IsTrue (is_integer (xs ++ w ∷ ys)) → IsTrue (is_integer (xs ++ w ∷ []))
integer-part [] word.Signed ys h = refl
integer-part [] word.Unsigned ys h = refl
integer-part [] word.Char ys h = plain-part [] word.Char ys h
integer-part [] word.Short ys h = plain-part [] word.Short ys h
integer-part [] word.Int ys h = plain-part [] word.Int ys h
integer-part [] word.Long ys h = plain-part [] word.Long ys h
integer-part [] w ys h = no h
integer-part (word.Signed ∷ xs) w ys h = sign-tail-part xs w ys h
integer-part (word.Unsigned ∷ xs) w ys h = sign-tail-part xs w ys h
integer-part (word.Char ∷ xs) w ys h = plain-part (word.Char ∷ xs) w ys h
integer-part (word.Short ∷ xs) w ys h = plain-part (word.Short ∷ xs) w ys h
integer-part (word.Int ∷ xs) w ys h = plain-part (word.Int ∷ xs) w ys h
integer-part (word.Long ∷ xs) w ys h = plain-part (word.Long ∷ xs) w ys h
integer-part (x ∷ xs) w ys h = no h
