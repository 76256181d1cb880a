-- Pieces that are put one after another.
use Rattle.std.proofs.Common.{◌≡◌, ℕ, zero, suc, ◌+◌, ◌-◌, ◌<◌, List, [], ◌∷◌, ◌++◌, length, take, get_or, refl, sym, ap, ◌∙◌, arith}
use Rattle.std.proofs.lemmas.List.{append_assoc, append-nil}
use Rattle.ob_typed.specs.declared.statics.StaticPointer.{StaticPointer}
use Rattle.ob_typed.specs.declared.statements.TInit.{TInit}
use Rattle.ob_typed.specs.TypedTree.{PlainImage}
use Rattle.ob_typed.specs.Images.{Piece, placed_bytes, placed_pointers, zeros}
use Rattle.ob_typed.specs.Images.{Piece as piece}
use Rattle.ob_consts.specs.Placing.{numbered, placed}

bytes-append : (bs : List ℕ) (ps qs : List Piece) → placed_bytes (placed_bytes bs ps) qs ≡ placed_bytes bs (ps ++ qs)
bytes-append bs [] qs = refl
bytes-append bs (piece.Bytes at cs ∷ ps) qs = bytes-append (bs ++ (zeros (at - length bs) ++ cs)) ps qs
bytes-append bs (piece.Pointer at target offset ∷ ps) qs = bytes-append bs ps qs

pointers-append : (ps qs : List Piece) → placed_pointers (ps ++ qs) ≡ placed_pointers ps ++ placed_pointers qs
pointers-append [] qs = refl
pointers-append (piece.Bytes at cs ∷ ps) qs = pointers-append ps qs
pointers-append (piece.Pointer at target offset ∷ ps) qs =
    ap (λ (xs : List StaticPointer). record { at = at; target = target; offset = offset } ∷ xs) (pointers-append ps qs)

pub same_image : (bs cs : List ℕ) (xs ys : List StaticPointer) → bs ≡ cs → xs ≡ ys → Path PlainImage (record { bytes = bs; pointers = xs }) (record { bytes = cs; pointers = ys })
same_image bs cs xs ys p q = λ i. record { bytes = p i; pointers = q i }

pub placed-append : (image : PlainImage) (ps qs : List Piece) → placed (placed image ps) qs ≡ placed image (ps ++ qs)
placed-append image ps qs =
    same_image (placed_bytes (placed_bytes image.bytes ps) qs) (placed_bytes image.bytes (ps ++ qs))
    ((image.pointers ++ placed_pointers ps) ++ placed_pointers qs) (image.pointers ++ placed_pointers (ps ++ qs))
    (bytes-append image.bytes ps qs)
    (append_assoc image.pointers (placed_pointers ps) (placed_pointers qs) ∙ ap (λ xs. image.pointers ++ xs) (sym (pointers-append ps qs)))

pub placed-none : (image : PlainImage) → image ≡ placed image []
placed-none image = same_image image.bytes image.bytes image.pointers (image.pointers ++ []) refl (sym (append-nil image.pointers))

numbered-step : (f : ℕ → TInit → List Piece) (k : ℕ) (xs : List TInit) (i : ℕ) (x : TInit) → i < length xs → x ≡ get_or xs i x →
    numbered f k (take (suc i) xs) ≡ numbered f k (take i xs) ++ f (k + i) x
numbered-step f k [] i x h is = absurd (omega arith)
numbered-step f k (y ∷ ys) zero x h is =
    let e : k ≡ k + 0 = omega arith in
    append-nil (f k y) ∙ ap (f k) (sym is) ∙ ap (λ n. f n x) e
numbered-step f k (y ∷ ys) (suc i) x h is =
    let e : k + 1 + i ≡ k + suc i = omega arith in
    ap (λ ps. f k y ++ ps) (numbered-step f (k + 1) ys i x (omega arith) is)
    ∙ sym (append_assoc (f k y) (numbered f (k + 1) (take i ys)) (f (k + 1 + i) x))
    ∙ ap (λ n. (f k y ++ numbered f (k + 1) (take i ys)) ++ f n x) e

-- one turn of a loop that puts the pieces of an item
pub turn : (f : ℕ → TInit → List Piece) (before out after : PlainImage) (xs : List TInit) (i : ℕ) (x : TInit) → i < length xs → x ≡ get_or xs i x →
    out ≡ placed before (numbered f 0 (take i xs)) → after ≡ placed out (f i x) → after ≡ placed before (numbered f 0 (take (i + 1) xs))
turn f before out after xs i x h is o a =
    let e : suc i ≡ i + 1 = omega arith in
    let z : i ≡ 0 + i = omega arith in
    a ∙ ap (λ image. placed image (f i x)) o ∙ placed-append before (numbered f 0 (take i xs)) (f i x)
    ∙ ap (λ n. placed before (numbered f 0 (take i xs) ++ f n x)) z
    ∙ ap (placed before) (sym (numbered-step f 0 xs i x h is))
    ∙ ap (λ n. placed before (numbered f 0 (take n xs))) e

pub zeros-more : (n : ℕ) → zeros (n + 1) ≡ zeros n ++ 0 ∷ []
zeros-more zero = refl
zeros-more (suc n) =
    let e : suc n + 1 ≡ suc (n + 1) = omega arith in
    ap zeros e ∙ ap (λ bs. 0 ∷ bs) (zeros-more n)
