-- The homes of a function's variables, one after another.
use Rattle.std.proofs.Common.{◌≡◌, ◌<◌, ℕ, suc, ◌+◌, Bool, false, List, [], ◌∷◌, ◌++◌, Some, length, drop, get_or, map, option_map, ap, sym, ◌∙◌, append_assoc, arith}
use Rattle.std.specs.Prelude.{slice_get}
use Rattle.std.proofs.Math.Seq.{drop-cons}
use Rattle.std.proofs.lemmas.List.{drop-map, map-append}
use Rattle.std.proofs.lemmas.Option.{slice_get-map, slice_get-get_or, get_or_from_slice_get}
use Rattle.ob_tree.specs.declared.types.CType.{CType}
use Rattle.ob_tree.specs.Types.{PlainType}
use Rattle.ob_tree.specs.TypeView.{plain_type, plain_types}
use Rattle.ob_typed.specs.TypedTree.{TypedFunction}
use Rattle.ob_typed.specs.TypeTests.{is_scalar}
use Rattle.ob_lower.specs.Variables.{exposes_in_stmt}
use Rattle.ob_lower.specs.Homes.{Home, home_first, homes_from, need_of, next_word, own_word}
use Rattle.ob_homes.specs.declared.home.Home.{Home as placed_home}
use Rattle.ob_homes.specs.Flags.{exposed_flags}
use Rattle.ob_homes.specs.HomesView.{plain_home, plain_homes}
use Rattle.ob_homes.proofs.FlagLists.{flag_at}

-- the items from i on are item i and those behind it
pub opened : {A : Type 0} (xs : List A) (i : ℕ) (x : A) → i < length xs → x ≡ get_or xs i x → drop i xs ≡ x ∷ drop (i + 1) xs
opened xs i x within is =
    let next : suc i ≡ i + 1 = omega arith in
    drop-cons xs i x within ∙ (ap (λ y. y ∷ drop (suc i) xs) (sym is) ∙ ap (λ k. x ∷ drop k xs) next)

-- and so where each is what it is without its vectors
pub opened_map : {A B : Type 0} (f : A → B) (xs : List A) (i : ℕ) (x : A) → i < length xs → x ≡ get_or xs i x → drop i (map f xs) ≡ f x ∷ drop (i + 1) (map f xs)
opened_map f xs i x within is =
    drop-map f i xs ∙ (ap (map f) (opened xs i x within is) ∙ ap (λ ys. f x ∷ ys) (sym (drop-map f (i + 1) xs)))

type_at : (xs : List CType) (i : ℕ) (x : CType) → i < length xs → x ≡ get_or xs i x → slice_get (plain_types xs) i ≡ Some (plain_type x)
type_at xs i x within is =
    slice_get-map plain_type xs i ∙ ap (option_map plain_type) (slice_get-get_or xs i x within ∙ ap Some (sym is))

-- the flag of a variable says whether it is exposed
pub flag_tells : (f : TypedFunction) (xs : List CType) (i : ℕ) (x : CType) (flags : List Bool) → f.locals ≡ plain_types xs → i < length xs → x ≡ get_or xs i x →
    flags ≡ exposed_flags f → get_or flags i false ≡ exposes_in_stmt i (plain_type x) f.body
flag_tells f xs i x flags locals within is all =
    let first : i ≡ 0 + i = omega arith in
    let at = ap (λ ts. slice_get ts i) locals ∙ type_at xs i x within is in
    get_or_from_slice_get flags i _ false
    (ap (λ fs. slice_get fs i) all ∙ flag_at (λ v t. exposes_in_stmt v t f.body) i i 0 f.locals (plain_type x) first at)

-- one home more
pub more_homes : (f : TypedFunction) (i w r w' r' : ℕ) (t : PlainType) (ts others : List PlainType) (exposed : Bool) (hs : List placed_home) (h : placed_home) (whole : List Home) →
    ts ≡ t ∷ others → exposed ≡ exposes_in_stmt i t f.body →
    ((o : ℕ → ℕ → List Home) → home_first (need_of (is_scalar t) exposed) (own_word f i w) (next_word f i w) w r o ≡ plain_home h ∷ o w' r') →
    whole ≡ plain_homes hs ++ homes_from f i w r ts →
    whole ≡ plain_homes (hs ++ h ∷ []) ++ homes_from f (i + 1) w' r' others
more_homes f i w r w' r' t ts others exposed hs h whole opens tells placed is =
    let rest = λ (a b : ℕ). homes_from f (i + 1) a b others in
    is
    ∙ (ap (λ us. plain_homes hs ++ homes_from f i w r us) opens
    ∙ (ap (λ b. plain_homes hs ++ home_first (need_of (is_scalar t) b) (own_word f i w) (next_word f i w) w r rest) (sym tells)
    ∙ (ap (λ gs. plain_homes hs ++ gs) (placed rest)
    ∙ (sym (append_assoc (plain_homes hs) (plain_home h ∷ []) (rest w' r'))
    ∙ ap (λ gs. gs ++ rest w' r') (sym (map-append plain_home hs (h ∷ [])))))))
