-- The types of parameters beside others, one after another.
use Rattle.std.proofs.Common.{◌≡◌, ℕ, zero, suc, ◌+◌, ◌<◌, ◌≤◌, Bool, true, false, Some, None, List, [], ◌∷◌, drop, get_or, length, refl, sym, ap, ◌∙◌, add-one}
use Rattle.std.specs.Prelude.{slice_get, ◌&&◌}
use Rattle.ob_tree.specs.Types.{PlainType}
use Rattle.ob_tree.specs.TypeView.{plain_type}
use Rattle.ob_typed.specs.Functions.{parameter_types}
use Rattle.ob_typed.specs.TypeTests.{same_types}
use Rattle.ob_functions.specs.declared.parameters.Parameter.{Parameter}
use Rattle.ob_functions.specs.FunctionView.{is_type, parameters}
use Rattle.ob_functions.proofs.Items.{item_at, none_left}

abbrev types : List Parameter → List PlainType
types ps = parameter_types (parameters ps)

same_first : (t : PlainType) (ps ts : List PlainType) (i : ℕ) → same_types (t ∷ ps) (drop i ts) ≡ (is_type t (slice_get ts i) && same_types ps (drop (suc i) ts))
same_first t ps [] zero = refl
same_first t ps [] (suc i) = refl
same_first t ps (u ∷ ts) zero = refl
same_first t ps (u ∷ ts) (suc i) = same_first t ps ts i

same_turn : (start b : Bool) (xs ys : List Parameter) (ts : List PlainType) (i : ℕ) (x : Parameter) →
    start ≡ same_types (types (drop i xs)) (drop i ts) → ys ≡ xs → i < length ys → x ≡ get_or ys i x → b ≡ is_type (plain_type x.ty) (slice_get ts i) →
    start ≡ (b && same_types (types (drop (suc i) xs)) (drop (suc i) ts))
same_turn start b xs ys ts i x before same h is one =
    let here : drop i xs ≡ x ∷ drop (suc i) xs = ap (drop i) (sym same) ∙ item_at ys i x h is ∙ ap (λ zs. x ∷ drop (suc i) zs) same in
    before ∙ ap (λ zs. same_types (types zs) (drop i ts)) here ∙ same_first (plain_type x.ty) (types (drop (suc i) xs)) ts i
    ∙ ap (λ c. c && same_types (types (drop (suc i) xs)) (drop (suc i) ts)) (sym one)

pub same_on : (start b : Bool) (xs ys : List Parameter) (ts : List PlainType) (i : ℕ) (x : Parameter) →
    start ≡ same_types (types (drop i xs)) (drop i ts) → ys ≡ xs → i < length ys → x ≡ get_or ys i x → b ≡ is_type (plain_type x.ty) (slice_get ts i) → b ≡ true →
    start ≡ same_types (types (drop (i + 1) xs)) (drop (i + 1) ts)
same_on start b xs ys ts i x before same h is one y =
    same_turn start b xs ys ts i x before same h is one ∙ ap (λ c. c && same_types (types (drop (suc i) xs)) (drop (suc i) ts)) y
    ∙ ap (λ n. same_types (types (drop n xs)) (drop n ts)) (sym (add-one i))

pub same_not : (start b : Bool) (xs ys : List Parameter) (ts : List PlainType) (i : ℕ) (x : Parameter) →
    start ≡ same_types (types (drop i xs)) (drop i ts) → ys ≡ xs → i < length ys → x ≡ get_or ys i x → b ≡ is_type (plain_type x.ty) (slice_get ts i) → b ≡ false →
    false ≡ start
same_not start b xs ys ts i x before same h is one n =
    sym (same_turn start b xs ys ts i x before same h is one ∙ ap (λ c. c && same_types (types (drop (suc i) xs)) (drop (suc i) ts)) n)

left_some : (ts : List PlainType) (i : ℕ) (t : PlainType) → Some t ≡ slice_get ts i → same_types [] (drop i ts) ≡ false
left_some [] i t is = absurd (cc)
left_some (u ∷ ts) zero t is = refl
left_some (u ∷ ts) (suc i) t is = left_some ts i t is

left_none : (ts : List PlainType) (i : ℕ) → None ≡ slice_get ts i → same_types [] (drop i ts) ≡ true
left_none [] zero is = refl
left_none [] (suc i) is = refl
left_none (u ∷ ts) zero is = absurd (cc)
left_none (u ∷ ts) (suc i) is = left_none ts i is

same_end : (start : Bool) (xs : List Parameter) (ts : List PlainType) (i n : ℕ) → start ≡ same_types (types (drop i xs)) (drop i ts) → length xs ≤ i → i ≡ n →
    start ≡ same_types [] (drop n ts)
same_end start xs ts i n before h is =
    before ∙ ap (λ zs. same_types (types zs) (drop i ts)) (none_left xs i h) ∙ ap (λ m. same_types [] (drop m ts)) is

pub same_fewer : (start : Bool) (xs : List Parameter) (ts : List PlainType) (i n : ℕ) (t : PlainType) → start ≡ same_types (types (drop i xs)) (drop i ts) → length xs ≤ i → i ≡ n →
    Some t ≡ slice_get ts n → false ≡ start
same_fewer start xs ts i n t before h is more = sym (same_end start xs ts i n before h is ∙ left_some ts n t more)

pub same_all : (start : Bool) (xs : List Parameter) (ts : List PlainType) (i n : ℕ) → start ≡ same_types (types (drop i xs)) (drop i ts) → length xs ≤ i → i ≡ n →
    None ≡ slice_get ts n → true ≡ start
same_all start xs ts i n before h is none = sym (same_end start xs ts i n before h is ∙ left_none ts n none)
