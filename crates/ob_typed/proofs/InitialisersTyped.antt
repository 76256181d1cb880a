-- Each initialiser of a program (C99 6.7.8) fits what it is for.
use Rattle.std.proofs.Common.{◌≡◌, ◌≤◌, ◌<◌, ℕ, zero, suc, ◌+◌, ◌*◌, Bool, true, false, Option, Some, None, List, [], ◌∷◌, ◌++◌, length, refl, sym, ap, arith, ◌∙◌, subst, length-append}
use Rattle.std.specs.Prelude.{nat_eq, if◌then◌else◌}
use Rattle.std.proofs.lemmas.Bool.{eqb-true, le-leb, lt-ltb}
use Rattle.std.proofs.lemmas.List.{append-nil, append_assoc}
use Rattle.std.proofs.lemmas.Option.{none-some}
use Rattle.ob_tree.specs.Levels.{mark_of}
use Rattle.ob_tree.specs.Parts.{Part, element_part, part}
use Rattle.ob_tree.specs.Sizes.{has_size, size}
use Rattle.ob_tree.specs.Trees.{ExprTree, InitTree, InitTrees, Mark}
use Rattle.ob_tree.specs.Trees.{InitTree as source, InitTrees as sources}
use Rattle.ob_tree.specs.Types.{PlainStructs, PlainType}
use Rattle.ob_tree.specs.Types.{PlainType as type}
use Rattle.ob_tree.specs.Valid.{Valid, ValidInit, ValidInits}
use Rattle.ob_typed.specs.AddressConstants.{is_static_value}
use Rattle.ob_typed.specs.Conversions.{Checked, as_type, fits, is_null, value, value_type}
use Rattle.ob_typed.specs.Conversions.{Checked as checked}
use Rattle.ob_typed.specs.Initialisers.{array_item, check_init, check_items, check_value, completed, constant_item, counted, fits_length, init_list, item_count, item_rule, list_rule, part_rule, part_type, past_end, past_here, scalar_item, static_types, string_for, string_node, string_rule, struct_item, type_of}
use Rattle.ob_typed.specs.Marks.{first_of_init}
use Rattle.ob_typed.specs.Scopes.{Env, Known}
use Rattle.ob_typed.specs.TypeTests.{is_char, is_unusable, is_void}
use Rattle.ob_typed.specs.TypedTree.{TypedExpr, TypedInit, TypedInits}
use Rattle.ob_typed.specs.TypedTree.{TypedInit as init, TypedInits as inits}
use Rattle.ob_typed.specs.WellTyped.{AreTypedItems, Around, IsScalar, IsTypedInit}
use Rattle.ob_typed.proofs.ConvertedValues.{IsChecked, IsConverted, fitted, value_is}
use Rattle.ob_typed.proofs.ExpressionsTyped.{IsRightEnv, check_gives}
use Rattle.ob_typed.proofs.GrowingStructs.{Grows, sized_stays}
use Rattle.ob_typed.proofs.PartsOfTypes.{HasSize, part_stays, part_type_sized, part_type_stays}
use Rattle.ob_typed.proofs.Walks.{Fine, Gives, fine_if, gives_by, gives_by_one, gives_led, gives_map, gives_next, gives_ok, gives_step, says_any}

-- what an initialiser is for a type; past the end of a list it is for none
abbrev pub IsInit : Around → Option PlainType → TypedInit → Type 0
IsInit c None x = Unit {0}
IsInit c (Some t) x = IsTypedInit c t x

abbrev or_part : Part → Option Part → Part
or_part d None = d
or_part d (Some q) = q

some_one : (p q : Part) → Some p ≡ Some q → p ≡ q
some_one p q is = ap (or_part p) is

module _ (c : Around) (bodies : List (List ℕ)) where
  -- ---- an expression for a part

  constant_fine : (s : PlainStructs) (types : List PlainType) (fixed : Bool) (t : PlainType) (m : Mark) (e : TypedExpr) → IsScalar t × IsConverted c t e → Fine (IsTypedInit c t) (constant_item s types fixed m e)
  constant_fine s types false t m e h = (h.0, h.1.0, h.1.1)
  constant_fine s types true t m e h =
      fine_if (IsTypedInit c t) (is_static_value s types e) _ _ (λ constant. (h.0, h.1.0, h.1.1)) (λ other. tt)

  scalar_fine : (s : PlainStructs) (types : List PlainType) (fixed : Bool) (t : PlainType) (m : Mark) (x : Checked) → IsChecked c x → Fine (IsTypedInit c t) (scalar_item s types fixed t m x)
  scalar_fine s types fixed t m x h =
      fine_if (IsTypedInit c t) (is_unusable (value_type (value x))) _ _
      (λ unusable. tt)
      (λ usable. fine_if (IsTypedInit c t) (fits x t) _ _
      (λ fit. constant_fine s types fixed t m (as_type (value x) t) (fitted c (is_null x) (value x) t (value_is c x h) fit))
      (λ unfit. tt))

  array_fine : (t : PlainType) (m : Mark) (x : Checked) → Fine (IsTypedInit c t) (array_item m x)
  array_fine t m x = fine_if (IsTypedInit c t) (is_void (value_type (value x))) _ _ (λ void. tt) (λ other. tt)

  struct_fine : (fixed : Bool) (n : ℕ) (m : Mark) (x : Checked) → IsChecked c x → Fine (IsTypedInit c (type.Struct n)) (struct_item fixed n m x)
  struct_fine false n m (checked.Place line (type.Struct k) l) h =
      fine_if (IsTypedInit c (type.Struct n)) (nat_eq n k) _ _
      (λ same. (tt, ap type.Struct (sym (eqb-true n k same)), (tt, h.1)))
      (λ other. tt)
  struct_fine false n m (checked.Place line t l) h = tt
  struct_fine false n m (checked.NullPointer bare v) h =
      fine_if (IsTypedInit c (type.Struct n)) (is_unusable (value_type v)) _ _ (λ unusable. tt) (λ other. tt)
  struct_fine false n m (checked.Plain v) h =
      fine_if (IsTypedInit c (type.Struct n)) (is_unusable (value_type v)) _ _ (λ unusable. tt) (λ other. tt)
  struct_fine true n m x h =
      fine_if (IsTypedInit c (type.Struct n)) (is_unusable (value_type (value x))) _ _ (λ unusable. tt) (λ other. tt)

  item_fine : (s : PlainStructs) (types : List PlainType) (fixed : Bool) (t : PlainType) (m : Mark) (x : Checked) → IsChecked c x → Fine (IsTypedInit c t) (item_rule s types fixed t m x)
  item_fine s types fixed (type.Int k) m x h = scalar_fine s types fixed (type.Int k) m x h
  item_fine s types fixed (type.Pointer t) m x h = scalar_fine s types fixed (type.Pointer t) m x h
  item_fine s types fixed (type.Array t n) m x h = array_fine (type.Array t n) m x
  item_fine s types fixed (type.Struct n) m x h = struct_fine fixed n m x h
  item_fine s types fixed type.Void m x h = tt

  part_fine : (s : PlainStructs) (types : List PlainType) (fixed : Bool) (o : Option PlainType) (m : Mark) (x : Checked) → IsChecked c x → Fine (IsInit c o) (part_rule s types fixed o m x)
  part_fine s types fixed None m x h = tt
  part_fine s types fixed (Some t) m x h = item_fine s types fixed t m x h

  -- ---- strings

  char_when : (b : Bool) (o : Option (List ℕ)) (bytes : List ℕ) → (if b then o else None) ≡ Some bytes → b ≡ true
  char_when true o bytes h = refl
  char_when false o bytes h = absurd (none-some bytes h)

  string_fine : (o : Option PlainType) (e : ExprTree) (m : Mark) (bytes : List ℕ) → string_for o e ≡ Some bytes → Fine (IsInit c o) (string_rule o m bytes)
  string_fine (Some (type.Array (type.Int k) n)) e m bytes is =
      fine_if (IsTypedInit c (type.Array (type.Int k) n)) (fits_length n (length bytes)) _ _
      (λ fit. (char_when (is_char k) (string_node e) bytes is, fit))
      (λ unfit. tt)
  string_fine (Some (type.Array type.Void n)) e m bytes is = absurd (none-some bytes is)
  string_fine (Some (type.Array (type.Pointer t) n)) e m bytes is = absurd (none-some bytes is)
  string_fine (Some (type.Array (type.Array t k) n)) e m bytes is = absurd (none-some bytes is)
  string_fine (Some (type.Array (type.Struct k) n)) e m bytes is = absurd (none-some bytes is)
  string_fine None e m bytes is = tt
  string_fine (Some type.Void) e m bytes is = tt
  string_fine (Some (type.Int k)) e m bytes is = tt
  string_fine (Some (type.Pointer t)) e m bytes is = tt
  string_fine (Some (type.Struct n)) e m bytes is = tt

  value_gives : (env : Env) → IsRightEnv c bodies env → (fixed : Bool) (t : Option PlainType) (e : ExprTree) → Valid e → (k : Known) (o : Option (List ℕ)) → string_for t e ≡ o → Gives c bodies (IsInit c t) k (check_value env fixed t e o k)
  value_gives env ok fixed t e v k (Some bytes) is =
      gives_by c bodies (string_rule t (mark_of e) bytes) (λ sound leads. string_fine t e (mark_of e) bytes is)
  value_gives env ok fixed t e v k None is =
      gives_next c bodies (check_gives c bodies env ok e v k) (λ x k1.
      gives_by_one c bodies _ (λ sound leads h. part_fine k1.structs (static_types k1.statics) fixed t (mark_of e) x h))

  -- ---- lists

  -- the items from part i on, one for each item of the source
  abbrev AreInits : Option PlainType → ℕ → InitTrees → List TypedInit → Type 0
  AreInits t i sources.NoItems [] = Unit {0}
  AreInits t i sources.NoItems (x ∷ xs) = ⊥
  AreInits t i (sources.Item y ys) [] = ⊥
  AreInits t i (sources.Item y ys) (x ∷ xs) = IsInit c (part_type c.structs t i) x × AreInits t (i + 1) ys xs

  -- items behind those that were done
  abbrev AreDone : Option PlainType → List TypedInit → InitTrees → List TypedInit → Type 0
  AreDone t done is items = (new : List TypedInit) × (items ≡ done ++ new) × AreInits t (length done) is new

  past_none : (o : Option Part) (place : ℕ) (after : Option ℕ) → past_here o place after ≡ None → ((p : Part) × (o ≡ Some p)) × (after ≡ None)
  past_none None place after h = absurd (none-some place (sym h))
  past_none (Some p) place after h = ((p, refl), h)

  items_typed : (s : PlainStructs) → Grows s c.structs → (t : PlainType) → has_size s t ≡ true → (i : ℕ) (ys : InitTrees) (xs : List TypedInit) → past_end s t i ys ≡ None → AreInits (Some t) i ys xs → AreTypedItems c t i (init_list xs)
  items_typed s g t sized i sources.NoItems [] h a = tt
  items_typed s g t sized i sources.NoItems (x ∷ xs) h a = absurd a
  items_typed s g t sized i (sources.Item y ys) [] h a = absurd a
  items_typed s g t sized i (sources.Item y ys) (x ∷ xs) h a =
      let none = past_none (part s t i) (first_of_init y) (past_end s t (i + 1) ys) h in
      let p = none.0.0 in
      let found : part c.structs t i ≡ Some p = part_stays s c.structs g t i sized ∙ none.0.1 in
      ((p, found, subst (λ o. IsInit c (type_of o) x) found a.0), items_typed s g t sized (i + 1) ys xs none.1 a.1)

  counted_fine : (s : PlainStructs) → Grows s c.structs → (t : PlainType) → has_size s t ≡ true → (ys : InitTrees) (xs : List TypedInit) → AreInits (Some t) 0 ys xs → (o : Option ℕ) → past_end s t 0 ys ≡ o → Fine (IsTypedInit c t) (counted o xs)
  counted_fine s g t sized ys xs a None is = items_typed s g t sized 0 ys xs is a
  counted_fine s g t sized ys xs a (Some place) is = tt

  list_fine : (s : PlainStructs) → Grows s c.structs → (o : Option PlainType) → HasSize s o → (first : ℕ) (ys : InitTrees) (xs : List TypedInit) → AreInits o 0 ys xs → Fine (IsInit c o) (list_rule s o first ys xs)
  list_fine s g None sized first ys xs a = tt
  list_fine s g (Some (type.Array t n)) sized first ys xs a = counted_fine s g (type.Array t n) sized ys xs a _ refl
  list_fine s g (Some (type.Struct n)) sized first ys xs a = counted_fine s g (type.Struct n) sized ys xs a _ refl
  list_fine s g (Some type.Void) sized first ys xs a = tt
  list_fine s g (Some (type.Int k)) sized first ys xs a = tt
  list_fine s g (Some (type.Pointer t)) sized first ys xs a = tt

  one_more : (o : Option PlainType) (done : List TypedInit) (x : TypedInit) (y : InitTree) (ys : InitTrees) (items : List TypedInit) → IsInit c (part_type c.structs o (length done)) x → AreDone o (done ++ x ∷ []) ys items → AreDone o done (sources.Item y ys) items
  one_more o done x y ys items h a =
      let behind : length (done ++ x ∷ []) ≡ length done + 1 = length-append done (x ∷ []) in
      (x ∷ a.0, a.1 ∙ append_assoc done (x ∷ []) a.0, (h, subst (λ i. AreInits o i ys a.0) behind a.2))

  sized_more : (s t : PlainStructs) (o : Option PlainType) → Grows s t → HasSize s o → HasSize t o
  sized_more s t None g h = tt
  sized_more s t (Some u) g h = sized_stays s t g u h

  -- the items at the start
  from_start : (o : Option PlainType) (ys : InitTrees) (items : List TypedInit) → AreDone o [] ys items → AreInits o 0 ys items
  from_start o ys items a = subst (AreInits o 0 ys) (sym a.1) a.2

  mutual
    pub init_gives : (env : Env) → IsRightEnv c bodies env → (fixed : Bool) (t : Option PlainType) (i : InitTree) → ValidInit i → (k : Known) → HasSize k.structs t → Gives c bodies (IsInit c t) k (check_init env fixed t i k)
    init_gives env ok fixed t (source.Value e) v k sized = value_gives env ok fixed t e v.0 k (string_for t e) refl
    init_gives env ok fixed t (source.Braces first is comma) v k sized =
        gives_step c bodies (check_items env fixed t [] is k) (items_give env ok fixed t [] is v.1 k sized) (says_any (check_items env fixed t [] is k)) (λ items k1 moves said.
        gives_by_one c bodies _ (λ sound leads a. list_fine k1.structs leads.grows t (sized_more k.structs k1.structs t moves.grows sized) first is items (from_start t is items a)))

    items_give : (env : Env) → IsRightEnv c bodies env → (fixed : Bool) (t : Option PlainType) (done : List TypedInit) (is : InitTrees) → ValidInits is → (k : Known) → HasSize k.structs t → Gives c bodies (AreDone t done is) k (check_items env fixed t done is k)
    items_give env ok fixed t done sources.NoItems v k sized = gives_ok c bodies ([], sym (append-nil done), tt)
    items_give env ok fixed t done (sources.Item x xs) v k sized =
        gives_step c bodies (check_init env fixed (part_type k.structs t (length done)) x k)
        (gives_led c bodies (λ item leads h. subst (λ o. IsInit c o item) (sym (part_type_stays k.structs c.structs leads.grows t (length done) sized)) h)
        (init_gives env ok fixed (part_type k.structs t (length done)) x v.0 k (part_type_sized k.structs t (length done) sized)))
        (says_any (check_init env fixed (part_type k.structs t (length done)) x k))
        (λ item k1 moves said.
        gives_map c bodies (λ items a h. one_more t done item x xs items h a)
        (items_give env ok fixed t (done ++ item ∷ []) xs v.1 k1 (sized_more k.structs k1.structs t moves.grows sized)))

  -- ---- the length that an initialiser tells

  fits_told : (n : ℕ) → fits_length (n + 1) n ≡ true
  fits_told n =
      let next : n + 1 ≡ suc n = omega arith in
      subst (λ m. fits_length m n ≡ true) (sym next) (le-leb n (suc n) (omega arith))

  element_within : (u : PlainType) (told i : ℕ) → i < told → element_part c.structs u told i ≡ Some (record { offset = i * size c.structs u; ty = u })
  element_within u zero i h = absurd (omega arith)
  element_within u (suc n) i h =
      ap (λ b. if b then Some (record { offset = i * size c.structs u; ty = u }) else None) (lt-ltb i (suc n) h)

  items_longer : (u : PlainType) (told i : ℕ) (xs : TypedInits) → i + item_count xs ≤ told → AreTypedItems c (type.Array u 0) i xs → AreTypedItems c (type.Array u told) i xs
  items_longer u told i inits.NoItems less h = tt
  items_longer u told i (inits.Item x xs) less h =
      let p : Part = record { offset = i * size c.structs u; ty = u } in
      let own : p ≡ h.0.0 = some_one p h.0.0 h.0.1 in
      ((p, element_within u told i (omega arith), subst (λ (q : Part). IsTypedInit c q.ty x) (sym own) h.0.2), items_longer u told (i + 1) xs (omega arith) h.1)

  -- with its length an array is initialised as it was without
  pub completed_typed : (t : PlainType) (x : TypedInit) → IsTypedInit c t x → IsTypedInit c (completed t x) x
  completed_typed (type.Array u zero) (init.Value e) h = absurd h.0
  completed_typed (type.Array (type.Int k) zero) (init.Chars bytes) h = (h.0, fits_told (length bytes))
  completed_typed (type.Array type.Void zero) (init.Chars bytes) h = absurd h
  completed_typed (type.Array (type.Pointer t) zero) (init.Chars bytes) h = absurd h
  completed_typed (type.Array (type.Array t n) zero) (init.Chars bytes) h = absurd h
  completed_typed (type.Array (type.Struct n) zero) (init.Chars bytes) h = absurd h
  completed_typed (type.Array u zero) (init.Items xs) h = items_longer u (item_count xs) 0 xs (omega arith) h
  completed_typed (type.Array u zero) (init.Copy p) h = absurd h.0
  completed_typed (type.Array u (suc n)) x h = h
  completed_typed type.Void x h = h
  completed_typed (type.Int k) x h = h
  completed_typed (type.Pointer t) x h = h
  completed_typed (type.Struct n) x h = h
