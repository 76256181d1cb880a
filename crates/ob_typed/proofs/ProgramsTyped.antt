-- The typed tree of a program (C99 6.9) is well typed.
use Rattle.std.proofs.Common.{◌≡◌, ℕ, suc, ◌+◌, Bool, true, false, Option, Some, None, List, [], ◌∷◌, slice_get, take, refl, sym, ap, arith, ◌∙◌, subst}
use Rattle.std.specs.List.{AllByRecursion}
use Rattle.std.specs.Prelude.{◌||◌, if◌then◌else◌}
use Rattle.std.specs.Str.{bytes_eq}
use Rattle.std.proofs.lemmas.Option.{none-some}
use Rattle.ob_tree.specs.Programs.{ProgramTree}
use Rattle.ob_tree.specs.ProgramValid.{ValidItem, ValidProgram}
use Rattle.ob_tree.specs.Types.{PlainType}
use Rattle.ob_typed.specs.declared.names.Builtin.{Builtin}
use Rattle.ob_typed.specs.declared.names.Builtin.TheVariants as builtin
use Rattle.ob_typed.specs.Expressions.{meaning_of, number_from}
use Rattle.ob_typed.specs.Functions.{is_one_of}
use Rattle.ob_typed.specs.Scopes.{Called, Declared, Meaning, find}
use Rattle.ob_typed.specs.Scopes.{Meaning as meaning}
use Rattle.ob_typed.specs.TypedLaws.{TypedTreesAreWellTyped}
use Rattle.ob_typed.specs.Typing.{File, body_names, builtins, check_all, completed_file, empty_file, finished, function_names, least, library_known, missing_call, missing_main, main_name, typing}
use Rattle.ob_typed.specs.TypedTree.{TypedFunction}
use Rattle.ob_typed.specs.WellTyped.{Around, HasTypedFunctions}
use Rattle.ob_typed.proofs.ConvertedValues.{agrees_is}
use Rattle.ob_typed.proofs.DeclarationsTyped.{chosen_meant}
use Rattle.ob_typed.proofs.FilesTyped.{Adds, AreOwn, IsOpen, adds_more, all_add, library_adds}
use Rattle.ob_typed.proofs.FunctionsTyped.{AreRight, AreTop, IsOwn, some_is, top_first}
use Rattle.ob_typed.proofs.GrowingStructs.{grows_same, sound_none}
use Rattle.ob_typed.proofs.PostfixNodes.{IsFunction, IsMeant}
use Rattle.ob_typed.proofs.SameTypes.{same_bytes}
use Rattle.ob_typed.proofs.Walks.{Fine, HaveBodies, fine_then}

-- ---- before the first item

-- each is a built-in function at file scope
abbrev AreBuiltIn : List Declared → Type 0
AreBuiltIn [] = Unit {0}
AreBuiltIn (d ∷ ds) = ((b : Builtin) × (d.meaning ≡ meaning.BuiltIn b) × (d.depth ≡ 0)) × AreBuiltIn ds

built_in_right : (c : Around) (numbered : List (List ℕ)) (ds : List Declared) → AreBuiltIn ds → AreRight c numbered [] ds
built_in_right c numbered [] h name = tt
built_in_right c numbered (d ∷ ds) h name =
    chosen_meant c numbered [] name d (find name ds) (bytes_eq d.name name)
    (subst (λ x. IsMeant c numbered [] name (Some x)) (sym h.0.1) tt)
    (built_in_right c numbered ds h.1 name)

built_in_top : (ds : List Declared) → AreBuiltIn ds → AreTop ds
built_in_top [] h = λ name d is. absurd (none-some d is)
built_in_top (d ∷ ds) h = top_first ds d h.0.2 (built_in_top ds h.1)

built_in : AreBuiltIn builtins
built_in =
    ((builtin.GetChar, refl, refl), ((builtin.PutChar, refl, refl), ((builtin.Malloc, refl, refl), ((builtin.Calloc, refl, refl), ((builtin.Free, refl, refl), ((builtin.Exit, refl, refl), tt))))))

first_open : (numbered : List (List ℕ)) → IsOpen numbered builtins
first_open numbered = record { right = λ c. built_in_right c numbered builtins built_in; top = built_in_top builtins built_in }

-- ---- functions by their names

-- the first function of a name
pub record HasFunction (ds : List Declared) (name : List ℕ) (o : Option TypedFunction) : Type 0 where
  pub function : TypedFunction
  pub found : o ≡ Some function
  pub same : function.name ≡ name
  pub own : IsOwn (find function.name ds) function.result (take function.params function.locals)

module _ (ds : List Declared) (name : List ℕ) where
  -- the number from n on that a name has, and how far behind n it is
  pub record IsNumbered (n : ℕ) (fs : List TypedFunction) : Type 0 where
    pub behind : ℕ
    pub number : number_from n name (function_names fs) ≡ n + behind
    pub has : HasFunction ds name (slice_get fs behind)

  numbered : (fs : List TypedFunction) (n : ℕ) → AreOwn ds fs → is_one_of name (function_names fs) ≡ true → IsNumbered n fs
  numbered [] n own h = absurd (cc)
  numbered (f ∷ fs) n own h = chosen (bytes_eq f.name name) refl h (numbered fs (n + 1) own.1)
    where
      chosen : (b : Bool) → bytes_eq f.name name ≡ b → (b || is_one_of name (function_names fs)) ≡ true → (is_one_of name (function_names fs) ≡ true → IsNumbered (n + 1) fs) → IsNumbered n (f ∷ fs)
      chosen true is one behind =
          record {
            behind = 0;
            number = ap (λ x. if x then n else number_from (n + 1) name (function_names fs)) is ∙ omega arith;
            has = record { function = f; found = refl; same = same_bytes f.name name is; own = own.0 };
          }
      chosen false is one behind =
          let rest = behind one in
          record {
            behind = suc rest.behind;
            number = ap (λ x. if x then n else number_from (n + 1) name (function_names fs)) is ∙ rest.number ∙ omega arith;
            has = record { function = rest.has.function; found = rest.has.found; same = rest.has.same; own = rest.has.own };
          }

-- ---- at the end

own_some : (o : Option Declared) (d : Declared) (result : PlainType) (ps : List PlainType) → o ≡ Some d → IsOwn o result ps → d.meaning ≡ meaning.Function result ps
own_some None d result ps is own = absurd own
own_some (Some e) d result ps is own = ap (λ (x : Declared). x.meaning) (sym (some_is e d is)) ∙ own

abbrev result_in : PlainType → Meaning → PlainType
result_in t (meaning.Function result params) = result
result_in t (meaning.Variable u l) = t
result_in t (meaning.BuiltIn b) = t

abbrev params_in : List PlainType → Meaning → List PlainType
params_in ts (meaning.Function result params) = params
params_in ts (meaning.Variable u l) = ts
params_in ts (meaning.BuiltIn b) = ts

module _ (g : File) (bodies : List (List ℕ)) (opens : IsOpen bodies g.declared) (own : AreOwn g.declared g.functions) (names : function_names g.functions ≡ bodies) where
  abbrev end : Around
  end = record { structs = g.known.structs; functions = g.functions }

  function_is : (name : List ℕ) (d : Declared) (result : PlainType) (params : List PlainType) → find name g.declared ≡ Some d → d.meaning ≡ meaning.Function result params → is_one_of name bodies ≡ true → IsFunction (slice_get g.functions (number_from 0 name bodies)) result params
  function_is name d result params is meant one =
      let number = numbered g.declared name g.functions 0 own (subst (λ bs. is_one_of name bs ≡ true) (sym names) one) in
      let f = number.has.function in
      let at : number_from 0 name bodies ≡ number.behind = subst (λ bs. number_from 0 name bs ≡ 0 + number.behind) names number.number ∙ omega arith in
      let found : slice_get g.functions (number_from 0 name bodies) ≡ Some f = ap (slice_get g.functions) at ∙ number.has.found in
      let its : d.meaning ≡ meaning.Function f.result (take f.params f.locals) = own_some (find f.name g.declared) d f.result (take f.params f.locals) (ap (λ x. find x g.declared) number.has.same ∙ is) number.has.own in
      let both : meaning.Function result params ≡ meaning.Function f.result (take f.params f.locals) = sym meant ∙ its in
      subst (λ o. IsFunction o result params) (sym found)
      (agrees_is result f.result (ap (result_in result) both), sym (ap (params_in params) both))

  meant_at_end : (name : List ℕ) (d : Declared) (x : Meaning) → find name g.declared ≡ Some d → d.meaning ≡ x → IsMeant end bodies [] name (Some x) → IsMeant end bodies bodies name (Some x)
  meant_at_end name d (meaning.Variable t l) is meant h = h
  meant_at_end name d (meaning.Function result params) is meant h = λ one. function_is name d result params is meant one
  meant_at_end name d (meaning.BuiltIn b) is meant h = tt

  end_right : AreRight end bodies bodies g.declared
  end_right name = of_found (find name g.declared) refl (opens.right end name)
    where
      of_found : (o : Option Declared) → find name g.declared ≡ o → IsMeant end bodies [] name (meaning_of (find name g.declared)) → IsMeant end bodies bodies name (meaning_of (find name g.declared))
      of_found None is h = subst (λ o. IsMeant end bodies bodies name (meaning_of o)) (sym is) tt
      of_found (Some d) is h =
          subst (λ o. IsMeant end bodies bodies name (meaning_of o)) (sym is)
          (meant_at_end name d d.meaning is refl (subst (λ o. IsMeant end bodies [] name (meaning_of o)) is h))

-- ---- functions that are called

called_or : (bodies : List (List ℕ)) (b : Bool) (place : ℕ) (o : Option ℕ) → least (if b then None else Some place) o ≡ None → (b ≡ true) × (o ≡ None)
called_or bodies true place o h = (refl, h)
called_or bodies false place None h = absurd (none-some place (sym h))
called_or bodies false place (Some n) h = absurd (cc)

all_called : (bodies : List (List ℕ)) (cs : List Called) → missing_call bodies cs ≡ None → HaveBodies bodies cs
all_called bodies [] h = tt
all_called bodies (d ∷ cs) h =
    let parts = called_or bodies (is_one_of d.name bodies) d.place (missing_call bodies cs) h in
    (parts.0, all_called bodies cs parts.1)

-- ---- the program

module _ (bodies : List (List ℕ)) (p : ProgramTree) (g : File) (adds : Adds bodies bodies empty_file g) where
  program_typed : missing_call bodies g.known.calls ≡ None → (n : ℕ) → HasTypedFunctions (record { structs = g.known.structs; statics = g.known.statics; functions = g.functions; main = n })
  program_typed none n =
      let own = adds.own tt in
      adds.typed (end g bodies adds.opens own adds.names) g.declared
      (end_right g bodies adds.opens own adds.names)
      (λ name d is. is)
      sound_none
      (record { grows = grows_same g.known.structs; called = all_called bodies g.known.calls none })
      tt

  finished_fine : (n : ℕ) (o main : Option ℕ) → missing_call bodies g.known.calls ≡ o → Fine HasTypedFunctions (finished (least o main) n g)
  finished_fine n None None is = program_typed is n
  finished_fine n None (Some place) is = tt
  finished_fine n (Some place) None is = tt
  finished_fine n (Some place) (Some other) is = tt

  completed_fine : Fine HasTypedFunctions (completed_file bodies p g)
  completed_fine =
      finished_fine (number_from 0 main_name bodies) (missing_call bodies g.known.calls)
      (missing_main p (slice_get g.functions (number_from 0 main_name bodies))) refl

valid_items : (p : ProgramTree) → ValidProgram p → AllByRecursion ValidItem p
valid_items [] v = absurd v
valid_items (i ∷ is) v = (v.0, v.1)

typing_fine : (p : ProgramTree) → ValidProgram p → Fine HasTypedFunctions (typing p)
typing_fine p v =
    let bodies = body_names p in
    fine_then (Adds bodies [] empty_file) HasTypedFunctions (library_known bodies p empty_file) _ (library_adds bodies p (valid_items p v) empty_file (first_open bodies)) (λ f first.
    fine_then (Adds bodies bodies f) HasTypedFunctions (check_all bodies p f) _ (all_add bodies p (valid_items p v) f first.opens) (λ g second.
    completed_fine bodies p g (adds_more bodies [] bodies empty_file f g first second)))

pub typed_trees_are_well_typed : TypedTreesAreWellTyped
typed_trees_are_well_typed p t v types = subst (Fine HasTypedFunctions) types (typing_fine p v)
