-- Initialisers and statements keep worlds typed.
use Rattle.std.proofs.Common.{ℕ, ◌+◌, true, pos, List, [], ◌∷◌, slice_index_or, Option, Some, None, All, sym, subst}
use Rattle.std.proofs.lemmas.List.Elements.{All-replicate, All-set}
use Rattle.ob_words.proofs.Conversions.{convert_number}
use Rattle.ob_model.specs.declared.values.Value.{Value}
use Rattle.ob_model.specs.declared.values.Value.TheVariants as value_of
use Rattle.ob_model.specs.Cells.{zeros}
use Rattle.ob_tree.specs.Types.{PlainType}
use Rattle.ob_tree.specs.Types.PlainType.{Void, Int, Pointer, Array, Struct}
use Rattle.ob_typed.specs.TypedTree.{TypedExpr, TypedInit, TypedInits, TypedStmt, TypedStmts}
use Rattle.ob_typed.specs.TypedTree.{TypedInit as init, TypedStmt as stmt}
use Rattle.ob_typed.specs.TypedTree.TypedExpr.{Typed as typed}
use Rattle.ob_typed.specs.TypedTree.TypedInits.{NoItems, Item}
use Rattle.ob_typed.specs.TypedTree.TypedPlace.{Place}
use Rattle.ob_typed.specs.TypedTree.TypedStmts.{NoStmts, Stmt}
use Rattle.ob_meaning.specs.Expressions.{Based, at_object, converted, store_based, value}
use Rattle.ob_meaning.specs.Initialisers.{cleared, initialise, initialise_items, initialise_local, local_type, store_characters, string_in}
use Rattle.ob_meaning.specs.Memory.{Object, object_at, wiped, with_wiped}
use Rattle.ob_meaning.specs.Scalars.{part_of, scalars_of}
use Rattle.ob_meaning.specs.Setup.{Below, Flow, next, broke, continued, gave, Loop, Setup, first_local, number_type, running}
use Rattle.ob_meaning.specs.Statements.{dropped, exec, exec_all, goes_on, loop_of, looped, loops_on, optional, start_all, start_one, then_do, turn, turns}
use Rattle.ob_meaning.specs.Values.{is_true, nothing, truth}
use Rattle.ob_meaning.specs.ValueTypes.{AreTypedItems, AreTypedStmts, AreValues, CallsHaveTypes, Class, GivesIn, HasClass, HoldsPointers, IsNumberClass, IsScalar, IsTyped, IsTypedInit, IsTypedOption, IsTypedProgram, IsTypedReturn, IsTypedStmt, IsTypedWorld, RunsBeginTyped, ValuesHaveTypes, class_of, class_of_expression, none}
use Rattle.ob_meaning.specs.ValueTypes as class
use Rattle.ob_meaning.specs.World.{Call, World, Run, go}
use Rattle.ob_meaning.proofs.TypedActs.{Typed, typed_bind, typed_choose, typed_go, typed_step, typed_weaken}
use Rattle.ob_meaning.proofs.TypedAccesses.{Any, HoldsOwn}
use Rattle.ob_meaning.proofs.TypedExpressions.{FlowIs, TypedBelow, result_class, typed_based, typed_copies, typed_further, typed_store_based, typed_value}

abbrev AnyPlace : Based → Type 0
AnyPlace b = Unit {0}

-- ---- initialisers

module _ (u : Setup) (calls : List Call) where
  typed_character : (ty : PlainType) (b : Based) (c : ℕ) → IsNumberClass (class_of ty) → Typed calls Any (store_based u ty 0 b (converted (number_type ty) (value_of.Num (pos c))))
  typed_character (Int t) b c h =
      typed_weaken calls (HasClass (class.number t)) Any _ (λ v i. tt) (typed_store_based u calls (Int t) 0 b (converted t (value_of.Num (pos c))) tt (convert_number t (pos c)))
  typed_character (Pointer t) b c h = absurd h
  typed_character Void b c h = absurd h
  typed_character (Array t n) b c h = absurd h
  typed_character (Struct n) b c h = absurd h

  typed_characters : (ty : PlainType) (b : Based) (cs : List ℕ) (i : ℕ) → IsNumberClass (class_of ty) → Typed calls Any (store_characters u ty b cs i)
  typed_characters ty b [] i h = typed_go calls Any nothing tt
  typed_characters ty b (c ∷ cs) i h =
      typed_bind calls AnyPlace Any _ _ (typed_further u calls b (pos i)) (λ at j.
      typed_bind calls Any Any _ _ (typed_character ty at c h) (λ v k. typed_characters ty b cs (i + 1) h))

  module _ (m : Below) (below : TypedBelow u m) where
    mutual
      typed_init : (item : TypedInit) (ty : PlainType) (b : Based) → IsTypedInit u ty item → Typed calls Any (initialise u m ty b item)
      typed_init (init.Value (typed line t what)) ty b h =
          typed_bind calls (HasClass (class_of t)) Any _ _ (typed_value u calls m below (typed line t what) h.2) (λ v i.
          typed_weaken calls (HasClass (class_of ty)) Any _ (λ x j. tt) (typed_store_based u calls ty line b v h.1 (subst (λ c. HasClass c v) h.0 i)))
      typed_init (init.Chars cs) ty b h = typed_characters (part_of u.program.structs ty 0).ty b (string_in ty cs) 0 h
      typed_init (init.Items items) ty b h = typed_items items ty b 0 h
      typed_init (init.Copy (Place line t lean)) ty b h =
          typed_bind calls AnyPlace Any _ _ (typed_based u calls m below lean h) (λ from i.
          typed_copies u calls line b from (scalars_of u.program.structs ty))

      typed_items : (items : TypedInits) (ty : PlainType) (b : Based) (i : ℕ) → AreTypedItems u ty items i → Typed calls Any (initialise_items u m ty b items i)
      typed_items NoItems ty b i h = typed_go calls Any nothing tt
      typed_items (Item head tail) ty b i h =
          typed_bind calls AnyPlace Any _ _ (typed_further u calls b (pos (part_of u.program.structs ty i).offset)) (λ at j.
          typed_bind calls Any Any _ _ (typed_init head (part_of u.program.structs ty i).ty at h.0) (λ v k. typed_items tail ty b (i + 1) h.1))

    wiped_holds : (objects : List Object) (object : ℕ) → All HoldsOwn objects → All HoldsOwn (with_wiped objects object)
    wiped_holds objects object all =
        All-set HoldsOwn objects object (wiped (object_at objects object)) (All-replicate HoldsPointers _ zeros tt) all

    cleared_ok : (t : PlainType) (object : ℕ) (w : World) → IsTypedWorld calls w → IsTypedWorld calls (cleared t object w)
    cleared_ok Void object w ok = ok
    cleared_ok (Int t) object w ok = ok
    cleared_ok (Pointer t) object w ok = ok
    cleared_ok (Array t k) object w ok = (wiped_holds w.objects object ok.0, ok.1, ok.2)
    cleared_ok (Struct k) object w ok = (wiped_holds w.objects object ok.0, ok.1, ok.2)

    typed_local_init : (i : ℕ) (item : TypedInit) → IsTypedInit u (slice_index_or (running u calls).locals i Void) item → Typed calls Any (initialise_local u m i item)
    typed_local_init i item h =
        record {
          each = λ w ok.
              let t : PlainType = local_type u w i in
              let object : ℕ = first_local w.calls + i in
              let fits : IsTypedInit u t item = subst (λ cs. IsTypedInit u (slice_index_or (running u cs).locals i Void) item) (sym ok.2) h in
              (typed_init item t (at_object object) fits).each (cleared t object w) (cleared_ok t object w ok);
        }

    -- ---- how statements follow one another

    typed_goes_on : (c : Class) (k : World → Run Flow) → Typed calls (FlowIs c) k → (flow : Flow) → FlowIs c flow → Typed calls (FlowIs c) (goes_on k flow)
    typed_goes_on c k s next h = s
    typed_goes_on c k s broke h = typed_go calls (FlowIs c) broke tt
    typed_goes_on c k s continued h = typed_go calls (FlowIs c) continued tt
    typed_goes_on c k s (gave v) h = typed_go calls (FlowIs c) (gave v) h

    typed_loops_on : (c : Class) (k : World → Run Flow) → Typed calls (FlowIs c) k → (flow : Flow) → FlowIs c flow → Typed calls (FlowIs c) (loops_on k flow)
    typed_loops_on c k s next h = s
    typed_loops_on c k s broke h = typed_go calls (FlowIs c) next tt
    typed_loops_on c k s continued h = s
    typed_loops_on c k s (gave v) h = typed_go calls (FlowIs c) (gave v) h

    typed_then : (c : Class) (f k : World → Run Flow) → Typed calls (FlowIs c) f → Typed calls (FlowIs c) k → Typed calls (FlowIs c) (λ w. then_do (f w) k)
    typed_then c f k s t = typed_bind calls (FlowIs c) (FlowIs c) f (goes_on k) s (typed_goes_on c k t)

    typed_any : (e : TypedExpr) → IsTyped u e → Typed calls Any (value u m e)
    typed_any e h = typed_weaken calls (HasClass (class_of_expression e)) Any _ (λ v i. tt) (typed_value u calls m below e h)

    typed_optional : (otherwise : Value) (e : Option TypedExpr) → IsTypedOption u e → Typed calls Any (optional otherwise u m e)
    typed_optional otherwise None h = typed_go calls Any otherwise tt
    typed_optional otherwise (Some e) h = typed_any e h

    typed_dropped : (c : Class) (f : World → Run Value) → Typed calls Any f → Typed calls (FlowIs c) (dropped f)
    typed_dropped c f s = typed_bind calls Any (FlowIs c) f _ s (λ x i. typed_go calls (FlowIs c) next tt)

    typed_turn : (c : Class) (body : World → Run Flow) (after : World → Run Value) (more : World → Run Flow) → Typed calls (FlowIs c) body → Typed calls Any after → Typed calls (FlowIs c) more → Typed calls (FlowIs c) (turn body after more)
    typed_turn c body after more s t r =
        typed_step calls (FlowIs c) _ (typed_bind calls (FlowIs c) (FlowIs c) body _ s (typed_loops_on c _ (typed_bind calls Any (FlowIs c) after _ t (λ x i. r))))

    typed_looped : (c : Class) (test : World → Run Value) (run : World → Run Flow) → Typed calls Any test → Typed calls (FlowIs c) run → Typed calls (FlowIs c) (looped test run)
    typed_looped c test run s t =
        typed_bind calls Any (FlowIs c) test _ s (λ x i. typed_choose calls (FlowIs c) (is_true x) run (go next) t (typed_go calls (FlowIs c) next tt))

    typed_return : (c : Class) (e : Option TypedExpr) → IsTypedReturn u c e → Typed calls (HasClass c) (optional nothing u m e)
    typed_return c None h = typed_go calls (HasClass c) nothing (subst (λ d. HasClass d nothing) (sym h) tt)
    typed_return c (Some e) h = subst (λ d. Typed calls (HasClass d) (value u m e)) h.0 (typed_value u calls m below e h.1)

    -- ---- statements

    typed_start : (s : TypedStmt) → IsTypedStmt u (running u calls) s → Typed calls (FlowIs (result_class u calls)) (start_one u m s)
    typed_start (stmt.Expr e) h = typed_dropped (result_class u calls) _ (typed_any e h)
    typed_start (stmt.Init i item) h = typed_dropped (result_class u calls) _ (typed_local_init i item h)
    typed_start stmt.Empty h = typed_go calls (FlowIs (result_class u calls)) next tt
    typed_start (stmt.Block ss) h = typed_go calls (FlowIs (result_class u calls)) next tt
    typed_start (stmt.If e s) h = typed_go calls (FlowIs (result_class u calls)) next tt
    typed_start (stmt.IfElse e s t) h = typed_go calls (FlowIs (result_class u calls)) next tt
    typed_start (stmt.While e s) h = typed_go calls (FlowIs (result_class u calls)) next tt
    typed_start (stmt.Do s e) h = typed_go calls (FlowIs (result_class u calls)) next tt
    typed_start (stmt.For start test after s) h = typed_go calls (FlowIs (result_class u calls)) next tt
    typed_start stmt.Break h = typed_go calls (FlowIs (result_class u calls)) next tt
    typed_start stmt.Continue h = typed_go calls (FlowIs (result_class u calls)) next tt
    typed_start (stmt.Return e) h = typed_go calls (FlowIs (result_class u calls)) next tt

    typed_starts : (ss : TypedStmts) → AreTypedStmts u (running u calls) ss → Typed calls (FlowIs (result_class u calls)) (start_all u m ss)
    typed_starts NoStmts h = typed_go calls (FlowIs (result_class u calls)) next tt
    typed_starts (Stmt head tail) h = typed_then (result_class u calls) _ _ (typed_start head h.0) (typed_starts tail h.1)

    mutual
      pub typed_exec : (s : TypedStmt) → IsTypedStmt u (running u calls) s → Typed calls (FlowIs (result_class u calls)) (exec u m s)
      typed_exec stmt.Empty h = typed_step calls (FlowIs (result_class u calls)) _ (typed_go calls (FlowIs (result_class u calls)) next tt)
      typed_exec (stmt.Expr e) h = typed_step calls (FlowIs (result_class u calls)) _ (typed_dropped (result_class u calls) _ (typed_any e h))
      typed_exec (stmt.Block ss) h = typed_step calls (FlowIs (result_class u calls)) _ (typed_exec_all ss h)
      typed_exec (stmt.Init i item) h = typed_dropped (result_class u calls) _ (typed_local_init i item h)
      typed_exec (stmt.If e s) h =
          typed_step calls (FlowIs (result_class u calls)) _ (typed_bind calls Any (FlowIs (result_class u calls)) _ _ (typed_any e h.0) (λ x i.
          typed_choose calls (FlowIs (result_class u calls)) (is_true x) _ (go next) (typed_exec s h.1) (typed_go calls (FlowIs (result_class u calls)) next tt)))
      typed_exec (stmt.IfElse e s t) h =
          typed_step calls (FlowIs (result_class u calls)) _ (typed_bind calls Any (FlowIs (result_class u calls)) _ _ (typed_any e h.0) (λ x i.
          typed_choose calls (FlowIs (result_class u calls)) (is_true x) _ _ (typed_exec s h.1) (typed_exec t h.2)))
      typed_exec (stmt.While e s) h =
          typed_step calls (FlowIs (result_class u calls)) _ (typed_looped (result_class u calls) _ _ (typed_any e h.0) (typed_turn (result_class u calls) _ _ _ (typed_exec s h.1) (typed_go calls Any nothing tt) (below.turns calls (loop_of (Some e) None s) h.0 tt h.1)))
      typed_exec (stmt.Do s e) h =
          typed_step calls (FlowIs (result_class u calls)) _ (typed_turn (result_class u calls) _ _ _ (typed_exec s h.0) (typed_go calls Any nothing tt) (below.turns calls (loop_of (Some e) None s) h.1 tt h.0))
      typed_exec (stmt.For start test after s) h =
          typed_step calls (FlowIs (result_class u calls)) _ (typed_then (result_class u calls) _ _ (typed_starts start h.0) (typed_looped (result_class u calls) _ _ (typed_optional (truth true) test h.1) (typed_turn (result_class u calls) _ _ _ (typed_exec s h.3) (typed_optional nothing after h.2) (below.turns calls (loop_of test after s) h.1 h.2 h.3))))
      typed_exec stmt.Break h = typed_step calls (FlowIs (result_class u calls)) _ (typed_go calls (FlowIs (result_class u calls)) broke tt)
      typed_exec stmt.Continue h = typed_step calls (FlowIs (result_class u calls)) _ (typed_go calls (FlowIs (result_class u calls)) continued tt)
      typed_exec (stmt.Return e) h =
          typed_step calls (FlowIs (result_class u calls)) _ (typed_bind calls (HasClass (result_class u calls)) (FlowIs (result_class u calls)) _ _ (typed_return (result_class u calls) e h) (λ v i. typed_go calls (FlowIs (result_class u calls)) (gave v) i))

      typed_exec_all : (ss : TypedStmts) → AreTypedStmts u (running u calls) ss → Typed calls (FlowIs (result_class u calls)) (exec_all u m ss)
      typed_exec_all NoStmts h = typed_go calls (FlowIs (result_class u calls)) next tt
      typed_exec_all (Stmt head tail) h = typed_then (result_class u calls) _ _ (typed_exec head h.0) (typed_exec_all tail h.1)

    pub typed_turns : (loop : Loop) → IsTypedOption u loop.test → IsTypedOption u loop.after → IsTypedStmt u (running u calls) loop.body → Typed calls (FlowIs (result_class u calls)) (turns u m loop)
    typed_turns loop h i j =
        typed_looped (result_class u calls) _ _ (typed_optional (truth true) loop.test h) (typed_turn (result_class u calls) _ _ _ (typed_exec loop.body j) (typed_optional nothing loop.after i) (below.turns calls loop h i j))
