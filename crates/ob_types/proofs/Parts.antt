-- Functions and programs from the walks of their parts.
use Rattle.std.proofs.Common.{◌≡◌, ℕ, true, false, [], List, Result, Ok, Err, refl, sym, ap, subst, ◌∙◌}
use Rattle.ob_tree.specs.declared.faults.TypeFault.{TypeFault}
use Rattle.ob_tree.specs.declared.faults.TypeFault.TheVariants as code
use Rattle.ob_tree.specs.Programs.{ParamsTree, ProgramTree, StmtTree}
use Rattle.ob_tree.specs.Trees.{SpecTree}
use Rattle.ob_tree.specs.Types.{PlainType}
use Rattle.ob_typed.specs.declared.program.Typed.{Typed}
use Rattle.ob_typed.specs.Counts.{nodes_of_function}
use Rattle.ob_typed.specs.Expressions.{check_spec}
use Rattle.ob_typed.specs.Faults.{Answer, then_rule}
use Rattle.ob_typed.specs.ProgramView.{typed_program}
use Rattle.ob_typed.specs.Scopes.{Env, Known}
use Rattle.ob_typed.specs.Specifiers.{pointers}
use Rattle.ob_typed.specs.Statements.{check_block}
use Rattle.ob_typed.specs.Typing.{File, body_env, body_items, body_names, body_of, check_all, check_function, check_head, completed_file, empty_file, file_env, library_known, typing, with_function_of}
use Rattle.ob_conversions.specs.Gives.{Gives}
use Rattle.ob_types.specs.Answered.{Answered}

-- a function of a result type, from its declarator on
abbrev rest : (bodies : List (List ℕ)) → File → (name : List ℕ) → (at : ℕ) → PlainType → ParamsTree → (nodes : ℕ) → StmtTree → Known → Answer File
rest bodies f name at t ps nodes body k =
    then_rule (check_head bodies f true name at t ps k) (λ h. with_function_of f k name h.0 nodes (check_block (body_env bodies h.0) false h.0.result [] (body_items body) (body_of h.0 h.1)))

pub of_spec : {A : Type 0} (view : A → File) (r : Result A TypeFault) (bodies : List (List ℕ)) (f : File) (s : SpecTree) (stars : ℕ) (name : List ℕ) (at : ℕ) (ps : ParamsTree) (body : StmtTree) (base t : PlainType) (nodes : ℕ) (k : Known) (env : Env) →
    env ≡ file_env bodies f.declared → check_spec env s f.known ≡ Ok (base, k) → t ≡ pointers stars base → nodes ≡ nodes_of_function s ps body →
    Gives view r (rest bodies f name at t ps nodes body k) → Gives view r (check_function bodies f s stars name at ps body)
of_spec view r bodies f s stars name at ps body base t nodes k env env_is spec_is t_is nodes_is given =
    let n = nodes_of_function s ps body in
    let behind : PlainType × Known → Answer File = λ x. rest bodies f name at (pointers stars x.0) ps n body x.1 in
    let e : check_function bodies f s stars name at ps body ≡ rest bodies f name at t ps nodes body k =
    ap (λ x. then_rule (check_spec x s f.known) behind) (sym env_is)
    ∙ ap (λ w. then_rule w behind) spec_is
    ∙ ap (λ x. rest bodies f name at x ps n body k) (sym t_is)
    ∙ ap (λ m. rest bodies f name at t ps m body k) (sym nodes_is) in
    subst (λ a. Gives view r a) (sym e) given

-- ---- programs

in_order : {A B C : Type 0} (a : Answer A) (b : A → Answer B) (c : B → Answer C) → then_rule (then_rule a b) c ≡ then_rule a (λ x. then_rule (b x) c)
in_order (Ok x) b c = refl
in_order (Err f) b c = refl

pub typing_walked : (p : ProgramTree) (bodies : List (List ℕ)) (f : File) → then_rule (library_known (body_names p) p empty_file) (λ g. check_all (body_names p) p g) ≡ Ok f → bodies ≡ body_names p →
    typing p ≡ completed_file bodies p f
typing_walked p bodies f h is =
    sym (in_order (library_known (body_names p) p empty_file) (λ g. check_all (body_names p) p g) (λ g. completed_file (body_names p) p g))
    ∙ ap (λ w. then_rule w (λ g. completed_file (body_names p) p g)) h ∙ ap (λ b. completed_file b p f) (sym is)

pub gives_ok : {A C : Type 0} (v : A → C) (r : Result A TypeFault) (x : A) (a : Answer C) → r ≡ Ok x → Gives v r a → a ≡ Ok (v x)
gives_ok v r x a is given = subst (λ y. Gives v y a) is given

err : {A B C : Type 0} (v : A → C) (w : B → C) (y : TypeFault) (a : Answer C) → Gives v (Err y) a → Gives w (Err y) a
err v w (code.Fault kind place) a given = given
err v w code.NoMemory a given = tt

pub gives_err : {A B C : Type 0} (v : A → C) (w : B → C) (r : Result A TypeFault) (y : TypeFault) (a : Answer C) → r ≡ Err y → Gives v r a → Gives w (Err y) a
gives_err v w r y a is given = err v w y a (subst (λ z. Gives v z a) is given)

pub answered : (p : ProgramTree) (r : Result Typed TypeFault) → Gives typed_program r (typing p) → Answered p r
answered p (Ok t) given = given
answered p (Err (code.Fault kind place)) given = given
answered p (Err code.NoMemory) given = tt
