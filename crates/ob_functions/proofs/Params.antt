-- Parameters, one after another: from one on, the walk gives what it gives from the start.
use Rattle.std.proofs.Common.{◌≡◌, ℕ, suc, ◌+◌, List, [], ◌∷◌, ◌++◌, drop, length, ◌<◌, get_or, map, refl, sym, ap, subst, ◌∙◌, Ok, Err, arith, add-one}
use Rattle.ob_tree.specs.declared.programs.Param.{Param}
use Rattle.ob_tree.specs.ProgramView.{param_tree}
use Rattle.ob_tree.specs.Programs.{ParamTree}
use Rattle.ob_typed.specs.Faults.{Walk, next}
use Rattle.ob_typed.specs.Functions.{Parameter, check_each, check_parameter, parameter_env, with_parameter, with_parameters}
use Rattle.ob_typed.specs.Scopes.{Declared, Env, Known}
use Rattle.ob_functions.specs.FunctionView.{Among, one_more}
use Rattle.ob_functions.proofs.Items.{item_at}

-- ---- declarations

with_more : (depth n : ℕ) (ds : List Declared) (ps : List Parameter) (q : Parameter) →
    with_parameters depth n ds (ps ++ q ∷ []) ≡ with_parameter depth (n + length ps) q.name q.ty (with_parameters depth n ds ps)
with_more depth n ds [] q = let e : n ≡ n + 0 = omega arith in ap (λ m. with_parameter depth m q.name q.ty ds) e
with_more depth n ds (p ∷ ps) q =
    let e : (n + 1) + length ps ≡ n + suc (length ps) = omega arith in
    with_more depth (n + 1) (with_parameter depth n p.name p.ty ds) ps q
    ∙ ap (λ m. with_parameter depth m q.name q.ty (with_parameters depth n ds (p ∷ ps))) e

-- what stands among some parameters of a declarator, and one more of them
abbrev among : Env → List Parameter → Among
among env ps = record { params = ps; env = parameter_env env ps }

more_among : (env : Env) (ps : List Parameter) (q : Parameter) → one_more (among env ps) q ≡ among env (ps ++ q ∷ [])
more_among env ps q =
    let e : length ps ≡ 0 + length ps = omega arith in
    let to : List Declared → Among = λ ds. record { params = ps ++ q ∷ []; env = record { declared = ds; depth = suc env.depth; bodies = env.bodies; around = env.around } } in
    ap (λ m. to (with_parameter (suc env.depth) m q.name q.ty (with_parameters (suc env.depth) 0 env.declared ps))) e
    ∙ ap to (sym (with_more (suc env.depth) 0 env.declared ps q))

-- ---- the walk

step : (env : Env) (done : List Parameter) (ps : List ParamTree) (k1 : Known) (a : Among) (w : Walk Known Parameter) →
    next w (λ q k. Ok (one_more (among env done) q, k)) ≡ Ok (a, k1) →
    (next w (λ q k. check_each env (done ++ q ∷ []) ps k) ≡ check_each env a.params ps k1) × (a.env ≡ parameter_env env a.params)
step env done ps k1 a (Ok r) h =
    let both : (one_more (among env done) r.0, r.1) ≡ (a, k1) = cc in
    let e : one_more (among env done) r.0 ≡ a = ap (λ (p : Among × Known). p.0) both in
    let f : r.1 ≡ k1 = ap (λ (p : Among × Known). p.1) both in
    let g : among env (done ++ r.0 ∷ []) ≡ a = sym (more_among env done r.0) ∙ e in
    (ap (λ x. check_each env x.params ps r.1) g ∙ ap (check_each env a.params ps) f, subst (λ x. x.env ≡ parameter_env env x.params) g refl)
step env done ps k1 a (Err f) h = absurd cc

pub params_on : (env here there : Env) (start : Walk Known (List Parameter)) (done new : List Parameter) (xs ys : List Param) (i : ℕ) (x : Param) (k k1 : Known) →
    start ≡ check_each env done (map param_tree (drop i xs)) k → here ≡ parameter_env env done → ys ≡ xs → i < length ys → x ≡ get_or ys i x →
    next (check_parameter here (param_tree x) k) (λ q k2. Ok (one_more (record { params = done; env = here }) q, k2)) ≡ Ok (record { params = new; env = there }, k1) →
    (start ≡ check_each env new (map param_tree (drop (i + 1) xs)) k1) × (there ≡ parameter_env env new)
params_on env here there start done new xs ys i x k k1 before among_is same h is one =
    let ps = map param_tree (drop (suc i) xs) in
    let first : drop i xs ≡ x ∷ drop (suc i) xs = subst (λ zs. drop i zs ≡ x ∷ drop (suc i) zs) same (item_at ys i x h is) in
    let a : Among = record { params = new; env = there } in
    let there_is = subst (λ e. next (check_parameter e (param_tree x) k) (λ q k2. Ok (one_more (record { params = done; env = e }) q, k2)) ≡ Ok (a, k1)) among_is one in
    let s = step env done ps k1 a (check_parameter (parameter_env env done) (param_tree x) k) there_is in
    (before ∙ ap (λ zs. check_each env done zs k) (ap (map param_tree) first) ∙ s.0 ∙ ap (λ n. check_each env new (map param_tree (drop n xs)) k1) (sym (add-one i)), s.1)
