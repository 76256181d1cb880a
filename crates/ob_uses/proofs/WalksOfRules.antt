-- The program's answer to a rule, as its answer to the walk that asks this rule.
use Rattle.std.proofs.Common.{◌≡◌, ℕ, Some, List, Result, Ok, Err, ap, ◌∙◌, subst}
use Rattle.ob_tree.specs.declared.faults.TypeFault.{TypeFault}
use Rattle.ob_tree.specs.declared.faults.TypeFault.TheVariants.{Fault, NoMemory}
use Rattle.ob_tree.specs.Trees.{Mark}
use Rattle.ob_typed.specs.Conversions.{Checked}
use Rattle.ob_typed.specs.Expressions.{calling, meaning_of, noted, number_from}
use Rattle.ob_typed.specs.Faults.{Answer, Walk, by}
use Rattle.ob_typed.specs.PostfixRules.{Argument, call_rule}
use Rattle.ob_typed.specs.Scopes.{Declared, Env, Known, find}
use Rattle.ob_conversions.specs.Gives.{Gives}
use Rattle.ob_context.specs.Walks.{Walks}

walks_by : {S A B : Type 0} (view : A → B) (r : Result A TypeFault) (answer : Answer B) (s : S) → Gives view r answer → Walks view r s (by answer s)
walks_by view (Ok x) answer s is = ap (λ a. by a s) is
walks_by view (Err (Fault kind place)) answer s is = ap (λ a. by a s) is
walks_by view (Err NoMemory) answer s is = tt

-- a call of a name that is declared
pub walks_calling : {A : Type 0} (view : A → Checked) (r : Result A TypeFault) (env : Env) (m : Mark) (name : List ℕ) (h given : List Argument) (s k : Known) (d : Declared) (n : ℕ) →
    Some d ≡ find name env.declared → n ≡ number_from 0 name env.bodies → h ≡ given → s ≡ noted m name (Some d.meaning) k →
    Gives view r (call_rule m n (Some d) h) → Walks view r s (calling env m name given k)
walks_calling {A} view r env m name h given s k d n found number same known is =
    let here = number_from 0 name env.bodies in
    let rule = call_rule m here (find name env.declared) given in
    let e : by (call_rule m n (Some d) h) s ≡ by rule (noted m name (meaning_of (find name env.declared)) k) =
    ap (λ x. by (call_rule m x (Some d) h) s) number
    ∙ ap (λ o. by (call_rule m here o h) s) found
    ∙ ap (λ g. by (call_rule m here (find name env.declared) g) s) same
    ∙ ap (λ z. by rule z) (known ∙ ap (λ o. noted m name (meaning_of o) k) found) in
    subst (λ (w : Walk Known Checked). Walks view r s w) e (walks_by view r (call_rule m n (Some d) h) s is)
