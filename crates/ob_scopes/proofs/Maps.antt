-- A hash map whose keys are lists of bytes, looked up by bytes.
use Rattle.std.proofs.Common.{◌≡◌, ℕ, Bool, true, false, Option, List, sym, ap, ◌∙◌, ⊎_elim, if◌then◌else◌}
use Rattle.std.specs.Prelude.{Vec}
use Rattle.std.specs.declared.alloc.Global.{Global}
use Rattle.std.specs.Str.{bytes_eq}
use Rattle.std.specs.HashMap.{HashMap, get_by, UpdatesBy}
use Rattle.std.specs.Map.{lookup, IsKeyTest, AreApart, KeepsOthers}
use Rattle.std.proofs.lemmas.Bool.{cases_Bool, cond-true, cond-false, both_ways}
use Rattle.std.proofs.lemmas.Slice.Eq.{bytes_eq-Decides}

abbrev pub Key : Type 0
Key = Vec ℕ Global

abbrev pub same_key : Key → Key → Bool
same_key x y = bytes_eq x.items y.items

abbrev pub is_key : List ℕ → Key → Bool
is_key name k = bytes_eq name k.items

others : {X : Type 0} (test other : Key → Bool) (old new : List (Key × X)) → KeepsOthers same_key test old new → IsKeyTest same_key other → AreApart test other → lookup other new ≡ lookup other old
unfolding KeepsOthers
others test other old new h = h other

apart : (name x : List ℕ) → bytes_eq name x ≡ false → (k : Key) → is_key name k ≡ true → is_key x k ≡ false
apart name x n k y =
    ⊎_elim
    (λ (t : is_key x k ≡ true).
    let e : name ≡ x = (bytes_eq-Decides name k.items).0 y ∙ sym ((bytes_eq-Decides x k.items).0 t) in
    absurd (both_ways (bytes_eq name x) n ((bytes_eq-Decides name x).1 e)))
    (λ f. f)
    (cases_Bool (is_key x k))

pub updates-by_bytes : {X S : Type 0} (name : List ℕ) (m n : HashMap Key X S) (w : Option X) → UpdatesBy same_key (is_key name) m n w → (x : List ℕ) → get_by (is_key x) n ≡ (if bytes_eq name x then w else get_by (is_key x) m)
updates-by_bytes name m n w h x =
    ⊎_elim
    (λ y. ap (λ q. get_by (is_key q) n) (sym ((bytes_eq-Decides name x).0 y)) ∙ h.1 ∙ sym (cond-true (bytes_eq name x) w (get_by (is_key x) m) y))
    (λ f. others (is_key name) (is_key x) m.entries n.entries h.3 (λ a b t. ap (λ q. bytes_eq q b.items) ((bytes_eq-Decides x a.items).0 t)) (apart name x f) ∙ sym (cond-false (bytes_eq name x) w (get_by (is_key x) m) f))
    (cases_Bool (bytes_eq name x))
