-- What a symbol table holds (C99 6.2.1): what is declared and in force, the newest first, and for each open block what
-- was in force before it, the innermost block first.
use Rattle.std.specs.Prelude.{ℕ, if◌then◌else◌, Option, Some, None, List, [], ◌∷◌, refl}
use Rattle.std.specs.Coded.{Coded, code_by, coded×, coded_list}
use Rattle.std.specs.Str.{bytes_eq}

pub record Scopes (D : Type 0) : Type 0 where
  pub bindings : List D
  pub outer : List (List D)

module _ {D : Type 0} where
  abbrev pub scopes_code : Coded D → Coded (Scopes D)
  scopes_code c =
      code_by (List D × List (List D)) (coded× (coded_list c) (coded_list (coded_list c))) (λ s. (s.bindings, s.outer)) (λ p. record { bindings = p.0; outer = p.1 }) (λ _. refl)

  abbrev pub no_scopes : Scopes D
  no_scopes = record { bindings = []; outer = [] }

  -- one more declaration
  abbrev pub with_binding : D → Scopes D → Scopes D
  with_binding d s = record { bindings = d ∷ s.bindings; outer = s.outer }

  -- one more open block
  abbrev pub entered : Scopes D → Scopes D
  entered s = record { bindings = s.bindings; outer = s.bindings ∷ s.outer }

  -- the innermost block is left; where none is open, nothing changes
  abbrev pub left_to : List D → List (List D) → Scopes D
  left_to bs [] = record { bindings = bs; outer = [] }
  left_to bs (o ∷ os) = record { bindings = o; outer = os }

  abbrev pub left : Scopes D → Scopes D
  left s = left_to s.bindings s.outer

-- what the newest binding of a name binds it to
abbrev pub bound : {T : Type 0} → (name : List ℕ) → List (List ℕ × T) → Option T
bound name [] = None
bound name (b ∷ bs) = if bytes_eq b.0 name then Some b.1 else bound name bs
