-- What stands between tokens: white space and comments (C99 6.4, 6.4.9), and include lines (C99 6.10.2).
use Rattle.std.specs.Prelude.{◌≡◌, ℕ, ◌⊎◌, List, [], ◌∷◌, ◌++◌, Bool, not, ◌==◌, IsTrue, codes, flat_map, if◌then◌else◌}
use Rattle.std.specs.List.{list_all}
use Rattle.ob_tree.specs.Bytes.{is_blank, ends_line}

-- the bytes have no line feed
abbrev pub is_one_line : List ℕ → Bool
is_one_line bytes = list_all (λ c. not (c == 10)) bytes

-- `//` with all that stands behind it on its line
pub record IsLineComment (text after : List ℕ) : Type 0 where
  pub body : List ℕ
  pub text_is : text ≡ 47 ∷ (47 ∷ body)
  pub one_line : IsTrue (is_one_line body)
  pub to_end : IsTrue (ends_line after)

-- `/*` up to the first `*/` behind it
pub record IsBlockComment (text : List ℕ) : Type 0 where
  pub body : List ℕ
  pub text_is : text ≡ 47 ∷ (42 ∷ (body ++ 42 ∷ (47 ∷ [])))
  pub first_end : (x y : List ℕ) → body ++ 42 ∷ [] ≡ x ++ 42 ∷ (47 ∷ y) → ⊥

abbrev pub IsComment : (text after : List ℕ) → Type 0
IsComment text after = IsBlockComment text ⊎ IsLineComment text after

-- A comment begins with `/*` here and doesn't end.
pub record IsOpenComment (here : List ℕ) : Type 0 where
  pub rest : List ℕ
  pub here_is : here ≡ 47 ∷ (42 ∷ rest)
  pub no_end : (x y : List ℕ) → rest ≡ x ++ 42 ∷ (47 ∷ y) → ⊥

-- the bytes of the line that the text has begun when these bytes are read
abbrev pub line_from : (line : List ℕ) → List ℕ → List ℕ
line_from line [] = line
line_from line (c ∷ cs) = line_from (if c == 10 then [] else line ++ c ∷ []) cs

abbrev pub last_line : List ℕ → List ℕ
last_line before = line_from [] before

-- the headers that an include line can name
abbrev pub IsHeader : List ℕ → Type 0
IsHeader text =
    (text ≡ codes "<stdio.h>") ⊎ ((text ≡ codes "<stdlib.h>") ⊎ ((text ≡ codes "<stddef.h>") ⊎ (text ≡ codes "<string.h>")))

-- what can stand behind the header: a space, a tab, or a comment that ends on the same line
abbrev pub IsFiller : List ℕ → Type 0
IsFiller text =
    (text ≡ 32 ∷ []) ⊎ ((text ≡ 9 ∷ []) ⊎ (IsComment text [] × IsTrue (is_one_line text)))

abbrev pub AreFillers : List (List ℕ) → Type 0
AreFillers [] = Unit {0}
AreFillers (text ∷ texts) = IsFiller text × AreFillers texts

-- An include line from its `#` on, with only spaces and tabs before that: `include`, the header and
-- what is behind it, an optional carriage return, and then the line ends.
pub record IsInclude (before text after : List ℕ) : Type 0 where
  pub first : List ℕ
  pub second : List ℕ
  pub header : List ℕ
  pub fillers : List (List ℕ)
  pub return : List ℕ
  pub blank_before : IsTrue (list_all is_blank (last_line before))
  pub text_is : text ≡ 35 ∷ (first ++ (codes "include" ++ (second ++ (header ++ (flat_map (λ t. t) fillers ++ return)))))
  pub blank_first : IsTrue (list_all is_blank first)
  pub blank_second : IsTrue (list_all is_blank second)
  pub header_is : IsHeader header
  pub fillers_are : AreFillers fillers
  pub return_is : (return ≡ []) ⊎ (return ≡ 13 ∷ [])
  pub line_ends : IsTrue (ends_line after)
