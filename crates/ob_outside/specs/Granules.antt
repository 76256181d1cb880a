-- The granules outside of objects with their contents, most recently used first, and how many may be listed.
use Rattle.std.specs.Prelude.{ℕ, List, map}
use Rattle.ob_model.specs.declared.values.Cell.{Cell}
use Rattle.ob_model.specs.Bounded.{Listed}
use Rattle.ob_model.specs.Cells.{Content, content}

pub record Granules : Type 0 where
  pub cap : ℕ
  pub listed : List (Listed (Content ℕ))

-- what the cells of a list hold
abbrev pub listed_content : Listed Cell → Listed (Content ℕ)
listed_content l = record { object = l.object; granule = l.granule; cell = content l.cell }

abbrev pub contents : List (Listed Cell) → List (Listed (Content ℕ))
contents cells = map listed_content cells
