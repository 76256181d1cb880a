-- Where the paths keep the limit, the stars that were read are few.
use Rattle.std.proofs.Common.{ℕ, ◌≤◌, ◌<◌, arith}
use Rattle.ob_tree.specs.Trees.{SpecTree}
use Rattle.ob_tree.specs.ProgramStates as plain
use Rattle.ob_declarations.specs.Shifts.{FewStars}
use Rattle.ob_parser.specs.DeepestPaths.{deepest_path}

declare-few : (d : plain.Declaration) (n : ℕ) → deepest_path (plain.Declare d n) ≤ 256 → n < 1000
declare-few d n h = omega arith

param-few : (l : plain.ParamList) (f n : ℕ) (s : SpecTree) (i : ℕ) → deepest_path (plain.Param l f n s i) ≤ 256 → i < 1000
param-few l f n s i h = omega arith

pub few_stars : (s : plain.State) → deepest_path s ≤ 256 → FewStars s
few_stars (plain.Items items) h = tt
few_stars (plain.Specifying u t) h = tt
few_stars (plain.Declare d n) h = declare-few d n h
few_stars (plain.Dims x ds) h = tt
few_stars (plain.Optional u) h = tt
few_stars (plain.Reading u t) h = tt
few_stars (plain.Init t is) h = tt
few_stars (plain.AfterInit t is i) h = tt
few_stars (plain.Params l) h = tt
few_stars (plain.NextParam l) h = tt
few_stars (plain.Param l f n s i) h = param-few l f n s i h
few_stars (plain.Closed x ps) h = tt
few_stars (plain.Begin fs) h = tt
few_stars (plain.Opening u) h = tt
few_stars (plain.ForWord f n fs) h = tt
few_stars (plain.ForOpen f n fs) h = tt
few_stars (plain.Semi s fs) h = tt
few_stars (plain.Done s fs) h = tt
