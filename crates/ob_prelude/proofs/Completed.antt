-- A completed program is one of the grammar where the program is.
use Rattle.std.proofs.Common.{List, [], ◌∷◌, ◌++◌, Bool, true, false, if◌then◌else◌, sym, subst}
use Rattle.std.specs.List.{AllByRecursion, flat_map}
use Rattle.std.proofs.lemmas.List.Concat.{flat_map-cons}
use Rattle.ob_tree.specs.Programs.{ItemTree, ProgramTree}
use Rattle.ob_tree.specs.ProgramValid.{ValidItem, ValidProgram}
use Rattle.ob_library.specs.declared.library.LibraryFunction.{LibraryFunction}
use Rattle.ob_library.specs.Library.{library, tree_of}
use Rattle.ob_prelude.specs.Completion.{complete, share, wanted}

abbrev AreValid : List ItemTree → Type 0
AreValid is = AllByRecursion ValidItem is

joined : (is js : List ItemTree) → AreValid is → AreValid js → AreValid (is ++ js)
joined [] js h k = k
joined (i ∷ is) js h k = (h.0, joined is js h.1 k)

module _ (trees : (f : LibraryFunction) → ValidItem (tree_of f)) (p : ProgramTree) where
  share_valid : (f : LibraryFunction) → AreValid (share p f)
  unfolding share
  share_valid f = by (wanted p f)
    where
      by : (b : Bool) → AreValid (if b then tree_of f ∷ [] else [])
      by true = (trees f, tt)
      by false = tt

  shares_valid : (fs : List LibraryFunction) → AreValid (flat_map (share p) fs)
  shares_valid [] = tt
  shares_valid (f ∷ fs) = subst AreValid (sym (flat_map-cons (share p) f fs)) (joined (share p f) (flat_map (share p) fs) (share_valid f) (shares_valid fs))

pub completed_valid : ((f : LibraryFunction) → ValidItem (tree_of f)) → (p : ProgramTree) → ValidProgram p → ValidProgram (complete p)
completed_valid trees [] h = absurd h
completed_valid trees (i ∷ is) h = (h.0, joined is (flat_map (share (i ∷ is)) library) h.1 (shares_valid trees (i ∷ is) library))
