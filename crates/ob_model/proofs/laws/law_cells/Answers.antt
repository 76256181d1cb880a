use Rattle.std.proofs.Common.{refl}
use Rattle.ob_words.specs.Fields.{from_bytes, low_bytes}
use Rattle.ob_model.proofs.ReadBack.{written_is_read, pointer_is_gone}
use Rattle.ob_model.proofs.laws.law_cells.Goals as goal

pub returns-clause-bytes : goal.returns-clause-bytes
returns-clause-bytes c = written_is_read

pub returns-clause-kinds : goal.returns-clause-kinds
returns-clause-kinds c = λ k place p null bs. (λ _. pointer_is_gone place p null bs, refl)

pub returns-clause-cells : goal.returns-clause-cells
unfolding from_bytes low_bytes
returns-clause-cells c = λ word set. (refl, refl, refl)
