use Rattle.std.proofs.Common.{refl}
use Rattle.ob_words.specs.Conversion.{convert, residue}
use Rattle.ob_words.specs.Fields.{from_bytes, low_bytes}
use Rattle.ob_meaning.proofs.laws.law_freed_runs.Goals as goal

pub returns-clause-store : goal.returns-clause-store
unfolding convert residue from_bytes low_bytes
returns-clause-store c = refl

pub returns-clause-store_kept : goal.returns-clause-store_kept
unfolding convert residue from_bytes low_bytes
returns-clause-store_kept c = refl

pub returns-clause-store_unlimited : goal.returns-clause-store_unlimited
unfolding convert residue from_bytes low_bytes
returns-clause-store_unlimited c = refl

pub returns-clause-block_stays : goal.returns-clause-block_stays
unfolding convert residue from_bytes low_bytes
returns-clause-block_stays c = refl

pub returns-clause-block_is_given : goal.returns-clause-block_is_given
unfolding convert residue from_bytes low_bytes
returns-clause-block_is_given c = refl

pub returns-clause-again : goal.returns-clause-again
unfolding convert residue from_bytes low_bytes
returns-clause-again c = refl

pub returns-clause-again_kept : goal.returns-clause-again_kept
unfolding convert residue from_bytes low_bytes
returns-clause-again_kept c = refl

pub returns-clause-granule : goal.returns-clause-granule
unfolding convert residue from_bytes low_bytes
returns-clause-granule c = refl

pub returns-clause-granule_unlimited : goal.returns-clause-granule_unlimited
unfolding convert residue from_bytes low_bytes
returns-clause-granule_unlimited c = refl

pub returns-clause-compared : goal.returns-clause-compared
unfolding convert residue from_bytes low_bytes
returns-clause-compared c = refl

pub returns-clause-pair : goal.returns-clause-pair
unfolding convert residue from_bytes low_bytes
returns-clause-pair c = (refl, refl)

pub returns-clause-room : goal.returns-clause-room
unfolding convert residue from_bytes low_bytes
returns-clause-room c = refl

pub returns-clause-room_kept : goal.returns-clause-room_kept
unfolding convert residue from_bytes low_bytes
returns-clause-room_kept c = refl

pub returns-clause-room_of_dead : goal.returns-clause-room_of_dead
unfolding convert residue from_bytes low_bytes
returns-clause-room_of_dead c = refl

pub returns-clause-automatic : goal.returns-clause-automatic
unfolding convert residue from_bytes low_bytes
returns-clause-automatic c = refl

pub returns-clause-automatic_two : goal.returns-clause-automatic_two
unfolding convert residue from_bytes low_bytes
returns-clause-automatic_two c = refl
