-- What differs between the versions: the profile in the head, and the names at the end.
use Rattle.std.proofs.Common.{◌≡◌, ℕ, [], refl, sym, arith}
use Rattle.std.specs.Prelude.{◌==◌}
use Rattle.std.proofs.lemmas.Bool.{eqb-true, eqb-false}
use Rattle.ob_words.specs.Fields.{low_bytes}
use Rattle.ob_model.specs.declared.settings.Profile.{Profile}
use Rattle.ob_model.specs.declared.settings.Profile.TheVariants as profile
use Rattle.ob_code.specs.Limits.{most_names}
use Rattle.ob_image.specs.declared.layout.Version.{Version}
use Rattle.ob_image.specs.declared.layout.Version.TheVariants as version
use Rattle.ob_image.specs.Reading.{name_row, version_of, version_word, profile_of, profile_word, profile_in, names_in}
use Rattle.ob_image.specs.Spelling.{version_number, profile_number, spell_name, spell_profile, spell_names, HasProfile, AreNames, IsNameRow}
use Rattle.ob_image.proofs.Heads.{IsFromOne, choice_reader, choice_spelled, mapped_spelled, gives_spelled}
use Rattle.ob_image.proofs.Readers.{IsReader, then_reader, gives_reader, counted_reader, yes, no, tested}
use Rattle.ob_image.proofs.RowLaws.{name_row_reader, name_row_spelled}
use Rattle.ob_image.proofs.Spellings.{IsSpelled, counted_spelled}

abbrev pub AnyVersion : Version → Type 0
AnyVersion v = Unit {0}

version_back : (n : ℕ) → IsFromOne 2 n → version_number (version_of n) ≡ n
version_back n is =
    elim (tested (n == 1)) [
      | yes t ↦ rw t (sym (eqb-true n 1 t))
      | no t ↦ rw t (omega (arith, is.0, is.1, eqb-false n 1 t))
    ]

version_again : (v : Version) → version_of (version_number v) ≡ v
version_again version.One = refl
version_again version.Two = refl

version_fits : (v : Version) → IsFromOne 2 (version_number v)
version_fits version.One = (omega arith, omega arith)
version_fits version.Two = (omega arith, omega arith)

pub version_reader : IsReader version_word
unfolding version_word
version_reader = then_reader (choice_reader 2 (omega arith)) (λ n. gives_reader (version_of n))

pub version_spelled : IsSpelled version_word AnyVersion (λ v. low_bytes 4 (version_number v))
unfolding version_word
version_spelled =
    let s = mapped_spelled version_of version_number (choice_spelled 2 (omega arith)) version_back version_again in
    record { sound = λ bytes v rest fits e. (tt, (s.sound bytes v rest fits e).1); again = λ v rest is. s.again v rest (version_fits v) }

profile_back : (n : ℕ) → IsFromOne 2 n → profile_number (profile_of n) ≡ n
profile_back n is =
    elim (tested (n == 1)) [
      | yes t ↦ rw t (sym (eqb-true n 1 t))
      | no t ↦ rw t (omega (arith, is.0, is.1, eqb-false n 1 t))
    ]

profile_again : (p : Profile) → profile_of (profile_number p) ≡ p
profile_again profile.One = refl
profile_again profile.Two = refl

profile_fits : (p : Profile) → IsFromOne 2 (profile_number p)
profile_fits profile.One = (omega arith, omega arith)
profile_fits profile.Two = (omega arith, omega arith)

profile_word_reader : IsReader profile_word
unfolding profile_word
profile_word_reader = then_reader (choice_reader 2 (omega arith)) (λ n. gives_reader (profile_of n))

profile_word_spelled : IsSpelled profile_word (λ p. Unit {0}) (λ p. low_bytes 4 (profile_number p))
unfolding profile_word
profile_word_spelled =
    let s = mapped_spelled profile_of profile_number (choice_spelled 2 (omega arith)) profile_back profile_again in
    record { sound = λ bytes p rest fits e. (tt, (s.sound bytes p rest fits e).1); again = λ p rest is. s.again p rest (profile_fits p) }

pub profile_reader : (v : Version) → IsReader (profile_in v)
unfolding profile_in
profile_reader version.One = gives_reader profile.One
profile_reader version.Two = profile_word_reader

pub profile_spelled : (v : Version) → IsSpelled (profile_in v) (HasProfile v) (spell_profile v)
unfolding profile_in
profile_spelled version.One = gives_spelled profile.One
profile_spelled version.Two = profile_word_spelled

pub names_reader : (v : Version) → IsReader (names_in v)
unfolding names_in
names_reader version.One = gives_reader []
names_reader version.Two = counted_reader most_names name_row name_row_reader

pub names_spelled : (v : Version) → IsSpelled (names_in v) (AreNames v) (spell_names v)
unfolding names_in
names_spelled version.One = gives_spelled []
names_spelled version.Two = counted_spelled most_names name_row IsNameRow spell_name (omega arith) name_row_spelled
