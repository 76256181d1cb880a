-- `migrate IMAGE`: writes the image in IMAGE anew.
--   input   untouched
--   out     the image, in version 2
--   err     where the image is bad, the line that says where
--   status  135, or 0
use Rattle.std.specs.Prelude.{◌≡◌, ℕ, List}
use Rattle.ob_base.specs.Devices.{Reading, IsUnread}
use Rattle.ob_image.specs.declared.layout.Version.TheVariants.{Two}
use Rattle.ob_image.specs.Faults.{Spells, SpellsIn}
use Rattle.ob_code.specs.declared.image.Image.{Image}
use Rattle.ob_commands.specs.Answers.{Outcome, wrote}
use Rattle.ob_commands.specs.Parts.{Asked, OfImage}

-- the output is a spelling of the image
pub record IsRewritten (image : Image) (input : Reading) (o : Outcome) : Type 0 where
  pub unread : IsUnread input
  pub bytes : List ℕ
  pub spelled : SpellsIn Two bytes image
  pub is : o ≡ wrote bytes

abbrev pub Migrate : Asked → (bytes : List ℕ) → Reading → Outcome → Type 0
Migrate a bytes input o = OfImage a.job.argument bytes input o (λ image. IsRewritten image input o)

-- what is written is the spelling of the image that was read, and of no other: so the two run alike
abbrev pub WritesTheImage : Type 0
WritesTheImage = (image other : Image) (input : Reading) (o : Outcome) → IsRewritten image input o → Spells o.out other → other ≡ image
