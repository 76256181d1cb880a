-- What holds of a machine's parts between its calls.
use Rattle.std.specs.Prelude.{◌≡◌, Bool, true, []}
use Rattle.std.specs.Vec.{vec_capacity}
use Rattle.ob_model.specs.Settings.{IsFit}
use Rattle.ob_code.specs.declared.image.Image.{Image}
use Rattle.ob_code.specs.Rules.{IsVerified}
use Rattle.ob_space.specs.Loaded.{loaded}
use Rattle.ob_machine.specs.declared.execution.Execution.{Execution}
use Rattle.ob_machine.specs.declared.ports.Ports.{Ports}
use Rattle.ob_machine.specs.Buffers.{nothing_read}
use Rattle.ob_machine.specs.Effects.{HasRoom}

-- a fresh machine's memory is laid out, nothing was run, and its buffers are empty
pub record IsUnused (image : Image) (e : Execution) (p : Ports) : Type 0 where
  pub space : e.space ≡ loaded image e.space.settings
  pub counter : e.counter ≡ 0
  pub instructions : e.instructions ≡ 0
  pub input : p.input ≡ nothing_read
  pub output : p.output ≡ []

-- the memory was laid out for the image, which is verified, under fit settings, and there is room for the arguments of calls
pub record IsWired (image : Image) (e : Execution) (p : Ports) (fresh : Bool) : Type 0 where
  pub verified : IsVerified image
  pub statics : e.space.statics ≡ image.statics
  pub pointers : e.space.pointers ≡ image.pointers
  pub functions : e.space.functions ≡ image.functions
  pub settings : IsFit e.space.settings
  pub room : HasRoom image (vec_capacity p.arguments)
  pub unused : fresh ≡ true → IsUnused image e p
