-- Where an access lands, by whether its offset is too far.
use Rattle.std.proofs.Common.{◌≡◌, ℕ, Bool, true, false, ℤ, ◌+ℤ◌, Option, Some, None, if◌then◌else◌, refl, ap, sym, ◌∙◌}
use Rattle.std.proofs.lemmas.Bool.{cond-false}
use Rattle.ob_model.specs.Accesses.{is_far}
use Rattle.ob_model.specs.declared.settings.Mode.{Mode}
use Rattle.ob_model.specs.Entries.{Known}
use Rattle.ob_code.specs.Accesses.{Access, access_in, access_to, too_far}
use Rattle.ob_access.specs.declared.pointee.Pointee.{Pointee}
use Rattle.ob_access.specs.Pointees.{target_of}
use Rattle.ob_access.specs.Reaches.{access_at, near}

by_test : (far : Bool) (mode : Mode) (known : Known) (offset : ℤ) (k : ℕ) → access_at mode known (if far then None else Some offset) k ≡ (if far then too_far else access_at mode known (Some offset) k)
by_test true mode known offset k = refl
by_test false mode known offset k = refl

pub landed : (mode : Mode) (known : Known) (offset : ℤ) (k : ℕ) → access_at mode known (near offset) k ≡ access_in mode known offset k
landed mode known offset k = by_test (is_far offset) mode known offset k

pub whole : (mode : Mode) (pointer : Option Pointee) (p : Pointee) (d : ℤ) (k : ℕ) (to : Option ℤ) (x : Access) → pointer ≡ Some p → is_far d ≡ false → to ≡ near (p.offset +ℤ d) → x ≡ access_at mode (record { entry = p.entry; freed = p.freed }) to k → x ≡ (if is_far d then too_far else access_to mode (target_of pointer) d k)
whole mode pointer p d k to x is close to_is x_is =
    x_is
    ∙ ap (λ (t : Option ℤ). access_at mode (record { entry = p.entry; freed = p.freed }) t k) to_is
    ∙ landed mode (record { entry = p.entry; freed = p.freed }) (p.offset +ℤ d) k
    ∙ sym (cond-false (is_far d) too_far (access_to mode (target_of pointer) d k) close ∙ ap (λ (q : Option Pointee). access_to mode (target_of q) d k) is)
