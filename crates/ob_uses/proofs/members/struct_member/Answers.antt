use Rattle.std.proofs.Common.{◌≡◌, Some, Option, option_map, slice_get, sym, ap, ◌∙◌, subst, Bor}
use Rattle.ob_tree.specs.declared.types.StructRow.{StructRow}
use Rattle.ob_tree.specs.Sizes.{MemberPlace}
use Rattle.ob_tree.specs.TypeView.{plain_struct}
use Rattle.ob_typed.specs.PostfixRules.{member_found}
use Rattle.ob_typed.specs.TypedView.{typed_lean}
use Rattle.ob_members.specs.StructuresView.{plain_structures}
use Rattle.ob_conversions.specs.CheckedView.{checked, mark}
use Rattle.ob_conversions.specs.Gives.{Gives}
use Rattle.ob_uses.proofs.IndexedMembers.{same_member}
use Rattle.ob_uses.proofs.members.struct_member.Goals as goal

pub returns-then-is_whole : goal.returns-then-is_whole
returns-then-is_whole c =
    let at : slice_get (plain_structures c.args.s.now) c.args.number ≡ Some (plain_struct c.in-Some.row.now) = sym c.row.ensures ∙ ap (option_map (λ (r : Bor StructRow). plain_struct r.now)) c.in-Some.is in
    let same = same_member (plain_structures c.args.s.now) c.args.number c.args.name.now (plain_struct c.in-Some.row.now) c.member.result at c.member.ensures in
    let P = λ (o : Option MemberPlace). Gives checked c.member_found.result (member_found (mark c.args.m) (typed_lean c.args.lean) o) in
    subst P same c.member_found.ensures
