use Rattle.std.proofs.Common.{rules, ◌≡◌, ◌∙◌, ap, sym, Some, None, option_map, slice_get}
use Rattle.ob_tree.specs.TypeView.{plain_type}
use Rattle.ob_typed.specs.declared.statics.TStatic.{TStatic}
use Rattle.ob_consts.proofs.Statics.{type_of_static}
use Rattle.ob_consts.proofs.addresses.type_at.Goals as goal

pub returns-in-Some : goal.returns-in-Some
returns-in-Some c =
    let found : Some c.in-Some.o.now ≡ slice_get c.args.statics.now.items c.args.target = search rules in
    ap (option_map (λ (o : TStatic). plain_type o.ty)) found ∙ sym (type_of_static c.args.statics.now.items c.args.target)

pub returns-in-None : goal.returns-in-None
returns-in-None c =
    let found : None ≡ slice_get c.args.statics.now.items c.args.target = search rules in
    ap (option_map (λ (o : TStatic). plain_type o.ty)) found ∙ sym (type_of_static c.args.statics.now.items c.args.target)
