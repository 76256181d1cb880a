use Rattle.std.proofs.Common.{ap, sym, ◌∙◌, map, string_bytes}
use Rattle.std.specs.Option.{option_map}
use Rattle.ob_settings.specs.Reading.{choosing, taking_one}
use Rattle.ob_settings.proofs.Splits.{split_none, split_some}
use Rattle.ob_settings.proofs.Steps.{joined_step, joined_unknown, named_step, unknown_step}
use Rattle.ob_settings.proofs.reader.Reader.option.Goals as goal

pub returns-in-Some-named : goal.returns-in-Some-named
returns-in-Some-named c =
    λ at. c.taking_one.ensures ∙ ap (option_map taking_one) (c.choosing.ensures ∙ ap (choosing c.args.self) c.chosen.ensures) ∙
    sym (joined_step c.args.verb at c.args.self (map string_bytes c.args.behind.now) c.args.word.now c.in-Some.name.now c.in-Some.value.now c.in-Some-named.setting
    (split_some c.args.word.now c.split_once.result c.in-Some.name c.in-Some.value c.split_once.ensures.cases c.in-Some.is) (sym c.named.ensures ∙ c.in-Some-named.is))

pub returns-in-None-named : goal.returns-in-None-named
returns-in-None-named c =
    λ at. joined_unknown c.args.verb at c.args.self (map string_bytes c.args.behind.now) c.args.word.now c.in-Some.name.now c.in-Some.value.now
    (split_some c.args.word.now c.split_once.result c.in-Some.name c.in-Some.value c.split_once.ensures.cases c.in-Some.is) (sym c.named.ensures ∙ c.in-None-named.is)

pub returns-in-Some-named-2 : goal.returns-in-Some-named-2
returns-in-Some-named-2 c =
    λ at. c.named-in-Some-named-2.ensures at ∙
    sym (named_step c.args.verb at c.args.self (map string_bytes c.args.behind.now) c.args.word.now c.in-Some-named-2.setting
    (split_none c.args.word.now c.split_once.result c.split_once.ensures.cases c.in-None.is) (sym c.named-in-None.ensures ∙ c.in-Some-named-2.is))

pub returns-in-None-named-2 : goal.returns-in-None-named-2
returns-in-None-named-2 c =
    λ at. unknown_step c.args.verb at c.args.self (map string_bytes c.args.behind.now) c.args.word.now
    (split_none c.args.word.now c.split_once.result c.split_once.ensures.cases c.in-None.is) (sym c.named-in-None.ensures ∙ c.in-None-named-2.is)
