use Rattle.std.proofs.Common.{◌≡◌, Some, None, sym, ap, ◌∙◌, subst}
use Rattle.ob_code.specs.Frames.{function_at, no_function}
use Rattle.ob_code.specs.Kinds.{load_kind_of}
use Rattle.ob_code.specs.Rules.{IsFrameSound, IsVariableNameSound, IsHeldSound, name_at, no_name}
use Rattle.ob_code.specs.Shown.{shown_word, top_number, variable_word}
use Rattle.ob_code.specs.declared.image.NameRow.{NameRow}
use Rattle.ob_machine.specs.Machines.{shown_row}
use Rattle.ob_machine.proofs.ShownRows.{IsOwn, index_is, is_own, shown_other, shown_own, top_row}
use Rattle.ob_machine.proofs.shown.shown_by.Goals as goal

pub returns-then-name-number : goal.returns-then-name-number
returns-then-name-number c =
    let image = c.args.image.now in
    let row : NameRow = c.index-as_slice-row.result in
    let name : row ≡ name_at image.names c.args.row = index_is c.as_slice.result.now image.names row no_name c.args.row c.as_slice.ensures c.requires.row c.index-as_slice-row.is in
    let top : top_number c.args.space.now.space.calls ≡ Some c.in_ok-number.number = sym c.function.ensures ∙ c.in_ok-number.was in
    subst (λ r. None ≡ shown_row image c.args.space.now.space r) name
    (shown_other image c.args.space.now.space row c.in_ok-number.number c.if-name-eq0.false top c.if-name-number.true)

pub variable_word-requires-clause-innermost : goal.variable_word-requires-clause-innermost
variable_word-requires-clause-innermost c =
    let image = c.args.image.now in
    let row : NameRow = c.index-as_slice-row.result in
    let name : row ≡ name_at image.names c.args.row = index_is c.as_slice.result.now image.names row no_name c.args.row c.as_slice.ensures c.requires.row c.index-as_slice-row.is in
    let top : top_number c.args.space.now.space.calls ≡ Some c.in_ok-number.number = sym c.function.ensures ∙ c.in_ok-number.was in
    let held = subst (λ r. IsHeldSound image r) (sym name) (c.requires.verified.names.each c.args.row c.requires.row).held in
    let own : IsOwn image c.args.space.now.space.calls row c.in_ok-number.number = is_own image c.args.space.now.space.calls row c.in_ok-number.number c.requires.verified held c.if-name-eq0.false c.if-name-number.false in
    let f : c.index-as_slice-number.result ≡ function_at image.functions c.in_ok-number.number = index_is c.as_slice-2.result.now image.functions c.index-as_slice-number.result no_function c.in_ok-number.number c.as_slice-2.ensures own.exists c.index-as_slice-number.is in
    top_row c.args.space.now.functions c.args.space.now.space.calls c.in_ok-number.number top
    ∙ ap (λ fs. function_at fs c.in_ok-number.number) c.requires.functions ∙ sym f

pub variable_word-requires-clause-frame : goal.variable_word-requires-clause-frame
variable_word-requires-clause-frame c =
    let image = c.args.image.now in
    let row : NameRow = c.index-as_slice-row.result in
    let name : row ≡ name_at image.names c.args.row = index_is c.as_slice.result.now image.names row no_name c.args.row c.as_slice.ensures c.requires.row c.index-as_slice-row.is in
    let held = subst (λ r. IsHeldSound image r) (sym name) (c.requires.verified.names.each c.args.row c.requires.row).held in
    let own : IsOwn image c.args.space.now.space.calls row c.in_ok-number.number = is_own image c.args.space.now.space.calls row c.in_ok-number.number c.requires.verified held c.if-name-eq0.false c.if-name-number.false in
    let f : c.index-as_slice-number.result ≡ function_at image.functions c.in_ok-number.number = index_is c.as_slice-2.result.now image.functions c.index-as_slice-number.result no_function c.in_ok-number.number c.as_slice-2.ensures own.exists c.index-as_slice-number.is in
    subst (λ g. IsFrameSound g) (sym f) own.frame

pub variable_word-requires-clause-name : goal.variable_word-requires-clause-name
variable_word-requires-clause-name c =
    let image = c.args.image.now in
    let row : NameRow = c.index-as_slice-row.result in
    let name : row ≡ name_at image.names c.args.row = index_is c.as_slice.result.now image.names row no_name c.args.row c.as_slice.ensures c.requires.row c.index-as_slice-row.is in
    let held = subst (λ r. IsHeldSound image r) (sym name) (c.requires.verified.names.each c.args.row c.requires.row).held in
    let own : IsOwn image c.args.space.now.space.calls row c.in_ok-number.number = is_own image c.args.space.now.space.calls row c.in_ok-number.number c.requires.verified held c.if-name-eq0.false c.if-name-number.false in
    let f : c.index-as_slice-number.result ≡ function_at image.functions c.in_ok-number.number = index_is c.as_slice-2.result.now image.functions c.index-as_slice-number.result no_function c.in_ok-number.number c.as_slice-2.ensures own.exists c.index-as_slice-number.is in
    subst (λ g. IsVariableNameSound g row) (sym f) own.sound

pub returns : goal.returns
returns c =
    let image = c.args.image.now in
    let s = c.args.space.now.space in
    let kind = c.in_ok-kind.kind in
    let number = c.in_ok-number.number in
    let row : NameRow = c.index-as_slice-row.result in
    let name : row ≡ name_at image.names c.args.row = index_is c.as_slice.result.now image.names row no_name c.args.row c.as_slice.ensures c.requires.row c.index-as_slice-row.is in
    let top : top_number s.calls ≡ Some number = sym c.function.ensures ∙ c.in_ok-number.was in
    let held = subst (λ r. IsHeldSound image r) (sym name) (c.requires.verified.names.each c.args.row c.requires.row).held in
    let own : IsOwn image s.calls row number = is_own image s.calls row number c.requires.verified held c.if-name-eq0.false c.if-name-number.false in
    let f : c.index-as_slice-number.result ≡ function_at image.functions number = index_is c.as_slice-2.result.now image.functions c.index-as_slice-number.result no_function number c.as_slice-2.ensures own.exists c.index-as_slice-number.is in
    let kind_is : load_kind_of row.kind ≡ Some kind = sym c.kind_of.ensures ∙ c.in_ok-kind.was in
    subst (λ r. Some c.shown_word-2.result ≡ shown_row image s r) name
    (ap Some (c.shown_word-2.ensures ∙ ap (shown_word kind) (c.variable_word.ensures ∙ ap (λ g. variable_word g s row kind) f))
    ∙ sym (shown_own image s row number kind c.if-name-eq0.false top c.if-name-number.false kind_is))
