use Rattle.std.proofs.Common.{refl}
use Rattle.ob_commands.proofs.Texts.{line_case, reported, unreported}
use Rattle.ob_commands.proofs.line.line_of.Goals as goal
use Rattle.ob_commands.proofs.line.line_of.Goals.{in-Done, in-Usage, in-FileFault, in-FileLong, in-NotYet, in-Refused+in_ok-diagnostic-in-Refused, in-Bad+in_ok-bad_image_line-in-Bad, in-Ran+in_ok-ending_and_report-in-Ran, in-Ran-2}

pub returns-clause-line : goal.returns-clause-line
returns-clause-line g c =
    elim c.match-answer.branch [
      | in-Done w ↦ line_case _ _ _ _ _ _ _ w.result-is w.in-Done.is refl
      | in-Usage w ↦ line_case _ _ _ _ _ _ _ w.result-is w.in-Usage.is w.usage_line.ensures
      | in-FileFault w ↦ line_case _ _ _ _ _ _ _ w.result-is w.in-FileFault.is w.file_fault_line.ensures
      | in-FileLong w ↦ line_case _ _ _ _ _ _ _ w.result-is w.in-FileLong.is w.file_long_line.ensures
      | in-NotYet w ↦ line_case _ _ _ _ _ _ _ w.result-is w.in-NotYet.is w.not_yet_line.ensures
      | in-Refused+in_ok-diagnostic-in-Refused w ↦ line_case _ _ _ _ _ _ _ w.result-is w.in-Refused.is w.in_ok-diagnostic-in-Refused.ensures
      | in-Bad+in_ok-bad_image_line-in-Bad w ↦ line_case _ _ _ _ _ _ _ w.result-is w.in-Bad.is w.in_ok-bad_image_line-in-Bad.ensures
      | in-Ran+in_ok-ending_and_report-in-Ran w ↦ line_case _ _ _ _ _ _ _ w.result-is w.in-Ran.is (reported _ _ _ _ _ _ (λ v. refl) w.if-asked.true w.in_ok-ending_and_report-in-Ran.ensures)
      | in-Ran-2 w ↦ line_case _ _ _ _ _ _ _ w.result-is w.in-Ran-2.is (unreported _ _ _ _ w.if-asked.false w.ending_line.ensures)
    ]
