-- The line of a sample's run: how long its source and its output were, the sum of the output's bytes, and how it ended. It ends
-- with a line feed.
--     sample NUMBER: LENGTH bytes of source, COUNT bytes of output, sum SUM, ENDING
use Rattle.std.specs.Prelude.{ℕ, List, ◌++◌, codes, decimal}
use Rattle.ob_report.specs.Verdicts.{verdict_line}
use Rattle.ob_report.specs.declared.samples.SampleRun.{SampleRun}
use Rattle.ob_report.specs.declared.verdicts.VerdictLine.TheVariants.{Plain}

abbrev pub lengths : SampleRun → List ℕ
lengths run =
    codes "sample " ++ decimal run.number ++ codes ": " ++ decimal run.source ++ codes " bytes of source, " ++ decimal run.count ++
    codes " bytes of output, "

abbrev pub sum_and_ending : SampleRun → List ℕ
sum_and_ending run = codes "sum " ++ decimal run.sum ++ codes ", " ++ verdict_line (Plain run.ending)

abbrev pub sample_line : SampleRun → List ℕ
sample_line run = lengths run ++ sum_and_ending run
