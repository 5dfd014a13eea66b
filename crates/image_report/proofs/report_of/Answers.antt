-- `image_report::report_of` meets its contract, by the verdict. Assumes nothing.
use mathlib.Core.Path.{sym, ◌∙◌}
use borrow.Author.Rules.{rules}
use Rattle.image.proofs.Sound.{sound_parts}
use Rattle.image_report.specs.Report.{report_of}
use Rattle.image_report.proofs.report_of.Goals as goal

pub returns-in_err-check_image : goal.returns-in_err-check_image
unfolding report_of
returns-in_err-check_image c = rw (sym c.check_image.ensures ∙ c.in_err-check_image.was) (search rules)

pub counts_of-requires : goal.counts_of-requires
counts_of-requires c = sound_parts _ (sym c.check_image.ensures ∙ c.in_ok-check_image.was)

pub returns : goal.returns
unfolding report_of
returns c = rw (sym c.check_image.ensures ∙ c.in_ok-check_image.was) (search rules)
