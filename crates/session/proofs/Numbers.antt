-- The numbers of restore's verdicts are those of the answers that the calls make of them. Assumes nothing.
use Rattle.std.specs.Prelude.{Result, Ok, Err}
use mathlib.Core.Path.{◌≡◌, refl}
use Rattle.image.specs.declared.ImageFault.{ImageFault}
use Rattle.image.specs.Verdict.{verdict_number, verdict_block}
use Rattle.protocol.specs.declared.Answer.{Answer}
use Rattle.protocol.specs.Answers.{answer_number, answer_block}
use Rattle.calls.specs.Outcomes.{checked}

-- 12, 10 and 11, with the block
pub checks_numbered : (v : Result Unit ImageFault) → (answer_number (checked v Answer.Done) ≡ verdict_number v) × (answer_block (checked v Answer.Done) ≡ verdict_block v)
checks_numbered (Ok tt) = (refl, refl)
checks_numbered (Err ImageFault.WrongSize) = (refl, refl)
checks_numbered (Err (ImageFault.BadBlock b)) = (refl, refl)
checks_numbered (Err (ImageFault.BadField b)) = (refl, refl)
