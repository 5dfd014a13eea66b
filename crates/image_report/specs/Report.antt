-- What the image printer says of an image: its counts (`image/specs/Counts.antt`); "A refused image gives one line".
use Rattle.std.specs.Prelude.{Result, Ok, Err, ℕ, List}
use Rattle.image.specs.declared.Counts.{Counts}
use Rattle.image.specs.declared.ImageFault.{ImageFault}
use Rattle.image.specs.Counts.{counts_of}
use Rattle.image.specs.State.{Contents, decode}
use Rattle.image.specs.Verdict.{verdict, verdict_number, verdict_block}
use Rattle.image_report.specs.declared.Refusal.{Refusal}

-- the number of a fault, and the block that it names
abbrev pub refusal_of : ImageFault → Refusal
refusal_of fault = record { answer = verdict_number (Err fault); block = verdict_block (Err fault) }

-- the counts of an image that restore's checks pass; of any other the refusal for the fault that they find
abbrev pub report_by : Result Unit ImageFault → Contents → Result Counts Refusal
report_by (Ok tt) s = Ok (counts_of s)
report_by (Err fault) s = Err (refusal_of fault)

unfoldable pub report_of : List ℕ → Result Counts Refusal
report_of image = report_by (verdict image) (decode image)
