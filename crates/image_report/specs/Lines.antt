-- The printer's lines: "released 0", "issued 0", "secured 0", "held 1", "pended 1", "labels 1", or "one line, as `refused 10 block 3`".
use Rattle.std.specs.Prelude.{Result, Ok, Err, ℕ, List, ◌++◌}
use Rattle.text.specs.Text.{ascii, decimal}
use Rattle.image.specs.declared.Counts.{Counts}
use Rattle.image_report.specs.declared.Refusal.{Refusal}

-- no report is longer: six lines of a name, at most 20 digits and the line's end
abbrev pub report_room : ℕ
report_room = 186

abbrev pub line : List ℕ → ℕ → List ℕ
line name n = name ++ (decimal n ++ ascii "\n")

abbrev pub numbers_text : Counts → List ℕ
numbers_text c = line (ascii "released ") c.released.0 ++ (line (ascii "issued ") c.issued.0 ++ line (ascii "secured ") c.secured.0)

abbrev pub counts_text : Counts → List ℕ
counts_text c = line (ascii "held ") c.held ++ (line (ascii "pended ") c.pended ++ line (ascii "labels ") c.labels)

abbrev pub counted_text : Counts → List ℕ
counted_text c = numbers_text c ++ counts_text c

abbrev pub refused_text : ℕ → ℕ → List ℕ
refused_text answer block = ascii "refused " ++ (decimal answer ++ line (ascii " block ") block)

abbrev pub text_of : Result Counts Refusal → List ℕ
text_of (Ok c) = counted_text c
text_of (Err refusal) = refused_text refusal.answer refusal.block
