-- What a stored image holds, as numbers: "restore's checks: 0, 12, 10, 11" come first, and then what `decode` says of an image that passes them.
use Rattle.std.specs.Prelude.{Result, ℕ, ◌≤◌, not, List, [], ◌++◌, ◌≡◌, ltb, length, get_or, drop}
use Rattle.octets.specs.Part.{part}
use Rattle.octets.specs.Pick.{pick}
use Rattle.label_list.specs.Find.{listed_count}
use Rattle.label_list.specs.Word.{word_count}
use Rattle.block0.specs.declared.Header.{Header}
use Rattle.image.specs.declared.Counts.{Counts}
use Rattle.image.specs.declared.ImageFault.{ImageFault}
use Rattle.image.specs.Counts.{counts_of}
use Rattle.image.specs.State.{Contents, decode, held_start, held_end}
use Rattle.image.specs.Verdict.{verdict, verdict_number, refuses, verdict_block}
use Rattle.protocol.specs.declared.Answer.{Answer}
use Rattle.protocol.specs.Answers.{answer_number}
use Rattle.message_numbers.specs.declared.PartNumbers.{PartNumbers}
use Rattle.message_numbers.specs.Reading.{no_part_for}
use Rattle.image_numbers.specs.declared.SummaryNumbers.{SummaryNumbers}
use Rattle.image_numbers.specs.declared.WordsNumbers.{WordsNumbers}

-- ---- the summary
-- "all else 0 where refused"; the block that 10 and 11 name
abbrev pub refused_summary : ℕ → ℕ → SummaryNumbers
refused_summary answer block = record {
  answer = answer;
  block = block;
  kept = 0;
  released = 0;
  issued = 0;
  secured = 0;
  held = 0;
  pended = 0;
  labels = 0;
  timeout = 0;
  keepalive = 0;
  maxpdu = 0;
  marks = 0;
}

-- the counts "as the image printer says"; "the agreed timeout, 0 for ever", in milliseconds, and "the peer's, as stored"; "byte 23 of block 0", which
-- restore's checks want zero where nothing is kept
unfoldable pub whole_summary : Header → Counts → SummaryNumbers
whole_summary h c = record {
  answer = answer_number Answer.Done;
  block = 0;
  kept = h.kept;
  released = c.released.0;
  issued = c.issued.0;
  secured = c.secured.0;
  held = c.held;
  pended = c.pended;
  labels = c.labels;
  timeout = h.timeout;
  keepalive = h.keepalive;
  maxpdu = h.maxpdu;
  marks = h.marks;
}

abbrev pub summary_by : Result Unit ImageFault → Contents → SummaryNumbers
summary_by v s = pick (refuses v) (refused_summary (verdict_number v) (verdict_block v)) (whole_summary s.header (counts_of s))

unfoldable pub summary_of : List ℕ → SummaryNumbers
summary_of im = summary_by (verdict im) (decode im)

-- ---- the label words
-- what the call leaves: the numbers returned, and the words that were lent
pub record WordsShown : Type 0 where
  pub numbers : WordsNumbers
  pub words : List ℕ

abbrev pub words_shown : WordsNumbers → List ℕ → WordsShown
words_shown r ws = record { numbers = r; words = ws }

-- no word is written
abbrev pub words_refused : ℕ → ℕ → List ℕ → WordsShown
words_refused answer block ws = words_shown (record { answer = answer; block = block; count = 0 }) ws

-- "all label words .. from the start of words, no word after them"; "count: words not zero"
abbrev pub words_listed : List ℕ → List ℕ → WordsShown
words_listed labels ws =
    words_shown (record { answer = answer_number Answer.Done; block = 0; count = listed_count labels }) (labels ++ drop word_count ws)

-- "12, 10, 11, then 9 where words_len is less"
abbrev pub words_by : Result Unit ImageFault → List ℕ → List ℕ → WordsShown
words_by v labels ws =
    pick (refuses v) (words_refused (verdict_number v) (verdict_block v) ws)
    (pick (ltb (length ws) word_count) (words_refused (answer_number Answer.OutputTooShort) 0 ws) (words_listed labels ws))

unfoldable pub words_of : List ℕ → List ℕ → WordsShown
words_of im ws = words_by (verdict im) (decode im).labels ws

-- ---- a message held
-- "the message held at that place, 0 the oldest, as a part of the image; 12, 10, 11; 8 where none is held there"
abbrev pub held_by : Result Unit ImageFault → List ℕ → ℕ → PartNumbers
held_by v im place =
    pick (refuses v) (no_part_for (verdict_number v))
    (pick (not (ltb place (decode im).header.held)) (no_part_for (answer_number Answer.NothingUnsent))
    (record { answer = answer_number Answer.Done; start = held_start im place; end = held_end im place }))

unfoldable pub held_of : List ℕ → ℕ → PartNumbers
held_of im place = held_by (verdict im) im place

-- the part of the image that is answered with 0 is that very message, the one at that place of the queue, and lies within the image
pub record ShowsHeld (im : List ℕ) (place : ℕ) (r : PartNumbers) : Type 0 where
  pub message : r.answer ≡ 0 → part im r.start r.end ≡ get_or (decode im).queue place []
  pub inside : r.answer ≡ 0 → r.end ≤ length im
