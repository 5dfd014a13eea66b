-- Checks, label words, open Requests and an extended image as numbers.
use Rattle.std.specs.Prelude.{Result, Ok, Err, Option, Some, None, ℕ, ◌*◌, ◌%◌, not, List, eqb, ltb, leb, get_or}
use Rattle.octets.specs.Pick.{pick}
use Rattle.block.specs.Check.{block_size}
use Rattle.label_list.specs.Word.{word_count, is_request}
use Rattle.fec_index.specs.Entries.{word_span, length_in}
use Rattle.image.specs.declared.ImageFault.{ImageFault}
use Rattle.image.specs.Sizes.{further}
use Rattle.image.specs.State.{decode}
use Rattle.image.specs.Verdict.{verdict, verdict_number}
use Rattle.calls.specs.Outcomes.{bits_of}
use Rattle.image_numbers.specs.declared.ExtendedNumbers.{ExtendedNumbers}
use Rattle.image_numbers.specs.declared.PrefixNumbers.{PrefixNumbers}
use Rattle.image_numbers.specs.declared.RequestNumbers.{RequestNumbers}

-- "0xFFFFFFFF where refused"
abbrev pub refused_number : ℕ
refused_number = 0xFFFFFFFF

-- "A * 65536 + B over the first 508 bytes; 0xFFFFFFFF where fewer"
abbrev pub check_number : Option ℕ → ℕ
check_number (Some c) = c
check_number None = refused_number

-- "the label word at place 0 to 118 of an image that passes restore's checks; 0xFFFFFFFF where refused or no such place"
abbrev pub label_by : Result Unit ImageFault → List ℕ → ℕ → ℕ
label_by (Ok tt) words place = pick (not (ltb place word_count)) refused_number (get_or words place 0)
label_by (Err ImageFault.WrongSize) words place = refused_number
label_by (Err (ImageFault.BadBlock b)) words place = refused_number
label_by (Err (ImageFault.BadField b)) words place = refused_number

unfoldable pub label_at : List ℕ → ℕ → ℕ
label_at im place = label_by (verdict im) (decode im).labels place

-- "open 1 and the message ID where the word at place has code 7; else 0, 0: other word, no such place, image refused"
abbrev pub no_request : RequestNumbers
no_request = record { isopen = 0; id = 0 }

abbrev pub request_by : Result Unit ImageFault → List ℕ → List ℕ → ℕ → RequestNumbers
request_by (Ok tt) words ids place = pick (is_request (get_or words place 0)) (record { isopen = 1; id = get_or ids place 0 }) no_request
request_by (Err ImageFault.WrongSize) words ids place = no_request
request_by (Err (ImageFault.BadBlock b)) words ids place = no_request
request_by (Err (ImageFault.BadField b)) words ids place = no_request

unfoldable pub open_request : List ℕ → ℕ → RequestNumbers
open_request im place = request_by (verdict im) (decode im).labels (decode im).ids place

-- "1, length in bits (0 to 32) and prefix (its first byte the highest) where the word at place lists a label of an indexed FEC; else 0, 0, 0"
abbrev pub no_prefix : PrefixNumbers
no_prefix = record { indexed = 0; length = 0; prefix = 0 }

-- by the entry that counts there: 0 is none
abbrev pub prefix_shown : ℕ → PrefixNumbers
prefix_shown entry = pick (eqb entry 0) no_prefix (record { indexed = 1; length = length_in entry; prefix = entry % word_span })

abbrev pub prefix_by : Result Unit ImageFault → List ℕ → ℕ → PrefixNumbers
prefix_by (Ok tt) index place = prefix_shown (get_or index place 0)
prefix_by (Err ImageFault.WrongSize) index place = no_prefix
prefix_by (Err (ImageFault.BadBlock b)) index place = no_prefix
prefix_by (Err (ImageFault.BadField b)) index place = no_prefix

unfoldable pub prefix_at : List ℕ → ℕ → PrefixNumbers
prefix_at im place = prefix_by (verdict im) (decode im).index place

-- "The blocks behind it are made .. and named in `further`"; 12 where nothing is done
abbrev pub extended_numbers : Result Unit ImageFault → ℕ → ExtendedNumbers
extended_numbers v stored = record {
  answer = verdict_number v;
  further = pick (eqb (verdict_number v) 0) (bits_of (λ b. leb stored (b * block_size)) further) 0;
}
