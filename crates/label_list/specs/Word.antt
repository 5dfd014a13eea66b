-- A label word, and the side on which its code stands. 01: "numbers of 32 bits: label + 1,048,576 x code; 0 is free, and no other word has code 0".
use Rattle.std.specs.Prelude.{ℕ, ◌+◌, ◌-◌, ◌*◌, ◌/◌, ◌%◌, Bool, true, eqb, leb}
use Rattle.octets.specs.Pick.{pick, both}
use Rattle.label_list.specs.declared.Side.{Side}
use Rattle.label_list.specs.declared.Side.TheVariants.{Given, Used}

-- 02: "119 labels from 32"
abbrev pub word_count : ℕ
word_count = 119

-- the number of labels, and the value of one step of the code: labels have 20 bits
abbrev pub label_count : ℕ
label_count = 1048576

-- "Labels 0 to 15 are never listed"
abbrev pub first_label : ℕ
first_label = 16

abbrev pub label_of : ℕ → ℕ
label_of w = w % label_count

abbrev pub code_of : ℕ → ℕ
code_of w = w / label_count

-- "no other word has code 0": a label whose code becomes 0 leaves a free word
unfoldable pub word_of : ℕ → ℕ → ℕ
word_of label code = pick (eqb code 0) 0 (label + label_count * code)

unfoldable pub is_free : ℕ → Bool
is_free w = eqb w 0

-- from low to high, both included
abbrev pub within : ℕ → ℕ → ℕ → Bool
within low high n = both (leb low n) (leb n high)

-- 01: "Codes: .. 6 using without protection"; the rules that single it out name it by this
abbrev pub without_protection : ℕ
without_protection = 6

-- 01: "A label stands once among codes 1-2 and once among 3-6": the labels that we gave, and those that we use.
-- 02: "Codes 8 (the ACK) and 9 (the Release) ..; the rules that a label stands once on its side .. now cover them": we gave these too
unfoldable pub on_side : Side → ℕ → Bool
on_side Given code = pick (within 1 2 code) true (within 8 9 code)
on_side Used code = within 3 6 code

-- 02: "An open Request takes one of the .. words under code 7, with label part 0": every open Request has this one word; its code is on no side
abbrev pub request_code : ℕ
request_code = 7

abbrev pub request_word : ℕ
request_word = label_count * request_code

unfoldable pub is_request : ℕ → Bool
is_request w = eqb w request_word

-- the word lists a label: its code is one of a side; neither a free word's nor an open Request's is
unfoldable pub lists_label : ℕ → Bool
lists_label w = pick (on_side Given (code_of w)) true (on_side Used (code_of w))

-- the word lists that label on that side
unfoldable pub stands_for : Side → ℕ → ℕ → Bool
stands_for side label w = both (on_side side (code_of w)) (eqb (label_of w) label)

-- a label that may be listed
abbrev pub listable : ℕ → Bool
listable label = within first_label (label_count - 1) label
