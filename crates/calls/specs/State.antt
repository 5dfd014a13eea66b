-- What an image stands for, in the protocol's words.
use Rattle.std.specs.Prelude.{ℕ, ◌/◌, ◌%◌, Bool, List, [], eqb}
use Rattle.block0.specs.declared.Header.{Header}
use Rattle.image.specs.State.{decode}
use Rattle.protocol.specs.State.{Marks, State}

-- 02: "in byte 23 of block 0, 2 if told so, 4 from accepting kind 9 until kind 6"
abbrev pub told_mark : ℕ
told_mark = 2

abbrev pub telling_mark : ℕ
telling_mark = 4

-- the byte bears the mark
abbrev pub bears_mark : ℕ → ℕ → Bool
bears_mark byte mark = eqb (byte / mark % 2) 1

abbrev pub marks_of : ℕ → Marks
marks_of byte = record { stopped = bears_mark byte told_mark; stopping = bears_mark byte telling_mark }

-- block 0's numbers, its label words, the IDs of open Requests and the index of prefixes beside them, and the messages held
abbrev pub state_by : Header → List ℕ → List ℕ → List ℕ → List (List ℕ) → State
state_by h words ids index queue = record {
  released = h.released;
  issued = h.issued;
  secured = h.secured;
  kept = eqb h.kept 1;
  terms = record { timeout = h.timeout; keepalive = h.keepalive; maxpdu = h.maxpdu };
  marks = marks_of h.marks;
  table = record { words = words; ids = ids; index = index };
  queue = queue;
}

abbrev pub state_of : List ℕ → State
state_of im = state_by (decode im).header (decode im).labels (decode im).ids (decode im).index (decode im).queue

-- what the numbers say alone: R, I, S, kept, the terms and the marks
abbrev pub state_of_numbers : Header → State
state_of_numbers h = state_by h [] [] [] []
