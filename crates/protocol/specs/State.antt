-- The state of a session: what both ends have agreed, what is numbered, held and secured, and which labels are given and used.
-- No byte of the stored image is named here: in which block a number lies, and in which slot a message, is the image's affair.
use Rattle.std.specs.Prelude.{ℕ, Bool, true, false, List, [], length, replicate}
use Rattle.ft_number.specs.declared.FtNumber.{FtNumber}
use Rattle.label_list.specs.Counting.{counting}
use Rattle.label_list.specs.Requests.{open_ids}
use Rattle.label_list.specs.Word.{word_count, lists_label}
use Rattle.protocol.specs.declared.Terms.{Terms}

-- "The labels are lent to the rules as 120 numbers of 32 bits": the label words; 02: "its message ID at the same place of a further lent
-- list of 120 numbers"; "an index of IPv4 prefix and length beside the label words", an entry of 64 bits for each, 0 for other FECs
pub record Table : Type 0 where
  pub words : List ℕ
  pub ids : List ℕ
  pub index : List ℕ

-- 02: "an ID counts only under code 7"; "An entry is looked at only where the word lists a label": 0 stands in every other place
abbrev pub table_of : List ℕ → List ℕ → List ℕ → Table
table_of words ids index = record { words = words; ids = open_ids words ids; index = counting 0 lists_label words index }

-- 02: "That stops new Requests until a numbered 'Label Resources Available' comes; both ends remember this over a break":
-- the peer has told us so, and we have told the peer so
pub record Marks : Type 0 where
  pub stopped : Bool
  pub stopping : Bool

abbrev pub no_marks : Marks
no_marks = record { stopped = false; stopping = false }

pub record State : Type 0 where
  -- "Released R, issued I, secured S": the last number that the peer acknowledged, the last that we gave, the last that we took of the peer's
  pub released : FtNumber
  pub issued : FtNumber
  pub secured : FtNumber
  -- "kept 0 or 1"
  pub kept : Bool
  -- the agreed timeout, and the peer's two parameters
  pub terms : Terms
  pub marks : Marks
  pub table : Table
  -- the messages held, as submitted, the oldest first: "The oldest held bears the number after R; those past I are pended and have none yet."
  pub queue : List (List ℕ)

abbrev pub held : State → ℕ
held s = length s.queue

-- "7: 64 held"
abbrev pub capacity : ℕ
capacity = 64

-- "0 is none"; "Released R, issued I, secured S start at 0."
abbrev pub no_number : FtNumber
no_number = record { 0 = 0 }

-- "0 is free"
abbrev pub no_table : Table
no_table = record { words = replicate word_count 0; ids = replicate word_count 0; index = replicate word_count 0 }

-- "Released means block 0 with kept 0": "With kept 0, bytes 4 to 507 are zero."; 02: "forget it when state is released"
abbrev pub released_state : State
released_state = record {
  released = no_number;
  issued = no_number;
  secured = no_number;
  kept = false;
  terms = record { timeout = 0; keepalive = 0; maxpdu = 0 };
  marks = no_marks;
  table = no_table;
  queue = [];
}

-- ---- a state with one of its parts another
abbrev pub with_released : State → FtNumber → State
with_released s n = record {
  released = n;
  issued = s.issued;
  secured = s.secured;
  kept = s.kept;
  terms = s.terms;
  marks = s.marks;
  table = s.table;
  queue = s.queue;
}

abbrev pub with_issued : State → FtNumber → State
with_issued s n = record {
  released = s.released;
  issued = n;
  secured = s.secured;
  kept = s.kept;
  terms = s.terms;
  marks = s.marks;
  table = s.table;
  queue = s.queue;
}

abbrev pub with_secured : State → FtNumber → State
with_secured s n = record {
  released = s.released;
  issued = s.issued;
  secured = n;
  kept = s.kept;
  terms = s.terms;
  marks = s.marks;
  table = s.table;
  queue = s.queue;
}

-- kept 1, by these terms
abbrev pub kept_by : State → Terms → State
kept_by s t = record {
  released = s.released;
  issued = s.issued;
  secured = s.secured;
  kept = true;
  terms = t;
  marks = s.marks;
  table = s.table;
  queue = s.queue;
}

-- another timeout is agreed; the peer's two parameters stay
abbrev pub with_timeout : State → ℕ → State
with_timeout s millis = record {
  released = s.released;
  issued = s.issued;
  secured = s.secured;
  kept = s.kept;
  terms = record { timeout = millis; keepalive = s.terms.keepalive; maxpdu = s.terms.maxpdu };
  marks = s.marks;
  table = s.table;
  queue = s.queue;
}

abbrev pub with_table : State → Table → State
with_table s t = record {
  released = s.released;
  issued = s.issued;
  secured = s.secured;
  kept = s.kept;
  terms = s.terms;
  marks = s.marks;
  table = t;
  queue = s.queue;
}

-- the words are others; of the IDs those count still whose words are Requests', of the entries those whose words list a label
abbrev pub with_words : State → List ℕ → State
with_words s words = with_table s (table_of words s.table.ids s.table.index)

abbrev pub with_marks : State → Marks → State
with_marks s m = record {
  released = s.released;
  issued = s.issued;
  secured = s.secured;
  kept = s.kept;
  terms = s.terms;
  marks = m;
  table = s.table;
  queue = s.queue;
}

abbrev pub with_queue : State → List (List ℕ) → State
with_queue s q = record {
  released = s.released;
  issued = s.issued;
  secured = s.secured;
  kept = s.kept;
  terms = s.terms;
  marks = s.marks;
  table = s.table;
  queue = q;
}
