-- A state that an image can hold, clause by clause: restore's "Fields: the ranges above; R to I no longer than held, and I not zero unless R is; label words by
-- the rules below; a slot's message passes Submit's 4 and 5". Every call keeps it.
use Rattle.std.specs.Prelude.{Some, ℕ, ◌<◌, ◌≤◌, true, false, [], ◌≡◌, length, get_or}
use Rattle.ft_number.specs.Circle.{steps_of}
use Rattle.label_list.specs.Counting.{counting}
use Rattle.label_list.specs.Requests.{once_of, open_ids}
use Rattle.label_list.specs.Valid.{valid_of}
use Rattle.label_list.specs.Word.{word_count, lists_label}
use Rattle.message.specs.Storable.{Storable}
use Rattle.protocol.specs.declared.Terms.{Terms}
use Rattle.protocol.specs.State.{State, capacity, held, released_state}

-- "R to I is at most 64 steps": the numbers issued and not released are those of messages held
pub record Window (s : State) : Type 0 where
  pub steps : ℕ
  pub reaches : steps_of s.released.0 s.issued.0 ≡ Some steps
  pub within : steps ≤ held s

-- each number has its width
pub record TermsFit (t : Terms) : Type 0 where
  pub timeout : t.timeout < 4294967296
  pub keepalive : t.keepalive < 65536
  pub maxpdu : t.maxpdu < 65536

pub record Lawful (s : State) : Type 0 where
  pub released : s.released.0 < 4294967296
  pub issued : s.issued.0 < 4294967296
  pub secured : s.secured.0 < 4294967296
  pub terms : TermsFit s.terms
  -- "held 0 to 64"
  pub few : held s ≤ capacity
  pub window : Window s
  -- "A label stands once among codes 1-2 and once among 3-6"
  pub words : length s.table.words ≡ word_count
  pub labels : valid_of s.table.words ≡ true
  -- 02: "an ID counts only under code 7, where it stands once": each has its width, those that count are all there are, and none stands twice
  pub ids : length s.table.ids ≡ word_count
  pub width : (i : ℕ) → get_or s.table.ids i 0 < 4294967296
  pub counted : open_ids s.table.words s.table.ids ≡ s.table.ids
  pub once : once_of s.table.words s.table.ids ≡ true
  -- 02: "An entry is looked at only where the word lists a label": those that count are all there are, and each is one
  pub index : length s.table.index ≡ word_count
  pub indexed : counting 0 lists_label s.table.words s.table.index ≡ s.table.index
  pub entries : (i : ℕ) → get_or s.table.index i 0 < 18446744073709551616
  -- what is held passes Submit's 3, 4 and 5
  pub storable : (i : ℕ) → i < held s → Storable (get_or s.queue i [])
  -- "With kept 0, bytes 4 to 507 are zero."
  pub idle : s.kept ≡ false → s ≡ released_state
