-- The label words as the code meets them: beside what the image bears, and by the entries lent to it. And aids of speed: which messages ask the entries, and for
-- which a spare word is searched.
use Rattle.std.specs.Prelude.{Option, Some, None, ℕ, Bool, true, false, not, List, ◌≡◌, get_or}
use Rattle.octets.specs.Pick.{both, pick}
use Rattle.label_list.specs.declared.LabelMessage.{LabelMessage}
use Rattle.label_list.specs.declared.Protection.{Protection}
use Rattle.label_list.specs.Find.{spare_in}
use Rattle.label_list.specs.Word.{is_request, listable}
use Rattle.label_events.specs.declared.Meets.{Meets}
use Rattle.label_events.specs.declared.Reception.{Reception}
use Rattle.label_events.specs.declared.Touched.{Touched}
use Rattle.label_events.specs.Protect.{protection_beside}
use Rattle.label_events.specs.Receive.{received_beside, takes_at}
use Rattle.label_events.specs.Requests.{ended_at}
use Rattle.message.specs.declared.Message.{Message}
use Rattle.message.specs.Kinds.{kind_of}
use Rattle.image.specs.State.{stored_ids, stored_index}
use Rattle.protocol.specs.Labels.{always_protected, is_protected}
use Rattle.protocol.specs.State.{Table, table_of}

-- these words, with the IDs of block 65 and the entries of blocks 66 and 67
abbrev pub table_on : List ℕ → List ℕ → Table
table_on im words = table_of words (stored_ids im) (stored_index im)

-- ---- by the entries lent beside the words
abbrev pub protection_lent : List ℕ → List ℕ → Bool → Option (LabelMessage × Touched) → Protection
protection_lent words entries protected None = Protection.Right
protection_lent words entries protected (Some (m, touched)) = protection_beside words entries m protected touched

abbrev pub protection_judged : List ℕ → List ℕ → Option (LabelMessage × Touched) → Message → Protection
protection_judged words entries effect g =
    pick (both (not (is_protected g.protection)) (always_protected (kind_of g))) Protection.Missing (protection_lent words entries (is_protected g.protection) effect)

abbrev pub received_lent : List ℕ → List ℕ → Meets → Bool → Option (LabelMessage × Touched) → Reception × List ℕ
received_lent words entries x protected None = (Reception.Taken, ended_at x.request words)
received_lent words entries x protected (Some (m, touched)) = received_beside words entries x m protected touched

abbrev pub takes_lent : List ℕ → Meets → Bool → Option (LabelMessage × Touched) → Option ℕ
takes_lent words x protected None = None
takes_lent words x protected (Some (m, touched)) = takes_at words x m protected touched

-- only a message of a prefix that names no label asks them
abbrev pub names_prefix : Touched → Bool
names_prefix (Touched.Label label) = false
names_prefix Touched.Every = false
names_prefix (Touched.Prefix entry) = true
names_prefix Touched.Nothing = false

abbrev pub asks_entries : Option (LabelMessage × Touched) → Bool
asks_entries None = false
asks_entries (Some (m, touched)) = names_prefix touched

-- ---- only a Mapping takes a word, for a label that has none or whose entry becomes another
abbrev pub takes_anew : Option ℕ → Bool → Bool
takes_anew (Some i) another = another
takes_anew None another = true

abbrev pub mapping_needs : Touched → Option ℕ → Bool → Bool
mapping_needs (Touched.Label label) place another = both (listable label) (takes_anew place another)
mapping_needs Touched.Every place another = false
mapping_needs (Touched.Prefix entry) place another = false
mapping_needs Touched.Nothing place another = false

abbrev pub message_needs : LabelMessage → Touched → Option ℕ → Bool → Bool
message_needs LabelMessage.Mapping touched place another = mapping_needs touched place another
message_needs LabelMessage.Withdraw touched place another = false
message_needs LabelMessage.Release touched place another = false

abbrev pub needs_word : Option (LabelMessage × Touched) → Option ℕ → Bool → Bool
needs_word None place another = false
needs_word (Some (m, touched)) place another = message_needs m touched place another

-- one that answers a Request has its word: a spare one is searched only where there is none
abbrev pub spare_beside : List ℕ → List ℕ → Option ℕ → Option ℕ
spare_beside old words (Some i) = None
spare_beside old words None = spare_in old words

abbrev pub spare_for : List ℕ → List ℕ → Option ℕ → Option ℕ → Bool → Option (LabelMessage × Touched) → Option ℕ
spare_for old words place request another effect = pick (needs_word effect place another) (spare_beside old words request) None

-- a Request is open where one was found
abbrev pub RequestFound : List ℕ → Option ℕ → Type 0
RequestFound words (Some i) = is_request (get_or words i 0) ≡ true
RequestFound words None = Unit {0}
