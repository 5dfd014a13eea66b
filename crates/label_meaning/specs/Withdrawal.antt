-- The life of a label that we gave, over a run of events: what its code says of its withdrawal, and how it leaves the list.
-- 02: "Free a withdrawn label at the second of Release and ACK. Codes 8 (the ACK) and 9 (the Release) say which one has come."
use Rattle.std.specs.Prelude.{ℕ, Bool, true, false, List, [], ◌∷◌, ◌≡◌, eqb}
use Rattle.octets.specs.Pick.{pick, both}
use Rattle.label_list.specs.declared.LabelMessage.{LabelMessage}
use Rattle.label_list.specs.declared.LabelMessage.TheVariants.{Mapping, Withdraw, Release}
use Rattle.label_list.specs.declared.Side.TheVariants.{Given}
use Rattle.label_events.specs.Change.{code_at}
use Rattle.label_events.specs.Reach.{Reach, Label, Those, Nothing}
use Rattle.label_meaning.specs.Event.{LabelEvent, Accepted, Acked, Received, Asked, Ended, Broken, after_event}

-- the list after a run of events
abbrev pub after_events : List ℕ → List LabelEvent → List ℕ
after_events words [] = words
after_events words (e ∷ es) = after_events (after_event words e) es

-- `Touches` as a test
abbrev pub touches_label : Reach → ℕ → Bool
touches_label (Label l) k = eqb l k
touches_label (Those reached) k = reached k
touches_label Nothing k = false

abbrev pub is_mapping : LabelMessage → Bool
is_mapping Mapping = true
is_mapping Withdraw = false
is_mapping Release = false

abbrev pub is_withdraw : LabelMessage → Bool
is_withdraw Mapping = false
is_withdraw Withdraw = true
is_withdraw Release = false

abbrev pub is_release : LabelMessage → Bool
is_release Mapping = false
is_release Withdraw = false
is_release Release = true

-- the event is the ACK of the label's Withdraw
abbrev pub brings_ack : ℕ → LabelEvent → Bool
brings_ack k (Accepted message label) = false
brings_ack k (Acked message label) = both (is_withdraw message) (eqb label k)
brings_ack k (Received x message protected reach) = false
brings_ack k Asked = false
brings_ack k (Ended request) = false
brings_ack k Broken = false

-- the event is a Release of the label, by its name, under its prefix or under the wildcard
abbrev pub brings_release : ℕ → LabelEvent → Bool
brings_release k (Accepted message label) = false
brings_release k (Acked message label) = false
brings_release k (Received x message protected reach) = both (is_release message) (touches_label reach k)
brings_release k Asked = false
brings_release k (Ended request) = false
brings_release k Broken = false

-- the event is a Mapping of the label that is accepted for sending
abbrev pub offers : ℕ → LabelEvent → Bool
offers k (Accepted message label) = both (is_mapping message) (eqb label k)
offers k (Acked message label) = false
offers k (Received x message protected reach) = false
offers k Asked = false
offers k (Ended request) = false
offers k Broken = false

-- the event is a Withdraw of the label that is accepted for sending
abbrev pub withdraws : ℕ → LabelEvent → Bool
withdraws k (Accepted message label) = both (is_withdraw message) (eqb label k)
withdraws k (Acked message label) = false
withdraws k (Received x message protected reach) = false
withdraws k Asked = false
withdraws k (Ended request) = false
withdraws k Broken = false

-- such an event comes in the run
abbrev pub comes : (LabelEvent → Bool) → List LabelEvent → Bool
comes brings [] = false
comes brings (e ∷ es) = pick (brings e) true (comes brings es)

abbrev pub ack_comes : ℕ → List LabelEvent → Bool
ack_comes k es = comes (brings_ack k) es

abbrev pub release_comes : ℕ → List LabelEvent → Bool
release_comes k es = comes (brings_release k) es

-- the code of a label whose Withdraw was accepted, by what has come since then: the ACK, the Release
abbrev pub withdrawn_code : Bool → Bool → ℕ
withdrawn_code false false = 2
withdrawn_code true false = 8
withdrawn_code false true = 9
withdrawn_code true true = 0

-- the label is free at some point of the run
pub data Freed (k : ℕ) : List ℕ → List LabelEvent → Type 0 where
  free-now : {words : List ℕ} {es : List LabelEvent} → code_at words Given k ≡ 0 → Freed k words es
  free-later : {words : List ℕ} {e : LabelEvent} {es : List LabelEvent} → Freed k (after_event words e) es → Freed k words (e ∷ es)

-- the two ways in which a label that is given ends
pub data GivenEnds (k : ℕ) : List ℕ → List LabelEvent → Type 0 where
  -- "A Release at code 1 still frees it."
  by_release : {words : List ℕ} {e : LabelEvent} {es : List LabelEvent} → code_at words Given k ≡ 1 → brings_release k e ≡ true → GivenEnds k words (e ∷ es)
  -- its Withdraw is accepted, and then both come, in either order
  by_both : {words : List ℕ} {es : List LabelEvent} → code_at words Given k ≡ 1 → ack_comes k es ≡ true → release_comes k es ≡ true
      → GivenEnds k words (Accepted Withdraw k ∷ es)
  ends_later : {words : List ℕ} {e : LabelEvent} {es : List LabelEvent} → GivenEnds k (after_event words e) es → GivenEnds k words (e ∷ es)

-- the code of a label that we gave before and after events that come with one call, 0 where it is absent: it stays, or it moves as its events say
pub data GivenMoves (k : ℕ) (es : List LabelEvent) : ℕ → ℕ → Type 0 where
  stays_free : GivenMoves k es 0 0
  is_offered : comes (offers k) es ≡ true → GivenMoves k es 0 1
  stays_given : GivenMoves k es 1 1
  is_withdrawn : comes (withdraws k) es ≡ true → GivenMoves k es 1 2
  is_released : release_comes k es ≡ true → GivenMoves k es 1 0
  -- once it is withdrawn its code says which of ACK and Release have come
  is_ending : (a r : Bool) → both a r ≡ false → GivenMoves k es (withdrawn_code a r) (withdrawn_code (pick a true (ack_comes k es)) (pick r true (release_comes k es)))
