-- Every event keeps the list's length; those of one label keep all words but one, and the word of a Request that they end. Assumes nothing.
use Rattle.std.specs.Prelude.{Option, Some, None}
use Prim.Native.Nat.{ℕ}
use mathlib.Core.Bool.{Bool, false, true≢false, not, true}
use mathlib.Core.List.{List}
use mathlib.Core.Logic.{◌≢◌}
use mathlib.Core.Path.{◌≡◌, refl, ◌∙◌}
use lib.Dec.{eqb}
use lib.ListN.{length, get_or, set, length-set, length-map}
use lib.Seq.{get_or-set_other}
use Rattle.octets.proofs.Choice.{by_test, pick_all, no}
use Rattle.label_list.specs.declared.LabelMessage.{LabelMessage}
use Rattle.label_list.specs.declared.LabelMessage.TheVariants.{Mapping, Withdraw, Release}
use Rattle.label_list.specs.declared.SweepRule.TheVariants.{WithdrawAll, ReleaseAll, AfterBreak}
use Rattle.label_list.specs.Find.{find_of}
use Rattle.label_list.specs.Rules.{sent_side, code_accepted, received_side, code_received}
use Rattle.label_list.specs.Sweep.{word_swept, word_reached}
use Rattle.label_list.specs.Word.{is_request, stands_for, listable, is_free, request_word, word_of}
use Rattle.label_events.specs.declared.Change.{Change}
use Rattle.label_events.specs.declared.Change.TheVariants.{Keep, Put, NoRoom, Move}
use Rattle.label_events.specs.declared.Meets.{Meets}
use Rattle.label_events.specs.Accept.{plan_of, accepted_by, accepted_of, plan_by}
use Rattle.label_events.specs.Ack.{acked_at}
use Rattle.label_events.specs.Change.{changed, take_free, change_at, placed_at, code_at, change_of}
use Rattle.label_events.specs.Reach.{Reach, Those, Label, Nothing}
use Rattle.label_events.specs.Receive.{received_change, every_received, received_with, received_of, moves_by}
use Rattle.label_events.specs.Requests.{asked_change, ended_at, room_at}
use Rattle.label_events.proofs.Ended.{ended-length}
use Rattle.label_meaning.specs.Event.{LabelEvent, Accepted, Acked, Received, Asked, Ended, Broken, after_event}
use Rattle.label_meaning.specs.Keep.{OneWord, OneLabelTouched, OneLabel, TwoWordsMore, OneLabelMet}

-- A change leaves the length and all words but one.
changed-length : (words : List ℕ) (x : Change) → length (changed words x) ≡ length words
unfolding changed
changed-length words Keep = refl
changed-length words (Put i w) = length-set words i w
changed-length words (Move i j w) = length-set (set words i 0) j w ∙ length-set words i 0
changed-length words NoRoom = refl

same_word : (words : List ℕ) → OneWord words words
same_word words = record { at = 0; others = λ j apart. refl }

set_word : (words : List ℕ) (i w : ℕ) → OneWord words (set words i w)
set_word words i w = record { at = i; others = λ j apart. get_or-set_other words i j w 0 apart }

-- a change that moves no label
abbrev Still : Change → Type 0
Still Keep = Unit {0}
Still (Put i w) = Unit {0}
Still (Move i j w) = ⊥
Still NoRoom = Unit {0}

changed_word : (words : List ℕ) (x : Change) → Still x → OneWord words (changed words x)
unfolding changed
changed_word words Keep still = same_word words
changed_word words (Put i w) still = set_word words i w
changed_word words (Move i j w) still = absurd still
changed_word words NoRoom still = same_word words

-- any change leaves all words but two
changed_two : (words : List ℕ) (x : Change) → TwoWordsMore None words (changed words x)
unfolding changed
changed_two words Keep = record { from = 0; at = 0; others = λ j a b c. refl }
changed_two words (Put i w) = record { from = i; at = i; others = λ j a b c. get_or-set_other words i j w 0 a }
changed_two words (Move i k w) = record { from = i; at = k; others = λ j a b c. get_or-set_other (set words i 0) k j w 0 b ∙ get_or-set_other words i j 0 0 a }
changed_two words NoRoom = record { from = 0; at = 0; others = λ j a b c. refl }

take-still : (g : Option ℕ) (w : ℕ) → Still (take_free g w)
take-still (Some i) w = tt
take-still None w = tt

change-still : (f g : Option ℕ) (l n : ℕ) → Still (change_at f g l n)
unfolding change_at
change-still (Some i) g l n = tt
change-still None g l n = pick_all Still (eqb n 0) tt (take-still g (word_of l n))

accepted_length : (words : List ℕ) (p : Option Change) → length (accepted_by words p).1 ≡ length words
accepted_length words (Some x) = changed-length words x
accepted_length words None = refl

plan_still : (words : List ℕ) (m : LabelMessage) (l : ℕ) (n : Option ℕ) → OneWord words (accepted_by words (plan_by n words (sent_side m) l)).1
plan_still words m l (Some c) = changed_word words (change_of words (sent_side m) l c) (change-still (find_of (stands_for (sent_side m) l) words) (find_of is_free words) l c)
plan_still words m l None = same_word words

accepted_word : (words : List ℕ) (m : LabelMessage) (l : ℕ) → OneWord words (accepted_by words (plan_of words m l)).1
unfolding plan_of
accepted_word words m l =
    by_test (listable l) (λ t. rw t (plan_still words m l (code_accepted m (code_at words (sent_side m) l)))) (λ f. rw f (same_word words))

acked-length : (words : List ℕ) (f : Option ℕ) (m : LabelMessage) (l : ℕ) → length (acked_at f words m l) ≡ length words
unfolding acked_at
acked-length words (Some i) m l = length-set words i _
acked-length words None m l = refl

acked_word : (words : List ℕ) (f : Option ℕ) (m : LabelMessage) (l : ℕ) → OneWord words (acked_at f words m l)
unfolding acked_at
acked_word words (Some i) m l = set_word words i _
acked_word words None m l = same_word words

every_length : (words : List ℕ) (m : LabelMessage) (reached : ℕ → Bool) → length (every_received m reached words) ≡ length words
unfolding every_received
every_length words Mapping reached = refl
every_length words Withdraw reached = length-map words (word_reached reached WithdrawAll)
every_length words Release reached = length-map words (word_reached reached ReleaseAll)

received-length : (words : List ℕ) (r : Meets) (m : LabelMessage) (p : Bool) (t : Reach) → length (received_of words r m p t).1 ≡ length words
unfolding received_with
received-length words r m p (Label l) =
    changed-length (ended_at r.request words) (received_change (ended_at r.request words) (room_at r.request r.spare words) r.another m p l) ∙ ended-length r.request words
received-length words r m p (Those reached) = every_length (ended_at r.request words) m reached ∙ ended-length r.request words
received-length words r m p Nothing = ended-length r.request words

-- Where a Request is ended, its word alone changes.
ended_others : (words : List ℕ) (r : Option ℕ) (j : ℕ) → r ≢ Some j → get_or (ended_at r words) j 0 ≡ get_or words j 0
unfolding ended_at
ended_others words (Some i) j apart =
    by_test
    (is_request (get_or words i 0))
    (λ t. rw t (get_or-set_other words i j 0 0 (λ same. apart (rw same))))
    (λ f. rw f)
ended_others words None j apart = refl

ended_word : (words : List ℕ) (r : Option ℕ) → OneWord words (ended_at r words)
unfolding ended_at
ended_word words (Some i) = by_test (is_request (get_or words i 0)) (λ t. rw t (set_word words i 0)) (λ f. rw f (same_word words))
ended_word words None = same_word words

placed_still : (b : Bool) (f g : Option ℕ) (l n : ℕ) → b ≡ false → Still (placed_at b f g l n)
unfolding placed_at
placed_still true f g l n e = absurd (true≢false e)
placed_still false f g l n e = change-still f g l n

moves_not : (m : LabelMessage) (b : Bool) → b ≡ false → moves_by m b ≡ false
moves_not Mapping b e = e
moves_not Withdraw b e = refl
moves_not Release b e = refl

with_word : (words : List ℕ) (room : Option ℕ) (b : Bool) (m : LabelMessage) (p : Bool) (t : Reach) → b ≡ false → OneLabelTouched t → OneWord words (received_with words room b m p t).1
unfolding received_with received_change
with_word words room b m p (Label l) e one =
    changed_word words (received_change words room b m p l)
    (pick_all Still (not (listable l)) tt
    (placed_still (moves_by m b) (find_of (stands_for (received_side m) l) words) room l (code_received m p (code_at words (received_side m) l)) (moves_not m b e)))
with_word words room b m p (Those reached) e one = absurd one
with_word words room b m p Nothing e one = same_word words

-- whatever it meets, the words of its label alone, and that of the Request that it ends
with_two : (words : List ℕ) (room : Option ℕ) (b : Bool) (m : LabelMessage) (p : Bool) (t : Reach) → OneLabelTouched t → TwoWordsMore None words (received_with words room b m p t).1
unfolding received_with
with_two words room b m p (Label l) one = changed_two words (received_change words room b m p l)
with_two words room b m p (Those reached) one = absurd one
with_two words room b m p Nothing one = record { from = 0; at = 0; others = λ j a c d. refl }

-- No event changes the number of words.
pub step-length : (words : List ℕ) (e : LabelEvent) → length (after_event words e) ≡ length words
unfolding after_event accepted_of
step-length words (Accepted m l) = accepted_length words (plan_of words m l)
step-length words (Acked m l) = acked-length words (find_of (stands_for (sent_side m) l) words) m l
step-length words (Received r m p t) = received-length words r m p t
step-length words Asked = changed-length words (asked_change words)
step-length words (Ended r) = ended-length r words
step-length words Broken = length-map words (word_swept AfterBreak)

received_one : (words : List ℕ) (x : Meets) (m : LabelMessage) (p : Bool) (t : Reach) (r : Option ℕ) (b : Bool) → x.request ≡ r → x.another ≡ b → OneLabelMet r b t
    → OneWord words (received_of words x m p t).1
unfolding ended_at
received_one words x m p t (Some i) b e f one = absurd one
received_one words x m p t None true e f one = absurd one
received_one words x m p t None false e f one = rw e (with_word words (room_at None x.spare words) x.another m p t f one)

-- Except under the wildcard FEC, where a Request is ended by a message with a label, and at the end of a connection, one word changes at most.
pub step_one : (words : List ℕ) (e : LabelEvent) → OneLabel e → OneWord words (after_event words e)
unfolding after_event accepted_of ended_at
step_one words (Accepted m l) one = accepted_word words m l
step_one words (Acked m l) one = acked_word words (find_of (stands_for (sent_side m) l) words) m l
step_one words (Received x m p t) one = received_one words x m p t x.request x.another refl refl one
step_one words Asked one = changed_word words (asked_change words) (take-still (find_of is_free words) request_word)
step_one words (Ended r) one = ended_word words r
step_one words Broken one = absurd one

-- A message that ends a Request changes the Request's word and one more at most, and one more where its label moves.
pub received_two_more : (words : List ℕ) (x : Meets) (m : LabelMessage) (p : Bool) (t : Reach) → OneLabelTouched t → TwoWordsMore x.request words (after_event words (Received x m p t))
unfolding after_event
received_two_more words x m p t one =
    let word : TwoWordsMore None (ended_at x.request words) (received_of words x m p t).1 =
    with_two (ended_at x.request words) (room_at x.request x.spare words) x.another m p t one in
    record { from = word.from; at = word.at; others = λ j a b other. word.others j a b (λ z. no cc) ∙ ended_others words x.request j other }
