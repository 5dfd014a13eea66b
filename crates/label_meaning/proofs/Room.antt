-- 13 and 21 come exactly for a Mapping or a Request that needs a word where none is free; every other absent label takes the first free word, or that of the
-- Request which its Mapping ends. Assumes nothing.
use Rattle.std.specs.Prelude.{Option, Some, None}
use Prim.Native.Nat.{ℕ, ◌+◌, ◌*◌, ◌<◌}
use mathlib.Core.Bool.{Bool, true, false, true≢false}
use mathlib.Core.List.{List}
use mathlib.Core.Logic.{◌≢◌, ◌⊎◌, inl, inr, ⊎_elim}
use mathlib.Core.Path.{◌≡◌, refl, sym, ◌∙◌}
use native.Mathlib.Omega.{arith}
use lib.Dec.{eqb, ltb}
use lib.ListN.{get_or, set, length}
use lib.Seq.{set-set}
use borrow.Author.Tests.{eqb-false, ne_eqb, ltb-true, eqb-true}
use Rattle.octets.specs.Pick.{both}
use Rattle.octets.proofs.Choice.{by_test, no, both_true}
use Rattle.label_list.specs.declared.LabelMessage.{LabelMessage}
use Rattle.label_list.specs.declared.LabelMessage.TheVariants.{Mapping, Withdraw, Release}
use Rattle.label_list.specs.declared.Side.{Side}
use Rattle.label_list.specs.declared.Side.TheVariants.{Given, Used}
use Rattle.label_list.specs.Find.{find_of}
use Rattle.label_list.specs.Rules.{sent_side, received_side, code_accepted, code_received}
use Rattle.label_list.specs.Word.{without_protection, code_of, word_of, is_free, listable, stands_for, is_request, request_code, label_count, request_word}
use Rattle.label_list.proofs.Reached.{found_in_lem, found_place, found_passes, passed_over_lem}
use Rattle.label_list.proofs.Standing.{side-listed, stands_parts}
use Rattle.label_events.specs.declared.Acceptance.{Acceptance}
use Rattle.label_events.specs.declared.Change.{Change}
use Rattle.label_events.specs.declared.Change.TheVariants.{Keep, Put, NoRoom, Move}
use Rattle.label_events.specs.declared.Meets.{Meets}
use Rattle.label_events.specs.declared.Reception.{Reception}
use Rattle.label_events.specs.Accept.{plan_by, plan_of, acceptance_of, accepted_by, accepted_of}
use Rattle.label_events.specs.Change.{code_in, code_at, take_free, change_at, change_with, change_of, changed, placed_at}
use Rattle.label_events.specs.Reach.{Reach, Those, Label, Nothing}
use Rattle.label_events.specs.Receive.{received_change, reception_of, received_with, received_of, moves_by}
use Rattle.label_events.specs.Requests.{asked_change, ended_at, room_at, where_free}
use Rattle.label_events.proofs.Planned.{change-full}
use Rattle.label_events.proofs.Received.{received_same}
use Rattle.label_meaning.specs.Event.{LabelEvent, Accepted, Acked, Received, Asked, Ended, Broken, after_event, Moves, given, withdrawn, released, returned, withdraw-acked, back_acked, release-acked, taken, taken-again, taken_bare, asked_back, bare_withdrawn, given_back, withdrawn_back, acked_back, bare_lost}
use Rattle.label_meaning.specs.Room.{NeedsWord, NoneFree, NoneOpen, LacksRoom, sent, asked, received, NoRoomAnswered, FirstTaken, EndsNone, NeedsRoom, WordTaken, SpareTaken, lacks, leaves, MovedWord}
use Rattle.label_meaning.specs.Valid.{IsValid}
use Rattle.label_meaning.proofs.Effect.{free_word}
use Rattle.label_meaning.proofs.Step.{listed_may}

-- A change finds no room exactly if it lists an absent label where no word is free.
take-full : (g : Option ℕ) (w : ℕ) → take_free g w ≡ NoRoom → g ≡ None
take-full (Some i) w e = no cc
take-full None w e = refl

full_parts : (f g : Option ℕ) (l n : ℕ) → change_at f g l n ≡ NoRoom → (f ≡ None) × (n ≢ 0) × (g ≡ None)
unfolding change_at
full_parts (Some i) g l n e = no cc
full_parts None g l n e =
    by_test
    (eqb n 0)
    (λ z. let keep : Keep ≡ NoRoom = rw z at e in no cc)
    (λ z. (refl, eqb-false n 0 z, take-full g (word_of l n) (rw z at e)))

module _ (words : List ℕ) where
  none_free : find_of is_free words ≡ None → NoneFree words
  unfolding is_free
  none_free e i h = eqb-false (get_or words i 0) 0 (passed_over_lem is_free words (sym e) i h)

  free_nowhere : (g : Option ℕ) → g ≡ find_of is_free words → NoneFree words → g ≡ None
  free_nowhere (Some i) e none = absurd (none i (found_place words (Some i) i (found_in_lem is_free words e) refl) (free_word words i e refl))
  free_nowhere None e none = refl

  take_first : (g : Option ℕ) → g ≡ find_of is_free words → (l n : ℕ) → (take_free g (l + label_count * n) ≡ NoRoom) ⊎ FirstTaken words (changed words (take_free g (l + label_count * n))) l n
  unfolding changed is_free
  take_first (Some i) e l n =
      inr (record {
        at = i;
        inside = found_place words (Some i) i (found_in_lem is_free words e) refl;
        free = free_word words i e refl;
        first = λ j h. eqb-false (get_or words j 0) 0 (passed_over_lem is_free words e j h);
        taken = refl;
      })
  take_first None e l n = inl refl

  -- the place for a label: none where no word is spare and no Request is ended, the Request's where one is
  room_none : (r spare : Option ℕ) → room_at r spare words ≡ None → NoneOpen words r × (where_free spare words ≡ None)
  unfolding room_at
  room_none (Some i) spare e =
      by_test
      (is_request (get_or words i 0))
      (λ t. let there : Some i ≡ None = rw t at e in no cc)
      (λ f. (f, rw f at e))
  room_none None spare e = (tt, e)

  none_first : (r spare : Option ℕ) → NoneOpen words r → room_at r spare words ≡ where_free spare words
  unfolding room_at
  none_first (Some i) spare closed = rw closed
  none_first None spare closed = refl

  none_ended : (r : Option ℕ) → NoneOpen words r → ended_at r words ≡ words
  unfolding ended_at
  none_ended (Some i) closed = rw closed
  none_ended None closed = refl

  -- a place that counts as spare
  spare_at : (spare : Option ℕ) (i : ℕ) → where_free spare words ≡ Some i → (spare ≡ Some i) × (i < length words) × (get_or words i 0 ≡ 0)
  unfolding is_free
  spare_at (Some k) i e =
      by_test
      (both (ltb k (length words)) (eqb (get_or words k 0) 0))
      (λ t.
      let same : k ≡ i = cc (rw t at e) in
      let parts = both_true (ltb k (length words)) (eqb (get_or words k 0) 0) t in
      rw (← same) (refl, ltb-true k (length words) parts.0, eqb-true (get_or words k 0) 0 parts.1))
      (λ f. no (cc (rw f at e)))
  spare_at None i e = no cc

  take_spare : (x : Meets) (g : Option ℕ) → where_free x.spare words ≡ g → (l n : ℕ)
      → (take_free g (l + label_count * n) ≡ NoRoom) ⊎ SpareTaken x words (changed words (take_free g (l + label_count * n))) l n
  unfolding changed
  take_spare x (Some i) e l n =
      let s = spare_at x.spare i e in
      inr (record { at = i; spare = s.0; inside = s.1; free = s.2; taken = refl })
  take_spare x None e l n = inl refl

  module _ (s : Side) (l : ℕ) where
    -- the side lacks a label exactly if no word is found for it
    found_absent : (f : Option ℕ) → f ≡ find_of (stands_for s l) words → code_in words f ≡ 0 → f ≡ None
    unfolding code_in
    found_absent (Some i) e z =
        absurd (side-listed s (code_of (get_or words i 0)) (stands_parts s l (get_or words i 0) (found_passes (stands_for s l) words i e refl)).0 z)
    found_absent None e z = refl

    pub nowhere : code_at words s l ≡ 0 → find_of (stands_for s l) words ≡ None
    nowhere = found_absent (find_of (stands_for s l) words) refl

    lacking_code : find_of (stands_for s l) words ≡ None → code_at words s l ≡ 0
    unfolding code_in
    lacking_code e = rw e

    module _ (n : ℕ) where
      full_lacks : (place : Option ℕ) → listable l ≡ true → change_with words place s l n ≡ NoRoom → NeedsWord words s l × (n ≢ 0) × (place ≡ None)
      full_lacks place may e =
          let parts = full_parts (find_of (stands_for s l) words) place l n e in
          (record { may = may; lacking = lacking_code parts.0 }, parts.1, parts.2)

      lacks_full : (place : Option ℕ) → NeedsWord words s l → n ≢ 0 → place ≡ None → change_with words place s l n ≡ NoRoom
      lacks_full place needs new none = sym (change-full l n (find_of (stands_for s l) words) place (nowhere needs.lacking) new refl none)

      -- where there is room an absent label takes the first free word
      absent-change : code_at words s l ≡ 0 → n ≢ 0 → (change_of words s l n ≡ NoRoom) ⊎ FirstTaken words (changed words (change_of words s l n)) l n
      unfolding change_at word_of
      absent-change z new = rw (nowhere z, ne_eqb n 0 new) (take_first (find_of is_free words) refl l n)

-- A label that is absent is placed as any absent one, whatever its entry.
placed_absent : (b : Bool) (g : Option ℕ) (l n : ℕ) → placed_at b None g l n ≡ change_at None g l n
unfolding placed_at
placed_absent true g l n = refl
placed_absent false g l n = refl

-- A change that places a label finds no room exactly if it needs a word, or leaves its own, and there is none.
placed_parts : (b : Bool) (f g : Option ℕ) (l n : ℕ) → placed_at b f g l n ≡ NoRoom → (((f ≡ None) × (n ≢ 0)) ⊎ ((b ≡ true) × (f ≢ None))) × (g ≡ None)
unfolding placed_at
placed_parts true (Some i) (Some j) l n e = no cc
placed_parts true (Some i) None l n e = (inr (refl, λ z. no cc), refl)
placed_parts true None g l n e = let p = full_parts None g l n e in (inl (p.0, p.1), p.2)
placed_parts false f g l n e = let p = full_parts f g l n e in (inl (p.0, p.1), p.2)

-- The answers, taken apart.
acceptance_full : (x : Change) → acceptance_of x ≡ Acceptance.NoRoom → x ≡ NoRoom
acceptance_full Keep e = no cc
acceptance_full (Put i w) e = no cc
acceptance_full (Move i j w) e = no cc
acceptance_full NoRoom e = refl

reception_full : (x : Change) → reception_of x ≡ Reception.NoRoom → x ≡ NoRoom
reception_full Keep e = no cc
reception_full (Put i w) e = no cc
reception_full (Move i j w) e = no cc
reception_full NoRoom e = refl

module _ (words : List ℕ) where
  -- of an absent label only a Mapping is accepted, and only a Mapping that is received makes a code
  accepted_lacks : (m : LabelMessage) (l n : ℕ) → code_accepted m 0 ≡ Some n → NeedsWord words (sent_side m) l → NoneFree words → LacksRoom words (Accepted m l)
  unfolding code_accepted sent_side
  accepted_lacks Mapping l n e needs none = sent needs none
  accepted_lacks Withdraw l n e needs none = no cc
  accepted_lacks Release l n e needs none = no cc

  moves_mapping : (m : LabelMessage) (b : Bool) → moves_by m b ≡ true → (m ≡ Mapping) × (b ≡ true)
  moves_mapping Mapping b e = (refl, e)
  moves_mapping Withdraw b e = no cc
  moves_mapping Release b e = no cc

  new_mapping : (m : LabelMessage) (p : Bool) → code_received m p 0 ≢ 0 → m ≡ Mapping
  unfolding code_received
  new_mapping Mapping p h = refl
  new_mapping Withdraw p h = absurd (h refl)
  new_mapping Release p h = absurd (h refl)

  found_listed : (s : Side) (l : ℕ) → find_of (stands_for s l) words ≢ None → code_at words s l ≢ 0
  found_listed s l h z = h (nowhere words s l z)

  next_lacks : (m : LabelMessage) (l : ℕ) (next : Option ℕ) → listable l ≡ true → code_accepted m (code_at words (sent_side m) l) ≡ next
      → (accepted_by words (plan_by next words (sent_side m) l)).0 ≡ Acceptance.NoRoom → LacksRoom words (Accepted m l)
  next_lacks m l (Some n) may rule e =
      let full = full_lacks words (sent_side m) l n (find_of is_free words) may (acceptance_full (change_of words (sent_side m) l n) e) in
      accepted_lacks m l n (rw full.0.lacking at rule) full.0 (none_free words full.2)
  next_lacks m l None may rule e = no cc

  change_lacks : (x : Meets) (m : LabelMessage) (p : Bool) (l : ℕ) → listable l ≡ true
      → placed_at (moves_by m x.another) (find_of (stands_for (received_side m) l) words) (room_at x.request x.spare words) l (code_received m p (code_at words (received_side m) l)) ≡ NoRoom
      → LacksRoom words (Received x m p (Label l))
  unfolding received_side
  change_lacks x m p l may e =
      let full = placed_parts (moves_by m x.another) (find_of (stands_for (received_side m) l) words) (room_at x.request x.spare words) l (code_received m p (code_at words (received_side m) l)) e in
      let none = room_none words x.request x.spare full.1 in
      ⊎_elim
      (λ (lack : (find_of (stands_for (received_side m) l) words ≡ None) × (code_received m p (code_at words (received_side m) l) ≢ 0)).
      let zero : code_at words (received_side m) l ≡ 0 = lacking_code words (received_side m) l lack.0 in
      let is : m ≡ Mapping = new_mapping m p (rw zero at lack.1) in
      rw is (received (lacks (record { may = may; lacking = rw is at zero })) none.1 none.0))
      (λ (leave : (moves_by m x.another ≡ true) × (find_of (stands_for (received_side m) l) words ≢ None)).
      let is = moves_mapping m x.another leave.0 in
      rw is.0 (received (leaves (rw is.0 at (found_listed (received_side m) l leave.1)) is.1) none.1 none.0))
      full.0

  -- 13 and 21 come only so
  pub no_room_lacks : (e : LabelEvent) → NoRoomAnswered words e → LacksRoom words e
  unfolding accepted_of plan_of received_with received_change
  no_room_lacks (Accepted m l) a =
      by_test
      (listable l)
      (λ may. next_lacks m l (code_accepted m (code_at words (sent_side m) l)) may refl (rw may at a))
      (λ may. let refused : Acceptance.NotAllowed ≡ Acceptance.NoRoom = rw may at a in no cc)
  no_room_lacks (Acked m l) a = absurd a
  no_room_lacks (Received x m p (Label l)) a =
      let full : received_change words (room_at x.request x.spare words) x.another m p l ≡ NoRoom =
      sym (received_same words x m p (room_at x.request x.spare words) l)
      ∙ reception_full (received_change (ended_at x.request words) (room_at x.request x.spare words) x.another m p l) a in
      by_test
      (listable l)
      (λ may. change_lacks x m p l may (rw may at full))
      (λ may. let keep : Keep ≡ NoRoom = rw may at full in no cc)
  no_room_lacks (Received x m p (Those reached)) a = no cc
  no_room_lacks (Received x m p Nothing) a = no cc
  no_room_lacks Asked a = asked (none_free words (take-full (find_of is_free words) request_word (acceptance_full (asked_change words) a)))
  no_room_lacks (Ended r) a = absurd a
  no_room_lacks Broken a = absurd a

  -- and then they come
  mapping_new : (p : Bool) → code_received Mapping p 0 ≢ 0
  unfolding code_received
  mapping_new true z = omega arith
  mapping_new false z = omega arith

  full_at : (b : Bool) (f : Option ℕ) (l n : ℕ) → f ≢ None → b ≡ true → placed_at b f None l n ≡ NoRoom
  unfolding placed_at
  full_at true (Some i) l n h e = refl
  full_at true None l n h e = absurd (h refl)
  full_at false f l n h e = no cc

  full_new : (b : Bool) (f : Option ℕ) (l n : ℕ) → f ≡ None → n ≢ 0 → placed_at b f None l n ≡ NoRoom
  unfolding placed_at
  full_new b f l n e h =
      let plain : NoRoom ≡ change_at None None l n = change-full l n None None refl h refl refl in
      rw e (by_test b (λ t. rw t (sym plain)) (λ f. rw f (sym plain)))

  listed_found : (s : Side) (k : ℕ) → code_at words s k ≢ 0 → find_of (stands_for s k) words ≢ None
  listed_found s k h z = h (lacking_code words s k z)

  received-full : (x : Meets) (p : Bool) (k : ℕ) → IsValid words → NeedsRoom words x k → room_at x.request x.spare words ≡ None
      → received_change words (room_at x.request x.spare words) x.another Mapping p k ≡ NoRoom
  unfolding received_change received_side
  received-full x p k v (lacks needs) none =
      rw (needs.may, none, needs.lacking) (full_new x.another (find_of (stands_for Used k) words) k (code_received Mapping p 0) (nowhere words Used k needs.lacking) (mapping_new p))
  received-full x p k v (leaves there another) none =
      rw (listed_may words v Used k there, none)
      (full_at x.another (find_of (stands_for Used k) words) k (code_received Mapping p (code_at words Used k)) (listed_found Used k there) another)

  -- and always so
  pub lacks_no_room : IsValid words → (e : LabelEvent) → LacksRoom words e → NoRoomAnswered words e
  unfolding accepted_of plan_of code_accepted sent_side received_with
  lacks_no_room v (Accepted m k) (sent needs none) =
      rw (needs.may, needs.lacking, lacks_full words Given k 1 (find_of is_free words) needs (omega arith) (free_nowhere words (find_of is_free words) refl none))
  lacks_no_room v Asked (asked none) = rw (free_nowhere words (find_of is_free words) refl none)
  lacks_no_room v (Received x m p t) (received {k = k} needs none closed) =
      rw (received_same words x Mapping p (room_at x.request x.spare words) k, received-full x p k v needs (none_first words x.request x.spare closed ∙ none))
  lacks_no_room v (Acked _ _) x3 = elim x3 [ ]
  lacks_no_room v (Ended _) x3 = elim x3 [ ]
  lacks_no_room v Broken x3 = elim x3 [ ]

  -- "the first free word is taken": a label moves from absent where there is room, and then into that word.
  sent-takes : (k : ℕ) → NeedsWord words Given k → NoRoomAnswered words (Accepted Mapping k) ⊎ FirstTaken words (accepted_of words Mapping k).1 k 1
  unfolding accepted_of plan_of code_accepted sent_side
  sent-takes k needs =
      rw (needs.may, needs.lacking)
      (⊎_elim
      (λ (full : change_of words Given k 1 ≡ NoRoom). inl (rw full))
      inr
      (absent-change words Given k 1 needs.lacking (omega arith)))

  received-takes : (x : Meets) (p : Bool) (k d : ℕ) → code_received Mapping p 0 ≡ d → NeedsWord words Used k → NoneOpen words x.request
      → NoRoomAnswered words (Received x Mapping p (Label k)) ⊎ SpareTaken x words (received_of words x Mapping p (Label k)).1 k d
  unfolding received_with received_change received_side change_at word_of
  received-takes x p k d e needs closed =
      let new : d ≢ 0 = rw e at (mapping_new p) in
      let still : find_of (stands_for Used k) words ≡ None = nowhere words Used k needs.lacking in
      let plain = placed_absent x.another (where_free x.spare words) k d in
      rw (none_ended words x.request closed, none_first words x.request x.spare closed, needs.may, needs.lacking, e, still, plain, ne_eqb d 0 new)
      (⊎_elim
      (λ (full : take_free (where_free x.spare words) (k + label_count * d) ≡ NoRoom). inl (rw full))
      inr
      (take_spare words x (where_free x.spare words) refl k d))

  from_absent : {e : LabelEvent} {s : Side} {k c d : ℕ} → c ≡ 0 → Moves e s k c d → NeedsWord words s k → EndsNone words e
      → NoRoomAnswered words e ⊎ WordTaken words e (after_event words e) k d
  unfolding after_event code_received
  from_absent z (given {k}) needs closed = sent-takes k needs
  from_absent z withdrawn needs closed = absurd (omega arith)
  from_absent z released needs closed = absurd (omega arith)
  from_absent z returned needs closed = absurd (omega arith)
  from_absent z withdraw-acked needs closed = absurd (omega arith)
  from_absent z back_acked needs closed = absurd (omega arith)
  from_absent z release-acked needs closed = absurd (omega arith)
  from_absent z (taken {k} {r}) needs closed = received-takes r true k 3 refl needs closed
  from_absent z taken-again needs closed = absurd (omega arith)
  from_absent z (taken_bare {k} {r}) needs closed = received-takes r false k without_protection refl needs closed
  from_absent z (asked_back touches) needs closed = absurd (omega arith)
  from_absent z (bare_withdrawn touches) needs closed = absurd (omega arith)
  from_absent z (given_back touches) needs closed = absurd (omega arith)
  from_absent z (withdrawn_back touches) needs closed = absurd (omega arith)
  from_absent z (acked_back touches) needs closed = absurd (omega arith)
  from_absent z bare_lost needs closed = absurd (omega arith)

  -- each move from absent (to 1, 3, 6) that ends no Request takes place in the first free word, all others as they were, or is answered 13 or 21
  pub absent-takes : {e : LabelEvent} {s : Side} {k d : ℕ} → Moves e s k 0 d → NeedsWord words s k → EndsNone words e → NoRoomAnswered words e ⊎ WordTaken words e (after_event words e) k d
  absent-takes = from_absent refl

  -- so does a Request, under code 7
  pub asked-takes : NoRoomAnswered words Asked ⊎ FirstTaken words (after_event words Asked) 0 request_code
  unfolding after_event
  asked-takes =
      ⊎_elim
      (λ (full : asked_change words ≡ NoRoom). inl (rw full))
      inr
      (take_first words (find_of is_free words) refl 0 request_code)

  -- "the Mapping taking its word if the label has none": where a Request is ended, its word alone changes, and 21 never comes
  module _ (x : Meets) (i : ℕ) (at : x.request ≡ Some i) (there : is_request (get_or words i 0) ≡ true) where
    request-room : room_at x.request x.spare words ≡ Some i
    unfolding room_at
    request-room = rw (at, there)

    request-freed : ended_at x.request words ≡ set words i 0
    unfolding ended_at
    request-freed = rw (at, there)

    answer_change : (p : Bool) (k d : ℕ) → code_received Mapping p 0 ≡ d → NeedsWord words Used k
        → received_change words (room_at x.request x.spare words) x.another Mapping p k ≡ Put i (k + label_count * d)
    unfolding received_change received_side change_at word_of
    answer_change p k d e needs =
        let new : d ≢ 0 = rw e at (mapping_new p) in
        let still : find_of (stands_for Used k) words ≡ None = nowhere words Used k needs.lacking in
        rw (request-room, needs.may, needs.lacking, e, still, placed_absent x.another (Some i) k d, ne_eqb d 0 new)

    pub answer_put : (p : Bool) (k d : ℕ) → code_received Mapping p 0 ≡ d → NeedsWord words Used k → (received_of words x Mapping p (Label k)).1 ≡ set words i (k + label_count * d)
    unfolding received_with changed
    answer_put p k d e needs =
        rw (received_same words x Mapping p (room_at x.request x.spare words) k, answer_change p k d e needs, request-freed)
        (set-set words i 0 (k + label_count * d))

    lacking_closed : {m : LabelMessage} {p : Bool} {t : Reach} → LacksRoom words (Received x m p t) → NoneOpen words x.request
    lacking_closed (received needs none closed) = closed

    pub answer_has_room : (m : LabelMessage) (p : Bool) (t : Reach) → NoRoomAnswered words (Received x m p t) → ⊥
    answer_has_room m p t a =
        let closed : NoneOpen words (Some i) = rw at at (lacking_closed (no_room_lacks (Received x m p t) a)) in
        true≢false (sym there ∙ closed)

  -- 02: "A received Mapping that would change a listed label's entry moves it, with 01's code, to a new word": its old word is free then, and it stands in the
  -- room for it under the code of 01's table; or there is none (21)
  module _ (x : Meets) (another : x.another ≡ true) (k : ℕ) (v : IsValid words) (there : code_at words Used k ≢ 0) where
    move_to_room : (f g : Option ℕ) (w : ℕ) → f ≢ None → (b : Bool) → b ≡ true → (l n : ℕ) → w ≡ word_of l n
        → (placed_at b f g l n ≡ NoRoom) ⊎ ((i : ℕ) × (j : ℕ) × (f ≡ Some i) × (g ≡ Some j) × (placed_at b f g l n ≡ Move i j w))
    unfolding placed_at
    move_to_room (Some i) (Some j) w h true e l n z = inr (i, j, refl, refl, rw z)
    move_to_room (Some i) None w h true e l n z = inl refl
    move_to_room None g w h true e l n z = absurd (h refl)
    move_to_room f g w h false e l n z = no cc

    pub moved_takes : (p : Bool) → NoRoomAnswered words (Received x Mapping p (Label k))
        ⊎ MovedWord words x (received_of words x Mapping p (Label k)).1 k (code_received Mapping p (code_at words Used k))
    unfolding received_with received_change received_side changed
    moved_takes p =
        let may : listable k ≡ true = listed_may words v Used k there in
        let code : ℕ = code_received Mapping p (code_at words Used k) in
        rw (received_same words x Mapping p (room_at x.request x.spare words) k, may)
        (⊎_elim
        (λ (full : placed_at x.another (find_of (stands_for Used k) words) (room_at x.request x.spare words) k code ≡ NoRoom). inl (rw full))
        (λ (m : (i : ℕ) × (j : ℕ) × (find_of (stands_for Used k) words ≡ Some i) × (room_at x.request x.spare words ≡ Some j)
        × (placed_at x.another (find_of (stands_for Used k) words) (room_at x.request x.spare words) k code ≡ Move i j (word_of k code))).
        inr (rw m.4
        (record {
          from = m.0;
          at = m.1;
          was = found_passes (stands_for Used k) words m.0 refl m.2;
          room = m.3;
          moved = refl;
        })))
        (move_to_room (find_of (stands_for Used k) words) (room_at x.request x.spare words) (word_of k code) (listed_found Used k there) x.another another k code refl))
