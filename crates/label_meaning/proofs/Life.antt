-- The life of a label in a valid list. Assumes nothing.
use Rattle.std.specs.Prelude.{Some}
use Prim.Native.Nat.{ℕ}
use mathlib.Core.Bool.{Bool, true, false}
use mathlib.Core.List.{List}
use mathlib.Core.Logic.{◌≢◌, ◌⊎◌, inl, inr, ⊎_elim}
use mathlib.Core.Path.{◌≡◌, refl, sym, ◌∙◌}
use native.Mathlib.Omega.{arith}
use Rattle.label_list.specs.declared.LabelMessage.{LabelMessage}
use Rattle.label_list.specs.declared.LabelMessage.TheVariants.{Mapping, Withdraw, Release}
use Rattle.label_list.specs.declared.Side.{Side}
use Rattle.label_list.specs.declared.Side.TheVariants.{Given, Used}
use Rattle.label_list.specs.declared.SweepRule.{SweepRule}
use Rattle.label_list.specs.declared.SweepRule.TheVariants.{WithdrawAll, ReleaseAll, AfterBreak}
use Rattle.label_list.specs.Rules.{sent_side, received_side, code_accepted, code_acked, code_received, code_swept}
use Rattle.label_list.specs.Sweep.{swept_of, reached_of}
use Rattle.label_list.specs.Word.{without_protection}
use Rattle.label_events.specs.declared.Meets.{Meets}
use Rattle.label_events.specs.declared.Reception.{Reception}
use Rattle.label_events.specs.Change.{code_at}
use Rattle.label_events.specs.Reach.{Reach, Label}
use Rattle.label_events.specs.Receive.{every_received, received_with, moves_by, received_of}
use Rattle.label_events.specs.Requests.{ended_at}
use Rattle.label_events.proofs.Ended.{ended-code}
use Rattle.label_meaning.specs.Event.{LabelEvent, Accepted, Acked, Received, after_event, Touches, named, among, Moves, given, withdrawn, released, returned, withdraw-acked, back_acked, release-acked, taken, taken-again, taken_bare, asked_back, bare_withdrawn, given_back, withdrawn_back, acked_back, bare_lost}
use Rattle.label_meaning.specs.Life.{HasRoom, Frees, release_of_given, release-after_ack, ack_after-release, our_release, ack_of_release}
use Rattle.label_meaning.specs.Valid.{IsValid}
use Rattle.label_meaning.specs.View.{Effect}
use Rattle.label_meaning.proofs.Moved.{every_move}
use Rattle.label_meaning.proofs.Step.{accepted_listed, received-listed, acked_effect, listed_may, received-taken}
use Rattle.label_meaning.proofs.Swept.{sweep_valid, sweep_code, reach_valid, reach_code}
use Rattle.label_meaning.proofs.Unlisted.{ended_stays}
use Rattle.label_meaning.proofs.View.{code_is, is_code}

-- The moves from one code, taken apart.
gives_back : {e : LabelEvent} {k c d : ℕ} → c ≡ 4 → Moves e Used k c d → (d ≡ 0) × (e ≡ Accepted Release k)
gives_back z returned = (refl, refl)
gives_back z released = absurd (omega arith)
gives_back z release-acked = absurd (omega arith)
gives_back z taken = absurd (omega arith)
gives_back z taken-again = absurd (omega arith)
gives_back z taken_bare = absurd (omega arith)
gives_back z (asked_back touches) = absurd (omega arith)
gives_back z (bare_withdrawn touches) = absurd (omega arith)
gives_back z bare_lost = absurd (omega arith)

frees : {e : LabelEvent} {s : Side} {k c d : ℕ} → d ≡ 0 → c ≢ without_protection → Moves e s k c d → Frees e s k c
frees z kept given = absurd (omega arith)
frees z kept withdrawn = absurd (omega arith)
frees z kept released = absurd (omega arith)
frees z kept returned = our_release
frees z kept withdraw-acked = absurd (omega arith)
frees z kept back_acked = ack_after-release
frees z kept release-acked = ack_of_release
frees z kept taken = absurd (omega arith)
frees z kept taken-again = absurd (omega arith)
frees z kept taken_bare = absurd (omega arith)
frees z kept (asked_back touches) = absurd (omega arith)
frees z kept (bare_withdrawn touches) = absurd (omega arith)
frees z kept (given_back touches) = release_of_given touches
frees z kept (withdrawn_back touches) = absurd (omega arith)
frees z kept (acked_back touches) = release-after_ack touches
frees z kept bare_lost = absurd (omega arith)

module _ (words : List ℕ) (v : IsValid words) where
  -- A label that the peer asked back stays in use until our Release of it is accepted.
  pub asked_back_stays : (e : LabelEvent) (k : ℕ) → code_at words Used k ≡ 4
      → (code_at (after_event words e) Used k ≡ 4) ⊎ ((code_at (after_event words e) Used k ≡ 0) × (e ≡ Accepted Release k))
  asked_back_stays e k four =
      ⊎_elim
      (λ (same : code_at (after_event words e) Used k ≡ code_at words Used k). inl (same ∙ four))
      (λ (move : Moves e Used k (code_at words Used k) (code_at (after_event words e) Used k)). inr (gives_back four move))
      (every_move words v e Used k)

  -- A listed label of any code but 6 vanishes only by the message that 01 and 02 name.
  pub freed_by : (e : LabelEvent) (s : Side) (k : ℕ) → code_at words s k ≢ 0 → code_at words s k ≢ without_protection → code_at (after_event words e) s k ≡ 0 → Frees e s k (code_at words s k)
  freed_by e s k listed kept gone =
      ⊎_elim
      (λ (same : code_at (after_event words e) s k ≡ code_at words s k). absurd (listed (sym same ∙ gone)))
      (λ (move : Moves e s k (code_at words s k) (code_at (after_event words e) s k)). frees gone kept move)
      (every_move words v e s k)

  -- What 01 says of a listed label happens.
  sweep_happens : (r : SweepRule) (s : Side) (k c d : ℕ) → code_at words s k ≡ c → code_swept r c ≡ d → code_at (swept_of words r) s k ≡ d
  sweep_happens r s k c d e f =
      is_code (swept_of words r) s k (sweep_valid words v r) (rw (e, f) at (sweep_code words v r s k (code_at words s k) (code_is words s k)))

  effect_code : {after : List ℕ} {s : Side} {k : ℕ} (n d : ℕ) → Effect words after s k n → n ≡ d → code_at after s k ≡ d
  effect_code {after} {s} {k} n d x e = is_code after s k x.valid x.there ∙ e

  accept_happens : (m : LabelMessage) (k c d : ℕ) → code_at words (sent_side m) k ≡ c → c ≢ 0 → code_accepted m c ≡ Some d → code_at (after_event words (Accepted m k)) (sent_side m) k ≡ d
  unfolding after_event
  accept_happens m k c d e h f = effect_code d d (accepted_listed words v m k d (rw e h) (rw e f)) refl

  ack_happens : (m : LabelMessage) (k c d : ℕ) → code_at words (sent_side m) k ≡ c → code_acked m c ≡ d → code_at (after_event words (Acked m k)) (sent_side m) k ≡ d
  unfolding after_event
  ack_happens m k c d e f = effect_code (code_acked m (code_at words (sent_side m) k)) d (acked_effect words v m k) (rw e f)

  receive_happens : (r : Meets) (m : LabelMessage) (p : Bool) (k c d : ℕ) → code_at words (received_side m) k ≡ c → c ≢ 0 → code_received m p c ≡ d → moves_by m r.another ≡ false
      → code_at (after_event words (Received r m p (Label k))) (received_side m) k ≡ d
  unfolding after_event
  receive_happens r m p k c d e h f still =
      effect_code (code_received m p (code_at words (received_side m) k)) d (received-listed words v r m p k (rw e h) still) (rw e f)

module _ (words : List ℕ) (v : IsValid words) (r : Meets) where
  -- of those that are reached, of the list in which the Request has ended
  reached-ended : (reached : ℕ → Bool) (rule : SweepRule) (s : Side) (k c d : ℕ) → reached k ≡ true → code_at words s k ≡ c → code_swept rule c ≡ d
      → code_at (reached_of (ended_at r.request words) reached rule) s k ≡ d
  reached-ended reached rule s k c d y e f =
      let mid : List ℕ = ended_at r.request words in
      let ok : IsValid mid = (ended_stays words v r.request).valid in
      let was : code_at mid s k ≡ c = ended-code words s k r.request ∙ e in
      is_code (reached_of mid reached rule) s k (reach_valid mid ok reached rule) (rw (was, y, f) at (reach_code mid ok reached rule s k (code_at mid s k) (code_is mid s k)))

  pub withdraw_happens : (p : Bool) (t : Reach) (k c d : ℕ) → Touches t k → code_at words Used k ≡ c → c ≢ 0 → ((q : Bool) → code_received Withdraw q c ≡ d)
      → code_at (after_event words (Received r Withdraw p t)) Used k ≡ d
  unfolding after_event received_with every_received code_swept received_side
  withdraw_happens p t k c d named e h f = receive_happens words v r Withdraw p k c d e h (f p) refl
  withdraw_happens p t k c d (among {reached} y) e h f = reached-ended reached WithdrawAll Used k c d y e (f true)

  pub release_happens : (p : Bool) (t : Reach) (k c d : ℕ) → Touches t k → code_at words Given k ≡ c → c ≢ 0 → ((q : Bool) → code_received Release q c ≡ d)
      → code_at (after_event words (Received r Release p t)) Given k ≡ d
  unfolding after_event received_with every_received code_swept received_side
  release_happens p t k c d named e h f = receive_happens words v r Release p k c d e h (f p) refl
  release_happens p t k c d (among {reached} y) e h f = reached-ended reached ReleaseAll Given k c d y e (f true)

module _ (words : List ℕ) (v : IsValid words) where
  -- A label that is mapped again while we release it is in use again, where it stands or where it moves to.
  again_happens : (r : Meets) (k : ℕ) → code_at words Used k ≡ 5 → (received_of words r Mapping true (Label k)).0 ≡ Reception.Taken
      → code_at (after_event words (Received r Mapping true (Label k))) Used k ≡ 3
  unfolding after_event received_side code_received
  again_happens r k e room =
      effect_code words v (code_received Mapping true (code_at words Used k)) 3 (received-taken words v r Mapping true k (listed_may words v Used k (λ z. omega arith)) room) (rw e)

  -- Each move of a listed label takes place.
  pub move_happens : {e : LabelEvent} {s : Side} {k c d : ℕ} → Moves e s k c d → c ≢ 0 → code_at words s k ≡ c → HasRoom words e → code_at (after_event words e) s k ≡ d
  unfolding sent_side received_side code_accepted code_acked code_received code_swept after_event
  move_happens given h e q = absurd (h refl)
  move_happens (withdrawn {k}) h e q = accept_happens words v Withdraw k 1 2 e h refl
  move_happens (released {k}) h e q = accept_happens words v Release k 3 5 e h refl
  move_happens (returned {k}) h e q = accept_happens words v Release k 4 0 e h refl
  move_happens (withdraw-acked {k}) h e q = ack_happens words v Withdraw k 2 8 e refl
  move_happens (back_acked {k}) h e q = ack_happens words v Withdraw k 9 0 e refl
  move_happens (release-acked {k}) h e q = ack_happens words v Release k 5 0 e refl
  move_happens taken h e q = absurd (h refl)
  move_happens (taken-again {k} {r}) h e q = again_happens r k e q
  move_happens taken_bare h e q = absurd (h refl)
  move_happens (asked_back {p} {t} {k} {r} touches) h e q = withdraw_happens words v r p t k 3 4 touches e h (λ q. refl)
  move_happens (bare_withdrawn {p} {t} {k} {r} touches) h e q = withdraw_happens words v r p t k without_protection 0 touches e h (λ q. refl)
  move_happens (given_back {p} {t} {k} {r} touches) h e q = release_happens words v r p t k 1 0 touches e h (λ q. refl)
  move_happens (withdrawn_back {p} {t} {k} {r} touches) h e q = release_happens words v r p t k 2 9 touches e h (λ q. refl)
  move_happens (acked_back {p} {t} {k} {r} touches) h e q = release_happens words v r p t k 8 0 touches e h (λ q. refl)
  move_happens (bare_lost {k}) h e q = sweep_happens words v AfterBreak Used k without_protection 0 e refl
