-- A label's code changes by the moves that 01 names, and by nothing else. Assumes nothing.
use Rattle.std.specs.Prelude.{Some}
use Prim.Native.Nat.{ℕ, ◌≤◌}
use mathlib.Core.Bool.{Bool, true, false}
use mathlib.Core.List.{List}
use mathlib.Core.Logic.{◌≢◌, ◌⊎◌, inl, inr, ⊎_elim}
use mathlib.Core.Path.{◌≡◌, refl}
use native.Mathlib.Omega.{arith}
use lib.Dec.{eqb, leb}
use borrow.Author.Tests.{eqb-true, eqb-false, leb-true}
use Rattle.octets.proofs.Choice.{by_test}
use Rattle.label_list.specs.declared.LabelMessage.{LabelMessage}
use Rattle.label_list.specs.declared.LabelMessage.TheVariants.{Mapping, Withdraw, Release}
use Rattle.label_list.specs.declared.Side.{Side}
use Rattle.label_list.specs.declared.Side.TheVariants.{Given, Used}
use Rattle.label_list.specs.declared.SweepRule.{SweepRule}
use Rattle.label_list.specs.declared.SweepRule.TheVariants.{WithdrawAll, ReleaseAll, AfterBreak}
use Rattle.label_list.specs.Rules.{sent_side, received_side, code_accepted, code_acked, code_received, code_swept}
use Rattle.label_list.specs.Sweep.{swept_of, reached_of}
use Rattle.label_list.specs.Word.{without_protection, on_side}
use Rattle.label_events.specs.declared.Meets.{Meets}
use Rattle.label_events.specs.Accept.{accepted_of}
use Rattle.label_events.specs.Change.{code_at}
use Rattle.label_events.specs.Reach.{Reach, Those, Label, Nothing}
use Rattle.label_events.specs.Receive.{every_received, received_with, received_of}
use Rattle.label_events.specs.Requests.{ended_at}
use Rattle.label_events.proofs.Ended.{ended-code}
use Rattle.label_meaning.specs.Event.{LabelEvent, Accepted, Acked, Received, Asked, Ended, Broken, after_event, Touches, named, among, Moves, given, withdrawn, released, returned, withdraw-acked, release-acked, taken, taken-again, taken_bare, asked_back, bare_withdrawn, given_back, withdrawn_back, bare_lost, back_acked, acked_back}
use Rattle.label_meaning.specs.Life.{Moved}
use Rattle.label_meaning.specs.Valid.{IsValid}
use Rattle.label_meaning.specs.View.{Effect}
use Rattle.label_meaning.proofs.Proper.{Proper, proper_side}
use Rattle.label_meaning.proofs.Step.{Accepts, code_proper, accepted_outcome, acked_effect, received_outcome}
use Rattle.label_meaning.proofs.Swept.{sweep_valid, sweep_code, reach_valid, reach_code}
use Rattle.label_meaning.proofs.Unlisted.{LabelsStay, stay_code, ended_stays, asked_stays}
use Rattle.label_meaning.proofs.View.{code_is, is_code}

-- The rules, as moves of one code: it stays, or it is a move.
abbrev Move : LabelEvent → Side → ℕ → ℕ → ℕ → Type 0
Move e s k c d = (d ≡ c) ⊎ Moves e s k c d

accepted_move : (m : LabelMessage) (k c n : ℕ) → code_accepted m c ≡ Some n → Move (Accepted m k) (sent_side m) k c n
unfolding code_accepted sent_side
accepted_move Mapping k c n e =
    by_test
    (leb c 1)
    (λ p.
    let one : n ≡ 1 = cc (rw p at e) in
    let low : c ≤ 1 = leb-true c 1 p in
    by_test
    (eqb c 0)
    (λ z. let none : c ≡ 0 = eqb-true c 0 z in inr (rw (none, one) given))
    (λ z. let some : c ≢ 0 = eqb-false c 0 z in inl (omega arith)))
    (λ p. let q = rw p at e in let z : ◌≡◌ {A = ℕ} 0 1 = cc in absurd (omega arith))
accepted_move Withdraw k c n e =
    by_test
    (eqb c 1)
    (λ p.
    let two : n ≡ 2 = cc (rw p at e) in
    let one : c ≡ 1 = eqb-true c 1 p in
    inr (rw (one, two) withdrawn))
    (λ p. let q = rw p at e in let z : ◌≡◌ {A = ℕ} 0 1 = cc in absurd (omega arith))
accepted_move Release k c n e =
    by_test
    (eqb c 3)
    (λ p.
    let five : n ≡ 5 = cc (rw p at e) in
    let three : c ≡ 3 = eqb-true c 3 p in
    inr (rw (three, five) released))
    (λ p.
    by_test
    (eqb c 4)
    (λ q.
    let free : n ≡ 0 = cc (rw (p, q) at e) in
    let four : c ≡ 4 = eqb-true c 4 q in
    inr (rw (four, free) returned))
    (λ q. let r = rw (p, q) at e in let z : ◌≡◌ {A = ℕ} 0 1 = cc in absurd (omega arith)))

acked_move : (m : LabelMessage) (k c : ℕ) → Move (Acked m k) (sent_side m) k c (code_acked m c)
unfolding code_acked sent_side
acked_move Mapping k c = inl refl
acked_move Withdraw k c =
    by_test
    (eqb c 2)
    (λ p. let two : c ≡ 2 = eqb-true c 2 p in inr (rw two withdraw-acked))
    (λ p. by_test (eqb c 9) (λ q. let nine : c ≡ 9 = eqb-true c 9 q in inr (rw nine back_acked)) (λ q. inl (rw (p, q))))
acked_move Release k c = by_test (eqb c 5) (λ p. let five : c ≡ 5 = eqb-true c 5 p in inr (rw five release-acked)) (λ p. inl (rw p))

mapping_move : (r : Meets) (p : Bool) (k c : ℕ) → Move (Received r Mapping p (Label k)) Used k c (code_received Mapping p c)
unfolding code_received
mapping_move r true k c =
    by_test
    (eqb c 0)
    (λ z. let none : c ≡ 0 = eqb-true c 0 z in inr (rw none taken))
    (λ z. by_test (eqb c 5) (λ p. let five : c ≡ 5 = eqb-true c 5 p in inr (rw five taken-again)) (λ p. inl (rw (z, p))))
mapping_move r false k c = by_test (eqb c 0) (λ z. let none : c ≡ 0 = eqb-true c 0 z in inr (rw none taken_bare)) (λ z. inl (rw z))

module _ (s : Side) (k c : ℕ) (proper : Proper s c) where
  withdraw_move : (r : Meets) (p q : Bool) (t : Reach) → Touches t k → Move (Received r Withdraw p t) s k c (code_received Withdraw q c)
  unfolding code_received on_side
  withdraw_move r p q t touches =
      by_test
      (eqb c 3)
      (λ z.
      let three : c ≡ 3 = eqb-true c 3 z in
      inr (rw (proper_side s Used c proper (rw three), three) (asked_back touches)))
      (λ z. by_test
      (eqb c without_protection)
      (λ y.
      let bare : c ≡ without_protection = eqb-true c without_protection y in
      inr (rw (proper_side s Used c proper (rw bare), bare) (bare_withdrawn touches)))
      (λ y. inl (rw (z, y))))

  release_move : (r : Meets) (p q : Bool) (t : Reach) → Touches t k → Move (Received r Release p t) s k c (code_received Release q c)
  unfolding code_received on_side
  release_move r p q t touches =
      by_test
      (eqb c 1)
      (λ z. let one : c ≡ 1 = eqb-true c 1 z in inr (rw (proper_side s Given c proper (rw one), one) (given_back touches)))
      (λ z. by_test
      (eqb c 2)
      (λ y. let two : c ≡ 2 = eqb-true c 2 y in inr (rw (proper_side s Given c proper (rw two), two) (withdrawn_back touches)))
      (λ y. by_test
      (eqb c 8)
      (λ x. let eight : c ≡ 8 = eqb-true c 8 x in inr (rw (proper_side s Given c proper (rw eight), eight) (acked_back touches)))
      (λ x. inl (rw (z, y, x)))))

  break_move : Move Broken s k c (code_swept AfterBreak c)
  unfolding code_swept on_side
  break_move =
      by_test
      (eqb c without_protection)
      (λ y. let bare : c ≡ without_protection = eqb-true c without_protection y in inr (rw (proper_side s Used c proper (rw bare), bare) bare_lost))
      (λ y. inl (rw y))

-- By whether two places of the map are one.
by_place : {P : Type 0} (s t : Side) (k l : ℕ) → ((s ≡ t) × (k ≡ l) → P) → (((s ≡ t) × (k ≡ l) → ⊥) → P) → P
by_place {P} s t k l same other = by_test (eqb k l) (λ e. by_sides s t (eqb-true k l e) same other) (λ e. other (λ both. eqb-false k l e both.1))
  where
    by_sides : (s t : Side) → k ≡ l → ((s ≡ t) × (k ≡ l) → P) → (((s ≡ t) × (k ≡ l) → ⊥) → P) → P
    by_sides Given Given e same other = same (refl, e)
    by_sides Used Used e same other = same (refl, e)
    by_sides Given Used e same other = other (λ both. let z : ◌≡◌ {A = ℕ} 0 1 = cc both.0 in omega arith)
    by_sides Used Given e same other = other (λ both. let z : ◌≡◌ {A = ℕ} 0 1 = cc both.0 in omega arith)

-- The map's moves, from those of the codes.
abbrev MovedTo : List ℕ → List ℕ → LabelEvent → Side → ℕ → Type 0
MovedTo words after e t k = Move e t k (code_at words t k) (code_at after t k)

module _ (words : List ℕ) (v : IsValid words) where
  same_moved : {after : List ℕ} (e : LabelEvent) → after ≡ words → (t : Side) (k : ℕ) → MovedTo words after e t k
  same_moved e same t k = inl (rw same)

  effect_moved : {after : List ℕ} (e : LabelEvent) (s : Side) (l n : ℕ) → Effect words after s l n → Move e s l (code_at words s l) n → (t : Side) (k : ℕ) → MovedTo words after e t k
  effect_moved {after} e s l n x move t k =
      by_place
      t
      s
      k
      l
      (λ same. rw (same.0, same.1, is_code after s l x.valid x.there) move)
      (λ other. inl (is_code after t k x.valid (x.elsewhere t k (code_at words t k) other (code_is words t k))))

  reached_moved : (e : LabelEvent) (reached : ℕ → Bool) (r : SweepRule) → ((t : Side) (k c : ℕ) → reached k ≡ true → Proper t c → Move e t k c (code_swept r c)) → (t : Side) (k : ℕ)
      → MovedTo words (reached_of words reached r) e t k
  reached_moved e reached r move t k =
      rw (is_code (reached_of words reached r) t k (reach_valid words v reached r) (reach_code words v reached r t k (code_at words t k) (code_is words t k)))
      (by_test (reached k) (λ y. rw y (move t k (code_at words t k) y (code_proper words t k))) (λ n. inl (rw n)))

  swept_moved : (e : LabelEvent) (r : SweepRule) → ((t : Side) (k c : ℕ) → Proper t c → Move e t k c (code_swept r c)) → (t : Side) (k : ℕ) → MovedTo words (swept_of words r) e t k
  swept_moved e r move t k =
      rw (is_code (swept_of words r) t k (sweep_valid words v r) (sweep_code words v r t k (code_at words t k) (code_is words t k)))
      (move t k (code_at words t k) (code_proper words t k))

  named_move : (r : Meets) (m : LabelMessage) (p : Bool) (l : ℕ)
      → Move (Received r m p (Label l)) (received_side m) l (code_at words (received_side m) l) (code_received m p (code_at words (received_side m) l))
  unfolding received_side
  named_move r Mapping p l = mapping_move r p l (code_at words Used l)
  named_move r Withdraw p l = withdraw_move Used l (code_at words Used l) (code_proper words Used l) r p p (Label l) named
  named_move r Release p l = release_move Given l (code_at words Given l) (code_proper words Given l) r p p (Label l) named

  every_moved : (r : Meets) (m : LabelMessage) (p : Bool) (reached : ℕ → Bool) (t : Side) (k : ℕ) → MovedTo words (every_received m reached words) (Received r m p (Those reached)) t k
  unfolding every_received code_swept
  every_moved r Mapping p reached t k = inl refl
  every_moved r Withdraw p reached t k =
      reached_moved (Received r Withdraw p (Those reached)) reached WithdrawAll (λ s l c y proper. withdraw_move s l c proper r p true (Those reached) (among y)) t k
  every_moved r Release p reached t k =
      reached_moved (Received r Release p (Those reached)) reached ReleaseAll (λ s l c y proper. release_move s l c proper r p true (Those reached) (among y)) t k

module _ (words : List ℕ) (v : IsValid words) where
  stay_moved : {after : List ℕ} (e : LabelEvent) → LabelsStay words after → (t : Side) (k : ℕ) → MovedTo words after e t k
  stay_moved e x t k = inl (stay_code x t k)

  received_moved : (r : Meets) (m : LabelMessage) (p : Bool) (x : Reach) (t : Side) (k : ℕ) → MovedTo words (received_of words r m p x).1 (Received r m p x) t k
  unfolding received_with
  received_moved r m p (Label l) t k =
      ⊎_elim
      (λ (same : (received_of words r m p (Label l)).1 ≡ ended_at r.request words). inl (rw same (ended-code words t k r.request)))
      (λ (x : Effect words (received_of words r m p (Label l)).1 (received_side m) l (code_received m p (code_at words (received_side m) l))).
      effect_moved words v (Received r m p (Label l)) (received_side m) l (code_received m p (code_at words (received_side m) l)) x (named_move words v r m p l) t k)
      (received_outcome words v r m p l)
  received_moved r m p (Those reached) t k =
      rw (ended-code words t k r.request) at (every_moved (ended_at r.request words) (ended_stays words v r.request).valid r m p reached t k)
  received_moved r m p Nothing t k = inl (ended-code words t k r.request)

  -- Every event leaves every label's code, or moves it as 01 says.
  pub every_move : (e : LabelEvent) (side : Side) (label : ℕ) → Moved words e side label
  unfolding after_event
  every_move (Accepted m l) t k =
      ⊎_elim
      (λ (same : (accepted_of words m l).1 ≡ words). same_moved words v (Accepted m l) same t k)
      (λ (x : Accepts words m l (accepted_of words m l).1).
      effect_moved words v (Accepted m l) (sent_side m) l x.code x.effect (accepted_move m l (code_at words (sent_side m) l) x.code x.rule) t k)
      (accepted_outcome words v m l)
  every_move (Acked m l) t k =
      effect_moved words v (Acked m l) (sent_side m) l (code_acked m (code_at words (sent_side m) l)) (acked_effect words v m l) (acked_move m l (code_at words (sent_side m) l)) t k
  every_move (Received r m p x) t k = received_moved r m p x t k
  every_move Asked t k = stay_moved Asked (asked_stays words v) t k
  every_move (Ended r) t k = stay_moved (Ended r) (ended_stays words v r) t k
  every_move Broken t k = swept_moved words v Broken AfterBreak (λ s l c proper. break_move s l c proper) t k
