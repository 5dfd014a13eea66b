-- One direction, event by event. Assumes nothing.
use Rattle.std.specs.Prelude.{Ok, Some}
use Prim.Native.Nat.{ℕ, zero, suc, ◌+◌, ◌-◌, ◌≤◌, ◌<◌}
use mathlib.Core.Bool.{Bool, true, false, false≢true}
use mathlib.Core.List.{List, [], ◌∷◌, ◌++◌}
use mathlib.Core.Path.{◌≡◌, refl, sym, ap, ◌∙◌}
use native.Mathlib.Omega.{arith}
use lib.ListN.{length, drop}
use lib.Seq.{drop-append-le}
use Rattle.ft_number.specs.Ack.{ack_of}
use Rattle.ft_number.specs.Circle.{circle, after}
use Rattle.ft_number.specs.Turn.{number_turn}
use Rattle.ft_number.proofs.Turns.{means_turn}
use Rattle.protocol.proofs.PassedOver.{undone_grow}
use Rattle.two_ends.specs.LeftOut.{is_left}
use Rattle.two_ends.proofs.Books.{accepts, secures, place, ack_right, books_accept, books_secure}
use Rattle.two_ends.proofs.Half.{Snd, Rcv, Half, Line, Marked}
use Rattle.two_ends.proofs.Lines.{line_snoc, line_secure, line_end, line-lost, line-rest, flow_end, flow_grow}
use Rattle.two_ends.proofs.Positions.{num, num-after, num-le}

-- a message accepted later undoes no less
marks_grow : (left : List ℕ) (acc : List (List ℕ)) (m : List ℕ) (i : ℕ) → i ≤ length acc → Marked left acc i → Marked left (acc ++ (m ∷ [])) i
marks_grow left acc m i l h = λ j q.
    let p = h j q in
    let le : j ≤ length acc = omega (arith, p.0) in
    (p.0, rw (drop-append-le j acc (m ∷ []) le) (undone_grow (drop j acc) (m ∷ []) p.1))

module _ {x : Snd (List ℕ)} {sent : ℕ} {up jo re : Bool} {y : Rcv (List ℕ)} {dat : List (ℕ × List ℕ)} {acks : List ℕ} (p : Half x sent up jo re y dat acks) where
  -- the sender accepts a message
  pub half_accept : (m : List ℕ) → length x.queue < 64 → Half (accepts m x) sent up jo re y dat acks
  half_accept m h =
      let le = line_end x.left p.r p.s p.e p.i sent up jo re x.accepted dat acks p.books.si p.sent_i p.flow p.line in
      record {
        r = p.r;
        i = p.i;
        s = p.s;
        e = p.e;
        books = books_accept m h p.books;
        sent_i = p.sent_i;
        marks = marks_grow x.left x.accepted m p.i p.books.ia p.marks;
        flow = flow_grow x.left x.accepted m p.s dat p.e (omega (arith, le, p.books.ia)) p.flow;
        line = p.line;
      }

  -- the peer says what it secured
  pub half_ack_out : Half x sent up jo re y dat (acks ++ (y.S ∷ []))
  half_ack_out = record {
    r = p.r;
    i = p.i;
    s = p.s;
    e = p.e;
    books = p.books;
    sent_i = p.sent_i;
    marks = p.marks;
    flow = p.flow;
    line = rw p.books.is_s (line_snoc x.left p.r p.s p.e p.i sent up jo re (length dat) acks p.line);
  }

  -- the connection is lost
  pub half-lost : Half x sent up false re y [] []
  half-lost = record {
    r = p.r;
    i = p.i;
    s = p.s;
    e = p.s;
    books = p.books;
    sent_i = p.sent_i;
    marks = p.marks;
    flow = refl;
    line = line-lost x.left p.r p.s p.e p.i sent up jo re x.accepted dat acks p.flow p.line;
  }

  -- the sender counts from the oldest again
  pub half-again : (on new : Bool) → Half x 0 false on new y [] []
  half-again on new = record {
    r = p.r;
    i = p.i;
    s = p.s;
    e = p.s;
    books = p.books;
    sent_i = omega (arith, p.books.rs, p.books.si);
    marks = p.marks;
    flow = refl;
    line = record { none = refl; rising = omega arith };
  }

  -- numbers are of 32 bits
  pub half_secured : y.S ≤ circle
  half_secured = rw p.books.is_s (num-le p.s)

  -- to acknowledge what was acknowledged before releases nothing
  pub half_same : ack_of x.R x.I x.R ≡ Some 0
  half_same =
      let none : p.r - p.r ≡ 0 = omega arith in
      ack_right p.books x.R p.r p.books.is_r (omega arith) p.books.rs ∙ ap Some none

  pub half_place : (at : ℕ) (m : List ℕ) (ms : List (List ℕ)) → drop at x.queue ≡ m ∷ ms → drop (p.r + at) x.accepted ≡ m ∷ drop (suc (p.r + at)) x.accepted
  half_place at m ms e = place p.books at m ms e

-- a sender that is not on the connection counts from the oldest again
pub half-rest : {x : Snd (List ℕ)} {sent : ℕ} {up re : Bool} {y : Rcv (List ℕ)} {dat : List (ℕ × List ℕ)} {acks : List ℕ} → (on new : Bool) → Half x sent up false re y dat acks
    → Half x 0 false on new y dat acks
half-rest {x} {sent} {up} {re} {y} {dat} {acks} on new p = record {
  r = p.r;
  i = p.i;
  s = p.s;
  e = p.e;
  books = p.books;
  sent_i = omega (arith, p.books.rs, p.books.si);
  marks = p.marks;
  flow = p.flow;
  line = line-rest x.left p.r p.s p.e p.i sent up re (length dat) acks p.line;
}

-- ---- the peer secures the oldest message under way
module _ {x : Snd (List ℕ)} {sent : ℕ} {up jo re : Bool} {y : Rcv (List ℕ)} {d : ℕ × List ℕ} {dat : List (ℕ × List ℕ)} {acks : List ℕ} (p : Half x sent up jo re y (d ∷ dat) acks) where
  -- so many were left out before it
  abbrev pub gap : ℕ
  gap = p.flow.0.k

  abbrev at : ℕ
  at = suc (p.s + gap)

  secured : (at ≤ p.r + sent) × Line up jo re x.left p.r at p.e p.i sent (length dat) acks
  secured =
      line_secure x.left p.r p.s p.e p.i sent up jo re (length dat) acks at (omega arith)
      (omega (arith, flow_end x.left x.accepted at dat p.e p.flow.1)) p.line

  pub half_secure : Half x sent up jo re (secures d.0 d.1 y) dat acks
  half_secure = record {
    r = p.r;
    i = p.i;
    s = at;
    e = p.e;
    books = books_secure p.books d.0 d.1 p.flow.0 (omega (arith, secured.0, p.sent_i));
    sent_i = p.sent_i;
    marks = p.marks;
    flow = p.flow.1;
    line = secured.1;
  }

  -- its number is in turn: on a resumed connection so many were left out before it,
  pub half-number : d.0 ≡ after (suc gap) y.S
  half-number = let e : p.s + suc gap ≡ at = omega arith in p.flow.0.number ∙ ap num (sym e) ∙ sym (num-after p.s (suc gap)) ∙ ap (after (suc gap)) (sym p.books.is_s)

  pub half-resumed : number_turn true y.S d.0 ≡ Ok gap
  half-resumed = ap (number_turn true y.S) half-number ∙ means_turn true y.S gap (half_secured p) (omega (arith, secured.0, p.sent_i, p.books.ia, p.books.room, p.books.rs))

-- on the first connection none
none_skipped : (s k : ℕ) → ((j : ℕ) → j < k → is_left [] (s + j) ≡ true) → k ≡ 0
none_skipped s zero h = refl
none_skipped s (suc k) h = absurd (false≢true (h 0 (omega arith)))

pub half_first : {x : Snd (List ℕ)} {sent : ℕ} {y : Rcv (List ℕ)} {d : ℕ × List ℕ} {dat : List (ℕ × List ℕ)} {acks : List ℕ} (p : Half x sent true true false y (d ∷ dat) acks)
    → number_turn false y.S d.0 ≡ Ok (gap p)
half_first {x} {sent} {y} p =
    let none : gap p ≡ 0 = none_skipped p.s (gap p) (λ j l. rw p.line.first.1 at (p.flow.0.skipped j l)) in
    let one : after (suc (gap p)) y.S ≡ after 1 y.S = ap (λ (k : ℕ). after (suc k) y.S) none in
    ap (number_turn false y.S) (half-number p ∙ one) ∙ means_turn false y.S 0 (half_secured p) (omega arith) ∙ ap Ok (sym none)
