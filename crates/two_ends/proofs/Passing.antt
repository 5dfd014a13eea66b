-- One direction, as the sender sends: it passes over Requests whose Abort is held behind them, and the next message goes out. Assumes nothing.
use Prim.Native.Nat.{ℕ, zero, suc, ◌+◌, ◌-◌}
use mathlib.Core.Bool.{Bool, true, false, false≢true}
use mathlib.Core.List.{List, [], ◌∷◌, ◌++◌}
use mathlib.Core.Logic.{⊎_elim}
use mathlib.Core.Path.{◌≡◌, refl, sym, ap, ◌∙◌}
use native.Mathlib.Omega.{arith}
use lib.ListN.{length, drop}
use lib.Seq.{drop-drop}
use Rattle.octets.proofs.Choice.{by_test}
use Rattle.ft_number.specs.Circle.{after, steps_of}
use Rattle.protocol.specs.LeftOut.{is_undone, passed_over}
use Rattle.protocol.specs.Phases.{count_of}
use Rattle.protocol.proofs.PassedOver.{passed_stops, passed-undone, passed-within}
use Rattle.two_ends.specs.LeftOut.{is_left, positions}
use Rattle.two_ends.proofs.Books.{issues, gone-length, window, numbered, unsent, place, issued, Issued, issued_at, books_issue}
use Rattle.two_ends.proofs.Gaps.{left-append, left_split, positions_below, positions_in, positions_span}
use Rattle.two_ends.proofs.Half.{Snd, Rcv, Gap, Half, First, Marked, Flow}
use Rattle.two_ends.proofs.Lines.{flow_end, flow_marks, flow_snoc, flow_empty}
use Rattle.two_ends.proofs.Positions.{num}

-- how many are passed over
abbrev pub passed : Snd (List ℕ) → ℕ → ℕ
passed x sent = passed_over (count_of (steps_of x.R x.I) - sent) (drop sent x.queue)

marked_in : (left more : List ℕ) (i : ℕ) → is_left more i ≡ true → is_left (left ++ more) i ≡ true
marked_in left more i e = rw (left-append left more i) (by_test (is_left left i) (λ t. rw t) (λ f. rw (f, e)))

positions_none : (p k : ℕ) → k ≡ 0 → positions p k ≡ []
positions_none p zero e = refl
positions_none p (suc k) e = absurd (omega arith)

module _ {x : Snd (List ℕ)} {sent : ℕ} {up jo re : Bool} {y : Rcv (List ℕ)} {dat : List (ℕ × List ℕ)} {acks : List ℕ} (p : Half x sent up jo re y dat acks)
    (m : List ℕ) (ms : List (List ℕ)) (e : drop (sent + passed x sent) x.queue ≡ m ∷ ms) where
  abbrev pub k : ℕ
  k = passed x sent

  abbrev rest : List (List ℕ)
  rest = drop sent x.queue

  abbrev numbers : ℕ
  numbers = count_of (steps_of x.R x.I) - sent

  -- those not sent, by their positions
  rest_at : (j : ℕ) → drop j rest ≡ drop (p.r + sent + j) x.accepted
  rest_at j = ap (λ (l : List (List ℕ)). drop j (drop sent l)) p.books.que ∙ ap (λ (l : List (List ℕ)). drop j l) (drop-drop sent p.r x.accepted) ∙ drop-drop j (p.r + sent) x.accepted

  pub number : Issued p.books (sent + k) (issued_at x (sent + k))
  number = issued p.books (sent + k) (unsent p.books (sent + k) m ms e)

  abbrev pub now : List ℕ
  now = x.left ++ positions (length x.letgo + sent) k

  -- what is passed over now has a number, and is a Request with its Abort behind it
  pub passed-marked : Marked now x.accepted number.0
  passed-marked = λ j q.
      ⊎_elim
      (λ (old : is_left x.left j ≡ true). let o = p.marks j old in (omega (arith, o.0, number.2), o.1))
      (λ (new : is_left (positions (length x.letgo + sent) k) j ≡ true).
      let s = positions_span (length x.letgo + sent) k j new in
      let g = gone-length p.books in
      let to : p.r + sent + (j - (p.r + sent)) ≡ j = omega (arith, s.0, g) in
      let u = passed-undone numbers rest (j - (p.r + sent)) (omega (arith, s.0, s.1, g)) in
      (omega (arith, s.0, g, u.1, window p.books, number.2), rw (rest_at (j - (p.r + sent)), to) at u.0))
      (left_split x.left (positions (length x.letgo + sent) k) j q)

  -- what is sent is not left out
  sent-borne : is_left now (p.r + sent + k) ≡ false
  sent-borne =
      by_test (is_left now (p.r + sent + k))
      (λ t.
      ⊎_elim
      (λ (old : is_left x.left (p.r + sent + k) ≡ true).
      let o = p.marks (p.r + sent + k) old in
      let stops : is_undone (drop k rest) ≡ false = passed_stops numbers rest (omega (arith, o.0, window p.books)) in
      absurd (false≢true (sym stops ∙ rw (rest_at k) o.1)))
      (λ (new : is_left (positions (length x.letgo + sent) k) (p.r + sent + k) ≡ true).
      absurd (omega (arith, gone-length p.books, (positions_span (length x.letgo + sent) k (p.r + sent + k) new).1)))
      (left_split x.left (positions (length x.letgo + sent) k) (p.r + sent + k) t))
      (λ f. f)

  pub sent-gap : Gap now x.accepted (p.r + sent) (after (sent + k + 1) x.R) m
  sent-gap =
      let at : p.r + (sent + k + 1) ≡ suc (p.r + sent + k) = omega arith in
      let here : p.r + (sent + k) ≡ p.r + sent + k = omega arith in
      record {
        k = k;
        skipped = λ j l. marked_in x.left (positions (length x.letgo + sent) k) (p.r + sent + j) (positions_in (length x.letgo + sent) k (p.r + sent + j) (omega (arith, gone-length p.books)) (omega (arith, gone-length p.books)));
        borne = sent-borne;
        number = numbered p.books (sent + k) ∙ ap num at;
        place = rw here at (place p.books (sent + k) m ms e);
      }

  -- on the first connection nothing is passed over
  pub sent_first : (new : Bool) → First new x.left (p.r + sent) p.i → First new now (p.r + (sent + k + 1)) number.0
  sent_first true f = tt
  sent_first false f =
      let none : k ≡ 0 = omega (arith, passed-within numbers rest, window p.books, f.0) in
      (sym (number.5 (omega (arith, none, f.0))), rw f.1 (positions_none (length x.letgo + sent) k none))

-- ---- the sender sends
module _ {x : Snd (List ℕ)} {sent : ℕ} {re : Bool} {y : Rcv (List ℕ)} {dat : List (ℕ × List ℕ)} {acks : List ℕ} (m : List ℕ) (ms : List (List ℕ)) (e : drop (sent + passed x sent) x.queue ≡ m ∷ ms) where
  -- into a connection that is lost
  pub half-send-lost : Half x sent true false re y dat acks → Half (issues sent (passed x sent) x) (sent + passed x sent + 1) true false re y dat acks
  half-send-lost p =
      let i = number p m ms e in
      record {
        r = p.r;
        i = i.0;
        s = p.s;
        e = p.e;
        books = books_issue sent (passed x sent) p.books p.line.reached i;
        sent_i = i.3;
        marks = passed-marked p m ms e;
        flow = flow_marks x.left (now p m ms e) x.accepted p.s dat p.e (λ j l.
            positions_below x.left (length x.letgo + sent) (passed x sent) j (omega (arith, l, gone-length p.books, p.line.reached, ended p))) p.flow;
        line = record { none = p.line.none; rising = p.line.rising; reached = omega (arith, p.line.reached) };
      }
    where
      ended : (p : Half x sent true false re y dat acks) → p.s ≡ p.e
      ended p = flow_empty x.left x.accepted p.s dat p.e p.line.none p.flow

  pub half_send : Half x sent true true re y dat acks
      → Half (issues sent (passed x sent) x) (sent + passed x sent + 1) true true re y (dat ++ ((after (sent + passed x sent + 1) x.R, m) ∷ [])) acks
  unfolding passed_over sent-gap
  half_send p =
      let i = number p m ms e in
      let g = sent-gap p m ms e in
      let below = flow_end x.left x.accepted p.s dat p.e p.flow in
      let flowed : Flow (now p m ms e) x.accepted p.s dat (p.r + sent) =
      rw p.line.all at (flow_marks x.left (now p m ms e) x.accepted p.s dat p.e (λ j l.
      positions_below x.left (length x.letgo + sent) (passed x sent) j (omega (arith, l, gone-length p.books, p.line.all))) p.flow) in
      record {
        r = p.r;
        i = i.0;
        s = p.s;
        e = suc (p.r + sent + passed x sent);
        books = books_issue sent (passed x sent) p.books (omega (arith, p.line.all, below)) i;
        sent_i = i.3;
        marks = passed-marked p m ms e;
        flow = flow_snoc (now p m ms e) x.accepted p.s dat (p.r + sent) (after (sent + passed x sent + 1) x.R) m g flowed;
        line = record { all = omega arith; rising = p.line.rising; first = sent_first p m ms e re p.line.first };
      }
