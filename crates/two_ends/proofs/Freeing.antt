-- One direction, as an acknowledgement arrives. Assumes nothing.
use Rattle.std.specs.Prelude.{Some}
use Prim.Native.Nat.{ℕ, ◌-◌, ◌≤◌, ◌+◌}
use mathlib.Core.Bool.{true, false, Bool}
use mathlib.Core.List.{List, ◌∷◌, append-nil}
use mathlib.Core.Path.{◌≡◌, ◌∙◌}
use native.Mathlib.Omega.{arith}
use lib.ListN.{length}
use Rattle.ft_number.specs.Ack.{ack_of}
use Rattle.two_ends.proofs.Books.{frees, held-length, ack_right, books_free}
use Rattle.two_ends.proofs.Direction.{half_same}
use Rattle.two_ends.proofs.Half.{Snd, Rcv, Half, First}
use Rattle.two_ends.proofs.Lines.{asc_le, flow_end, flow_empty}

-- ---- an acknowledgement arrives, or a message that bears none
-- it is right, and this is what it leaves
pub record Freed (x : Snd (List ℕ)) (sent : ℕ) (re : Bool) (y : Rcv (List ℕ)) (dat : List (ℕ × List ℕ)) (acks : List ℕ) (n k : ℕ) : Type 0 where
  pub right : ack_of x.R x.I n ≡ Some k
  pub few : k ≤ length x.queue
  pub half : Half (frees k n x) (sent - k) true true re y dat acks

pub half_none : {x : Snd (List ℕ)} {sent : ℕ} {re : Bool} {y : Rcv (List ℕ)} {dat : List (ℕ × List ℕ)} {acks : List ℕ} → Half x sent true true re y dat acks → Freed x sent re y dat acks x.R 0
half_none {x} {sent} p =
    let all : sent - 0 ≡ sent = omega arith in
    record { right = half_same p; few = omega arith; half = rw (append-nil x.letgo, all) p }

-- where it counts from does not matter to what was never left out
first_same : (re : Bool) (left : List ℕ) (p q i : ℕ) → p ≡ q → First re left p i → First re left q i
first_same re left p q i e f = rw e at f

module _ {x : Snd (List ℕ)} {y : Rcv (List ℕ)} {dat : List (ℕ × List ℕ)} {acks : List ℕ} {n : ℕ} where
  pub half_ack : {sent : ℕ} {re : Bool} → Half x sent true true re y dat (n ∷ acks) → (k : ℕ) × Freed x sent re y dat acks n k
  half_ack {sent} {re} p =
      let c = p.line.rising in
      let ks : c.0 ≤ p.s = asc_le c.0 acks p.s c.3 in
      let se = flow_end x.left x.accepted p.s dat p.e p.flow in
      let same : p.r + sent ≡ c.0 + (sent - (c.0 - p.r)) = omega (arith, p.line.all, c.2, ks, se) in (
        c.0 - p.r,
        record {
          right = ack_right p.books n c.0 c.1 c.2 ks;
          few = omega (arith, held-length p.books, p.books.si, p.books.ia, ks);
          half = record {
            r = c.0;
            i = p.i;
            s = p.s;
            e = p.e;
            books = books_free p.books n c.0 c.1 c.2 ks;
            sent_i = omega (arith, p.sent_i, p.books.si, ks);
            marks = p.marks;
            flow = p.flow;
            line = record { all = p.line.all ∙ same; rising = c.3; first = first_same re x.left (p.r + sent) (c.0 + (sent - (c.0 - p.r))) p.i same p.line.first };
          };
        },
      )

  -- the peer's Init: it counts from what the peer has secured
  pub half-init : {jo : Bool} (re : Bool) → ((r i : ℕ) → r ≤ i → i ≤ length x.accepted → First re x.left r i) → Half x 0 false jo false y dat (n ∷ acks)
      → (k : ℕ) × Freed x 0 re y dat acks n k
  half-init re first p =
      let c = p.line.rising in
      let ks : c.0 ≤ p.s = asc_le c.0 acks p.s c.3 in
      let rk : p.r ≤ c.0 = omega (arith, p.books.rs, c.2) in
      let same : c.0 ≡ c.0 + (0 - (c.0 - p.r)) = omega arith in
      let se : p.s ≡ p.e = flow_empty x.left x.accepted p.s dat p.e p.line.none p.flow in (
        c.0 - p.r,
        record {
          right = ack_right p.books n c.0 c.1 rk ks;
          few = omega (arith, held-length p.books, p.books.si, p.books.ia, ks);
          half = record {
            r = c.0;
            i = p.i;
            s = p.s;
            e = p.e;
            books = books_free p.books n c.0 c.1 rk ks;
            sent_i = omega (arith, p.books.si, ks);
            marks = p.marks;
            flow = p.flow;
            line = record {
              all = omega (arith, same, c.2, ks, se);
              rising = c.3;
              first = first_same re x.left c.0 (c.0 + (0 - (c.0 - p.r))) p.i same (first c.0 p.i (omega (arith, p.books.si, ks)) p.books.ia);
            };
          };
        },
      )
