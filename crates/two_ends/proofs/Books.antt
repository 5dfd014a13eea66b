-- The books of one direction after each event. Assumes nothing.
use Rattle.std.specs.Prelude.{Some}
use Prim.Native.Nat.{ℕ, suc, ◌+◌, ◌-◌, ◌≤◌, ◌<◌}
use mathlib.Core.List.{List, [], ◌∷◌, ◌++◌}
use mathlib.Core.Path.{◌≡◌, sym, ap, ◌∙◌}
use native.Mathlib.Numerals.{add-one}
use native.Mathlib.Omega.{arith}
use lib.Dec.{ltb}
use lib.ListN.{length, take, drop, length-append, length-drop}
use lib.Seq.{take-append-le, drop-append-le, drop-drop, take-add, length-take-le}
use borrow.Author.Tests.{ltb-true, ltb-false}
use Rattle.octets.specs.Pick.{pick}
use Rattle.octets.proofs.Choice.{by_test}
use Rattle.ft_number.specs.Ack.{ack_of}
use Rattle.ft_number.specs.Circle.{after, steps_of}
use Rattle.protocol.specs.Phases.{count_of}
use Rattle.two_ends.specs.LeftOut.{positions, without}
use Rattle.two_ends.proofs.Gaps.{gap_secured, positions_below, without_same}
use Rattle.two_ends.proofs.Half.{Snd, Rcv, Gap, Books}
use Rattle.two_ends.proofs.Positions.{num, num-after, num-count, num_ack}

module _ {A : Type 0} where
  -- ---- the sender's view after an event
  abbrev pub accepts : A → Snd A → Snd A
  accepts m x = record { R = x.R; I = x.I; queue = x.queue ++ (m ∷ []); accepted = x.accepted ++ (m ∷ []); letgo = x.letgo; left = x.left }

  -- the message at that place is sent: it is numbered if it has no number
  abbrev pub issued_at : Snd A → ℕ → ℕ
  issued_at x place = pick (ltb place (count_of (steps_of x.R x.I))) x.I (after (place + 1) x.R)

  -- k messages behind those sent are passed over, and the next is sent
  abbrev pub issues : ℕ → ℕ → Snd A → Snd A
  issues sent k x = record {
    R = x.R;
    I = issued_at x (sent + k);
    queue = x.queue;
    accepted = x.accepted;
    letgo = x.letgo;
    left = x.left ++ positions (length x.letgo + sent) k;
  }

  -- an acknowledgement of n that releases k
  abbrev pub frees : ℕ → ℕ → Snd A → Snd A
  frees k n x = record { R = n; I = x.I; queue = drop k x.queue; accepted = x.accepted; letgo = x.letgo ++ take k x.queue; left = x.left }

  abbrev pub secures : ℕ → A → Rcv A → Rcv A
  secures n m y = record { S = n; secured = y.secured ++ (m ∷ []) }

  -- ---- a message at its place
  pub take_next : (acc t : List A) (s : ℕ) (m : A) → drop s acc ≡ m ∷ t → take (suc s) acc ≡ take s acc ++ (m ∷ [])
  take_next acc t s m e = ap (λ (z : ℕ). take z acc) (sym (add-one s)) ∙ take-add s 1 acc ∙ ap (λ (l : List A). take s acc ++ take 1 l) e

  pub drop-next : (acc t : List A) (s : ℕ) (m : A) → drop s acc ≡ m ∷ t → drop (suc s) acc ≡ t
  drop-next acc t s m e = ap (λ (z : ℕ). drop z acc) (sym (add-one s)) ∙ sym (drop-drop 1 s acc) ∙ ap (λ (l : List A). drop 1 l) e

  -- ---- what the books say
  module _ {x : Snd A} {y : Rcv A} {r i s : ℕ} (b : Books x y r i s) where
    pub held-length : length x.queue ≡ length x.accepted - r
    held-length = ap length b.que ∙ length-drop r x.accepted

    pub gone-length : length x.letgo ≡ r
    gone-length = ap length b.rel ∙ length-take-le r x.accepted (omega (arith, b.rs, b.si, b.ia))

    pub window : count_of (steps_of x.R x.I) ≡ i - r
    window = rw (b.is_r, b.is_i) (num-count r i (omega (arith, b.rs, b.si)) (omega (arith, b.ia, b.room)))

    pub numbered : (sent : ℕ) → after (sent + 1) x.R ≡ num (r + (sent + 1))
    numbered sent = rw b.is_r (num-after r (sent + 1))

    pub unsent : (sent : ℕ) (m : A) (ms : List A) → drop sent x.queue ≡ m ∷ ms → r + sent < length x.accepted
    unsent sent m ms e = omega (arith, held-length, length-drop sent x.queue, ap length e)

    pub place : (sent : ℕ) (m : A) (ms : List A) → drop sent x.queue ≡ m ∷ ms → drop (r + sent) x.accepted ≡ m ∷ drop (suc (r + sent)) x.accepted
    place sent m ms e =
        let d : drop (r + sent) x.accepted ≡ m ∷ ms = sym (drop-drop sent r x.accepted) ∙ ap (λ (l : List A). drop sent l) (sym b.que) ∙ e in
        d ∙ ap (λ (l : List A). m ∷ l) (sym (drop-next x.accepted ms (r + sent) m d))

    abbrev pub Issued : ℕ → ℕ → Type 0
    Issued sent z = (k : ℕ) × (z ≡ num k) × (i ≤ k) × (r + (sent + 1) ≤ k) × (k ≤ length x.accepted) × (r + sent ≡ i → k ≡ r + (sent + 1))

    pub issued : (sent : ℕ) → r + sent < length x.accepted → Issued sent (issued_at x sent)
    issued sent h =
        by_test (ltb sent (count_of (steps_of x.R x.I)))
        (λ t.
        let l : sent < count_of (steps_of x.R x.I) = ltb-true sent (count_of (steps_of x.R x.I)) t in
        rw t (i, b.is_i, omega arith, omega (arith, l, window), b.ia, λ q. absurd (omega (arith, l, window))))
        (λ t.
        let l : count_of (steps_of x.R x.I) ≤ sent = ltb-false sent (count_of (steps_of x.R x.I)) t in
        rw t (r + (sent + 1), numbered sent, omega (arith, l, window, b.rs, b.si), omega arith, omega arith, λ q. omega arith))

    -- an acknowledgement of a place that was secured is right
    pub ack_right : (n k : ℕ) → n ≡ num k → r ≤ k → k ≤ s → ack_of x.R x.I n ≡ Some (k - r)
    ack_right n k e h l = rw (b.is_r, b.is_i, e) (num_ack r i k h (omega (arith, b.si)) (omega (arith, b.ia, b.room)))

  -- ---- the books after it
  pub books_accept : {x : Snd A} {y : Rcv A} {r i s : ℕ} (m : A) → length x.queue < 64 → Books x y r i s → Books (accepts m x) y r i s
  books_accept {x} {y} {r} {i} {s} m h b =
      let lq = held-length b in
      let la = length-append x.accepted (m ∷ []) in
      let lr : r ≤ length x.accepted = omega (arith, b.rs, b.si, b.ia) in
      let ls : s ≤ length x.accepted = omega (arith, b.si, b.ia) in
      record {
        is_r = b.is_r;
        is_i = b.is_i;
        is_s = b.is_s;
        rel = b.rel ∙ sym (take-append-le r x.accepted (m ∷ []) lr);
        que = ap (λ (l : List A). l ++ (m ∷ [])) b.que ∙ sym (drop-append-le r x.accepted (m ∷ []) lr);
        sec = b.sec ∙ ap (λ (l : List A). without x.left 0 l) (sym (take-append-le s x.accepted (m ∷ []) ls));
        rs = b.rs;
        si = b.si;
        ia = omega (arith, la, b.ia);
        room = omega (arith, la, lq);
      }

  -- what is passed over lies behind what was secured
  pub books_issue : {x : Snd A} {y : Rcv A} {r i s : ℕ} (sent n : ℕ) (b : Books x y r i s) → s ≤ r + sent → (k : Issued b (sent + n) (issued_at x (sent + n)))
      → Books (issues sent n x) y r k.0 s
  books_issue {x} {y} {r} {i} {s} sent n b reached k = record {
    is_r = b.is_r;
    is_i = k.1;
    is_s = b.is_s;
    rel = b.rel;
    que = b.que;
    sec =
        b.sec
        ∙ sym (without_same x.left (x.left ++ positions (length x.letgo + sent) n) 0 (take s x.accepted) (λ j low high.
        positions_below x.left (length x.letgo + sent) n j (omega (arith, gone-length b, length-take-le s x.accepted (omega (arith, b.si, b.ia))))));
    rs = b.rs;
    si = omega (arith, b.si, k.2);
    ia = k.4;
    room = b.room;
  }

  pub books_free : {x : Snd A} {y : Rcv A} {r i s : ℕ} (b : Books x y r i s) (n k : ℕ) → n ≡ num k → r ≤ k → k ≤ s → Books (frees (k - r) n x) y k i s
  books_free {x} {y} {r} {i} {s} b n k e h l =
      let rk : r + (k - r) ≡ k = omega arith in
      record {
        is_r = e;
        is_i = b.is_i;
        is_s = b.is_s;
        rel = rw (b.rel, b.que) (sym (take-add r (k - r) x.accepted) ∙ ap (λ (z : ℕ). take z x.accepted) rk);
        que = rw b.que (drop-drop (k - r) r x.accepted ∙ ap (λ (z : ℕ). drop z x.accepted) rk);
        sec = b.sec;
        rs = l;
        si = b.si;
        ia = b.ia;
        room = omega (arith, b.room);
      }

  -- the oldest of the line, whatever was left out before it
  pub books_secure : {x : Snd A} {y : Rcv A} {r i s : ℕ} (b : Books x y r i s) (n : ℕ) (m : A) (g : Gap x.left x.accepted s n m) → suc (s + g.k) ≤ i
      → Books x (secures n m y) r i (suc (s + g.k))
  books_secure {x} {y} {r} {i} {s} b n m g h = record {
    is_r = b.is_r;
    is_i = b.is_i;
    is_s = g.number;
    rel = b.rel;
    que = b.que;
    sec = ap (λ (l : List A). l ++ (m ∷ [])) b.sec ∙ sym (gap_secured x.left x.accepted s n m g);
    rs = omega (arith, b.rs);
    si = h;
    ia = b.ia;
    room = b.room;
  }
