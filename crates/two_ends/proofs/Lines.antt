-- Messages and acknowledgements under way, event by event. Assumes nothing.
use Prim.Native.Nat.{ℕ, suc, ◌+◌, ◌<◌, ◌≤◌}
use mathlib.Core.Bool.{Bool, true, false}
use mathlib.Core.List.{List, [], ◌∷◌, ◌++◌}
use mathlib.Core.Path.{◌≡◌, refl, ◌∙◌}
use native.Mathlib.Omega.{arith}
use lib.ListN.{length}
use lib.Seq.{drop-append-le}
use Rattle.two_ends.specs.LeftOut.{is_left}
use Rattle.two_ends.proofs.Half.{Gap, Flow, Asc, Rest, Line}
use Rattle.two_ends.proofs.Positions.{num}

-- ---- acknowledgements under way
pub asc_le : (r : ℕ) (xs : List ℕ) (s : ℕ) → Asc r xs s → r ≤ s
asc_le r [] s h = h
asc_le r (x ∷ xs) s h = omega (arith, asc_le h.0 xs s h.3)

asc_up : (r : ℕ) (xs : List ℕ) (s t : ℕ) → s ≤ t → Asc r xs s → Asc r xs t
asc_up r [] s t h l = omega arith
asc_up r (x ∷ xs) s t h l = (l.0, l.1, l.2, asc_up l.0 xs s t h l.3)

asc_snoc : (r : ℕ) (xs : List ℕ) (s : ℕ) → Asc r xs s → Asc r (xs ++ (num s ∷ [])) s
asc_snoc r [] s h = (s, refl, h, omega arith)
asc_snoc r (x ∷ xs) s h = (h.0, h.1, h.2, asc_snoc h.0 xs s h.3)

-- ---- messages under way
module _ {A : Type 0} where
  -- a line ends where it ends
  pub flow_end : (left : List ℕ) (acc : List A) (s : ℕ) (ds : List (ℕ × A)) (e : ℕ) → Flow left acc s ds e → s + length ds ≤ e
  flow_end left acc s [] e f = omega arith
  flow_end left acc s (d ∷ ds) e f = let r = flow_end left acc (suc (s + f.0.k)) ds e f.1 in omega arith

  -- one more is accepted
  pub flow_grow : (left : List ℕ) (acc : List A) (m : A) (s : ℕ) (ds : List (ℕ × A)) (e : ℕ) → e ≤ length acc → Flow left acc s ds e → Flow left (acc ++ (m ∷ [])) s ds e
  flow_grow left acc m s [] e h f = f
  flow_grow left acc m s (d ∷ ds) e h f =
      let g = f.0 in
      let below = flow_end left acc (suc (s + g.k)) ds e f.1 in
      let h1 : s + g.k ≤ length acc = omega arith in
      let h2 : suc (s + g.k) ≤ length acc = omega arith in (
        record {
          k = g.k;
          skipped = g.skipped;
          borne = g.borne;
          number = g.number;
          place = rw (drop-append-le (s + g.k), drop-append-le (suc (s + g.k)), g.place);
        },
        flow_grow left acc m (suc (s + g.k)) ds e h f.1,
      )

  -- one more is sent, past some that are left out from now on
  pub flow_snoc : (left : List ℕ) (acc : List A) (s : ℕ) (ds : List (ℕ × A)) (e n : ℕ) (m : A) (g : Gap left acc e n m) → Flow left acc s ds e
      → Flow left acc s (ds ++ ((n, m) ∷ [])) (suc (e + g.k))
  flow_snoc left acc s [] e n m g f = rw f (g, refl)
  flow_snoc left acc s (d ∷ ds) e n m g f = (f.0, flow_snoc left acc (suc (s + f.0.k)) ds e n m g f.1)

  -- marks at the end of the line and behind it do not matter to what is under way
  pub flow_marks : (left now : List ℕ) (acc : List A) (s : ℕ) (ds : List (ℕ × A)) (e : ℕ) → ((i : ℕ) → i < e → is_left now i ≡ is_left left i) → Flow left acc s ds e → Flow now acc s ds e
  flow_marks left now acc s [] e h f = f
  flow_marks left now acc s (d ∷ ds) e h f =
      let g = f.0 in
      let below = flow_end left acc (suc (s + g.k)) ds e f.1 in (
        record {
          k = g.k;
          skipped = λ j l. h (s + j) (omega arith) ∙ g.skipped j l;
          borne = h (s + g.k) (omega arith) ∙ g.borne;
          number = g.number;
          place = g.place;
        },
        flow_marks left now acc (suc (s + g.k)) ds e h f.1,
      )

  -- an empty one
  pub flow_empty : (left : List ℕ) (acc : List A) (s : ℕ) (ds : List (ℕ × A)) (e : ℕ) → length ds ≡ 0 → Flow left acc s ds e → s ≡ e
  flow_empty left acc s [] e n f = f
  flow_empty left acc s (d ∷ ds) e n f = absurd (omega arith)

-- ---- the line
module _ (left : List ℕ) (r s e i sent : ℕ) where
  -- the peer says what it secured
  pub line_snoc : (up jo re : Bool) (n : ℕ) (acks : List ℕ) → Line up jo re left r s e i sent n acks → Line up jo re left r s e i sent n (acks ++ (num s ∷ []))
  line_snoc false jo re n acks l = record { none = l.none; rising = asc_snoc s acks s l.rising }
  line_snoc true false re n acks l = record { none = l.none; rising = asc_snoc s acks s l.rising; reached = l.reached }
  line_snoc true true re n acks l = record { all = l.all; rising = asc_snoc r acks s l.rising; first = l.first }

  -- what was accepted later is no part of it
  pub line_end : (up jo re : Bool) {A : Type 0} (acc : List A) (ds : List (ℕ × A)) (acks : List ℕ) → s ≤ i → r + sent ≤ i → Flow left acc s ds e
      → Line up jo re left r s e i sent (length ds) acks → e ≤ i
  line_end false jo re acc ds acks si ri f l = omega (arith, flow_empty left acc s ds e l.none f)
  line_end true false re acc ds acks si ri f l = omega (arith, flow_empty left acc s ds e l.none f)
  line_end true true re acc ds acks si ri f l = omega (arith, l.all)

  -- a message of it is secured, up to position t
  pub line_secure : (up jo re : Bool) (n : ℕ) (acks : List ℕ) (t : ℕ) → s ≤ t → t ≤ e → Line up jo re left r s e i sent (suc n) acks
      → (t ≤ r + sent) × Line up jo re left r t e i sent n acks
  line_secure false jo re n acks t st te l = absurd (omega (arith, l.none))
  line_secure true false re n acks t st te l = absurd (omega (arith, l.none))
  line_secure true true re n acks t st te l = (omega (arith, l.all), record { all = l.all; rising = asc_up r acks s t st l.rising; first = l.first })

  -- the connection is lost
  pub line-lost : (up jo re : Bool) {A : Type 0} (acc : List A) (ds : List (ℕ × A)) (acks : List ℕ) → Flow left acc s ds e
      → Line up jo re left r s e i sent (length ds) acks → Line up false re left r s s i sent 0 []
  line-lost false jo re acc ds acks f l = record { none = refl; rising = omega arith }
  line-lost true false re acc ds acks f l = record { none = refl; rising = omega arith; reached = l.reached }
  line-lost true true re acc ds acks f l = record { none = refl; rising = omega arith; reached = omega (arith, l.all, flow_end left acc s ds e f) }

  -- a sender that is not on the connection counts from the oldest again
  pub line-rest : (up re : Bool) (n : ℕ) (acks : List ℕ) → Line up false re left r s e i sent n acks → Rest s n acks
  line-rest false re n acks l = l
  line-rest true re n acks l = record { none = l.none; rising = l.rising }
