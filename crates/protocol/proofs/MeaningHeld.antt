-- A message of some kind and label is held exactly where one stands in the queue. Assumes nothing.
use Rattle.std.specs.Prelude.{Result, Ok, Err}
use Prim.Native.Nat.{ℕ, zero, suc, ◌<◌}
use mathlib.Core.Bool.{true, false≢true}
use mathlib.Core.List.{List, [], ◌∷◌}
use mathlib.Core.Path.{◌≡◌, refl}
use native.Mathlib.Omega.{arith}
use lib.Dec.{eqb}
use lib.ListN.{length, get_or}
use borrow.Author.Tests.{eq-eqb, eqb-true}
use Rattle.octets.proofs.Choice.{by_test, both_true}
use Rattle.message.specs.declared.Kind.{Kind}
use Rattle.message.specs.declared.SubmissionError.{SubmissionError}
use Rattle.message.specs.Kinds.{kind_number}
use Rattle.message.specs.Storable.{bears}
use Rattle.message.specs.Submission.{submission_of}
use Rattle.protocol.specs.Accepting.{is_barred}
use Rattle.protocol.specs.Held.{is_held}
use Rattle.protocol.specs.MeaningHeld.{HeldSomewhere, BarredBy, by_withdraw, by_release}

module _ (kind label : ℕ) where
  -- ---- one message
  first_held : (m : List ℕ) (ms : List (List ℕ)) (j : Result (Kind × ℕ) SubmissionError) → submission_of m ≡ j → bears j kind label ≡ true → HeldSomewhere (m ∷ ms) kind label
  first_held m ms (Err SubmissionError.Malformed) e t = absurd (false≢true t)
  first_held m ms (Err SubmissionError.Refused) e t = absurd (false≢true t)
  first_held m ms (Ok (k, l)) e t =
      let p = both_true (eqb (kind_number k) kind) (eqb l label) t in
      let same : l ≡ label = eqb-true l label p.1 in
      record { place = 0; inside = omega arith; type = k; accepted = rw same at e; same = eqb-true (kind_number k) kind p.0 }

  -- ---- all of them
  pub held_means : (q : List (List ℕ)) → is_held kind label q ≡ true → HeldSomewhere q kind label
  unfolding is_held
  held_means [] e = absurd (false≢true e)
  held_means (m ∷ ms) e =
      by_test (bears (submission_of m) kind label)
      (λ t. first_held m ms (submission_of m) refl t)
      (λ f.
      let h : HeldSomewhere ms kind label = held_means ms (rw f at e) in
      record { place = suc h.place; inside = omega (arith, h.inside); type = h.type; accepted = h.accepted; same = h.same })

  found_at : (q : List (List ℕ)) (place : ℕ) → place < length q → (k : Kind) → submission_of (get_or q place []) ≡ Ok (k, label) → kind_number k ≡ kind → is_held kind label q ≡ true
  unfolding is_held
  found_at [] place l k e s = absurd (omega arith)
  found_at (m ∷ ms) zero l k e s = rw (e, eq-eqb (kind_number k) kind s, eq-eqb label label refl)
  found_at (m ∷ ms) (suc i) l k e s = by_test (bears (submission_of m) kind label) (λ t. rw t) (λ f. rw f (found_at ms i (omega arith) k e s))

  -- and back
  pub means_held : (q : List (List ℕ)) → HeldSomewhere q kind label → is_held kind label q ≡ true
  means_held q h = found_at q h.place h.inside h.type h.accepted h.same

-- ---- what bars a submission
pub barred_means : (q : List (List ℕ)) (kind : Kind) (label : ℕ) → is_barred q kind label ≡ true → BarredBy q kind label
unfolding is_barred
barred_means q Kind.Mapping label e = absurd (false≢true e)
barred_means q Kind.Withdraw label e = by_withdraw (held_means 2 label q e)
barred_means q Kind.Release label e = by_release (held_means 3 label q e)
barred_means q Kind.Address label e = absurd (false≢true e)
barred_means q Kind.AddressWithdraw label e = absurd (false≢true e)
barred_means q Kind.ResourcesAvailable label e = absurd (false≢true e)
barred_means q (Kind.Request id) label e = absurd (false≢true e)
barred_means q (Kind.Abort id) label e = absurd (false≢true e)
barred_means q Kind.NoResources label e = absurd (false≢true e)
barred_means q Kind.NoKind label e = absurd (false≢true e)

-- and back
pub means_barred : (q : List (List ℕ)) {kind : Kind} {label : ℕ} → BarredBy q kind label → is_barred q kind label ≡ true
unfolding is_barred
means_barred q (by_withdraw {label} h) = means_held 2 label q h
means_barred q (by_release {label} h) = means_held 3 label q h
