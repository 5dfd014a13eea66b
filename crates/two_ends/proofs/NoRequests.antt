-- Of a list of messages those that are no Requests: what a Send leaves out changes nothing of these, and Requests move no label and stop nothing. Assumes nothing.
use Rattle.std.specs.Prelude.{Result, Ok, Err}
use Prim.Native.Nat.{ℕ, suc, ◌+◌}
use mathlib.Core.Bool.{Bool, true, false, false≢true}
use mathlib.Core.List.{List, [], ◌∷◌, ◌++◌}
use mathlib.Core.Path.{◌≡◌, refl}
use native.Mathlib.Omega.{arith}
use lib.ListN.{drop}
use Rattle.octets.specs.Pick.{pick}
use Rattle.octets.proofs.Choice.{by_test}
use Rattle.ft_number.specs.declared.MessageId.{MessageId}
use Rattle.message.specs.declared.Kind.{Kind}
use Rattle.message.specs.declared.SubmissionError.{SubmissionError}
use Rattle.message.specs.Storable.{bears}
use Rattle.message.specs.Submission.{submission_of}
use Rattle.protocol.specs.Accepting.{asks}
use Rattle.protocol.specs.Held.{is_held}
use Rattle.protocol.specs.LeftOut.{is_undone, kind_held}
use Rattle.protocol.proofs.PassedOver.{undone-request}
use Rattle.two_ends.specs.Agree.{code_after, code_by}
use Rattle.two_ends.specs.LeftOut.{is_left, without}
use Rattle.two_ends.specs.Stops.{stop_by, stop_in}
use Rattle.two_ends.specs.World.{History}

-- what an end accepted, without what it left out
abbrev pub accepted_in : History → List (List ℕ)
accepted_in h = without h.left 0 h.accepted

abbrev pub with_left : List ℕ → History → History
with_left left h = record { accepted = h.accepted; letgo = h.letgo; secured = h.secured; left = left }

-- a Request
abbrev pub is_request : List ℕ → Bool
is_request m = asks (kind_held (submission_of m))

abbrev pub no_requests : List (List ℕ) → List (List ℕ)
no_requests [] = []
no_requests (m ∷ ms) = pick (is_request m) (no_requests ms) (m ∷ no_requests ms)

pub no_requests-append : (xs ys : List (List ℕ)) → no_requests (xs ++ ys) ≡ no_requests xs ++ no_requests ys
no_requests-append [] ys = refl
no_requests-append (m ∷ xs) ys = by_test (is_request m) (λ t. rw (t, no_requests-append xs ys)) (λ f. rw (f, no_requests-append xs ys))

undone-asks : (m : List ℕ) (ms : List (List ℕ)) → is_undone (m ∷ ms) ≡ true → is_request m ≡ true
undone-asks m ms e = undone-request (λ k. asks k ≡ true) m ms (λ id a. refl) e

-- what is left out are Requests
pub no_requests-without : (left : List ℕ) (p : ℕ) (xs : List (List ℕ)) → ((j : ℕ) → is_left left (p + j) ≡ true → is_undone (drop j xs) ≡ true) → no_requests (without left p xs) ≡ no_requests xs
no_requests-without left p [] h = refl
no_requests-without left p (m ∷ xs) h =
    let rest = no_requests-without left (suc p) xs (λ j e. let q : suc p + j ≡ p + suc j = omega arith in h (suc j) (rw q at e)) in
    let here : p + 0 ≡ p = omega arith in
    by_test (is_left left p)
    (λ t. rw (t, undone-asks m xs (h 0 (rw here t)), rest))
    (λ f. rw (f, rest))

pub no_requests-left : (left : List ℕ) (xs : List (List ℕ)) → ((j : ℕ) → is_left left j ≡ true → is_undone (drop j xs) ≡ true) → no_requests (without left 0 xs) ≡ no_requests xs
no_requests-left left xs h = no_requests-without left 0 xs (λ j e. let q : 0 + j ≡ j = omega arith in h j (rw q at e))

-- ---- Requests move no label, are no Release and stop nothing
by_asks : (P : Kind → Type 0) (k : Kind) → ((id : MessageId) → P (Kind.Request id)) → asks k ≡ true → P k
by_asks P Kind.Mapping r e = absurd (false≢true e)
by_asks P Kind.Withdraw r e = absurd (false≢true e)
by_asks P Kind.Release r e = absurd (false≢true e)
by_asks P Kind.Address r e = absurd (false≢true e)
by_asks P Kind.AddressWithdraw r e = absurd (false≢true e)
by_asks P Kind.ResourcesAvailable r e = absurd (false≢true e)
by_asks P (Kind.Request id) r e = r id
by_asks P (Kind.Abort id) r e = absurd (false≢true e)
by_asks P Kind.NoResources r e = absurd (false≢true e)
by_asks P Kind.NoKind r e = absurd (false≢true e)

pub by_request : (P : Result (Kind × ℕ) SubmissionError → Type 0) (x : Result (Kind × ℕ) SubmissionError) → ((id : MessageId) (n : ℕ) → P (Ok (Kind.Request id, n))) → asks (kind_held x) ≡ true → P x
by_request P (Err SubmissionError.Malformed) r e = absurd (false≢true e)
by_request P (Err SubmissionError.Refused) r e = absurd (false≢true e)
by_request P (Ok (k, n)) r e = by_asks (λ (k : Kind). P (Ok (k, n))) k (λ id. r id n) e

pub no_requests-code : (l c : ℕ) (ms : List (List ℕ)) → code_after l c (no_requests ms) ≡ code_after l c ms
no_requests-code l c [] = refl
no_requests-code l c (m ∷ ms) =
    by_test (is_request m)
    (λ t.
    let same : code_by l c (submission_of m) ≡ c = by_request (λ (x : Result (Kind × ℕ) SubmissionError). code_by l c x ≡ c) (submission_of m) (λ id n. refl) t in
    rw (t, same) (no_requests-code l c ms))
    (λ f. rw f (no_requests-code l (code_by l c (submission_of m)) ms))

pub no_requests-held : (l : ℕ) (ms : List (List ℕ)) → is_held 3 l (no_requests ms) ≡ is_held 3 l ms
unfolding is_held
no_requests-held l [] = refl
no_requests-held l (m ∷ ms) =
    by_test (is_request m)
    (λ t.
    let none : bears (submission_of m) 3 l ≡ false = by_request (λ (x : Result (Kind × ℕ) SubmissionError). bears x 3 l ≡ false) (submission_of m) (λ id n. refl) t in
    rw (t, none) (no_requests-held l ms))
    (λ f. rw (f, no_requests-held l ms))

pub no_requests_stop : (stop : Bool) (ms : List (List ℕ)) → stop_in stop (no_requests ms) ≡ stop_in stop ms
no_requests_stop stop [] = refl
no_requests_stop stop (m ∷ ms) =
    by_test (is_request m)
    (λ t.
    let same : stop_by stop (submission_of m) ≡ stop = by_request (λ (x : Result (Kind × ℕ) SubmissionError). stop_by stop x ≡ stop) (submission_of m) (λ id n. refl) t in
    rw (t, same) (no_requests_stop stop ms))
    (λ f. rw f (no_requests_stop (stop_by stop (submission_of m)) ms))
