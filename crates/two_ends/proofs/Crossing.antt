-- What is under way of one label: the Mappings and Withdraws of its giver, by the codes that they find at its user, and the Releases of its user. Assumes nothing.
use Rattle.std.specs.Prelude.{Result, Ok, Err}
use Prim.Native.Nat.{ℕ, ◌+◌}
use mathlib.Core.Bool.{Bool, true, false, not, true≢false}
use mathlib.Core.List.{List, [], ◌∷◌, ◌++◌}
use mathlib.Core.Logic.{⊎_elim}
use mathlib.Core.Path.{◌≡◌, refl, sym, ap, ◌∙◌}
use native.Mathlib.Omega.{arith}
use lib.Dec.{eqb}
use borrow.Author.Tests.{eqb-true, eq-eqb}
use Rattle.octets.specs.Pick.{pick, both}
use Rattle.octets.proofs.Choice.{by_test, both_true, no, pick_all}
use Rattle.label_list.specs.declared.LabelMessage.{LabelMessage}
use Rattle.label_list.specs.Rules.{code_received}
use Rattle.message.specs.declared.Kind.{Kind}
use Rattle.message.specs.declared.SubmissionError.{SubmissionError}
use Rattle.message.specs.Storable.{bears}
use Rattle.message.specs.Submission.{submission_of}
use Rattle.two_ends.specs.Agree.{code_by, code_after}
use Rattle.two_ends.specs.Match.{Rule, offered-free, released-asked}
use Rattle.two_ends.proofs.Codes.{five-zero_by}
use Rattle.two_ends.proofs.NoRequests.{by_request, is_request, no_requests}

-- ---- what a message is to a label
pub data Meant (l : ℕ) : Result (Kind × ℕ) SubmissionError → Type 0 where
  a-mapping : Meant l (Ok (Kind.Mapping, l))
  a-withdraw : Meant l (Ok (Kind.Withdraw, l))
  a-release : Meant l (Ok (Kind.Release, l))
  nothing : {j : Result (Kind × ℕ) SubmissionError} → bears j 1 l ≡ false → bears j 2 l ≡ false → bears j 3 l ≡ false → ((c : ℕ) → code_by l c j ≡ c) → Meant l j

pub meant : (l : ℕ) (j : Result (Kind × ℕ) SubmissionError) → Meant l j
meant l (Err SubmissionError.Malformed) = nothing refl refl refl (λ c. refl)
meant l (Err SubmissionError.Refused) = nothing refl refl refl (λ c. refl)
meant l (Ok (Kind.Mapping, k)) = by_test (eqb k l) (λ t. rw (eqb-true k l t) a-mapping) (λ f. nothing f refl refl (λ c. rw f))
meant l (Ok (Kind.Withdraw, k)) = by_test (eqb k l) (λ t. rw (eqb-true k l t) a-withdraw) (λ f. nothing refl f refl (λ c. rw f))
meant l (Ok (Kind.Release, k)) = by_test (eqb k l) (λ t. rw (eqb-true k l t) a-release) (λ f. nothing refl refl f (λ c. refl))
meant l (Ok (Kind.Address, k)) = nothing refl refl refl (λ c. refl)
meant l (Ok (Kind.AddressWithdraw, k)) = nothing refl refl refl (λ c. refl)
meant l (Ok (Kind.ResourcesAvailable, k)) = nothing refl refl refl (λ c. refl)
meant l (Ok (Kind.Request id, k)) = nothing refl refl refl (λ c. refl)
meant l (Ok (Kind.Abort id, k)) = nothing refl refl refl (λ c. refl)
meant l (Ok (Kind.NoResources, k)) = nothing refl refl refl (λ c. refl)
meant l (Ok (Kind.NoKind, k)) = nothing refl refl refl (λ c. refl)

-- ---- the Releases of a label
abbrev pub one_release : ℕ → Result (Kind × ℕ) SubmissionError → ℕ
one_release l j = pick (bears j 3 l) 1 0

abbrev pub releases : ℕ → List (List ℕ) → ℕ
releases l [] = 0
releases l (m ∷ ms) = one_release l (submission_of m) + releases l ms

pub releases_snoc : (l : ℕ) (ms : List (List ℕ)) (m : List ℕ) → releases l (ms ++ (m ∷ [])) ≡ releases l ms + one_release l (submission_of m)
releases_snoc l [] m = omega arith
releases_snoc l (x ∷ ms) m = omega (arith, releases_snoc l ms m)

pub no_requests-releases : (l : ℕ) (ms : List (List ℕ)) → releases l (no_requests ms) ≡ releases l ms
no_requests-releases l [] = refl
no_requests-releases l (m ∷ ms) =
    by_test (is_request m)
    (λ t.
    let none : one_release l (submission_of m) ≡ 0 = by_request (λ (x : Result (Kind × ℕ) SubmissionError). one_release l x ≡ 0) (submission_of m) (λ id n. refl) t in
    rw (t, none) (no_requests-releases l ms ∙ omega arith))
    (λ f. rw f (ap (λ (n : ℕ). one_release l (submission_of m) + n) (no_requests-releases l ms)))

-- ---- by the rule each Mapping under way finds the label absent or releasing; or, by the other, anything but asked back
abbrev pub may_find : Rule → ℕ → Bool
may_find offered-free c = pick (eqb c 0) true (eqb c 5)
may_find released-asked c = not (eqb c 4)

abbrev clean_by : Rule → ℕ → ℕ → Result (Kind × ℕ) SubmissionError → Bool
clean_by rule l c j = pick (bears j 1 l) (may_find rule c) true

abbrev pub clean : Rule → ℕ → ℕ → List (List ℕ) → Bool
clean rule l c [] = true
clean rule l c (m ∷ ms) = both (clean_by rule l c (submission_of m)) (clean rule l (code_by l c (submission_of m)) ms)

pub clean_snoc : (rule : Rule) (l c : ℕ) (ms : List (List ℕ)) (m : List ℕ) → clean rule l c ms ≡ true → clean_by rule l (code_after l c ms) (submission_of m) ≡ true → clean rule l c (ms ++ (m ∷ [])) ≡ true
clean_snoc rule l c [] m e f = rw f
clean_snoc rule l c (x ∷ ms) m e f =
    let p = both_true (clean_by rule l c (submission_of x)) (clean rule l (code_by l c (submission_of x)) ms) e in
    rw p.0 (clean_snoc rule l (code_by l c (submission_of x)) ms m p.1 f)

pub clean-rest : (rule : Rule) (l c : ℕ) (m : List ℕ) (ms : List (List ℕ)) → clean rule l c (m ∷ ms) ≡ true → clean rule l (code_by l c (submission_of m)) ms ≡ true
clean-rest rule l c m ms e = (both_true (clean_by rule l c (submission_of m)) (clean rule l (code_by l c (submission_of m)) ms) e).1

pub no_requests-clean : (rule : Rule) (l c : ℕ) (ms : List (List ℕ)) → clean rule l c (no_requests ms) ≡ clean rule l c ms
no_requests-clean rule l c [] = refl
no_requests-clean rule l c (m ∷ ms) =
    by_test (is_request m)
    (λ t.
    let same : (code_by l c (submission_of m) ≡ c) × (clean_by rule l c (submission_of m) ≡ true) =
    by_request (λ (x : Result (Kind × ℕ) SubmissionError). (code_by l c x ≡ c) × (clean_by rule l c x ≡ true)) (submission_of m) (λ id n. (refl, refl)) t in
    rw (t, same.0, same.1) (no_requests-clean rule l c ms))
    (λ f. rw f (ap (both (clean_by rule l c (submission_of m))) (no_requests-clean rule l (code_by l c (submission_of m)) ms)))

-- ---- a label that is in use or asked back at its user, of which no Mapping may be under way
pub data Taken (rule : Rule) : ℕ → Type 0 where
  in_use : rule ≡ offered-free → Taken rule 3
  asked : Taken rule 4

pub data Gone : ℕ → Type 0 where
  absent : Gone 0
  releasing : Gone 5

taken_found : (rule : Rule) {c : ℕ} → Taken rule c → may_find rule c ≡ false
taken_found offered-free (in_use e) = refl
taken_found offered-free asked = refl
taken_found released-asked (in_use e) = no cc
taken_found released-asked asked = refl

pub gone_found : (rule : Rule) {c : ℕ} → Gone c → may_find rule c ≡ true
gone_found offered-free absent = refl
gone_found offered-free releasing = refl
gone_found released-asked absent = refl
gone_found released-asked releasing = refl

-- a Withdraw leaves it so
taken_withdrawn : {rule : Rule} {c : ℕ} → Taken rule c → code_received LabelMessage.Withdraw true c ≡ 4
unfolding code_received
taken_withdrawn (in_use e) = refl
taken_withdrawn asked = refl

pub gone_withdrawn : {c : ℕ} → Gone c → code_received LabelMessage.Withdraw true c ≡ c
unfolding code_received
gone_withdrawn absent = refl
gone_withdrawn releasing = refl

pub gone_mapped : {c : ℕ} → Gone c → code_received LabelMessage.Mapping true c ≡ 3
unfolding code_received
gone_mapped absent = refl
gone_mapped releasing = refl

-- so once the user has released it, nothing that is under way takes it up again
pub record Unmapped (rule : Rule) (l c d : ℕ) (ms : List (List ℕ)) : Type 0 where
  pub before : Taken rule (code_after l c ms)
  pub after : code_after l d ms ≡ d
  pub clean : clean rule l d ms ≡ true

module _ (rule : Rule) (l : ℕ) where
  one_unmapped : {j : Result (Kind × ℕ) SubmissionError} {c d : ℕ} → Meant l j → Taken rule c → Gone d → clean_by rule l c j ≡ true → Taken rule (code_by l c j) × (code_by l d j ≡ d) × (clean_by rule l d j ≡ true)
  one_unmapped a-mapping t g e = absurd (true≢false (sym e ∙ rw (eq-eqb l l refl) (taken_found rule t)))
  one_unmapped a-withdraw t g e = (rw (eq-eqb l l refl, taken_withdrawn t) asked, rw (eq-eqb l l refl) (gone_withdrawn g), refl)
  one_unmapped a-release t g e = (t, refl, refl)
  one_unmapped {j} {c} {d} (nothing mapping withdraw release same) t g e = (rw (same c) t, same d, rw mapping)

  pub unmapped : (c d : ℕ) (ms : List (List ℕ)) → Taken rule c → Gone d → clean rule l c ms ≡ true → Unmapped rule l c d ms
  unmapped c d [] t g e = record { before = t; after = refl; clean = refl }
  unmapped c d (m ∷ ms) t g e =
      let p = both_true (clean_by rule l c (submission_of m)) (clean rule l (code_by l c (submission_of m)) ms) e in
      let o = one_unmapped (meant l (submission_of m)) t g p.0 in
      let rest = unmapped (code_by l c (submission_of m)) d ms o.0 g p.1 in
      record { before = rest.before; after = rw o.1 rest.after; clean = rw (o.2, o.1) rest.clean }

  -- a label that is releasing and becomes absent: every Mapping finds it as well
  gone-clean : {d : ℕ} (j : Result (Kind × ℕ) SubmissionError) → Gone d → clean_by rule l d j ≡ true
  gone-clean j g = pick_all (λ (b : Bool). b ≡ true) (bears j 1 l) (gone_found rule g) refl

  pub five-zero-clean : (ms : List (List ℕ)) → clean rule l 5 ms ≡ true → clean rule l 0 ms ≡ true
  five-zero-clean [] e = refl
  five-zero-clean (m ∷ ms) e =
      let j = submission_of m in
      let rest = (both_true (clean_by rule l 5 j) (clean rule l (code_by l 5 j) ms) e).1 in
      rw (gone-clean j absent)
      (⊎_elim
      (λ (x : (code_by l 5 j ≡ 5) × (code_by l 0 j ≡ 0)). rw x.1 (five-zero-clean ms (rw x.0 at rest)))
      (λ (x : code_by l 5 j ≡ code_by l 0 j). rw x at rest)
      (five-zero_by l j))
