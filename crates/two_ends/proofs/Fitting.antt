-- The codes of one label at its giver and at its user, with what is under way of it, after each event at one of them. Assumes nothing.
use Rattle.std.specs.Prelude.{Result, Ok}
use Prim.Native.Nat.{ℕ, ◌+◌}
use mathlib.Core.Bool.{true, false, true≢false}
use mathlib.Core.List.{List, [], ◌∷◌, ◌++◌}
use mathlib.Core.Logic.{◌≢◌, ◌⊎◌, ⊎_elim}
use mathlib.Core.Path.{◌≡◌, refl, sym, ◌∙◌}
use native.Mathlib.Omega.{arith}
use borrow.Author.Tests.{eq-eqb}
use Rattle.octets.specs.Pick.{pick}
use Rattle.octets.proofs.Choice.{by_test}
use Rattle.label_list.specs.declared.LabelMessage.{LabelMessage}
use Rattle.label_list.specs.Rules.{code_received}
use Rattle.message.specs.declared.Kind.{Kind}
use Rattle.message.specs.declared.SubmissionError.{SubmissionError}
use Rattle.message.specs.Storable.{bears}
use Rattle.message.specs.Submission.{submission_of}
use Rattle.two_ends.specs.Agree.{code_by, code_after}
use Rattle.two_ends.specs.Match.{Rule, offered-free, released-asked}
use Rattle.two_ends.proofs.Allowing.{GivenStep, UsedStep, given_kept, offered, released, returned, used_kept, withdrawn}
use Rattle.two_ends.proofs.Codes.{after_snoc, five-zero-after}
use Rattle.two_ends.proofs.Crossing.{Gone, Meant, Taken, a-mapping, a-release, a-withdraw, absent, asked, clean, clean-rest, clean_snoc, five-zero-clean, gone_found, gone_mapped, gone_withdrawn, in_use, may_find, meant, nothing, one_release, releases, releases_snoc, releasing, unmapped}

-- the code at the giver, the code at the user once the giver's messages have come, and how many Releases of the label are under way
pub data Codes (rule : Rule) : ℕ → ℕ → ℕ → Type 0 where
  free : {u : ℕ} → Gone u → Codes rule 0 u 0
  came_back : {u : ℕ} → Gone u → Codes rule 9 u 0
  held : Codes rule 1 3 0
  held_back : {u : ℕ} → rule ≡ offered-free → Gone u → Codes rule 1 u 1
  leaving : Codes rule 2 4 0
  leaving_back : {u : ℕ} → Gone u → Codes rule 2 u 1
  awaited : Codes rule 8 4 0
  awaited_back : {u : ℕ} → Gone u → Codes rule 8 u 1

-- the label l, its code c at the giver and d at the user; what the giver accepted and the user has not secured, and the other way
pub record Fits (rule : Rule) (l c d : ℕ) (out back : List (List ℕ)) : Type 0 where
  pub codes : Codes rule c (code_after l d out) (releases l back)
  pub tidy : clean rule l d out ≡ true

-- ---- the giver accepts a message
kept_code : {l : ℕ} {j : Result (Kind × ℕ) SubmissionError} → Meant l j → bears j 1 l ≡ false → bears j 2 l ≡ false → (c : ℕ) → code_by l c j ≡ c
kept_code {l} a-mapping a b c = absurd (true≢false (sym (eq-eqb l l refl) ∙ a))
kept_code {l} a-withdraw a b c = absurd (true≢false (sym (eq-eqb l l refl) ∙ b))
kept_code a-release a b c = refl
kept_code (nothing x y z same) a b c = same c

abbrev pub Free : Rule → Result (Kind × ℕ) SubmissionError → ℕ → ℕ → Type 0
Free rule j l c = rule ≡ offered-free → j ≡ Ok (Kind.Mapping, l) → c ≢ 1

-- a Mapping, where the giver may offer the label; a Withdraw of one that is given
offer-codes : {rule : Rule} {c u n : ℕ} → (c ≡ 0) ⊎ (c ≡ 1) → (rule ≡ offered-free → c ≢ 1) → Codes rule c u n → Codes rule 1 (code_received LabelMessage.Mapping true u) n × (may_find rule u ≡ true)
unfolding code_received
offer-codes {rule} low may (free g) = (rw (gone_mapped g) held, gone_found rule g)
offer-codes low may (came_back g) = ⊎_elim (λ (z : ◌≡◌ {A = ℕ} 9 0). absurd (omega arith)) (λ (z : ◌≡◌ {A = ℕ} 9 1). absurd (omega arith)) low
offer-codes {rule} low may held = (held, again rule may)
  where
    again : (rule : Rule) → (rule ≡ offered-free → ◌≢◌ {A = ℕ} 1 1) → may_find rule 3 ≡ true
    again offered-free may = absurd (may refl refl)
    again released-asked may = refl
offer-codes low may (held_back e g) = absurd (may e refl)
offer-codes low may leaving = ⊎_elim (λ (z : ◌≡◌ {A = ℕ} 2 0). absurd (omega arith)) (λ (z : ◌≡◌ {A = ℕ} 2 1). absurd (omega arith)) low
offer-codes low may (leaving_back g) = ⊎_elim (λ (z : ◌≡◌ {A = ℕ} 2 0). absurd (omega arith)) (λ (z : ◌≡◌ {A = ℕ} 2 1). absurd (omega arith)) low
offer-codes low may awaited = ⊎_elim (λ (z : ◌≡◌ {A = ℕ} 8 0). absurd (omega arith)) (λ (z : ◌≡◌ {A = ℕ} 8 1). absurd (omega arith)) low
offer-codes low may (awaited_back g) = ⊎_elim (λ (z : ◌≡◌ {A = ℕ} 8 0). absurd (omega arith)) (λ (z : ◌≡◌ {A = ℕ} 8 1). absurd (omega arith)) low

withdraw-codes : {rule : Rule} {c u n : ℕ} → c ≡ 1 → Codes rule c u n → Codes rule 2 (code_received LabelMessage.Withdraw true u) n
unfolding code_received
withdraw-codes z (free g) = absurd (omega arith)
withdraw-codes z (came_back g) = absurd (omega arith)
withdraw-codes z held = leaving
withdraw-codes z (held_back e g) = rw (gone_withdrawn g) (leaving_back g)
withdraw-codes z leaving = absurd (omega arith)
withdraw-codes z (leaving_back g) = absurd (omega arith)
withdraw-codes z awaited = absurd (omega arith)
withdraw-codes z (awaited_back g) = absurd (omega arith)

given-codes : {rule : Rule} {l c u n e : ℕ} {j : Result (Kind × ℕ) SubmissionError} → Codes rule c u n → GivenStep l j c e → Free rule j l c → Codes rule e (code_by l u j) n × (pick (bears j 1 l) (may_find rule u) true ≡ true)
given-codes {l = l} codes (offered low) may = let p = offer-codes low (λ r. may r refl) codes in (rw (eq-eqb l l refl) p.0, rw (eq-eqb l l refl) p.1)
given-codes {l = l} codes withdrawn may = (rw (eq-eqb l l refl) (withdraw-codes refl codes), refl)
given-codes {l = l} {u = u} {j = j} codes (given_kept a b) may = (rw (kept_code (meant l j) a b u) codes, rw a)

pub fits_given : {rule : Rule} {l c d : ℕ} {out back : List (List ℕ)} → Fits rule l c d out back → (m : List ℕ) {e : ℕ} → GivenStep l (submission_of m) c e → Free rule (submission_of m) l c
    → Fits rule l e d (out ++ (m ∷ [])) back
fits_given {rule} {l} {c} {d} {out} f m s may =
    let p = given-codes f.codes s may in
    record { codes = rw (after_snoc l d out m) p.0; tidy = clean_snoc rule l d out m f.tidy p.1 }

-- ---- the user accepts a message
-- it releases a label that is in use or asked back: none was under way before
gone-taken : {P : Type 0} {rule : Rule} {u : ℕ} → Gone u → Taken rule u → P
gone-taken g t = apart g t refl
  where
    apart : {P : Type 0} {rule : Rule} {u v : ℕ} → Gone u → Taken rule v → u ≡ v → P
    apart absent (in_use e) z = absurd (omega arith)
    apart absent asked z = absurd (omega arith)
    apart releasing (in_use e) z = absurd (omega arith)
    apart releasing asked z = absurd (omega arith)

release-codes : {rule : Rule} {c u n e : ℕ} → Codes rule c u n → Taken rule u → Gone e → Codes rule c e (n + 1)
release-codes (free g) t k = gone-taken g t
release-codes (came_back g) t k = gone-taken g t
release-codes held (in_use e) k = held_back e k
release-codes (held_back e g) t k = gone-taken g t
release-codes leaving t k = leaving_back k
release-codes (leaving_back g) t k = gone-taken g t
release-codes awaited t k = awaited_back k
release-codes (awaited_back g) t k = gone-taken g t

abbrev pub Asked : Rule → Result (Kind × ℕ) SubmissionError → ℕ → ℕ → Type 0
Asked rule j l d = rule ≡ released-asked → j ≡ Ok (Kind.Release, l) → d ≢ 3

used_codes : {rule : Rule} {l c d n e : ℕ} (out : List (List ℕ)) {j : Result (Kind × ℕ) SubmissionError} → Codes rule c (code_after l d out) n → clean rule l d out ≡ true → UsedStep l j d e → Asked rule j l d
    → Codes rule c (code_after l e out) (n + one_release l j) × (clean rule l e out ≡ true)
used_codes {rule} {l} {c} {n = n} out codes tidy released may = by rule refl
  where
    by : (r : Rule) → rule ≡ r → Codes rule c (code_after l 5 out) (n + one_release l (Ok (Kind.Release, l))) × (clean rule l 5 out ≡ true)
    by offered-free is =
        let x = unmapped rule l 3 5 out (in_use is) releasing tidy in
        (rw (x.after, eq-eqb l l refl) (release-codes codes x.before releasing), x.clean)
    by released-asked is = absurd (may is refl refl)
used_codes {rule} {l} out codes tidy returned may =
    let x = unmapped rule l 4 0 out asked absent tidy in
    (rw (x.after, eq-eqb l l refl) (release-codes codes x.before absent), x.clean)
used_codes {n = n} out codes tidy (used_kept none) may = let same : n + 0 ≡ n = omega arith in (rw (none, same) codes, tidy)

pub fits_used : {rule : Rule} {l c d : ℕ} {out back : List (List ℕ)} → Fits rule l c d out back → (m : List ℕ) {e : ℕ} → UsedStep l (submission_of m) d e → Asked rule (submission_of m) l d
    → Fits rule l c e out (back ++ (m ∷ []))
fits_used {l = l} {out = out} {back = back} f m s may = let p = used_codes out f.codes f.tidy s may in record { codes = rw (releases_snoc l back m) p.0; tidy = p.1 }

-- ---- the user takes the oldest under way to it
pub user_takes : {rule : Rule} {l c d : ℕ} {out back : List (List ℕ)} (m : List ℕ) → Fits rule l c d (m ∷ out) back → Fits rule l c (code_by l d (submission_of m)) out back
user_takes {rule} {l} {c} {d} {out} m f = record { codes = f.codes; tidy = clean-rest rule l d m out f.tidy }

-- ---- the giver takes the oldest under way to it
back_codes : {rule : Rule} {c u n k : ℕ} → n ≡ 1 + k → Codes rule c u n → Codes rule (code_received LabelMessage.Release true c) u k
unfolding code_received
back_codes z (free g) = absurd (omega arith)
back_codes z (came_back g) = absurd (omega arith)
back_codes z held = absurd (omega arith)
back_codes {k = k} z (held_back e g) = let none : k ≡ 0 = omega arith in rw none (free g)
back_codes z leaving = absurd (omega arith)
back_codes {k = k} z (leaving_back g) = let none : k ≡ 0 = omega arith in rw none (came_back g)
back_codes z awaited = absurd (omega arith)
back_codes {k = k} z (awaited_back g) = let none : k ≡ 0 = omega arith in rw none (free g)

pub giver_takes : {rule : Rule} {l c d : ℕ} {out back : List (List ℕ)} (m : List ℕ) → Fits rule l c d out (m ∷ back)
    → Fits rule l (pick (bears (submission_of m) 3 l) (code_received LabelMessage.Release true c) c) d out back
giver_takes {rule} {l} {c} {d} {out} {back} m f =
    by_test
    (bears (submission_of m) 3 l)
    (λ t. rw t (record { codes = back_codes refl (rw t at f.codes); tidy = f.tidy }))
    (λ n. let same : 0 + releases l back ≡ releases l back = omega arith in rw n (record { codes = rw (n, same) at f.codes; tidy = f.tidy }))

-- ---- an ACK at the giver, and one at the user
pub ack_codes : {rule : Rule} {c e u n : ℕ} → ((c ≡ 2) × (e ≡ 8)) ⊎ ((c ≡ 9) × (e ≡ 0)) → Codes rule c u n → Codes rule e u n
ack_codes {rule} {c} {e} {u} {n} s codes =
    ⊎_elim
    (λ (p : (c ≡ 2) × (e ≡ 8)). rw p.1 (eighth p.0 codes))
    (λ (p : (c ≡ 9) × (e ≡ 0)). rw p.1 (freed p.0 codes))
    s
  where
    eighth : {c u n : ℕ} → c ≡ 2 → Codes rule c u n → Codes rule 8 u n
    eighth z (free g) = absurd (omega arith)
    eighth z (came_back g) = absurd (omega arith)
    eighth z held = absurd (omega arith)
    eighth z (held_back e g) = absurd (omega arith)
    eighth z leaving = awaited
    eighth z (leaving_back g) = awaited_back g
    eighth z awaited = absurd (omega arith)
    eighth z (awaited_back g) = absurd (omega arith)

    freed : {c u n : ℕ} → c ≡ 9 → Codes rule c u n → Codes rule 0 u n
    freed z (free g) = absurd (omega arith)
    freed z (came_back g) = free g
    freed z held = absurd (omega arith)
    freed z (held_back e g) = absurd (omega arith)
    freed z leaving = absurd (omega arith)
    freed z (leaving_back g) = absurd (omega arith)
    freed z awaited = absurd (omega arith)
    freed z (awaited_back g) = absurd (omega arith)

absent-codes : {rule : Rule} {c u n : ℕ} → u ≡ 5 → Codes rule c u n → Codes rule c 0 n
absent-codes z (free g) = free absent
absent-codes z (came_back g) = came_back absent
absent-codes z held = absurd (omega arith)
absent-codes z (held_back e g) = held_back e absent
absent-codes z leaving = absurd (omega arith)
absent-codes z (leaving_back g) = leaving_back absent
absent-codes z awaited = absurd (omega arith)
absent-codes z (awaited_back g) = awaited_back absent

pub fits_absent : {rule : Rule} {l c : ℕ} {out back : List (List ℕ)} → Fits rule l c 5 out back → Fits rule l c 0 out back
fits_absent {rule} {l} {c} {out} {back} f = record {
  codes =
      ⊎_elim
      (λ (e : (code_after l 5 out ≡ 5) × (code_after l 0 out ≡ 0)). rw e.1 (absent-codes e.0 f.codes))
      (λ (e : code_after l 5 out ≡ code_after l 0 out). rw e at f.codes)
      (five-zero-after l out);
  tidy = five-zero-clean rule l out f.tidy;
}
