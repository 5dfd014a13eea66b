-- What a message that is taken makes of one label's code: at its giver and at its user, as it is accepted and as it is received. Assumes nothing.
use Rattle.std.specs.Prelude.{Result, Ok, Option, Some}
use Prim.Native.Nat.{ℕ, ◌≤◌}
use mathlib.Core.Bool.{true, false, true≢false}
use mathlib.Core.List.{List}
use mathlib.Core.Logic.{◌≢◌, ◌⊎◌, inl, inr, ⊎_elim}
use mathlib.Core.Path.{◌≡◌, refl, sym, ◌∙◌}
use native.Mathlib.Omega.{arith}
use lib.Dec.{eqb, leb}
use borrow.Author.Tests.{eqb-true, eq-eqb, leb-true, eqb-false}
use Rattle.octets.specs.Pick.{pick}
use Rattle.octets.proofs.Choice.{by_test, no}
use Rattle.ft_number.specs.declared.MessageId.{MessageId}
use Rattle.label_list.specs.declared.LabelMessage.{LabelMessage}
use Rattle.label_list.specs.declared.LabelMessage.TheVariants.{Mapping, Withdraw, Release}
use Rattle.label_list.specs.declared.Side.{Side}
use Rattle.label_list.specs.declared.Side.TheVariants.{Given, Used}
use Rattle.label_list.specs.Rules.{sent_side, received_side, code_accepted, code_received}
use Rattle.label_list.specs.Valid.{valid_of}
use Rattle.label_list.specs.Word.{listable}
use Rattle.label_events.specs.declared.Acceptance.{Acceptance}
use Rattle.label_events.specs.declared.Meets.{Meets}
use Rattle.label_events.specs.declared.Reception.{Reception}
use Rattle.label_events.specs.declared.Touched.{Touched}
use Rattle.label_events.specs.Change.{code_at}
use Rattle.label_events.specs.Reach.{Reach, Label}
use Rattle.label_events.proofs.Ended.{ended-code}
use Rattle.message.specs.declared.Kind.{Kind}
use Rattle.message.specs.declared.SubmissionError.{SubmissionError}
use Rattle.message.specs.Storable.{bears}
use Rattle.label_meaning.specs.Event.{Received, after_event, Moves}
use Rattle.label_meaning.proofs.Meaning.{valid_means}
use Rattle.label_meaning.proofs.Step.{Accepts, accepted_taken}
use Rattle.label_meaning.proofs.View.{code_is, is_code}
use Rattle.protocol.specs.Accepting.{accepted_as}
use Rattle.protocol.specs.Labels.{effect_labels, effect_reception}
use Rattle.protocol.specs.State.{Table}
use Rattle.two_ends.proofs.Accepting.{AcceptedWords, SameCodes, accepted_words, codes_kept}
use Rattle.two_ends.proofs.Agreeing.{moved}
use Rattle.two_ends.proofs.Getting.{Says, code-received, says_mapping, says_nothing, says_release, says_withdraw}

-- ---- a message accepted by the giver of l, and one accepted by its user
pub data GivenStep (l : ℕ) : Result (Kind × ℕ) SubmissionError → ℕ → ℕ → Type 0 where
  offered : {c : ℕ} → (c ≡ 0) ⊎ (c ≡ 1) → GivenStep l (Ok (Kind.Mapping, l)) c 1
  withdrawn : GivenStep l (Ok (Kind.Withdraw, l)) 1 2
  given_kept : {j : Result (Kind × ℕ) SubmissionError} {c : ℕ} → bears j 1 l ≡ false → bears j 2 l ≡ false → GivenStep l j c c

pub data UsedStep (l : ℕ) : Result (Kind × ℕ) SubmissionError → ℕ → ℕ → Type 0 where
  released : UsedStep l (Ok (Kind.Release, l)) 3 5
  returned : UsedStep l (Ok (Kind.Release, l)) 4 0
  used_kept : {j : Result (Kind × ℕ) SubmissionError} {c : ℕ} → bears j 3 l ≡ false → UsedStep l j c c

-- the rules, taken apart
mapping-rule : (c n : ℕ) → code_accepted Mapping c ≡ Some n → ((c ≡ 0) ⊎ (c ≡ 1)) × (n ≡ 1)
unfolding code_accepted
mapping-rule c n e =
    by_test
    (leb c 1)
    (λ t.
    let low : c ≤ 1 = leb-true c 1 t in
    (by_test (eqb c 0) (λ z. inl (eqb-true c 0 z)) (λ z. let some : c ≢ 0 = eqb-false c 0 z in inr (omega arith)), cc (rw t at e)))
    (λ f. no (cc (rw f at e)))

withdraw-rule : (c n : ℕ) → code_accepted Withdraw c ≡ Some n → (c ≡ 1) × (n ≡ 2)
unfolding code_accepted
withdraw-rule c n e = by_test (eqb c 1) (λ t. (eqb-true c 1 t, cc (rw t at e))) (λ f. no (cc (rw f at e)))

release-rule : (c n : ℕ) → code_accepted Release c ≡ Some n → ((c ≡ 3) × (n ≡ 5)) ⊎ ((c ≡ 4) × (n ≡ 0))
unfolding code_accepted
release-rule c n e =
    by_test
    (eqb c 3)
    (λ t. inl (eqb-true c 3 t, cc (rw t at e)))
    (λ f. by_test (eqb c 4) (λ t. inr (eqb-true c 4 t, cc (rw (f, t) at e))) (λ g. no (cc (rw (f, g) at e))))

module _ (words : List ℕ) {after : List ℕ} {m : LabelMessage} {k : ℕ} (x : Accepts words m k after) where
  accepts-here : code_at after (sent_side m) k ≡ x.code
  accepts-here = is_code after (sent_side m) k x.effect.valid x.effect.there

  accepts_else : (s : Side) (l : ℕ) → ((s ≡ sent_side m) × (l ≡ k) → ⊥) → code_at after s l ≡ code_at words s l
  accepts_else s l other = is_code after s l x.effect.valid (x.effect.elsewhere s l (code_at words s l) other (code_is words s l))

apart : {s t : Side} {k l : ℕ} → eqb k l ≡ false → (s ≡ t) × (l ≡ k) → ⊥
apart {k = k} {l} f p = true≢false (sym (eq-eqb k l (sym p.1)) ∙ f)

same_given : {l c d : ℕ} {j : Result (Kind × ℕ) SubmissionError} → bears j 1 l ≡ false → bears j 2 l ≡ false → d ≡ c → GivenStep l j c d
same_given a b e = rw e (given_kept a b)

same_used : {l c d : ℕ} {j : Result (Kind × ℕ) SubmissionError} → bears j 3 l ≡ false → d ≡ c → UsedStep l j c d
same_used a e = rw e (used_kept a)

request-codes : {ls after : List ℕ} {id : MessageId} {n : ℕ} → AcceptedWords ls (Ok (Kind.Request id, n)) after → SameCodes ls after
request-codes (codes_kept same) = same

abort-codes : {ls after : List ℕ} {id : MessageId} {n : ℕ} → AcceptedWords ls (Ok (Kind.Abort id, n)) after → SameCodes ls after
abort-codes (codes_kept same) = same

module _ (t : Table) (v : valid_of t.words ≡ true) (l : ℕ) where
  abbrev Given-by : Kind → ℕ → Type 0
  Given-by kind k = (accepted_as t kind k).0 ≡ Acceptance.Taken → GivenStep l (Ok (kind, k)) (code_at t.words Given l) (code_at (accepted_as t kind k).1 Given l)

  abbrev Used-by : Kind → ℕ → Type 0
  Used-by kind k = (accepted_as t kind k).0 ≡ Acceptance.Taken → UsedStep l (Ok (kind, k)) (code_at t.words Used l) (code_at (accepted_as t kind k).1 Used l)

  pub given-step : (kind : Kind) (k : ℕ) → Given-by kind k
  unfolding accepted_as sent_side
  given-step Kind.Mapping k taken =
      let x = accepted_taken t.words (valid_means t.words v) Mapping k taken in
      by_test
      (eqb k l)
      (λ e.
      let same : k ≡ l = eqb-true k l e in
      let rule = mapping-rule (code_at t.words Given k) x.code x.rule in
      rw (← same) (rw (accepts-here t.words x, rule.1) (offered rule.0)))
      (λ f. same_given f refl (accepts_else t.words x Given l (apart f)))
  given-step Kind.Withdraw k taken =
      let x = accepted_taken t.words (valid_means t.words v) Withdraw k taken in
      by_test
      (eqb k l)
      (λ e.
      let same : k ≡ l = eqb-true k l e in
      let rule = withdraw-rule (code_at t.words Given k) x.code x.rule in
      rw (← same) (rw (accepts-here t.words x, rule.1, rule.0) withdrawn))
      (λ f. same_given refl f (accepts_else t.words x Given l (apart f)))
  given-step Kind.Release k taken =
      let x = accepted_taken t.words (valid_means t.words v) Release k taken in
      same_given refl refl (accepts_else t.words x Given l (λ p. no cc))
  given-step Kind.Address k taken = given_kept refl refl
  given-step Kind.AddressWithdraw k taken = given_kept refl refl
  given-step Kind.ResourcesAvailable k taken = given_kept refl refl
  given-step (Kind.Request id) k taken = same_given refl refl (request-codes (accepted_words t v (Ok (Kind.Request id, k))) Given l)
  given-step (Kind.Abort id) k taken = same_given refl refl (abort-codes (accepted_words t v (Ok (Kind.Abort id, k))) Given l)
  given-step Kind.NoResources k taken = given_kept refl refl
  given-step Kind.NoKind k taken = given_kept refl refl

  pub used_step : (kind : Kind) (k : ℕ) → Used-by kind k
  unfolding accepted_as sent_side
  used_step Kind.Mapping k taken =
      let x = accepted_taken t.words (valid_means t.words v) Mapping k taken in
      same_used refl (accepts_else t.words x Used l (λ p. no cc))
  used_step Kind.Withdraw k taken =
      let x = accepted_taken t.words (valid_means t.words v) Withdraw k taken in
      same_used refl (accepts_else t.words x Used l (λ p. no cc))
  used_step Kind.Release k taken =
      let x = accepted_taken t.words (valid_means t.words v) Release k taken in
      by_test
      (eqb k l)
      (λ e.
      let same : k ≡ l = eqb-true k l e in
      rw (← same) (rw (accepts-here t.words x)
      (⊎_elim
      (λ (p : (code_at t.words Used k ≡ 3) × (x.code ≡ 5)). rw (p.0, p.1) released)
      (λ (p : (code_at t.words Used k ≡ 4) × (x.code ≡ 0)). rw (p.0, p.1) returned)
      (release-rule (code_at t.words Used k) x.code x.rule))))
      (λ f. same_used f (accepts_else t.words x Used l (apart f)))
  used_step Kind.Address k taken = used_kept refl
  used_step Kind.AddressWithdraw k taken = used_kept refl
  used_step Kind.ResourcesAvailable k taken = used_kept refl
  used_step (Kind.Request id) k taken = same_used refl (request-codes (accepted_words t v (Ok (Kind.Request id, k))) Used l)
  used_step (Kind.Abort id) k taken = same_used refl (abort-codes (accepted_words t v (Ok (Kind.Abort id, k))) Used l)
  used_step Kind.NoResources k taken = used_kept refl
  used_step Kind.NoKind k taken = used_kept refl

-- ---- a message received by the giver of l: a Release of it moves its code, and nothing else does
unmoved_mapping : {r : Meets} {t : Reach} {l c d : ℕ} → Moves (Received r Mapping true t) Given l c d → d ≡ c
unmoved_mapping = elim [ ]

unmoved_withdraw : {r : Meets} {t : Reach} {l c d : ℕ} → Moves (Received r Withdraw true t) Given l c d → d ≡ c
unmoved_withdraw = elim [ ]

pub given-taken : (giver : Table) → valid_of giver.words ≡ true → (r : Meets) (k : Kind) (n : ℕ) (e : Option (LabelMessage × Touched)) → Says k n e → effect_reception giver r true e ≡ Reception.Taken → (l : ℕ)
    → listable l ≡ true → code_at (effect_labels giver r true e) Given l ≡ pick (bears (Ok (k, n)) 3 l) (code_received Release true (code_at giver.words Given l)) (code_at giver.words Given l)
unfolding after_event received_side
given-taken giver v r k n e says_mapping room l may =
    ⊎_elim
    (λ (same : code_at (after_event giver.words (Received r Mapping true (Label n))) Given l ≡ code_at giver.words Given l). same)
    (λ (move : Moves (Received r Mapping true (Label n)) Given l (code_at giver.words Given l) (code_at (after_event giver.words (Received r Mapping true (Label n))) Given l)). unmoved_mapping move)
    (moved giver.words v (Received r Mapping true (Label n)) Given l)
given-taken giver v r k n e says_withdraw room l may =
    ⊎_elim
    (λ (same : code_at (after_event giver.words (Received r Withdraw true (Label n))) Given l ≡ code_at giver.words Given l). same)
    (λ (move : Moves (Received r Withdraw true (Label n)) Given l (code_at giver.words Given l) (code_at (after_event giver.words (Received r Withdraw true (Label n))) Given l)). unmoved_withdraw move)
    (moved giver.words v (Received r Withdraw true (Label n)) Given l)
given-taken giver v r k n e says_release room l may = code-received giver.words v r Release l may n room
given-taken giver v r k n e (says_nothing stays others) room l may = ended-code giver.words Given l r.request ∙ rw (others l)
