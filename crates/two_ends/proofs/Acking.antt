-- What is given is in use or asked back, as an acknowledgement comes or a connection ends. Assumes nothing.
use Prim.Native.Nat.{ℕ}
use mathlib.Core.Bool.{true}
use mathlib.Core.List.{List, [], ◌∷◌}
use mathlib.Core.Logic.{◌≢◌, ◌⊎◌, inl, inr, ⊎_elim}
use mathlib.Core.Path.{◌≡◌, refl}
use native.Mathlib.Omega.{arith}
use lib.Dec.{eqb}
use Rattle.octets.proofs.Choice.{pick_all}
use Rattle.label_list.specs.declared.LabelMessage.{LabelMessage}
use Rattle.label_list.specs.declared.LabelMessage.TheVariants.{Withdraw, Release}
use Rattle.label_list.specs.declared.Side.{Side}
use Rattle.label_list.specs.declared.Side.TheVariants.{Given, Used}
use Rattle.label_list.specs.declared.SweepRule.TheVariants.{AfterBreak}
use Rattle.label_list.specs.Sweep.{swept_of}
use Rattle.label_list.specs.Valid.{valid_of}
use Rattle.label_events.specs.Change.{code_at}
use Rattle.message.specs.Storable.{kind_in, label_in}
use Rattle.message.specs.Submission.{submission_of}
use Rattle.label_meaning.specs.Event.{Acked, Broken, after_event, Moves, withdraw-acked, back_acked, release-acked, bare_lost}
use Rattle.protocol.specs.Acked.{released_kind, released_labels}
use Rattle.protocol.proofs.Words.{released_valid}
use Rattle.two_ends.specs.Agree.{code_after, IsGiven, IsUsed, Agree}
use Rattle.two_ends.proofs.Agreeing.{moved}
use Rattle.two_ends.proofs.Codes.{five-zero}
use Rattle.two_ends.proofs.Sixless.{NoSix}

-- ---- an acknowledgement leaves a withdrawn label that the peer has not released, or frees one that it has
given-acked : {m : LabelMessage} {k l c d : ℕ} → Moves (Acked m k) Given l c d → (c ≡ 2) ⊎ (d ≡ 0)
given-acked withdraw-acked = inl refl
given-acked back_acked = inr refl

used_acked : {m : LabelMessage} {k l c d : ℕ} → Moves (Acked m k) Used l c d → (c ≡ 5) × (d ≡ 0)
used_acked release-acked = (refl, refl)

pub ungiven : {P : Type 0} {c : ℕ} → c ≢ 1 → c ≢ 2 → c ≢ 8 → IsGiven c → P
ungiven {c = c} one two eight g =
    ⊎_elim
    (λ (e : c ≡ 1). absurd (one e))
    (λ (h : (c ≡ 2) ⊎ (c ≡ 8)). ⊎_elim (λ (e : c ≡ 2). absurd (two e)) (λ (e : c ≡ 8). absurd (eight e)) h)
    g

pub none_given : {P : Type 0} {c : ℕ} → c ≡ 0 → IsGiven c → P
none_given z g = ungiven (λ e. omega arith) (λ e. omega arith) (λ e. omega arith) g

module _ (ls : List ℕ) (v : valid_of ls ≡ true) (l : ℕ) where
  -- so a label that is given was given before
  one_given : (m : LabelMessage) (k : ℕ) → IsGiven (code_at (after_event ls (Acked m k)) Given l) → IsGiven (code_at ls Given l)
  one_given m k g =
      ⊎_elim
      (λ (same : code_at (after_event ls (Acked m k)) Given l ≡ code_at ls Given l). rw same at g)
      (λ (move : Moves (Acked m k) Given l (code_at ls Given l) (code_at (after_event ls (Acked m k)) Given l)). ⊎_elim
      (λ (two : code_at ls Given l ≡ 2). inr (inl two))
      (λ (free : code_at (after_event ls (Acked m k)) Given l ≡ 0). none_given free g)
      (given-acked move))
      (moved ls v (Acked m k) Given l)

  -- and one that comes into use still does
  one_used : (m : LabelMessage) (k : ℕ) (out : List (List ℕ)) → IsUsed (code_after l (code_at ls Used l) out) → IsUsed (code_after l (code_at (after_event ls (Acked m k)) Used l) out)
  one_used m k out u =
      ⊎_elim
      (λ (same : code_at (after_event ls (Acked m k)) Used l ≡ code_at ls Used l). rw same u)
      (λ (move : Moves (Acked m k) Used l (code_at ls Used l) (code_at (after_event ls (Acked m k)) Used l)).
      let p = used_acked move in
      rw p.1 (five-zero l out (rw p.0 at u)))
      (moved ls v (Acked m k) Used l)

  kind_given : (kind label : ℕ) → IsGiven (code_at (released_kind kind label ls) Given l) → IsGiven (code_at ls Given l)
  unfolding released_kind after_event
  kind_given kind label =
      pick_all (λ (ws : List ℕ). IsGiven (code_at ws Given l) → IsGiven (code_at ls Given l)) (eqb kind 2) (one_given Withdraw label)
      (pick_all (λ (ws : List ℕ). IsGiven (code_at ws Given l) → IsGiven (code_at ls Given l)) (eqb kind 3) (one_given Release label) (λ g. g))

  kind_used : (kind label : ℕ) (out : List (List ℕ)) → IsUsed (code_after l (code_at ls Used l) out) → IsUsed (code_after l (code_at (released_kind kind label ls) Used l) out)
  unfolding released_kind after_event
  kind_used kind label out =
      pick_all (λ (ws : List ℕ). IsUsed (code_after l (code_at ls Used l) out) → IsUsed (code_after l (code_at ws Used l) out)) (eqb kind 2) (one_used Withdraw label out)
      (pick_all (λ (ws : List ℕ). IsUsed (code_after l (code_at ls Used l) out) → IsUsed (code_after l (code_at ws Used l) out)) (eqb kind 3) (one_used Release label out) (λ u. u))

released-given : (ms : List (List ℕ)) (ls : List ℕ) → valid_of ls ≡ true → (l : ℕ) → IsGiven (code_at (released_labels ms ls) Given l) → IsGiven (code_at ls Given l)
unfolding released_labels
released-given [] ls v l g = g
released-given (m ∷ ms) ls v l g =
    let k = kind_in (submission_of m) in
    let n = label_in (submission_of m) in
    kind_given ls v l k n (released-given ms (released_kind k n ls) (released_valid (m ∷ []) ls v) l g)

released_used : (ms : List (List ℕ)) (ls : List ℕ) → valid_of ls ≡ true → (l : ℕ) (out : List (List ℕ)) → IsUsed (code_after l (code_at ls Used l) out)
    → IsUsed (code_after l (code_at (released_labels ms ls) Used l) out)
unfolding released_labels
released_used [] ls v l out u = u
released_used (m ∷ ms) ls v l out u =
    let k = kind_in (submission_of m) in
    let n = label_in (submission_of m) in
    released_used ms (released_kind k n ls) (released_valid (m ∷ []) ls v) l out (kind_used ls v l k n out u)

module _ (giver user : List ℕ) (out back : List (List ℕ)) (a : Agree giver user out back) where
  pub ack_giver : (ms : List (List ℕ)) → valid_of giver ≡ true → Agree (released_labels ms giver) user out back
  ack_giver ms v l may g none = a l may (released-given ms giver v l g) none

  pub ack_user : (ms : List (List ℕ)) → valid_of user ≡ true → Agree giver (released_labels ms user) out back
  ack_user ms v l may g none = released_used ms user v l out (a l may g none)

-- ---- a connection ends: without code 6 no label moves
broken_move : {side : Side} {l c d : ℕ} → Moves Broken side l c d → (side ≡ Used) × (c ≡ 6)
broken_move bare_lost = (refl, refl)

pub broken-code : (ls : List ℕ) → valid_of ls ≡ true → NoSix ls → (side : Side) (l : ℕ) → code_at (swept_of ls AfterBreak) side l ≡ code_at ls side l
unfolding after_event
broken-code ls v n side l =
    ⊎_elim
    (λ (same : code_at (after_event ls Broken) side l ≡ code_at ls side l). same)
    (λ (move : Moves Broken side l (code_at ls side l) (code_at (after_event ls Broken) side l)).
    let p = broken_move move in
    absurd (n l (rw p.0 at p.1)))
    (moved ls v Broken side l)

module _ (giver user : List ℕ) (out back : List (List ℕ)) (a : Agree giver user out back) where
  pub broken_giver : valid_of giver ≡ true → NoSix giver → Agree (swept_of giver AfterBreak) user out back
  broken_giver v n l may g none = a l may (rw (broken-code giver v n Given l) at g) none

  pub broken_user : valid_of user ≡ true → NoSix user → Agree giver (swept_of user AfterBreak) out back
  broken_user v n l may g none = rw (broken-code user v n Used l) (a l may g none)
