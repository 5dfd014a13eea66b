-- A rule for every word keeps the list valid and takes each label's code through the rule. Assumes nothing.
use Prim.Native.Nat.{ℕ}
use mathlib.Core.Bool.{Bool, true, true≢false}
use mathlib.Core.List.{List}
use mathlib.Core.Logic.{◌≢◌, inr, ⊎_elim, ◌⊎◌, inl}
use mathlib.Core.Path.{◌≡◌, refl, sym, ◌∙◌}
use native.Mathlib.Omega.{arith}
use lib.Dec.{eqb}
use lib.ListN.{get_or, get_or-map}
use borrow.Author.Tests.{eqb-true, eqb-false}
use Rattle.octets.specs.Pick.{pick}
use Rattle.octets.proofs.Choice.{by_test, pick_all}
use Rattle.label_list.specs.declared.Side.{Side}
use Rattle.label_list.specs.declared.SweepRule.{SweepRule}
use Rattle.label_list.specs.declared.SweepRule.TheVariants.{WithdrawAll, ReleaseAll, AfterBreak}
use Rattle.label_list.specs.Rules.{code_received, code_swept}
use Rattle.label_list.specs.Sweep.{word_swept, word_reached, reached_of, swept_of}
use Rattle.label_list.specs.Word.{label_of, code_of, word_of, on_side, stands_for, request_code, request_word}
use Rattle.label_list.proofs.Standing.{stands_parts, parts_stands, free_stands, request_stands}
use Rattle.label_meaning.specs.Valid.{WordInRange, IsValid}
use Rattle.label_meaning.specs.View.{CodeIs, listed, absent}
use Rattle.label_meaning.proofs.Effect.{Lists, Written, word_written}
use Rattle.label_meaning.proofs.Meaning.{stands_same, stands_range}
use Rattle.label_meaning.proofs.Proper.{Proper, swept_proper}

rule_none : (r : SweepRule) → code_swept r 0 ≡ 0
unfolding code_swept code_received
rule_none WithdrawAll = refl
rule_none ReleaseAll = refl
rule_none AfterBreak = refl

rule-request : (r : SweepRule) → code_swept r request_code ≡ request_code
unfolding code_swept code_received
rule-request WithdrawAll = refl
rule-request ReleaseAll = refl
rule-request AfterBreak = refl

-- the code of a label after a rule for those that are reached
abbrev pub code_reached : (ℕ → Bool) → SweepRule → ℕ → ℕ → ℕ
code_reached reached r l c = pick (reached l) (code_swept r c) c

pub reached_proper : (reached : ℕ → Bool) (r : SweepRule) (s : Side) (l c : ℕ) → Proper s c → Proper s (code_reached reached r l c)
reached_proper reached r s l c h = pick_all (Proper s) (reached l) (swept_proper r s c h) h

module _ (reached : ℕ → Bool) (r : SweepRule) where
  none_swept : word_swept r 0 ≡ 0
  unfolding word_swept word_of
  none_swept = rw (rule_none r)

  asked_swept : word_swept r request_word ≡ request_word
  unfolding word_swept word_of
  asked_swept = rw (rule-request r)

  -- a free word stays free
  swept_free : word_reached reached r 0 ≡ 0
  unfolding word_reached
  swept_free = by_test (reached (label_of 0)) (λ t. rw t none_swept) (λ f. rw f)

  -- an open Request's word stays
  pub swept_request : word_reached reached r request_word ≡ request_word
  unfolding word_reached
  swept_request = by_test (reached (label_of request_word)) (λ t. rw t asked_swept) (λ f. rw f)

  -- a listed word becomes one for the same label on the same side
  swept_written : (s : Side) (w : ℕ) → WordInRange w → on_side s (code_of w) ≡ true → Written s (label_of w) (code_reached reached r (label_of w) (code_of w)) (word_reached reached r w)
  unfolding word_swept word_reached
  swept_written s w range on =
      by_test
      (reached (label_of w))
      (λ t. rw t (word_written s (label_of w) (code_swept r (code_of w)) range.label (omega arith) (swept_proper r s (code_of w) (inr on))))
      (λ f. rw f (inr (record { stands = parts_stands s (label_of w) w on refl; code = refl; range = range })))

  -- so what a rewritten word stands for, the word stood for
  swept_back : (s : Side) (l w : ℕ) → (w ≢ 0 → (w ≡ request_word) ⊎ WordInRange w) → stands_for s l (word_reached reached r w) ≡ true → stands_for s l w ≡ true
  swept_back s l w ranged p =
      by_test
      (eqb w 0)
      (λ z. absurd (true≢false (sym p ∙ rw (eqb-true w 0 z, swept_free) (free_stands s l))))
      (λ z.
      ⊎_elim
      (λ (e : w ≡ request_word). absurd (true≢false (sym p ∙ request_stands s l (word_reached reached r w) (rw e swept_request))))
      (λ (range : WordInRange w). listed_back range)
      (ranged (eqb-false w 0 z)))
    where
      listed_back : WordInRange w → stands_for s l w ≡ true
      listed_back range =
          ⊎_elim
          (λ (e : (word_reached reached r w ≡ 0) × (code_reached reached r (label_of w) (code_of w) ≡ 0)). absurd (true≢false (sym p ∙ rw e.0 (free_stands s l))))
          (λ (new : Lists range.side (label_of w) (code_reached reached r (label_of w) (code_of w)) (word_reached reached r w)).
          let same : (s ≡ range.side) × (l ≡ label_of w) = stands_same s range.side l (label_of w) (word_reached reached r w) p new.stands in
          rw (same.0, same.1) (parts_stands range.side (label_of w) w range.on refl))
          (swept_written range.side w range range.on)

-- a sweep by index
pub swept_at : (words : List ℕ) (reached : ℕ → Bool) (r : SweepRule) (i : ℕ) → get_or (reached_of words reached r) i 0 ≡ word_reached reached r (get_or words i 0)
swept_at words reached r i =
    let mapped : get_or (reached_of words reached r) i (word_reached reached r 0) ≡ word_reached reached r (get_or words i 0) = get_or-map (word_reached reached r) words i 0 in
    rw (swept_free reached r) at mapped

module _ (words : List ℕ) (v : IsValid words) (reached : ℕ → Bool) (r : SweepRule) where
  at : (i : ℕ) → get_or (reached_of words reached r) i 0 ≡ word_reached reached r (get_or words i 0)
  at = swept_at words reached r

  back : (s : Side) (l i : ℕ) → stands_for s l (get_or (reached_of words reached r) i 0) ≡ true → stands_for s l (get_or words i 0) ≡ true
  back s l i p = swept_back reached r s l (get_or words i 0) (v.each i) (rw (at i) at p)

  swept_each : (i : ℕ) → get_or (reached_of words reached r) i 0 ≢ 0 → (get_or (reached_of words reached r) i 0 ≡ request_word) ⊎ WordInRange (get_or (reached_of words reached r) i 0)
  swept_each i h =
      let listed : get_or words i 0 ≢ 0 = λ z. h (at i ∙ rw (z, swept_free reached r)) in
      ⊎_elim
      (λ (e : get_or words i 0 ≡ request_word). inl (at i ∙ rw (e, swept_request reached r)))
      (λ (range : WordInRange (get_or words i 0)). inr (rw (at i) (in_range range)))
      (v.each i listed)
    where
      in_range : WordInRange (get_or words i 0) → WordInRange (word_reached reached r (get_or words i 0))
      in_range range =
          ⊎_elim
          (λ (e : (word_reached reached r (get_or words i 0) ≡ 0) × (code_reached reached r (label_of (get_or words i 0)) (code_of (get_or words i 0)) ≡ 0)). absurd (h (at i ∙ e.0)))
          (λ (new : Lists range.side (label_of (get_or words i 0)) (code_reached reached r (label_of (get_or words i 0)) (code_of (get_or words i 0))) (word_reached reached r (get_or words i 0))). new.range)
          (swept_written reached r range.side (get_or words i 0) range range.on)

  -- A sweep leaves a valid list valid,
  pub reach_valid : IsValid (reached_of words reached r)
  reach_valid = record { each = swept_each; once = λ s l i j p q. v.once s l i j (back s l i p) (back s l j q) }

  swept_listed : (s : Side) (k i : ℕ) → stands_for s k (get_or words i 0) ≡ true → CodeIs (reached_of words reached r) s k (code_reached reached r (label_of (get_or words i 0)) (code_of (get_or words i 0)))
  swept_listed s k i p =
      let parts : (on_side s (code_of (get_or words i 0)) ≡ true) × (label_of (get_or words i 0) ≡ k) = stands_parts s k (get_or words i 0) p in
      ⊎_elim
      (λ (e : (word_reached reached r (get_or words i 0) ≡ 0) × (code_reached reached r (label_of (get_or words i 0)) (code_of (get_or words i 0)) ≡ 0)).
      rw e.1
      (absent (λ j.
      by_test
      (stands_for s k (get_or (reached_of words reached r) j 0))
      (λ q.
      let same : j ≡ i = v.once s k j i (back s k j q) p in
      absurd (true≢false (sym q ∙ rw (same, at i, e.0) (free_stands s k))))
      (λ q. q))))
      (λ (new : Lists s (label_of (get_or words i 0)) (code_reached reached r (label_of (get_or words i 0)) (code_of (get_or words i 0))) (word_reached reached r (get_or words i 0))).
      let found : CodeIs (reached_of words reached r) s k (code_of (get_or (reached_of words reached r) i 0)) = listed i (rw (at i, ← parts.1) new.stands) in
      rw (at i, new.code) at found)
      (swept_written reached r s (get_or words i 0) (stands_range v s k i p) parts.0)

  -- and takes the code of each label on each side through the rule.
  pub reach_code : (s : Side) (k c : ℕ) → CodeIs words s k c → CodeIs (reached_of words reached r) s k (code_reached reached r k c)
  reach_code s k c (listed i p) = rw (stands_parts s k (get_or words i 0) p).1 at (swept_listed s k i p)
  reach_code s k c (absent p) =
      rw (none_reached k) (absent (λ j. by_test (stands_for s k (get_or (reached_of words reached r) j 0)) (λ q. absurd (true≢false (sym (back s k j q) ∙ p j))) (λ q. q)))
    where
      none_reached : (k : ℕ) → code_reached reached r k 0 ≡ 0
      none_reached k = by_test (reached k) (λ t. rw (t, rule_none r)) (λ f. rw f)

-- A rule for every label is one for those of all.
pub all_reached : (words : List ℕ) (r : SweepRule) → swept_of words r ≡ reached_of words (λ k. true) r
unfolding word_reached
all_reached words r = refl

module _ (words : List ℕ) (v : IsValid words) (r : SweepRule) where
  pub sweep_valid : IsValid (swept_of words r)
  unfolding word_reached
  sweep_valid = reach_valid words v (λ k. true) r

  pub sweep_code : (s : Side) (k c : ℕ) → CodeIs words s k c → CodeIs (swept_of words r) s k (code_swept r c)
  unfolding word_reached
  sweep_code = reach_code words v (λ k. true) r
