-- The code goes by the places of an entry, the rules by the labels of that entry: in a valid list both are one. Assumes nothing.
use Prim.Native.Nat.{ℕ, suc, ◌≤◌, ◌<◌}
use mathlib.Core.Bool.{Bool, true, false, not, true≢false}
use mathlib.Core.List.{List, [], ◌∷◌, map}
use mathlib.Core.Logic.{◌≢◌, ⊎_elim}
use mathlib.Core.Path.{◌≡◌, refl, sym, ap, ◌∙◌}
use native.Mathlib.Omega.{arith}
use lib.Dec.{eqb}
use lib.ListN.{length, get_or}
use borrow.Author.Tests.{eqb-true, eqb-false, ne_eqb}
use Rattle.octets.specs.Pick.{pick, both}
use Rattle.octets.proofs.Choice.{by_test}
use Rattle.label_list.specs.declared.LabelMessage.{LabelMessage}
use Rattle.label_list.specs.declared.LabelMessage.TheVariants.{Mapping, Withdraw, Release}
use Rattle.label_list.specs.declared.Protection.TheVariants.{Right, Missing}
use Rattle.label_list.specs.declared.Side.{Side}
use Rattle.label_list.specs.declared.Side.TheVariants.{Given, Used}
use Rattle.label_list.specs.declared.SweepRule.{SweepRule}
use Rattle.label_list.specs.declared.SweepRule.TheVariants.{WithdrawAll, ReleaseAll}
use Rattle.label_list.specs.Beside.{besides, word_beside, swept_beside, any_beside, entry_at, entry_on}
use Rattle.label_list.specs.Find.{any}
use Rattle.label_list.specs.Protection.{needs_protection, protected_on}
use Rattle.label_list.specs.Rules.{received_side, code_received, code_swept}
use Rattle.label_list.specs.Sweep.{word_swept, word_reached, reached_of}
use Rattle.label_list.specs.Word.{label_of, code_of, word_of, on_side, request_word, without_protection}
use Rattle.label_list.proofs.Standing.{parts_stands}
use Rattle.label_events.specs.declared.Meets.{Meets}
use Rattle.label_events.specs.declared.Reception.{Reception}
use Rattle.label_events.specs.declared.Touched.{Touched}
use Rattle.label_events.specs.Protect.{guarded_by, protection_of, protection_beside}
use Rattle.label_events.specs.Reach.{reach_of}
use Rattle.label_events.specs.Receive.{every_received, every_beside, received_with, received_of, received_beside}
use Rattle.label_events.specs.Requests.{ended_at}
use Rattle.label_events.proofs.Ended.{ended_find, ended-length}
use Rattle.label_meaning.specs.Valid.{WordInRange, IsValid}
use Rattle.label_meaning.proofs.Entries.{entry_of_lem}
use Rattle.label_meaning.proofs.Meaning.{range_listed}
use Rattle.label_meaning.proofs.Unlisted.{ended_stays}

-- ---- two loops that agree place by place
each_place : (f : ℕ → ℕ → ℕ) (g : ℕ → ℕ) (ws xs : List ℕ) → length ws ≤ length xs → ((i : ℕ) → i < length ws → f (get_or ws i 0) (get_or xs i 0) ≡ g (get_or ws i 0)) → besides f ws xs ≡ map g ws
unfolding besides
each_place f g [] xs h same = refl
each_place f g (w ∷ ws) [] h same = absurd (omega arith)
each_place f g (w ∷ ws) (x ∷ xs) h same = rw (same 0 (omega arith), each_place f g ws xs (omega arith) (λ i l. same (suc i) (omega arith)))

any_place : (test : ℕ → Bool) (entry : ℕ) (also : ℕ → Bool) (ws xs : List ℕ) → length ws ≤ length xs
    → ((i : ℕ) → i < length ws → both (eqb (get_or xs i 0) entry) (test (get_or ws i 0)) ≡ also (get_or ws i 0)) → any_beside test entry ws xs ≡ any also ws
unfolding any_beside any
any_place test entry also [] xs h same = refl
any_place test entry also (w ∷ ws) [] h same = absurd (omega arith)
any_place test entry also (w ∷ ws) (x ∷ xs) h same = rw (same 0 (omega arith), any_place test entry also ws xs (omega arith) (λ i l. same (suc i) (omega arith)))

-- ---- a rule of one side leaves the codes that are not of that side
pub data RuleOf : SweepRule → Side → Type 0 where
  withdraws : RuleOf WithdrawAll Used
  releases : RuleOf ReleaseAll Given

pub off-rule : {r : SweepRule} {s : Side} → RuleOf r s → (c : ℕ) → on_side s c ≡ false → code_swept r c ≡ c
unfolding code_swept code_received on_side
off-rule withdraws c off =
    by_test (eqb c 3) (λ t. absurd (true≢false (rw (eqb-true c 3 t) at off)))
    (λ f. by_test (eqb c 6) (λ t. absurd (true≢false (rw (eqb-true c 6 t) at off))) (λ g. rw (f, g)))
off-rule releases c off =
    by_test (eqb c 1) (λ t. absurd (true≢false (rw (eqb-true c 1 t) at off)))
    (λ f. by_test (eqb c 2) (λ t. absurd (true≢false (rw (eqb-true c 2 t) at off)))
    (λ g. by_test (eqb c 8) (λ t. absurd (true≢false (rw (eqb-true c 8 t) at off))) (λ h. rw (f, g, h))))

-- a word of no code of the side stays
module _ (words : List ℕ) (v : IsValid words) {r : SweepRule} {s : Side} (rule : RuleOf r s) where
  listed-code : (i : ℕ) → get_or words i 0 ≢ 0 → code_of (get_or words i 0) ≢ 0
  listed-code i h =
      ⊎_elim
      (λ (request : get_or words i 0 ≡ request_word). λ z. omega arith)
      (λ (range : WordInRange (get_or words i 0)). range_listed range)
      (v.each i h)

  pub off_stays : (i : ℕ) → on_side s (code_of (get_or words i 0)) ≡ false → word_swept r (get_or words i 0) ≡ get_or words i 0
  unfolding word_swept word_of
  off_stays i off =
      let w : ℕ = get_or words i 0 in
      by_test
      (eqb w 0)
      (λ z. let none : w ≡ 0 = eqb-true w 0 z in
      let c : code_of w ≡ 0 = omega arith in
      rw (off-rule rule (code_of w) off, c) (sym none))
      (λ z. let c : code_of w ≢ 0 = listed-code i (eqb-false w 0 z) in
      rw (off-rule rule (code_of w) off, ne_eqb (code_of w) 0 c) (omega arith))

module _ (words entries : List ℕ) (v : IsValid words) (entry : ℕ) (long : length words ≤ length entries) where
  -- the labels of that entry on a side
  abbrev pub of_entry : Side → ℕ → Bool
  of_entry s k = eqb (entry_on words entries s k) entry

  -- the entry of a listed label is the one beside its word
  entry_here : (s : Side) (i : ℕ) → on_side s (code_of (get_or words i 0)) ≡ true → entry_on words entries s (label_of (get_or words i 0)) ≡ get_or entries i 0
  entry_here s i on = entry_of_lem words entries v s (label_of (get_or words i 0)) i (parts_stands s (label_of (get_or words i 0)) (get_or words i 0) on refl)

  module _ {r : SweepRule} {s : Side} (rule : RuleOf r s) where
    same_word : (i : ℕ) → i < length words → word_beside r entry (get_or words i 0) (get_or entries i 0) ≡ word_reached (of_entry s) r (get_or words i 0)
    unfolding word_beside word_reached
    same_word i h =
        by_test
        (on_side s (code_of (get_or words i 0)))
        (λ on. rw (entry_here s i on))
        (λ off.
        let same = off_stays words v rule i off in
        rw same (either (eqb (get_or entries i 0) entry) (of_entry s (label_of (get_or words i 0))) (get_or words i 0)))
      where
        either : (a b : Bool) (w : ℕ) → pick a w w ≡ pick b w w
        either true true w = refl
        either true false w = refl
        either false true w = refl
        either false false w = refl

    -- A rule for the places of an entry is the rule for its labels.
    pub beside_reached : swept_beside r entry words entries ≡ reached_of words (of_entry s) r
    beside_reached = each_place (word_beside r entry) (word_reached (of_entry s) r) words entries long same_word

  -- What a message by prefix does place by place is what it does to the labels of that prefix.
  pub every_beside_lem : (m : LabelMessage) → every_beside m entry words entries ≡ every_received m (of_entry (received_side m)) words
  unfolding every_beside every_received received_side
  every_beside_lem Mapping = refl
  every_beside_lem Withdraw = beside_reached withdraws
  every_beside_lem Release = beside_reached releases

  same_guard : (s : Side) (i : ℕ) → i < length words → both (eqb (get_or entries i 0) entry) (protected_on s (get_or words i 0)) ≡ guarded_by s (of_entry s) (get_or words i 0)
  unfolding needs_protection
  same_guard s i h =
      by_test
      (on_side s (code_of (get_or words i 0)))
      (λ on. rw (entry_here s i on))
      (λ off. rw off (none (not (eqb (code_of (get_or words i 0)) without_protection)) (eqb (get_or entries i 0) entry) (of_entry s (label_of (get_or words i 0)))))
    where
      none : (c a b : Bool) → both a (both c false) ≡ both b (both c false)
      none true true true = refl
      none true true false = refl
      none true false true = refl
      none true false false = refl
      none false true true = refl
      none false true false = refl
      none false false true = refl
      none false false false = refl

  -- and 33 reads as touched the labels of that prefix
  pub guarded_beside : (s : Side) → any_beside (protected_on s) entry words entries ≡ any (guarded_by s (of_entry s)) words
  guarded_beside s = any_place (protected_on s) entry (guarded_by s (of_entry s)) words entries long (same_guard s)

-- ---- the whole rule, by what a message touches
same_reached : (f g : ℕ → Bool) (r : SweepRule) (words : List ℕ) → ((k : ℕ) → f k ≡ g k) → reached_of words f r ≡ reached_of words g r
unfolding word_reached
same_reached f g r [] same = refl
same_reached f g r (w ∷ ws) same = rw (same (label_of w), same_reached f g r ws same)

same_received : (f g : ℕ → Bool) (m : LabelMessage) (words : List ℕ) → ((k : ℕ) → f k ≡ g k) → every_received m f words ≡ every_received m g words
unfolding every_received
same_received f g Mapping words same = refl
same_received f g Withdraw words same = same_reached f g WithdrawAll words same
same_received f g Release words same = same_reached f g ReleaseAll words same

module _ (words entries : List ℕ) (v : IsValid words) (long : length words ≤ length entries) (m : LabelMessage) where
  -- What the code says of a message's protection is what the rules say of the labels that it reaches.
  pub protection_beside_lem : (protected : Bool) (t : Touched)
      → protection_beside words entries m protected t ≡ protection_of words m protected (reach_of (received_side m) words entries t)
  unfolding protection_beside protection_of
  protection_beside_lem protected (Touched.Label label) = refl
  protection_beside_lem protected Touched.Every = refl
  protection_beside_lem true (Touched.Prefix entry) = refl
  protection_beside_lem false (Touched.Prefix entry) = ap (λ (b : Bool). pick b Missing Right) (guarded_beside words entries v entry long (received_side m))
  protection_beside_lem protected Touched.Nothing = refl

  -- And so is what it makes of the words.
  pub received_beside_lem : (x : Meets) (protected : Bool) (t : Touched)
      → received_beside words entries x m protected t ≡ received_of words x m protected (reach_of (received_side m) words entries t)
  unfolding received_beside received_with
  received_beside_lem x protected (Touched.Label label) = refl
  received_beside_lem x protected Touched.Every = refl
  received_beside_lem x protected (Touched.Prefix entry) =
      let mid : List ℕ = ended_at x.request words in
      let ok : IsValid mid = (ended_stays words v x.request).valid in
      let enough : length mid ≤ length entries = rw (ended-length x.request words) long in
      ap (λ (after : List ℕ). (Reception.Taken, after))
      (every_beside_lem mid entries ok entry enough m
      ∙ same_received _ _ m mid (λ k. ap (λ (n : ℕ). eqb n entry) (ap (entry_at entries) (ended_find words (received_side m) k x.request))))
  received_beside_lem x protected Touched.Nothing = refl
