-- The entries that the image bears tell the same as those that count: only words that list a label are looked at. Assumes nothing.
use Rattle.std.specs.Prelude.{Option, Some, None}
use Prim.Native.Nat.{ℕ, ◌≤◌}
use mathlib.Core.Bool.{Bool, true, false}
use mathlib.Core.List.{List}
use mathlib.Core.Path.{◌≡◌, refl, sym, ap, ◌∙◌, fun_ext}
use native.Mathlib.Omega.{arith}
use lib.Dec.{eqb}
use lib.ListN.{length, get_or}
use Rattle.octets.specs.Pick.{pick}
use Rattle.label_list.specs.declared.LabelMessage.{LabelMessage}
use Rattle.label_list.specs.declared.Protection.TheVariants.{Missing, Right}
use Rattle.label_list.specs.declared.Side.{Side}
use Rattle.label_list.specs.Beside.{entry_at, entry_on}
use Rattle.label_list.specs.Counting.{counting}
use Rattle.label_list.specs.Find.{FoundIn, any, find_of}
use Rattle.label_list.specs.Rules.{received_side}
use Rattle.label_list.specs.Valid.{valid_of}
use Rattle.label_list.specs.Word.{lists_label, stands_for}
use Rattle.label_list.proofs.Reached.{found_in_lem, found_passes}
use Rattle.fec_index.proofs.Counted.{listed_at}
use Rattle.label_events.specs.declared.Meets.{Meets}
use Rattle.label_events.specs.declared.Reception.{Reception}
use Rattle.label_events.specs.declared.Touched.{Touched}
use Rattle.label_events.specs.Protect.{guarded_by, prefix_protection, protection_beside, protection_of}
use Rattle.label_events.specs.Reach.{Those}
use Rattle.label_events.specs.Receive.{every_beside, every_received, received_beside, received_of, received_place, received_with}
use Rattle.label_events.specs.Requests.{ended_at}
use Rattle.label_events.proofs.Ended.{ended_find, ended-length}
use Rattle.label_meaning.specs.Event.{Ended, after_event}
use Rattle.label_meaning.proofs.Besides.{every_beside_lem, guarded_beside}
use Rattle.label_meaning.proofs.Listed.{stands_lists}
use Rattle.label_meaning.proofs.Meaning.{valid_means}
use Rattle.label_meaning.proofs.Step.{step_valid}
use Rattle.protocol.specs.Labels.{effect_labels, effect_place, effect_protection, effect_reception, effect_takes}
use Rattle.protocol.specs.State.{Table, table_of}
use Rattle.receive.specs.Speed.{touches_none}
use Rattle.receive.specs.Words.{asks_entries, protection_lent, received_lent, takes_lent}

-- ---- the label that a message names has a place
pub place_inside : (words : List ℕ) (e : Option (LabelMessage × Touched)) → FoundIn words (effect_place words e)
unfolding received_place
place_inside words None = tt
place_inside words (Some (m, (Touched.Label l))) = found_in_lem (stands_for (received_side m) l) words refl
place_inside words (Some (m, Touched.Every)) = tt
place_inside words (Some (m, (Touched.Prefix entry))) = tt
place_inside words (Some (m, Touched.Nothing)) = tt

module _ (words xs : List ℕ) where
  -- ---- the entry of a label that was found
  entry_found : (s : Side) (l : ℕ) (f : Option ℕ) → f ≡ find_of (stands_for s l) words → entry_at (counting 0 lists_label words xs) f ≡ entry_at xs f
  unfolding entry_at
  entry_found s l (Some i) e = listed_at words xs i ∙ rw (stands_lists s l (get_or words i 0) (found_passes (stands_for s l) words i e refl))
  entry_found s l None e = refl

  entry_counted : (s : Side) (l : ℕ) → entry_on words (counting 0 lists_label words xs) s l ≡ entry_on words xs s l
  entry_counted s l = entry_found s l (find_of (stands_for s l) words) refl

  pub effect_entry : (e : Option (LabelMessage × Touched)) → entry_at (counting 0 lists_label words xs) (effect_place words e) ≡ entry_at xs (effect_place words e)
  unfolding received_place entry_at
  effect_entry None = refl
  effect_entry (Some (m, (Touched.Label l))) = entry_counted (received_side m) l
  effect_entry (Some (m, Touched.Every)) = refl
  effect_entry (Some (m, (Touched.Prefix entry))) = refl
  effect_entry (Some (m, Touched.Nothing)) = refl

  -- ---- the labels of an entry
  module _ (valid : valid_of words ≡ true) (long : length words ≤ length xs) (entry : ℕ) where
    -- by the entries that count
    abbrev listed : Side → ℕ → Bool
    listed s k = eqb (entry_on words (counting 0 lists_label words xs) s k) entry

    -- the words with a Request ended list the same labels
    same_labels : (request : Option ℕ) (s : Side) → (λ (k : ℕ). eqb (entry_on (ended_at request words) xs s k) entry) ≡ listed s
    same_labels request s = fun_ext (λ k. ap (λ (f : Option ℕ). eqb (entry_at xs f) entry) (ended_find words s k request) ∙ ap (λ (e : ℕ). eqb e entry) (sym (entry_counted s k)))

    same_guards : (s : Side) → (λ (k : ℕ). eqb (entry_on words xs s k) entry) ≡ listed s
    same_guards s = fun_ext (λ k. ap (λ (e : ℕ). eqb e entry) (sym (entry_counted s k)))

    -- 33 by the entries that the image bears
    pub prefix_protection_lem : (m : LabelMessage) (p : Bool) → prefix_protection words xs m p entry ≡ protection_of words m p (Those (listed (received_side m)))
    unfolding protection_of
    prefix_protection_lem m true = refl
    prefix_protection_lem m false =
        ap (λ (b : Bool). pick b Missing Right)
        (guarded_beside words xs (valid_means words valid) entry long (received_side m)
        ∙ ap (λ (reached : ℕ → Bool). any (guarded_by (received_side m) reached) words) (same_guards (received_side m)))

    ended_valid : (request : Option ℕ) → valid_of (ended_at request words) ≡ true
    unfolding after_event
    ended_valid request = step_valid words (Ended request) valid

    -- and what the words become
    pub prefix_words : (m : LabelMessage) (request : Option ℕ) → every_beside m entry (ended_at request words) xs ≡ every_received m (listed (received_side m)) (ended_at request words)
    prefix_words m request =
        every_beside_lem (ended_at request words) xs (valid_means (ended_at request words) (ended_valid request)) entry (omega (arith, ended-length request words)) m
        ∙ ap (λ (reached : ℕ → Bool). every_received m reached (ended_at request words)) (same_labels request (received_side m))

    pub prefix_received : (m : LabelMessage) (p : Bool) (x : Meets) → received_beside words xs x m p (Touched.Prefix entry) ≡ received_of words x m p (Those (listed (received_side m)))
    unfolding received_beside received_with
    prefix_received m p x = rw (prefix_words m x.request)

-- ---- by the entries lent: the image's where they are asked, any where not
module _ (words ids xs : List ℕ) (long : length words ≤ length xs) (e : Option (LabelMessage × Touched)) {entries : List ℕ} (lent : asks_entries e ≡ true → entries ≡ xs)
    (valid : touches_none e ≡ false → valid_of words ≡ true) (p : Bool) where
  abbrev t : Table
  t = table_of words ids xs

  pub lent_protection : protection_lent words entries p e ≡ effect_protection t p e
  unfolding protection_beside protection_of
  lent_protection = by e lent valid
    where
      by : (f : Option (LabelMessage × Touched)) → (asks_entries f ≡ true → entries ≡ xs) → (touches_none f ≡ false → valid_of words ≡ true) → protection_lent words entries p f ≡ effect_protection t p f
      by None l v = refl
      by (Some (m, (Touched.Label label))) l v = refl
      by (Some (m, Touched.Every)) l v = refl
      by (Some (m, (Touched.Prefix entry))) l v = rw (l refl) (prefix_protection_lem words xs (v refl) long entry m p)
      by (Some (m, Touched.Nothing)) l v = refl

  pub lent-received : (x : Meets) → ((received_lent words entries x p e).0 ≡ effect_reception t x p e) × ((received_lent words entries x p e).1 ≡ effect_labels t x p e)
  unfolding received_beside
  lent-received x = by e lent valid
    where
      by : (f : Option (LabelMessage × Touched)) → (asks_entries f ≡ true → entries ≡ xs) → (touches_none f ≡ false → valid_of words ≡ true)
          → ((received_lent words entries x p f).0 ≡ effect_reception t x p f) × ((received_lent words entries x p f).1 ≡ effect_labels t x p f)
      by None l v = (refl, refl)
      by (Some (m, (Touched.Label label))) l v = (refl, refl)
      by (Some (m, Touched.Every)) l v = (refl, refl)
      by (Some (m, (Touched.Prefix entry))) l v =
          let same = prefix_received words xs (v refl) long entry m p x in
          rw (l refl) (ap (λ (r : Reception × List ℕ). r.0) same, ap (λ (r : Reception × List ℕ). r.1) same)
      by (Some (m, Touched.Nothing)) l v = (refl, refl)

  pub lent-takes : (x : Meets) → takes_lent words x p e ≡ effect_takes t x p e
  lent-takes x = by e
    where
      by : (f : Option (LabelMessage × Touched)) → takes_lent words x p f ≡ effect_takes t x p f
      by None = refl
      by (Some (m, touched)) = refl
