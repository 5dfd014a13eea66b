-- The entries beside the words: a label that stays where it stood keeps its entry, and one that takes a word has that of the message. Assumes nothing.
use Rattle.std.specs.Prelude.{Option, Some, None}
use Prim.Native.Nat.{ℕ, ◌<◌}
use mathlib.Core.Bool.{true, true≢false}
use mathlib.Core.List.{List}
use mathlib.Core.Logic.{◌≢◌}
use mathlib.Core.Path.{◌≡◌, refl, sym, ap, ◌∙◌}
use lib.ListN.{length, get_or}
use lib.Seq.{get_or-set_same, get_or-set_other}
use Rattle.label_list.specs.declared.Side.{Side}
use Rattle.label_list.specs.Beside.{entry_at, entry_on}
use Rattle.label_list.specs.Counting.{counting}
use Rattle.label_list.specs.Find.{find_of}
use Rattle.label_list.specs.Word.{lists_label, stands_for}
use Rattle.label_list.proofs.Counting.{counting-at}
use Rattle.label_list.proofs.Reached.{found_in_lem, found_place, found_passes}
use Rattle.label_events.specs.Change.{put_at}
use Rattle.label_meaning.specs.Keep.{StandsOld}
use Rattle.label_meaning.specs.Valid.{IsValid}
use Rattle.label_meaning.proofs.Listed.{stands_lists}
use Rattle.label_meaning.proofs.View.{found_none}

entry-at : (entries : List ℕ) (q j : ℕ) → j ≡ q → entry_at entries (Some j) ≡ get_or entries q 0
unfolding entry_at
entry-at entries q j same = rw same

-- The entry of a label is the one beside the word that lists it.
pub entry_of_lem : (words entries : List ℕ) → IsValid words → (s : Side) (l q : ℕ) → stands_for s l (get_or words q 0) ≡ true → entry_on words entries s l ≡ get_or entries q 0
entry_of_lem words entries v s l q here = by (find_of (stands_for s l) words) refl
  where
    by : (f : Option ℕ) → f ≡ find_of (stands_for s l) words → entry_at entries (find_of (stands_for s l) words) ≡ get_or entries q 0
    by (Some j) e = rw (← e) (entry-at entries q j (v.once s l j q (found_passes (stands_for s l) words j e refl) here))
    by None e = absurd (true≢false (sym here ∙ found_none words s l (sym e) q))

-- 02: "An entry is looked at only where the word lists a label": those that do not count are nobody's.
pub entry_counted : (words entries : List ℕ) (s : Side) (l : ℕ) → entry_on words (counting 0 lists_label words entries) s l ≡ entry_on words entries s l
unfolding entry_at
entry_counted words entries s l = by (find_of (stands_for s l) words) refl
  where
    by : (f : Option ℕ) → f ≡ find_of (stands_for s l) words → entry_at (counting 0 lists_label words entries) f ≡ entry_at entries f
    by (Some i) e =
        counting-at 0 lists_label words entries i (stands_lists s l (get_or words i 0) (found_passes (stands_for s l) words i e refl))
        (found_place words (Some i) i (found_in_lem (stands_for s l) words e) refl)
    by None e = refl

put_other : (place : Option ℕ) (entry : ℕ) (index : List ℕ) (i : ℕ) → place ≢ Some i → get_or (put_at place entry index) i 0 ≡ get_or index i 0
put_other (Some j) entry index i apart = get_or-set_other index j i entry 0 (λ same. apart (ap Some (sym same)))
put_other None entry index i apart = refl

-- An event that lists no label at another place than `place`, where it puts that entry.
module _ (words after index : List ℕ) (v : IsValid words) (va : IsValid after) (place : Option ℕ) (entry : ℕ) where
  -- A label that stands at any other place has the entry that it had.
  pub entry_kept : StandsOld words after place → (s : Side) (l i : ℕ) → place ≢ Some i → stands_for s l (get_or after i 0) ≡ true
      → entry_on after (put_at place entry index) s l ≡ entry_on words index s l
  entry_kept old s l i apart stands =
      entry_of_lem after (put_at place entry index) va s l i stands ∙ put_other place entry index i apart ∙ sym (entry_of_lem words index v s l i (old s l i apart stands))

  -- The label that takes the word has the message's.
  pub entry-taken : (s : Side) (l j : ℕ) → place ≡ Some j → j < length index → stands_for s l (get_or after j 0) ≡ true → entry_on after (put_at place entry index) s l ≡ entry
  entry-taken s l j at inside stands = entry_of_lem after (put_at place entry index) va s l j stands ∙ rw at (get_or-set_same index j entry 0 inside)
