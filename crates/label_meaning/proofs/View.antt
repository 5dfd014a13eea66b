-- In a valid list a label has one code on one side, that of `code_at`. Assumes nothing.
use Rattle.std.specs.Prelude.{Option, Some, None}
use Prim.Native.Nat.{ℕ}
use mathlib.Core.Bool.{false, true≢false}
use mathlib.Core.List.{List}
use mathlib.Core.Path.{◌≡◌, refl, sym, ap, ◌∙◌}
use lib.ListN.{get_or}
use Rattle.label_list.specs.declared.Side.{Side}
use Rattle.label_list.specs.Find.{find_of}
use Rattle.label_list.specs.Word.{code_of, stands_for}
use Rattle.label_list.proofs.Reached.{found_passes}
use Rattle.label_list.proofs.Sought.{found_any}
use Rattle.label_list.proofs.Standing.{free_stands}
use Rattle.label_events.specs.Change.{code_in, code_at}
use Rattle.label_meaning.specs.Valid.{IsValid}
use Rattle.label_meaning.specs.View.{CodeIs, listed, absent}
use Rattle.label_meaning.proofs.Meaning.{any_none}

module _ (words : List ℕ) (s : Side) (l : ℕ) where
  -- a search that finds nothing: no word stands for the label
  pub found_none : find_of (stands_for s l) words ≡ None → (i : ℕ) → stands_for s l (get_or words i 0) ≡ false
  found_none e = any_none (stands_for s l) words (sym (found_any (stands_for s l) words (sym e))) (free_stands s l)

  code_found : (f : Option ℕ) → f ≡ find_of (stands_for s l) words → CodeIs words s l (code_in words f)
  unfolding code_in
  code_found (Some i) e = listed i (found_passes (stands_for s l) words i e refl)
  code_found None e = absent (found_none (sym e))

  -- In any list this is a code of the label on the side,
  pub code_is : CodeIs words s l (code_at words s l)
  code_is = code_found (find_of (stands_for s l) words) refl

  pub code_unique : {c d : ℕ} → IsValid words → CodeIs words s l c → CodeIs words s l d → c ≡ d
  code_unique v (listed i p) (listed j q) = ap (λ (k : ℕ). code_of (get_or words k 0)) (v.once s l i j p q)
  code_unique v (listed i p) (absent q) = absurd (true≢false (sym p ∙ q i))
  code_unique v (absent p) (listed j q) = absurd (true≢false (sym q ∙ p j))
  code_unique v (absent p) (absent q) = refl

  -- and in a valid one the only one.
  pub is_code : {c : ℕ} → IsValid words → CodeIs words s l c → code_at words s l ≡ c
  is_code v d = code_unique v code_is d
