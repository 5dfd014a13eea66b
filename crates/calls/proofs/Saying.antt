-- Numbers and label words that the image says already, or does not. Assumes nothing.
use Prim.Native.Nat.{ℕ, ◌≤◌}
use mathlib.Core.Bool.{true, false}
use mathlib.Core.List.{List}
use mathlib.Core.Logic.{◌≢◌}
use mathlib.Core.Path.{◌≡◌, sym, ◌∙◌}
use native.Mathlib.Omega.{arith}
use lib.ListN.{length}
use denote.Laws.{Is}
use denote.Struct.Declared.{row}
use mir.Val.{Val}
use Rattle.octets.specs.Bytes.{Bytes}
use Rattle.octets.specs.Differ.{differ}
use Rattle.octets.proofs.Differ.{differ_self, differ_false, Same, same_none, same_all}
use Rattle.block.specs.Run.{Words}
use Rattle.label_list.specs.Word.{word_count}
use Rattle.block0.specs.declared.Header.{Header}
use Rattle.block0.specs.Fields.{Fits}
use Rattle.block0.specs.contracts.Header.{the_type}
use Rattle.image.specs.Sizes.{block}
use Rattle.image.specs.State.{decode, store0}
use Rattle.image.specs.Verdict.{IsSound}
use Rattle.image.proofs.Ranges.{labels-count}
use Rattle.image.proofs.Same.{store_same, store-changed}

-- the numbers of a header that a function was given have their widths
pub header_fits : {h : Header} {vs : List Val} → Is (row the_type) h vs → Fits h
header_fits g = record {
  released = omega (arith, g);
  issued = omega (arith, g);
  secured = omega (arith, g);
  first = omega (arith, g);
  held = omega (arith, g);
  timeout = omega (arith, g);
  kept = omega (arith, g);
  marks = omega (arith, g);
  keepalive = omega (arith, g);
  maxpdu = omega (arith, g);
}

-- as many words as the image has, and all compared
pub words-begin : (im words : List ℕ) → length words ≡ word_count → Same words (decode im).labels 0
words-begin im words n = same_none words (decode im).labels (n ∙ sym (labels-count im))

pub words-said : (words ls : List ℕ) (i : ℕ) → Same words ls i → length words ≤ i → words ≡ ls
words-said words ls i s h = differ_false words ls (sym (same_all words ls i s h))

pub stored_same : (im : List ℕ) {h : Header} {words : List ℕ} → IsSound im → Bytes im → h ≡ (decode im).header → words ≡ (decode im).labels
    → (im ≡ store0 im h words) × (false ≡ differ (block im 0) (block im 0))
stored_same im s byte eh ew = (rw (eh, ew) (sym (store_same im s byte)), sym (differ_self (block im 0)))

-- what the image does not say
pub stored_other : (im : List ℕ) (h : Header) (words : List ℕ) {im' : List ℕ} → IsSound im → Fits h → Words word_count words
    → (h ≡ (decode im).header → words ≢ (decode im).labels) → im' ≡ store0 im h words
    → (im' ≡ store0 im h words) × (true ≡ differ (block im 0) (block im' 0))
stored_other im h words s fh fw other e = (e, rw e (store-changed im h words s.size fh fw other))
