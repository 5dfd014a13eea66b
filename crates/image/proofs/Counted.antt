-- The counts of an image. Assumes nothing.
use Rattle.std.specs.Prelude.{Option, Some, None}
use Prim.Native.Nat.{ℕ, ◌-◌, ◌≤◌}
use mathlib.Core.Bool.{true}
use mathlib.Core.List.{List}
use mathlib.Core.Path.{◌≡◌, sym, ◌∙◌}
use lib.Dec.{leb}
use borrow.Author.Tests.{leb-true}
use Rattle.ft_number.specs.Circle.{steps_of}
use Rattle.label_list.specs.Find.{listed_count}
use Rattle.label_list.specs.Word.{word_count}
use Rattle.label_list.proofs.Sought.{listed_most}
use Rattle.block0.specs.declared.Header.{Header}
use Rattle.block0.specs.Fields.{at_most}
use Rattle.image.specs.declared.Counts.{Counts}
use Rattle.image.specs.Counts.{pended_of, counts_of}
use Rattle.image.specs.State.{Contents, decode}
use Rattle.image.proofs.Ranges.{labels-count}

-- ---- the pended
module _ (h : Header) (s : Option ℕ) (e : s ≡ steps_of h.released.0 h.issued.0) where
  pub issued_low : at_most h.held (steps_of h.released.0 h.issued.0) ≡ true → (n : ℕ) → s ≡ Some n → n ≤ h.held
  issued_low w n q =
      let steps : steps_of h.released.0 h.issued.0 ≡ Some n = sym e ∙ q in
      let t : leb n h.held ≡ true = rw steps at w in
      leb-true n h.held t

  pub pended-count : (n : ℕ) → s ≡ Some n → h.held - n ≡ pended_of h
  unfolding pended_of
  pended-count n q = rw (← e, q)

  pub pended_all : s ≡ None → h.held ≡ pended_of h
  unfolding pended_of
  pended_all q = rw (← e, q)

-- ---- the label words in use: 119 at most
pub listed_few : (image : List ℕ) → listed_count (decode image).labels ≤ word_count
listed_few image = rw (← labels-count image) (listed_most (decode image).labels)

-- ---- all of them
pub counts_is : (s : Contents) (h : Header) (ws : List ℕ) (p l : ℕ) → h ≡ s.header → ws ≡ s.labels → p ≡ pended_of h → l ≡ listed_count ws
    → ◌≡◌ {A = Counts} (record { released = h.released; issued = h.issued; secured = h.secured; held = h.held; pended = p; labels = l }) (counts_of s)
unfolding counts_of
counts_is s h ws p l eh ew ep el = rw (ep, el, eh, ew)
