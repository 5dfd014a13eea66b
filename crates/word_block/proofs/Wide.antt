-- The words of bytes have their width, and so have words of which one becomes another. Assumes nothing.
use Prim.Native.Nat.{ℕ, ◌+◌, ◌*◌, ◌≤◌, ◌<◌}
use mathlib.Core.List.{List}
use mathlib.Core.Logic.{⊎_elim}
use mathlib.Core.Path.{◌∙◌}
use native.Mathlib.Omega.{arith}
use lib.Dec.{eqb}
use lib.ListN.{length, get_or-eq_default, set, get_or, length-set}
use lib.Seq.{get_or-set_same, get_or-set_other}
use borrow.Author.Tests.{eqb-true, eqb-false}
use Rattle.octets.specs.Bytes.{Bytes}
use Rattle.octets.proofs.Be.{be_at-lt}
use Rattle.octets.proofs.Choice.{below_or_not, by_test}
use Rattle.block.specs.Run.{words_at, Words}
use Rattle.block.proofs.WordRun.{length-words_at, get_d_words_at}

pub words-bytes : (n : ℕ) (s : List ℕ) (at : ℕ) → Bytes s → Words n (words_at n s at)
words-bytes n s at byte = record {
  count = length-words_at n s at;
  each = λ i.
      ⊎_elim
      (λ (l : i < n). rw (get_d_words_at n s at i l) (be_at-lt 4 s (at + i * 4) byte))
      (λ (l : n ≤ i). rw (get_or-eq_default (words_at n s at) 0 {n = i} (rw length-words_at l)) (omega arith))
      (below_or_not i n);
}

-- one of them is another
pub set_words : (n : ℕ) (ws : List ℕ) (i v : ℕ) → Words n ws → v < 4294967296 → Words n (set ws i v)
set_words n ws i v w small = record {
  count = length-set ws i v ∙ w.count;
  each = λ j.
      by_test (eqb j i)
      (λ e. rw (eqb-true j i e) (put i))
      (λ e. rw (get_or-set_other ws i j v 0 (eqb-false j i e)) (w.each j));
}
  where
    put : (j : ℕ) → get_or (set ws j v) j 0 < 4294967296
    put j =
        ⊎_elim
        (λ (l : j < length ws). rw (get_or-set_same ws j v 0 l) small)
        (λ (l : length ws ≤ j). rw (get_or-eq_default (set ws j v) 0 {n = j} (rw length-set l)) (omega arith))
        (below_or_not j (length ws))
