-- Numbers that were read spell the bytes that they were read from, and a block with its check is those bytes sealed. Assumes nothing.
use Prim.Native.Nat.{ℕ, ◌+◌, ◌*◌, ◌≤◌}
use mathlib.Core.Bool.{true}
use mathlib.Core.List.{List, [], ◌∷◌, ◌++◌}
use mathlib.Core.Path.{◌≡◌, refl, sym, ap, ap₂, ◌∙◌}
use native.Mathlib.Omega.{arith}
use lib.ListN.{length, take, drop, replicate, length-drop, take-append-drop}
use lib.Seq.{take-add, take_all, drop-drop}
use borrow.Author.Tests.{eqb-true}
use Rattle.octets.specs.Be.{be_at, bytes}
use Rattle.octets.specs.Bytes.{Bytes}
use Rattle.octets.proofs.Bytes.{bytes-be_at}
use Rattle.block.specs.Check.{block_size, check_at, check_of, sound, sealed}
use Rattle.block.specs.Run.{get_run, spelled, run_size, words_at, word_bytes}
use Rattle.block.proofs.WordRun.{size}

pub spelled-get_run : (ws s : List ℕ) (at : ℕ) → Bytes s → at + run_size ws ≤ length s → spelled ws (get_run ws s at) ≡ take (run_size ws) (drop at s)
unfolding spelled
spelled-get_run [] s at byte room = refl
spelled-get_run (w ∷ ws) s at byte room =
    ap₂ (λ (x y : List ℕ). x ++ y) (bytes-be_at w s at byte (omega arith)) (spelled-get_run ws s (at + w) byte (omega arith))
    ∙ ap (λ (l : List ℕ). take w (drop at s) ++ take (run_size ws) l) (sym (drop-drop w at s))
    ∙ sym (take-add w (run_size ws) (drop at s))

pub words_same : (n : ℕ) (s : List ℕ) (at : ℕ) → Bytes s → at + n * 4 ≤ length s → word_bytes n (words_at n s at) ≡ take (n * 4) (drop at s)
unfolding word_bytes words_at
words_same n s at byte room = rw size at (spelled-get_run (replicate n 4) s at byte (rw size room))

pub sealed_same : (b : List ℕ) → length b ≡ block_size → Bytes b → sound b ≡ true → sealed (take check_at b) ≡ b
unfolding sound sealed
sealed_same b long byte s =
    let rest : length (drop check_at b) ≡ 4 = length-drop check_at b ∙ omega arith in
    ap (λ (c : ℕ). take check_at b ++ bytes 4 c) (sym (eqb-true (be_at 4 b check_at) (check_of (take check_at b)) s))
    ∙ ap (λ (l : List ℕ). take check_at b ++ l) (bytes-be_at 4 b check_at byte (omega arith) ∙ take_all 4 (drop check_at b) (omega arith))
    ∙ take-append-drop check_at b
