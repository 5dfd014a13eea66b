-- The laws of a run of 32-bit words, from those of a run. Assumes nothing.
use Prim.Native.Nat.{ℕ, zero, suc, ◌+◌, ◌-◌, ◌*◌, ◌≤◌, ◌<◌}
use mathlib.Core.List.{List, [], ◌∷◌, ◌++◌}
use mathlib.Core.Path.{◌≡◌, refl, sym, ap, ◌∙◌}
use native.Mathlib.Numerals.{add-one}
use native.Mathlib.Omega.{arith}
use lib.ListN.{length, get_or, set, drop, replicate}
use lib.Seq.{drop-cons}
use Rattle.octets.specs.Be.{be_at, bytes}
use Rattle.octets.specs.Laid.{laid}
use Rattle.octets.proofs.Fill.{length_zeros, zeros_at}
use Rattle.octets.proofs.Laid.{laid_none, laid_then, laid_behind, laid-over}
use Rattle.block.specs.Run.{spelled, run_size, words_at, word_bytes, Words}
use Rattle.block.proofs.Run.{Fit, none, one, length-spelled, get_run-spelled, zeros_get_run, get_run_zeros}

pub size : (n : ℕ) → run_size (replicate n 4) ≡ n * 4
size zero = refl
size (suc n) = omega (arith, size n)

count : (n : ℕ) → length {A = ℕ} (replicate n 4) ≡ n
count zero = refl
count (suc n) = ap suc (count n)

fit : (ws : List ℕ) → ((i : ℕ) → get_or ws i 0 < 4294967296) → Fit (replicate (length ws) 4) ws
fit [] each = none
fit (w ∷ ws) each = one (each 0) (fit ws (λ i. each (suc i)))

pub length-words_at : (n : ℕ) (s : List ℕ) (at : ℕ) → length (words_at n s at) ≡ n
unfolding words_at
length-words_at zero s at = refl
length-words_at (suc n) s at = ap suc (length-words_at n s (at + 4))

-- the word at place i
pub get_d_words_at : (n : ℕ) (s : List ℕ) (at i : ℕ) → i < n → get_or (words_at n s at) i 0 ≡ be_at 4 s (at + i * 4)
unfolding words_at
get_d_words_at zero s at i l = absurd (omega arith)
get_d_words_at (suc n) s at zero l = ap (be_at 4 s) (omega arith)
get_d_words_at (suc n) s at (suc i) l = get_d_words_at n s (at + 4) i (omega arith) ∙ ap (be_at 4 s) (omega arith)

pub length-word_bytes : (n : ℕ) (ws : List ℕ) → length (word_bytes n ws) ≡ n * 4
unfolding word_bytes
length-word_bytes n ws = length-spelled (replicate n 4) ws ∙ size n

-- words that were spelled are read back, also where they stand between others
pub words-spelled : (n : ℕ) (ws s t : List ℕ) (at : ℕ) → at ≡ length s → Words n ws → words_at n (s ++ (word_bytes n ws ++ t)) at ≡ ws
unfolding words_at word_bytes
words-spelled n ws s t at e h =
    let fits : Fit (replicate n 4) ws = rw h.count at (fit ws h.each) in
    get_run-spelled (replicate n 4) ws s t at e fits

-- ---- words stored one after the other: what is left to be written, from word i on
pub words-turn : (n : ℕ) (ws s : List ℕ) (at i : ℕ) → i < n → n ≤ length ws
    → laid s (at + i * 4) (word_bytes (n - i) (drop i ws))
    ≡ laid (laid s (at + i * 4) (bytes 4 (get_or ws i 0))) (at + (i + 1) * 4) (word_bytes (n - (i + 1)) (drop (i + 1) ws))
unfolding word_bytes spelled
words-turn n ws s at i l m =
    let left : n - i ≡ suc (n - (i + 1)) = omega arith in
    let inside : i < length ws = omega arith in
    let b : List ℕ = bytes 4 (get_or ws i 0) in
    let rest : List ℕ = spelled (replicate (n - (i + 1)) 4) (drop (i + 1) ws) in
    rw (left, drop-cons ws i 0, ← add-one i) (sym (laid_then s (at + i * 4) b rest (at + (i + 1) * 4) (omega arith)))

pub words_none : (ws s : List ℕ) (at : ℕ) → laid s at (word_bytes 0 ws) ≡ s
unfolding word_bytes spelled
words_none ws s at = laid_none s at

-- one word that is another
pub word_put : (n : ℕ) (ws : List ℕ) (i v : ℕ) → i < n → n ≤ length ws → word_bytes n (set ws i v) ≡ laid (word_bytes n ws) (i * 4) (bytes 4 v)
unfolding word_bytes spelled
word_put zero ws i v l m = absurd (omega arith)
word_put (suc n) [] i v l m = absurd (omega arith)
word_put (suc n) (x ∷ ws) zero v l m = sym (laid-over (bytes 4 x) (spelled (replicate n 4) ws) (bytes 4 v) refl)
word_put (suc n) (x ∷ ws) (suc i) v l m =
    let there : 4 + i * 4 ≡ suc i * 4 = omega arith in
    ap (λ (r : List ℕ). bytes 4 x ++ r) (word_put n ws i v (omega arith) (omega arith))
    ∙ sym (laid_behind (bytes 4 x) (spelled (replicate n 4) ws) (i * 4) (bytes 4 v))
    ∙ ap (λ (k : ℕ). laid (bytes 4 x ++ spelled (replicate n 4) ws) k (bytes 4 v)) there

-- ---- zeros
pub zeros_words : (n : ℕ) (s : List ℕ) (at : ℕ) → ((k : ℕ) → k < n * 4 → get_or s (at + k) 0 ≡ 0) → words_at n s at ≡ replicate n 0
unfolding words_at
zeros_words n s at z = rw (count n) at (zeros_get_run (replicate n 4) s at (λ k l. z k (rw size at l)))

pub words_zeros : (n : ℕ) (s : List ℕ) (at : ℕ) → words_at n s at ≡ replicate n 0 → (k : ℕ) → k < n * 4 → get_or s (at + k) 0 ≡ 0
unfolding words_at
words_zeros n s at e k l = get_run_zeros (replicate n 4) s at (rw (count n) e) k (rw size l)

-- ---- words of zero
pub none_fit : (n : ℕ) → Words n (replicate n 0)
none_fit n = record { count = length_zeros n; each = λ i. rw (zeros_at n i) (omega arith) }

-- they are bytes of zero
pub zero-words : (n : ℕ) → word_bytes n (replicate n 0) ≡ replicate (n * 4) 0
unfolding word_bytes spelled
zero-words zero = refl
zero-words (suc n) =
    let more : suc n * 4 ≡ suc (suc (suc (suc (n * 4)))) = omega arith in
    rw more (ap (λ (l : List ℕ). 0 ∷ 0 ∷ 0 ∷ 0 ∷ l) (zero-words n))
