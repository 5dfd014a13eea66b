-- The laws of a run of numbers: what is spelled is read back, and stores one after the other spell it. Assumes nothing.
use Prim.Native.Nat.{ℕ, ◌+◌, ◌^◌, ◌-◌, ◌≤◌, ◌<◌}
use mathlib.Core.List.{List, [], ◌∷◌, ◌++◌, append_assoc}
use mathlib.Core.Logic.{⊎_elim}
use mathlib.Core.Path.{◌≡◌, refl, sym, ap, ap₂, ◌∙◌}
use native.Mathlib.Omega.{arith}
use lib.ListN.{length, get_or, drop, replicate, length-append}
use Rattle.octets.specs.Be.{be_at, bytes}
use Rattle.octets.specs.Laid.{laid}
use Rattle.octets.proofs.Be.{zeros_be_at, be_at_zeros}
use Rattle.octets.proofs.Bytes.{length-bytes, be_at-spelled}
use Rattle.octets.proofs.Choice.{below_or_not}
use Rattle.octets.proofs.Laid.{laid_none, laid_then}
use Rattle.block.specs.Run.{get_run, spelled, run_size}

-- each value has its width
pub data Fit : List ℕ → List ℕ → Type 0 where
  none : Fit [] []
  one : {w v : ℕ} {ws vs : List ℕ} → v < 256 ^ w → Fit ws vs → Fit (w ∷ ws) (v ∷ vs)

pub length-spelled : (ws vs : List ℕ) → length (spelled ws vs) ≡ run_size ws
unfolding spelled
length-spelled [] vs = refl
length-spelled (w ∷ ws) vs = rw (length-append, length-bytes w (get_or vs 0 0), length-spelled ws (drop 1 vs))

-- what a run of fields spells it reads back, also where it stands between others
pub get_run-spelled : (ws vs s t : List ℕ) (at : ℕ) → at ≡ length s → Fit ws vs → get_run ws (s ++ (spelled ws vs ++ t)) at ≡ vs
unfolding spelled
get_run-spelled [] [] s t at e none = refl
get_run-spelled (w ∷ ws) (v ∷ vs) s t at e (one small f) =
    let b : List ℕ = bytes w v in
    let rest : List ℕ = spelled ws vs ++ t in
    let there : at + w ≡ length (s ++ b) = omega (arith, length-append s b, length-bytes w v) in
    let tail : get_run ws (s ++ (b ++ rest)) (at + w) ≡ vs =
    ap (λ (x : List ℕ). get_run ws x (at + w)) (sym (append_assoc s b rest)) ∙ get_run-spelled ws vs (s ++ b) t (at + w) there f in
    ap (λ (x : List ℕ). get_run (w ∷ ws) (s ++ x) at) (append_assoc b (spelled ws vs) t)
    ∙ ap₂ (λ (x : ℕ) (l : List ℕ). x ∷ l) (be_at-spelled w v s rest at e small) tail
get_run-spelled [] (v ∷ vs) s t at e x4 = elim x4 [ ]
get_run-spelled (w ∷ ws) [] s t at e x4 = elim x4 [ ]

-- numbers stored one after the other are a run
abbrev pub put_run : List ℕ → List ℕ → List ℕ → ℕ → List ℕ
put_run [] vs s at = s
put_run (w ∷ ws) vs s at = put_run ws (drop 1 vs) (laid s at (bytes w (get_or vs 0 0))) (at + w)

put_run-laid : (ws vs s : List ℕ) (at : ℕ) → put_run ws vs s at ≡ laid s at (spelled ws vs)
unfolding spelled
put_run-laid [] vs s at = sym (laid_none s at)
put_run-laid (w ∷ ws) vs s at =
    let b : List ℕ = bytes w (get_or vs 0 0) in
    put_run-laid ws (drop 1 vs) (laid s at b) (at + w)
    ∙ laid_then s at b (spelled ws (drop 1 vs)) (at + w) (ap (λ (k : ℕ). at + k) (sym (length-bytes w (get_or vs 0 0))))

pub run-put : (ws vs s : List ℕ) (at : ℕ) {x : List ℕ} → x ≡ put_run ws vs s at → x ≡ laid s at (spelled ws vs)
run-put ws vs s at e = e ∙ put_run-laid ws vs s at

-- ---- zeros
pub zeros_get_run : (ws s : List ℕ) (at : ℕ) → ((k : ℕ) → k < run_size ws → get_or s (at + k) 0 ≡ 0) → get_run ws s at ≡ replicate (length ws) 0
zeros_get_run [] s at z = refl
zeros_get_run (w ∷ ws) s at z =
    let rest : get_run ws s (at + w) ≡ replicate (length ws) 0 =
    zeros_get_run ws s (at + w) (λ k l. let e : at + w + k ≡ at + (w + k) = omega arith in rw e (z (w + k) (omega arith))) in
    rw (zeros_be_at w s at (λ k l. z k (omega arith)), rest)

-- and its bytes are zero where the fields are
pub get_run_zeros : (ws s : List ℕ) (at : ℕ) → get_run ws s at ≡ replicate (length ws) 0 → (k : ℕ) → k < run_size ws → get_or s (at + k) 0 ≡ 0
get_run_zeros [] s at e k l = absurd (omega arith)
get_run_zeros (w ∷ ws) s at e k l =
    let head : be_at w s at ≡ 0 = cc in
    let rest : get_run ws s (at + w) ≡ replicate (length ws) 0 = cc in
    ⊎_elim
    (λ (h : k < w). be_at_zeros w s at head k h)
    (λ (h : w ≤ k).
    let there : at + w + (k - w) ≡ at + k = omega arith in
    rw there at (get_run_zeros ws s (at + w) rest (k - w) (omega arith)))
    (below_or_not k w)
