-- Texts put one after the other are their join. Assumes nothing.
use Prim.Native.Nat.{ℕ, ◌+◌, ◌≤◌}
use mathlib.Core.List.{List, [], ◌++◌}
use mathlib.Core.Path.{◌≡◌, sym, ap, ◌∙◌}
use native.Mathlib.Omega.{arith}
use lib.ListN.{length, take, length-append}
use Rattle.octets.specs.Laid.{laid}
use Rattle.octets.proofs.Laid.{laid_none, laid-laid, length-laid, take-laid}
use Rattle.text.specs.Text.{Put}

pub put_none : (s : List ℕ) (at : ℕ) → Put s at [] s at
put_none s at = record { bytes = sym (laid_none s at); ends = omega arith }

-- texts put one after the other are their join
pub put_then : {a t b u c : List ℕ} {at mid end : ℕ} → Put a at t b mid → Put b mid u c end → Put a at (t ++ u) c end
put_then {a} {t} {b} {u} {c} {at} {mid} {end} p q =
    let next : c ≡ laid (laid a at t) (at + length t) u =
    q.bytes ∙ ap (λ (s : List ℕ). laid s mid u) p.bytes ∙ ap (λ (i : ℕ). laid (laid a at t) i u) p.ends in
    record { bytes = next ∙ laid-laid a at t u; ends = rw length-append (omega (arith, p.ends, q.ends)) }

pub put-length : {a t b : List ℕ} {at end : ℕ} → Put a at t b end → length b ≡ length a
put-length {a} {t} {b} {at} p = ap length p.bytes ∙ length-laid a at t

-- a text put at the start is what stands before its end
pub put_read : {a t b : List ℕ} {end : ℕ} → Put a 0 t b end → length t ≤ length a → take end b ≡ t
put_read {a} {t} {b} {end} p room =
    let size : end ≡ length t = omega (arith, p.ends) in
    ap (take end) p.bytes ∙ ap (λ (n : ℕ). take n (laid a 0 t)) size ∙ take-laid a t room

pub ruleset pieces = (put_none, put_then)
