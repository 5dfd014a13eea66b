-- The oldest message of a line, and what it lets go. Assumes nothing.
use Prim.Native.Nat.{ℕ, ◌-◌, ◌≤◌}
use mathlib.Core.List.{List, [], ◌∷◌, map}
use mathlib.Core.Path.{◌≡◌, refl, ap}
use native.Mathlib.Omega.{arith}
use lib.ListN.{length, take, drop, length-drop}
use Rattle.protocol.specs.State.{State}
use Rattle.protocol.specs.Step.{Step}
use Rattle.two_ends.specs.Calls.{let_go}
use Rattle.two_ends.proofs.Packets.{Packet, bytes_of}

-- ---- the oldest on the line is the first packet
pub record Oldest (m : List ℕ) (rest : List (List ℕ)) (ps : List Packet) (q : Packet) (qs : List Packet) : Type 0 where
  pub is : ps ≡ q ∷ qs
  pub bytes : m ≡ bytes_of q
  pub line : rest ≡ map bytes_of qs

pub oldest : (m : List ℕ) (rest : List (List ℕ)) (ps : List Packet) → m ∷ rest ≡ map bytes_of ps → (q : Packet) × (qs : List Packet) × Oldest m rest ps q qs
oldest m rest [] e = let z : ◌≡◌ {A = ℕ} 0 1 = cc in absurd (omega arith)
oldest m rest (q ∷ qs) e =
    let b : m ≡ bytes_of q = cc in
    let l : rest ≡ map bytes_of qs = cc in
    (q, qs, record { is = refl; bytes = b; line = l })

-- ---- the messages let go are those that an acknowledgement releases
pub let_go_is : (now : State) (x : Step) (k : ℕ) → k ≤ length now.queue → x.state.queue ≡ drop k now.queue → let_go now x ≡ take k now.queue
let_go_is now x k few e =
    let q : List (List ℕ) = now.queue in
    let n : length q - length x.state.queue ≡ k = omega (arith, ap length e, length-drop k q) in
    ap (λ (j : ℕ). take j q) n
