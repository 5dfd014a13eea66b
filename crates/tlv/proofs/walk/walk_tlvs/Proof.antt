-- The invariant: what the walk says of the rest, with the places found so far, is what it says of the whole.
use Prim.Native.Nat.{◌-◌, ◌≤◌}
use mathlib.Core.Path.{◌≡◌}
use lib.ListN.{length, drop}
use borrow.Author.Rules.{rules}
use Rattle.tlv.specs.Walk.{walk_of, none_found}
use Rattle.tlv.proofs.Turns.{loops}
use Rattle.tlv.proofs.walk.walk_tlvs.Statement.{statement}
use Rattle.tlv.proofs.walk.walk_tlvs.Tie as tie

abbrev invariant-walk : tie.invariant-walk
invariant-walk s found₀ at₀ found at = (at ≤ length s) × (walk_of at (drop at s) found ≡ walk_of 8 (drop 8 s) none_found)

abbrev decreases-walk : tie.decreases-walk
decreases-walk s found₀ at₀ found at = length s - at

pub walk_tlvs_spec : {M : Type 1} → statement M
walk_tlvs_spec =
    let answers = tie.spec
    invariant-walk
    decreases-walk
    (λ c. search (rules, loops)) (λ c. search (rules, loops)) (λ c. search (rules, loops)) (λ c. search (rules, loops)) (λ c. search (rules, loops))
    (λ c. search (rules, loops)) (λ c. search (rules, loops)) (λ c. search (rules, loops)) (λ c. search (rules, loops)) (λ c. search (rules, loops)) in
    tie.close answers
