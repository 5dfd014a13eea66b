use mathlib.Core.Path.{refl}
use native.Mathlib.Omega.{arith}
use borrow.Author.Rules.{rules}
use Rattle.label_events.specs.Change.{changed}
use Rattle.label_events.proofs.Asked.{open_inside, aborted_there, aborted_none}
use Rattle.label_events.proofs.requests.abort.Statement.{statement}
use Rattle.label_events.proofs.requests.abort.Tie as tie

pub abort_spec : {M : Type 1} → statement M
unfolding changed
abort_spec =
    let answers = tie.spec
    (λ c κs. tt)
    (λ c. search rules)
    (λ c. omega (arith, open_inside _ _ _ _ c.find_request.ensures c.in-Some.is))
    (λ c. open_inside _ _ _ _ c.find_request.ensures c.in-Some.is)
    (λ c. search rules)
    (λ c. search rules)
    (λ c. rw (← aborted_there _ _ _ c.find_request.ensures _ c.in-Some.is) (refl, refl, refl))
    (λ c. search rules)
    (λ c. rw (← aborted_none _ _ _ c.find_request.ensures c.in-None.is) (refl, refl, refl)) in
    tie.close answers
