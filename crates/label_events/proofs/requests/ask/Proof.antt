use mathlib.Core.Path.{refl}
use native.Mathlib.Omega.{arith}
use borrow.Author.Rules.{rules}
use Rattle.label_list.proofs.Reached.{found_in_lem, found_place}
use Rattle.label_events.specs.Change.{changed}
use Rattle.label_events.proofs.Asked.{asked_twice, asked-taken, asked-full}
use Rattle.label_events.proofs.requests.ask.Statement.{statement}
use Rattle.label_events.proofs.requests.ask.Tie as tie

pub ask_spec : {M : Type 1} → statement M
unfolding changed
ask_spec =
    let answers = tie.spec
    (λ c κs. tt)
    (λ c. search rules)
    (λ c. search rules)
    (λ c κs. tt)
    (λ c. search rules)
    (λ c. omega (arith, found_place _ _ _ (found_in_lem _ _ c.find.ensures) c.in-Some-find.is))
    (λ c. found_place _ _ _ (found_in_lem _ _ c.find.ensures) c.in-Some-find.is)
    (λ c. omega (arith, found_place _ _ _ (found_in_lem _ _ c.find.ensures) c.in-Some-find.is))
    (λ c. omega (arith, found_place _ _ _ (found_in_lem _ _ c.find.ensures) c.in-Some-find.is))
    (λ c. search rules)
    (λ c. search rules)
    (λ c. search rules)
    (λ c. rw (← asked_twice _ _ _ c.find_request.ensures _ c.in-Some.is) (refl, refl, refl, refl))
    (λ c. search rules)
    (λ c. search rules)
    (λ c. rw (← asked-taken _ _ _ c.find_request.ensures c.in-None.is c.find.ensures _ c.in-Some-find.is) (refl, refl, refl, refl))
    (λ c. search rules)
    (λ c. search rules)
    (λ c. rw (← asked-full _ _ _ c.find_request.ensures c.in-None.is c.find.ensures c.in-None-find.is) (refl, refl, refl, refl)) in
    tie.close answers
