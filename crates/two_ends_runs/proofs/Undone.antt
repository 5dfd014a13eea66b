-- Runs in which a Request is left out, computed. Assumes nothing.
use Prim.Native.Nat.{ℕ}
use mathlib.Core.Bool.{false, true}
use mathlib.Core.List.{List, [], ◌∷◌, ◌++◌, append-nil}
use mathlib.Core.Path.{◌≡◌, refl, ap, ◌∙◌}
use Rattle.protocol.specs.declared.Answer.{Answer}
use Rattle.protocol.specs.Submit.{submit}
use Rattle.two_ends.specs.Runs.{run}
use Rattle.two_ends.specs.World.{World}
use Rattle.stored_ends.proofs.Follows.{run-append}
use Rattle.two_ends_runs.specs.Cabinets.{abort, address, alive, deliver, offer, request}
use Rattle.two_ends_runs.specs.Tales.{Ending, begin, ending}
use Rattle.two_ends_runs.specs.Undone.{headed, headed_ends, leap, leap_ends, leaping, leapt, midway, midway_ends, omission, passed_ends, pended, resent, resent_ends, undone, undone_ends}
use Rattle.two_ends_runs.specs.Wrap.{rounds, sevens}
use Rattle.two_ends_runs.proofs.Opened.{everything}
use Rattle.two_ends_runs.proofs.Rounds.{last_number, quiet_at, rounds_lead}

pub undone_is : omission undone ≡ undone_ends
unfolding everything
undone_is = refl

pub midway_is : omission midway ≡ midway_ends
unfolding everything
midway_is = refl

-- both are secured, the Request too
pub resent_is : (omission resent ≡ resent_ends) × (omission pended ≡ resent_ends)
unfolding everything
resent_is = (refl, refl)

-- the 65th is refused
pub headed_is : (omission (headed []) ≡ headed_ends) × ((submit (headed []).a.state (headed []).a.phase (address 8)).answer ≡ Answer.StoreFull)
unfolding everything
headed_is = (refl, refl)

-- after the ACK it is taken
pub passed_is : omission (headed (alive false ∷ deliver true ∷ offer true 8 ∷ [])) ≡ passed_ends
unfolding everything
passed_is = refl

-- with what was let go and secured before the break, behind which the resumed session puts nothing
abbrev leapt_from : List (List ℕ) → List (List ℕ) → Ending
leapt_from before done = record {
  accepted = (leapt before).accepted;
  letgo = done ++ (request 5 ∷ abort 6 5 ∷ []);
  held = [];
  secured = done ++ (abort 6 5 ∷ []);
  released = (leapt before).released;
  issued = (leapt before).issued;
  last = (leapt before).last;
  started = true;
  unreleased = true;
}

leaps : (before : List (List ℕ)) → ending (run (quiet_at 0xFFFFFFFE before) leap) ≡ leapt_from before (before ++ [])
unfolding everything
leaps before = refl

pub leap_is : ending leaping ≡ leap_ends
leap_is =
    ap ending
    (run-append (begin []) (rounds 0xFFFFFFFE) leap
    ∙ ap (λ (w : World). run w leap) (rounds_lead 0xFFFFFFFE ∙ ap (λ (k : ℕ). quiet_at k (sevens 0xFFFFFFFE)) last_number))
    ∙ leaps (sevens 0xFFFFFFFE)
    ∙ ap (leapt_from (sevens 0xFFFFFFFE)) (append-nil (sevens 0xFFFFFFFE))
