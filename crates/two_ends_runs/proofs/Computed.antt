-- The runs, computed. Assumes nothing.
use mathlib.Core.List.{[], ◌++◌}
use mathlib.Core.Path.{◌≡◌, refl}
use Rattle.ft_number.specs.declared.Form.{Form}
use Rattle.ft_number.specs.declared.Proposal.{Proposal}
use Rattle.protocol.specs.declared.Answer.{Answer}
use Rattle.protocol.specs.State.{held}
use Rattle.protocol.specs.Submit.{submit}
use Rattle.two_ends.specs.Staying.{Stays}
use Rattle.two_ends.specs.World.{swap}
use Rattle.two_ends_runs.specs.Breaks.{situation, half_open, half_open_ends, rejoined, rejoined_ends, over, over-begins, afresh, afresh-begins, exchange, exchanged, waits, waits-keeps, waits-releases, returns, returns-keeps, returns-releases}
use Rattle.two_ends_runs.specs.Cabinets.{address, mapping}
use Rattle.two_ends_runs.specs.Forms.{draft, published, opened_by, timeouts, exchanged_forms}
use Rattle.two_ends_runs.specs.Race.{race, labels, race_ends, race-asked, race-asked_ends}
use Rattle.two_ends_runs.specs.Tales.{ending, begin, again, again_ends, restart, restart_ends, too_early, too_early_ends, full, full_ends}
use Rattle.two_ends_runs.specs.Withdrawal.{stages, asked, asked-codes, acked_first, acked_first_codes, released_first, released_first_codes, acknowledged, mapped_anew, mapped_anew-codes, through}
use Rattle.two_ends_runs.proofs.Opened.{everything}

-- both are up, and nothing is held
pub begin_is : Stays (begin []) × (held (begin []).a.state ≡ 0)
unfolding everything
begin_is = (record { lasts = (refl, refl); ours = refl; theirs = refl }, refl)

pub again_is : ending again ≡ again_ends
unfolding everything
again_is = refl

pub restart_is : ending restart ≡ restart_ends
unfolding everything
restart_is = refl

pub too_early_is : ending too_early ≡ too_early_ends
unfolding everything
too_early_is = refl

pub race_is : labels race ≡ race_ends
unfolding everything
race_is = refl

pub race-asked_is : labels race-asked ≡ race-asked_ends
unfolding everything
race-asked_is = refl

-- the 64th is taken, the 65th refused
pub sixty_four : ending (full 64) ≡ full_ends
unfolding everything
sixty_four = refl

-- the 65th is answered 7
pub sixty_fifth : (submit (full 64).a.state (full 64).a.phase (address 7)).answer ≡ Answer.StoreFull
unfolding everything
sixty_fifth = refl

-- and changes nothing
pub unchanged_by_it : ending (full 65) ≡ full_ends
unfolding everything
unchanged_by_it = refl

-- ---- over a break
pub half_open_is : situation half_open ≡ half_open_ends
unfolding everything
half_open_is = refl

pub rejoined_is : ending rejoined ≡ rejoined_ends
unfolding everything
rejoined_is = refl

pub over_is : ending (over []) ≡ over-begins
unfolding everything
over_is = refl

pub afresh_is : ending (afresh []) ≡ afresh-begins
unfolding everything
afresh_is = refl

pub exchange_is : (ending (afresh exchange) ≡ exchanged 7) × (ending (swap (afresh exchange)) ≡ exchanged 9)
unfolding everything
exchange_is = (refl, refl)

-- "timeout 5, elapsed 4 keeps, 5 releases"
pub timeout_is : (situation (waits 4999 []) ≡ waits-keeps) × (situation (waits 5000 []) ≡ waits-releases)
unfolding everything
timeout_is = (refl, refl)

pub returns_is : (ending (returns 4999) ≡ returns-keeps) × (situation (returns 5000) ≡ returns-releases)
unfolding everything
returns_is = (refl, refl)

-- ---- forms that differ: the lesser of 5 seconds and 5,250 milliseconds, of 0 and 250, of two zeros, and of two that are not given
pub agreed_is : (timeouts (opened_by (draft 5) (published 5250) []) ≡ (5000, 5000))
    × (timeouts (opened_by (draft 0) (published 250) []) ≡ (250, 250))
    × (timeouts (opened_by (published 0) (draft 0) []) ≡ (0, 0))
    × (timeouts (opened_by (Proposal.NotGiven Form.Published) (Proposal.NotGiven Form.Draft) []) ≡ (30000, 30000))
unfolding everything
agreed_is = (refl, refl, refl, refl)

-- over a break in which both change their form
pub forms_is : (timeouts exchanged_forms ≡ (3001, 3001)) × (ending exchanged_forms ≡ exchanged 7)
unfolding everything
forms_is = (refl, refl)

-- ---- a label to its end
pub acked_first_is : stages (begin []) (asked ++ acked_first) ≡ asked-codes ++ acked_first_codes
unfolding everything
acked_first_is = refl

pub released_first_is : stages (begin []) (asked ++ released_first) ≡ asked-codes ++ released_first_codes
unfolding everything
released_first_is = refl

-- a label that is withdrawn and acknowledged is not mapped anew (6) before the peer has given it back
pub mapped_anew_refused : (let a = (through (begin []) (asked ++ acknowledged)).a in (submit a.state a.phase (mapping 3)).answer) ≡ Answer.LabelNotAllowed
unfolding everything
mapped_anew_refused = refl

pub mapped_anew_is : stages (through (begin []) (asked ++ acknowledged)) mapped_anew ≡ mapped_anew-codes
unfolding everything
mapped_anew_is = refl
