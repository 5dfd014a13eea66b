-- The start: "two cabinets that both began afresh on one connection".
-- Both have opened, and their Inits are under way. Whatever their states held, R is zero in one of the Inits, so both come to a fresh UpFT on this
-- connection; the first of them may send before the other has read its Init. Each end is counted from its own fresh UpFT.
use Rattle.std.specs.Prelude.{ℕ, ◌≤◌, ◌<◌, true, false, List, [], ◌∷◌, ◌⊎◌, ◌≡◌}
use Rattle.ft_number.specs.declared.MessageId.{MessageId}
use Rattle.ft_number.specs.declared.Proposal.{Proposal}
use Rattle.message_writer.specs.declared.OwnParameters.{OwnParameters}
use Rattle.protocol.specs.Open.{open_bytes, awaiting}
use Rattle.protocol.specs.State.{State, held, capacity}
use Rattle.two_ends.specs.Runs.{Widths, ProposalFits}
use Rattle.two_ends.specs.World.{End, World, no_history}

-- a cabinet that opens: its state, and what its owner gives
pub record Opener : Type 0 where
  pub state : State
  pub id : MessageId
  pub parameters : OwnParameters
  pub proposal : Proposal

abbrev pub opening_end : Opener → End
opening_end o = record { state = o.state; phase = awaiting o.proposal; joined = true; begun = false; history = no_history }

abbrev pub first_init : Opener → List ℕ
first_init o = open_bytes o.state o.id o.parameters o.proposal

abbrev pub start : Opener → Opener → World
start x y = record { a = opening_end x; b = opening_end y; ab = first_init x ∷ []; ba = first_init y ∷ []; started = true; unreleased = true }

-- any state within the capacity, whose S has its width
pub record Fit (o : Opener) : Type 0 where
  pub few : held o.state ≤ capacity
  pub range : o.state.secured.0 < 4294967296
  pub widths : Widths o.id o.parameters
  pub proposal : ProposalFits o.proposal

-- "R = kept"
abbrev pub RZero : Opener → Type 0
RZero o = o.state.kept ≡ false

abbrev pub Afresh : Opener → Opener → Type 0
Afresh x y = RZero x ⊎ RZero y
