-- The start: two cabinets that open on one connection, each with its image in memory as on the medium.
use Rattle.std.specs.Prelude.{ℕ, List}
use Rattle.ft_number.specs.declared.MessageId.{MessageId}
use Rattle.ft_number.specs.declared.Proposal.{Proposal}
use Rattle.message_writer.specs.declared.OwnParameters.{OwnParameters}
use Rattle.image.specs.State.{InRange, decode}
use Rattle.image.specs.Verdict.{IsSound}
use Rattle.calls.specs.State.{state_of}
use Rattle.two_ends.specs.Runs.{Widths, ProposalFits}
use Rattle.two_ends.specs.Start.{Opener, start}
use Rattle.stored_ends.specs.Pair.{Cabinet, Pair}

-- a cabinet's image, and what its owner gives
pub record Holder : Type 0 where
  pub image : List ℕ
  pub id : MessageId
  pub parameters : OwnParameters
  pub proposal : Proposal

-- any sound image of numbers that have their width
pub record Sound (o : Holder) : Type 0 where
  pub sound : IsSound o.image
  pub range : InRange (decode o.image)
  pub widths : Widths o.id o.parameters
  pub proposal : ProposalFits o.proposal

abbrev pub opener_of : Holder → Opener
opener_of o = record { state = state_of o.image; id = o.id; parameters = o.parameters; proposal = o.proposal }

abbrev pub cabinet_of : Holder → Cabinet
cabinet_of o = record { image = o.image; medium = o.image }

abbrev pub begins : Holder → Holder → Pair
begins x y = record { world = start (opener_of x) (opener_of y); own = cabinet_of x; peer = cabinet_of y }
