-- What the owner gives to Open, from its numbers.
use Rattle.std.specs.Prelude.{ℕ, Bool, true, false, ltb}
use Rattle.octets.specs.Pick.{pick}
use Rattle.ft_number.specs.declared.Form.{Form}
use Rattle.ft_number.specs.declared.MessageId.{MessageId}
use Rattle.ft_number.specs.declared.Proposal.{Proposal}
use Rattle.ft_number.specs.declared.Timeout.{Timeout}
use Rattle.message_writer.specs.declared.OwnParameters.{OwnParameters}

abbrev pub id_of : ℕ → MessageId
id_of n = record { 0 = n }

abbrev pub parameters_of : ℕ → ℕ → ℕ → ℕ → Bool → OwnParameters
parameters_of ka mp lsr space ondemand = record { keepalive = ka; pdulength = mp; lsr = lsr; space = space; ondemand = ondemand }

-- "published: our Init in RFC 3479's form .., proposal in milliseconds; else the draft's .., proposal in seconds"
abbrev pub form_of : Bool → Form
form_of true = Form.Published
form_of false = Form.Draft

-- "above 65,535 taken as 65,535": the longest that the draft's form can say
abbrev pub timeout_given : Form → ℕ → Timeout
timeout_given Form.Draft n = Timeout.Seconds (pick (ltb 65535 n) 65535 n)
timeout_given Form.Published n = Timeout.Milliseconds n

-- a proposal that is not given is the default; its number is not read
abbrev pub proposal_given : Bool → Form → ℕ → Proposal
proposal_given true form n = Proposal.Given (timeout_given form n)
proposal_given false form n = Proposal.NotGiven form
