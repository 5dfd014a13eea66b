-- The listed TLVs of a message as fields of its line, in their order.
use Rattle.std.specs.Prelude.{ℕ, ◌+◌, ◌≤◌, List, ◌++◌, length}
use Rattle.octets.specs.Part.{part}
use Rattle.text.specs.Text.{ascii}
use Rattle.tlv.specs.declared.Part.{Part}
use Rattle.dump_fields.specs.Field.{fec_text, label_text, status_text, parameters_text, session_text, ft_text, request_id_text}
use Rattle.message.specs.declared.Message.{Message}

-- the bytes of a part of the message
abbrev pub value_of : List ℕ → Part → List ℕ
value_of m p = part m p.start p.end

-- the parts of a message that was read lie within it, and that of the session parameters has at most 14 bytes
pub record PartsWithin (m : List ℕ) (g : Message) : Type 0 where
  pub fec_starts : g.fecvalue.start ≤ g.fecvalue.end
  pub fec_ends : g.fecvalue.end ≤ length m
  pub parameters_starts : g.parametersvalue.start ≤ g.parametersvalue.end
  pub parameters_ends : g.parametersvalue.end ≤ length m
  pub parameters_size : g.parametersvalue.end ≤ g.parametersvalue.start + 14

-- the binding: FEC and label
abbrev pub binding_text : List ℕ → Message → List ℕ
binding_text m g = fec_text g.fec (value_of m g.fecvalue) ++ label_text g.label

-- the session's state: status and parameters
abbrev pub state_text : List ℕ → Message → List ℕ
state_text m g = status_text g.status ++ parameters_text g.parameters (value_of m g.parametersvalue)

-- the FT TLVs
abbrev pub ft_texts : Message → List ℕ
ft_texts g = session_text g.session ++ ft_text (ascii " ft-protection ") g.protection ++ ft_text (ascii " ft-ack ") g.ack

-- "each listed TLV that stands in it, in this order"
abbrev pub fields_text : List ℕ → Message → List ℕ
fields_text m g = binding_text m g ++ state_text m g ++ ft_texts g ++ request_id_text g.requestid
