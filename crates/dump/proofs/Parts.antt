-- The parts of a message that was read, as its line shows them. Assumes nothing.
use Rattle.std.specs.Prelude.{Option, Some}
use Prim.Native.Nat.{ℕ, ◌+◌, ◌≤◌}
use mathlib.Core.Bool.{Bool, true, false}
use mathlib.Core.List.{List}
use mathlib.Core.Path.{◌≡◌, refl, sym, ap, ◌∙◌}
use native.Mathlib.Omega.{arith}
use lib.Dec.{eqb}
use borrow.Author.Tests.{eqb-true, eqb-false}
use Rattle.octets.specs.Be.{be_at}
use Rattle.octets.specs.Pick.{pick}
use Rattle.tlv.specs.declared.Part.{Part}
use Rattle.tlv.specs.declared.walk.Tlv.{Tlv}
use Rattle.tlv.specs.Value.{part_at}
use Rattle.tlv.proofs.Places.{Lies, found_lies}
use Rattle.message.specs.declared.Message.{Message}
use Rattle.message.specs.Reading.{message_of, reading_of}
use Rattle.message.proofs.Laws.{Whole, whole, whole_fec, whole-parameters}
use Rattle.dump.specs.Fields.{PartsWithin}

-- the session parameters have 14 bytes
parameters-short : (m : List ℕ) (place : ℕ) → Lies m Tlv.Parameters place → (part_at m place).end ≤ (part_at m place).start + 14
unfolding part_at
parameters-short m place l = go (eqb place 0) refl
  where
    at : Bool → Part
    at b = pick b (record { start = 0; end = 0 }) (record { start = place + 4; end = place + 4 + be_at 2 m (place + 2) })

    go : (b : Bool) → eqb place 0 ≡ b → (at b).end ≤ (at b).start + 14
    go true q = omega arith
    go false q = omega (arith, eqb-true (be_at 2 m (place + 2)) 14 (l (eqb-false place 0 q)).fits)

pub read_within : (m : List ℕ) (g : Message) (r : Option Message) → r ≡ reading_of m → r ≡ Some g → PartsWithin m g
unfolding message_of
read_within m g r q e =
    let reading : reading_of m ≡ Some g = sym q ∙ e in
    let w : Whole m g = whole m g reading in
    let short : (part_at m g.found.parameters).end ≤ (part_at m g.found.parameters).start + 14 =
    parameters-short m g.found.parameters (found_lies m g.found w.tlvs).parameters in
    let same : g.parametersvalue ≡ part_at m g.found.parameters = ap (λ (x : Message). x.parametersvalue) w.is in
    record {
      fec_starts = (whole_fec m g reading).starts;
      fec_ends = (whole_fec m g reading).ends;
      parameters_starts = (whole-parameters m g reading).starts;
      parameters_ends = (whole-parameters m g reading).ends;
      parameters_size = rw same short;
    }
