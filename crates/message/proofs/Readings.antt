-- A message read, by the tests and the calls of the code. Assumes nothing.
use Rattle.std.specs.Prelude.{Option, Some, None}
use Prim.Native.Nat.{ℕ, ◌+◌, ◌≤◌}
use mathlib.Core.Bool.{Bool, true, false, not}
use mathlib.Core.List.{List}
use mathlib.Core.Path.{◌≡◌, refl, sym, ◌∙◌, ap}
use lib.ListN.{length}
use borrow.Author.Tests.{not-true, not-false}
use Rattle.octets.specs.Be.{be_at}
use Rattle.octets.proofs.Choice.{no, cleared}
use Rattle.tlv.specs.declared.Fec.{Fec}
use Rattle.tlv.specs.declared.Found.{Found}
use Rattle.tlv.specs.Element.{entry_by}
use Rattle.tlv.specs.Value.{Within, Places, fec_at}
use Rattle.tlv.specs.Walk.{head_size, tlvs_of}
use Rattle.tlv.proofs.Places.{places}
use Rattle.message.specs.declared.Message.{Message}
use Rattle.message.specs.declared.MessageType.{MessageType}
use Rattle.message.specs.Reading.{type_of, number_in, bears_of, places_by, places_of, message_of, reading_by, reading_of}
use Rattle.message.specs.Submission.{entry_in}

-- the places of a well-formed message's TLVs
module _ (m : List ℕ) (w : Option Found) (wq : w ≡ tlvs_of m) where
  pub placed_malformed : w ≡ None → None ≡ places_of m
  unfolding places_of
  placed_malformed e = simp (sym wq ∙ e)

  module _ (f : Found) (e : w ≡ Some f) where
    pub tlvs_places : Places m f
    tlvs_places = places m f (sym wq ∙ e)

    pub tlvs_head : head_size ≤ length m
    tlvs_head = tlvs_places.head

    module _ (n : ℕ) (t : MessageType) (b : Bool) (bq : b ≡ bears_of t f) (tq : t ≡ type_of n) (nq : n ≡ number_in m) where
      pub placed_lacks : not b ≡ true → None ≡ places_of m
      unfolding places_of
      placed_lacks h = simp (sym wq ∙ e, sym nq, sym tq, sym bq ∙ not-true b h)

      pub placed_whole : not b ≡ false → Some f ≡ places_of m
      unfolding places_of
      placed_whole h = simp (sym wq ∙ e, sym nq, sym tq, sym bq ∙ not-false b h)

pub ruleset placings = (placed_malformed, tlvs_head, placed_lacks, placed_whole)

-- the places of a well-formed message are those that the walk found
pub places_tlvs : (m : List ℕ) (f : Found) → places_of m ≡ Some f → tlvs_of m ≡ Some f
unfolding places_of
places_tlvs m f e = by_walk (tlvs_of m) refl e
  where
    by_walk : (w : Option Found) → tlvs_of m ≡ w → places_by m w ≡ Some f → tlvs_of m ≡ Some f
    by_walk None q h = no (cc)
    by_walk (Some g) q h =
        let p = cleared (not (bears_of (type_of (number_in m)) g)) None (Some g) (Some f) (λ z. cc) h in
        q ∙ p.1

module _ (m : List ℕ) (w : Option Found) (wq : w ≡ places_of m) where
  pub reading_malformed : w ≡ None → None ≡ reading_of m
  unfolding reading_of
  reading_malformed e = ap (reading_by m) (sym e ∙ wq)

  module _ (f : Found) (e : w ≡ Some f) where
    pub reading_places : Places m f
    reading_places = places m f (places_tlvs m f (sym wq ∙ e))

    pub reading_whole : (g : Message) → g ≡ message_of m f → Some g ≡ reading_of m
    unfolding reading_of
    reading_whole g gq = ap Some gq ∙ ap (reading_by m) (sym e ∙ wq)

pub ruleset readings = (reading_malformed, reading_places, reading_whole)

-- the entry of its FEC
module _ (m : List ℕ) (w : Option Found) (wq : w ≡ places_of m) where
  pub entry_malformed : w ≡ None → 0 ≡ entry_in m
  unfolding entry_in reading_of
  entry_malformed e = simp (sym wq ∙ e)

  module _ (f : Found) (e : w ≡ Some f) where
    pub entry-within : Within m f.fec (be_at 2 m (f.fec + 2))
    entry-within = (reading_places m w wq f e).fec

    pub entry_whole : (fec : Option Fec) → fec ≡ fec_at m f.fec → (n : ℕ) → n ≡ entry_by fec → n ≡ entry_in m
    unfolding entry_in reading_of message_of
    entry_whole fec fq n nq = nq ∙ simp (fq, sym wq ∙ e)

pub ruleset entries = (entry_malformed, entry-within, entry_whole)
