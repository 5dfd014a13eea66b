-- How the Inits of the two ends are judged. Assumes nothing.
use Rattle.std.specs.Prelude.{Ok, Err, Option, Some, None}
use Prim.Native.Nat.{ℕ}
use mathlib.Core.Bool.{Bool, true, false, not}
use mathlib.Core.Logic.{◌⊎◌, inl, inr, ⊎_elim}
use mathlib.Core.Path.{◌≡◌, refl}
use native.Mathlib.Omega.{arith}
use borrow.Author.Tests.{eq-eqb}
use Rattle.octets.specs.Pick.{pick}
use Rattle.ft_number.specs.declared.FtNumber.{FtNumber}
use Rattle.ft_number.specs.declared.MessageId.{MessageId}
use Rattle.ft_number.specs.declared.Timeout.{Timeout}
use Rattle.ft_number.specs.Ack.{ack_of}
use Rattle.message.specs.Reading.{reading_of}
use Rattle.message_writer.specs.declared.OwnParameters.{OwnParameters}
use Rattle.message_writer.specs.Forms.{init_bytes}
use Rattle.message_writer.specs.ReadBack.{InitFits, init_message}
use Rattle.message_writer.proofs.Own.{init_reads}
use Rattle.protocol.specs.declared.Answer.{Answer}
use Rattle.protocol.specs.declared.Start.{Start}
use Rattle.protocol.specs.declared.Terms.{Terms}
use Rattle.protocol.specs.Init.{both_set, start_of, terms_of, equal_parameters}
use Rattle.protocol.specs.State.{State}
use Rattle.two_ends.proofs.Invariant.{Leads}

module _ (h : State) (t : ℕ) (id : MessageId) (p : OwnParameters) (said : Timeout) where
  -- what both keep of the two Inits
  abbrev pub terms : Terms
  terms = terms_of t said p.keepalive p.pdulength

  -- R is zero on one side: a fresh session
  fresh_by : (ack : Option FtNumber) → Leads h.kept ack → start_of h t (Some (init_message id p said ack)) ≡ Ok (Start.Fresh terms)
  unfolding start_of
  fresh_by None l = refl
  fresh_by (Some a) l =
      ⊎_elim
      (λ (none : Some a ≡ None). let z : ◌≡◌ {A = ℕ} 0 1 = cc in absurd (omega arith))
      (λ (zero : h.kept ≡ false). rw zero)
      l

  pub starts_fresh : (ack : Option FtNumber) → InitFits id p said ack → Leads h.kept ack → start_of h t (reading_of (init_bytes id p said ack)) ≡ Ok (Start.Fresh terms)
  starts_fresh ack f l = rw (init_reads id p said ack f) (fresh_by ack l)

  -- R is set on both: the session is resumed, or the parameters are others
  pub starts_again : (a : FtNumber) (k : ℕ) → InitFits id p said (Some a) → h.kept ≡ true → ack_of h.released.0 h.issued.0 a.0 ≡ Some k
      → (start_of h t (reading_of (init_bytes id p said (Some a))) ≡ Ok (Start.Resumed terms k a))
      ⊎ (start_of h t (reading_of (init_bytes id p said (Some a))) ≡ Err Answer.ParametersChanged)
  unfolding start_of both_set
  starts_again a k f kept acks = rw (init_reads id p said (Some a) f, kept, acks) (by (equal_parameters h.terms terms))
    where
      by : (b : Bool) → (pick (not b) (Err Answer.ParametersChanged) (Ok (Start.Resumed terms k a)) ≡ Ok (Start.Resumed terms k a))
          ⊎ (pick (not b) (Err Answer.ParametersChanged) (Ok (Start.Resumed terms k a)) ≡ Err Answer.ParametersChanged)
      by true = inl refl
      by false = inr refl

  -- with the parameters that are stored it is resumed
  pub starts_same : (a : FtNumber) (k : ℕ) → InitFits id p said (Some a) → h.kept ≡ true → h.terms.keepalive ≡ p.keepalive → h.terms.maxpdu ≡ p.pdulength
      → ack_of h.released.0 h.issued.0 a.0 ≡ Some k → start_of h t (reading_of (init_bytes id p said (Some a))) ≡ Ok (Start.Resumed terms k a)
  unfolding start_of both_set
  starts_same a k f kept e l acks =
      rw (init_reads id p said (Some a) f, kept, eq-eqb h.terms.keepalive p.keepalive e, eq-eqb h.terms.maxpdu p.pdulength l, acks)
