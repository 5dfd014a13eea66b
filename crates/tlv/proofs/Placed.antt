-- The places with that of one TLV more: this one has its place, every other keeps its own. Assumes nothing.
use Prim.Native.Nat.{ℕ}
use mathlib.Core.Logic.{◌⊎◌, inl, inr, ⊎_elim}
use mathlib.Core.Path.{◌≡◌, refl, sym, ap, ◌∙◌}
use lib.Dec.{eqb}
use borrow.Author.Tests.{eqb-true, eqb-false}
use Rattle.octets.proofs.Choice.{by_test, no}
use Rattle.tlv.specs.declared.Found.{Found}
use Rattle.tlv.specs.declared.walk.Tlv.{Tlv}
use Rattle.tlv.specs.Split.{IsListed}
use Rattle.tlv.specs.Tlv.{fec_type, label_type, status_type, parameters_type, session_type, protection_type, ack_type, request_id_type, tlv_of}
use Rattle.tlv.specs.Walk.{place_of, placed_of}
use Rattle.tlv.proofs.Places.{Each, each_placed}

-- the number of a TLV; 0 is that of none
number_of : Tlv → ℕ
number_of Tlv.Fec = fec_type
number_of Tlv.Label = label_type
number_of Tlv.Status = status_type
number_of Tlv.Parameters = parameters_type
number_of Tlv.Session = session_type
number_of Tlv.Protection = protection_type
number_of Tlv.Ack = ack_type
number_of Tlv.RequestId = request_id_type
number_of Tlv.Other = 0

number_tlv : (tlv : Tlv) → tlv_of (number_of tlv) ≡ tlv
unfolding tlv_of number_of
number_tlv Tlv.Fec = refl
number_tlv Tlv.Label = refl
number_tlv Tlv.Status = refl
number_tlv Tlv.Parameters = refl
number_tlv Tlv.Session = refl
number_tlv Tlv.Protection = refl
number_tlv Tlv.Ack = refl
number_tlv Tlv.RequestId = refl
number_tlv Tlv.Other = refl

-- two TLVs are the same, or they are not
pub same_or_not : (a b : Tlv) → (a ≡ b) ⊎ (a ≡ b → ⊥)
same_or_not a b =
    by_test (eqb (number_of a) (number_of b))
    (λ e. inl (sym (number_tlv a) ∙ ap tlv_of (eqb-true (number_of a) (number_of b) e) ∙ number_tlv b))
    (λ e. inr (λ same. eqb-false (number_of a) (number_of b) e (ap number_of same)))

-- a fact of each place is one of every listed TLV's place
pub each_at : (P : Tlv → ℕ → Type 0) (f : Found) → Each P f → (tlv : Tlv) → IsListed tlv → P tlv (place_of f tlv)
each_at P f e Tlv.Fec l = e.fec
each_at P f e Tlv.Label l = e.label
each_at P f e Tlv.Status l = e.status
each_at P f e Tlv.Parameters l = e.parameters
each_at P f e Tlv.Session l = e.session
each_at P f e Tlv.Protection l = e.protection
each_at P f e Tlv.Ack l = e.ack
each_at P f e Tlv.RequestId l = e.requestid
each_at P f e Tlv.Other l = absurd (l refl)

pub each_of : (P : Tlv → ℕ → Type 0) (f : Found) → ((tlv : Tlv) → IsListed tlv → P tlv (place_of f tlv)) → Each P f
each_of P f p = record {
  fec = p Tlv.Fec (λ e. no cc);
  label = p Tlv.Label (λ e. no cc);
  status = p Tlv.Status (λ e. no cc);
  parameters = p Tlv.Parameters (λ e. no cc);
  session = p Tlv.Session (λ e. no cc);
  protection = p Tlv.Protection (λ e. no cc);
  ack = p Tlv.Ack (λ e. no cc);
  requestid = p Tlv.RequestId (λ e. no cc);
}

-- the TLV that was placed has the place
pub placed_here : (f : Found) (tlv : Tlv) (at : ℕ) → IsListed tlv → place_of (placed_of f tlv at) tlv ≡ at
placed_here f Tlv.Fec at l = refl
placed_here f Tlv.Label at l = refl
placed_here f Tlv.Status at l = refl
placed_here f Tlv.Parameters at l = refl
placed_here f Tlv.Session at l = refl
placed_here f Tlv.Protection at l = refl
placed_here f Tlv.Ack at l = refl
placed_here f Tlv.RequestId at l = refl
placed_here f Tlv.Other at l = absurd (l refl)

-- and no other was touched
pub placed_other : (f : Found) (tlv : Tlv) (at : ℕ) (other : Tlv) → (other ≡ tlv → ⊥) → place_of (placed_of f tlv at) other ≡ place_of f other
placed_other f tlv at other apart = ⊎_elim (λ (e : other ≡ Tlv.Other). rw e) (λ (l : IsListed other). kept l) (same_or_not other Tlv.Other)
  where
    Keeps : Tlv → ℕ → Type 0
    Keeps old place = (old ≡ tlv → ⊥) → place ≡ place_of f old

    kept : IsListed other → place_of (placed_of f tlv at) other ≡ place_of f other
    kept l =
        let before : Each Keeps f = each_of Keeps f (λ old k z. refl) in
        each_at Keeps (placed_of f tlv at) (each_placed Keeps f tlv at before (λ z. absurd (z refl))) other l apart
