-- The laws of `counted_from` and `opened_of`: one turn over the messages, and each answer from its tests. Assumes nothing.
use Rattle.std.specs.Prelude.{Option, Some, None}
use Prim.Native.Nat.{ℕ, ◌+◌, ◌≤◌, ◌<◌}
use mathlib.Core.List.{List}
use mathlib.Core.Path.{◌≡◌, refl, sym, ◌∙◌}
use native.Mathlib.Omega.{arith}
use lib.Dec.{eqb}
use lib.ListN.{length}
use borrow.Author.Tests.{eq-eqb, ne_eqb, lt-ltb, le-ltb}
use Rattle.octets.specs.Be.{be_at}
use Rattle.octets.specs.Pick.{pick}
use Rattle.octets.proofs.Fix.{Shrinks, fix-step}
use Rattle.pdu.specs.declared.Place.{Place}
use Rattle.pdu.specs.Pdu.{message_place, on_place, count_step, bytes_left, counted_from, opened_of}
use Rattle.pdu.proofs.Message.{Within, place-within}

-- a turn asks only of what lies past a message
turn_shrinks : (pdu : List ℕ) → Shrinks (bytes_left pdu) (count_step pdu)
turn_shrinks pdu g h spot same = simp (go (message_place pdu spot.at) refl)
  where
    go : (p : Option Place) → message_place pdu spot.at ≡ p → on_place g spot.count p ≡ on_place h spot.count p
    go (Some p) q =
        let w : Within pdu spot.at p.start p.end = place-within pdu spot.at p.start p.end q in
        same (record { at = p.end; count = spot.count + 1 }) (omega arith)
    go None q = refl

pub count_turn : (pdu : List ℕ) (at count : ℕ) → counted_from pdu at count
    ≡ pick (eqb at (length pdu)) (Some count) (on_place (λ s. counted_from pdu s.at s.count) count (message_place pdu at))
unfolding counted_from
count_turn pdu at count = fix-step (bytes_left pdu) (count_step pdu) None (turn_shrinks pdu) (record { at = at; count = count })

pub count_end : (pdu : List ℕ) (at count : ℕ) → at ≡ length pdu → counted_from pdu at count ≡ Some count
count_end pdu at count e = count_turn pdu at count ∙ simp (eq-eqb at (length pdu) e)

module _ (pdu : List ℕ) (at count : ℕ) (more : at ≡ length pdu → ⊥) (place : Option Place) (found : place ≡ message_place pdu at) where
  pub count_next : (start end : ℕ) → place ≡ Some (record { start = start; end = end }) → counted_from pdu at count ≡ counted_from pdu end (count + 1)
  count_next start end e = count_turn pdu at count ∙ simp (ne_eqb at (length pdu) more, sym found ∙ e)

  pub count_none : place ≡ None → counted_from pdu at count ≡ None
  count_none e = count_turn pdu at count ∙ simp (ne_eqb at (length pdu) more, sym found ∙ e)

-- the PDU is shorter than its head
pub opened-short : (pdu : List ℕ) → length pdu < 10 → None ≡ opened_of pdu
unfolding opened_of
opened-short pdu h = simp (lt-ltb (length pdu) 10 h)

pub opened_version : (pdu : List ℕ) (v : ℕ) → 10 ≤ length pdu → v ≡ be_at 2 pdu 0 → (v ≡ 1 → ⊥) → None ≡ opened_of pdu
unfolding opened_of
opened_version pdu v h e k = simp (le-ltb (length pdu) 10 h, ← e, ne_eqb v 1 k)

pub opened-length : (pdu : List ℕ) (v n : ℕ) → 10 ≤ length pdu → v ≡ be_at 2 pdu 0 → v ≡ 1 → n ≡ be_at 2 pdu 2 → (n + 4 ≡ length pdu → ⊥) → None ≡ opened_of pdu
unfolding opened_of
opened-length pdu v n h e k d m = simp (le-ltb (length pdu) 10 h, ← e, ← d, eq-eqb v 1 k, ne_eqb (n + 4) (length pdu) m)

pub opened_counted : (pdu : List ℕ) (v n : ℕ) (r : Option ℕ) → 10 ≤ length pdu → v ≡ be_at 2 pdu 0 → v ≡ 1 → n ≡ be_at 2 pdu 2 → n + 4 ≡ length pdu → r ≡ counted_from pdu 10 0 → r ≡ opened_of pdu
unfolding opened_of
opened_counted pdu v n r h e k d m q = q ∙ simp (le-ltb (length pdu) 10 h, ← e, ← d, eq-eqb v 1 k, eq-eqb (n + 4) (length pdu) m)

pub ruleset openings = (opened-short, opened_version, opened-length, opened_counted)
