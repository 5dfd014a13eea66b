-- A PDU is taken exactly where it is a head and whole messages, and these are what is handed out: nothing is skipped or shown twice. Assumes nothing.
use Rattle.std.specs.Prelude.{Option, Some, None}
use Prim.Native.Nat.{ℕ, suc, ◌+◌, ◌-◌, ◌≤◌, ◌<◌}
use mathlib.Core.Bool.{Bool, true, false, not}
use mathlib.Core.List.{List, [], ◌∷◌, ◌++◌, flatten}
use mathlib.Core.Path.{◌≡◌, refl, sym, ap, ◌∙◌}
use native.Mathlib.Nat.{add-zero, sub-zero}
use native.Mathlib.Omega.{arith}
use lib.Dec.{eqb, ltb}
use lib.ListN.{length, take, drop, get_or, length-append, length-drop, take-append-drop, get_or-append}
use lib.Seq.{take_at, drop_at, drop-drop, get_or-drop, drop-length, length-take-le}
use borrow.Author.Tests.{eqb-true, eqb-false, ltb-false}
use Rattle.octets.specs.Be.{be_at}
use Rattle.octets.specs.Part.{part}
use Rattle.octets.specs.Pick.{pick}
use Rattle.octets.proofs.Be.{be_at_same, be_at-part}
use Rattle.octets.proofs.Fix.{size_ind}
use Rattle.octets.proofs.Part.{length_part}
use Rattle.pdu.specs.declared.Place.{Place}
use Rattle.pdu.specs.Pdu.{message_place, place_bytes, counted_from, opened_of}
use Rattle.pdu.specs.Split.{handed_out, then_from, IsMessage, AreMessages, none, one, IsPdu}
use Rattle.pdu.proofs.Count.{count_end, count_next, count_none, opened_counted}
use Rattle.pdu.proofs.Message.{Within, place-within, place-whole}

-- k messages from `at` on are whole, they are k, and they reach to the PDU's end
pub record Reach (pdu : List ℕ) (at k : ℕ) : Type 0 where
  pub whole : AreMessages (handed_out pdu k at)
  pub count : length (handed_out pdu k at) ≡ k
  pub joined : flatten (handed_out pdu k at) ≡ drop at pdu

-- a message that was found is whole
found_whole : (pdu : List ℕ) (at start end : ℕ) → Within pdu at start end → IsMessage (part pdu start end)
found_whole pdu at start end w =
    let size : length (part pdu start end) ≡ end - start = length_part pdu start end w.inside in
    let field : be_at 2 (part pdu start end) 2 ≡ be_at 2 pdu (start + 2) = be_at-part 2 (end - start) start 2 pdu (omega arith) in
    let same : be_at 2 pdu (start + 2) ≡ be_at 2 pdu (at + 2) = ap (λ (i : ℕ). be_at 2 pdu (i + 2)) w.starts in
    record { head = omega arith; adds = omega arith }

-- one message more before those that reach to the end
reach_more : (pdu : List ℕ) (at start end k : ℕ) → message_place pdu at ≡ Some (record { start = start; end = end }) → Reach pdu end k → Reach pdu at (suc k)
unfolding flatten
reach_more pdu at start end k e r =
    let w : Within pdu at start end = place-within pdu at start end e in
    let far : start + (end - start) ≡ end = omega arith in
    let rest : drop end pdu ≡ drop (end - start) (drop start pdu) = rw (drop-drop, far) in
    record {
      whole = rw e (one (found_whole pdu at start end w) r.whole);
      count = rw e (ap suc r.count);
      joined = rw (e, r.joined, rest, take-append-drop, w.starts) refl;
    }

reach_end : (pdu : List ℕ) → Reach pdu (length pdu) 0
unfolding flatten
reach_end pdu = record { whole = none; count = refl; joined = sym (drop-length pdu) }

-- the messages that were counted reach to the PDU's end
module _ (pdu : List ℕ) (n : ℕ) where
  abbrev Counted : ℕ → Type 0
  Counted at = (count : ℕ) → counted_from pdu at count ≡ Some n → at ≤ length pdu → (count ≤ n) × Reach pdu at (n - count)

  counted_turn : (at : ℕ) → ((to : ℕ) → length pdu - to < length pdu - at → Counted to) → Counted at
  counted_turn at shorter count e inside = ended (eqb at (length pdu)) refl
    where
      found : (p : Option Place) → (at ≡ length pdu → ⊥) → message_place pdu at ≡ p → (count ≤ n) × Reach pdu at (n - count)
      found (Some p) more q =
          let w : Within pdu at p.start p.end = place-within pdu at p.start p.end q in
          let next : counted_from pdu p.end (count + 1) ≡ Some n = sym (count_next pdu at count more (message_place pdu at) refl p.start p.end q) ∙ e in
          let r = shorter p.end (omega arith) (count + 1) next w.inside in
          let k : n - count ≡ suc (n - (count + 1)) = omega (arith, r.0) in
          (omega (arith, r.0), rw k (reach_more pdu at p.start p.end (n - (count + 1)) q r.1))
      found None more q =
          let z : None ≡ Some n = sym (count_none pdu at count more (message_place pdu at) refl q) ∙ e in
          let y : ◌≡◌ {A = ℕ} 0 1 = cc in absurd (omega arith)

      ended : (b : Bool) → eqb at (length pdu) ≡ b → (count ≤ n) × Reach pdu at (n - count)
      ended true q =
          let here : at ≡ length pdu = eqb-true at (length pdu) q in
          let same : Some count ≡ Some n = sym (count_end pdu at count here) ∙ e in
          let k : count ≡ n = cc in
          let z : n - count ≡ 0 = omega arith in
          (omega arith, rw (z, here) (reach_end pdu))
      ended false q = found (message_place pdu at) (eqb-false at (length pdu) q) refl

  counted_reach : (at : ℕ) → Counted at
  counted_reach = size_ind (λ at. length pdu - at) Counted counted_turn

-- the tests that a PDU passes which is taken
record Passed (pdu : List ℕ) (n : ℕ) : Type 0 where
  head : 10 ≤ length pdu
  version : be_at 2 pdu 0 ≡ 1
  adds : be_at 2 pdu 2 + 4 ≡ length pdu
  counted : counted_from pdu 10 0 ≡ Some n

module _ (pdu : List ℕ) (n : ℕ) where
  passed-cases : (a b c : Bool) → ltb (length pdu) 10 ≡ a → eqb (be_at 2 pdu 0) 1 ≡ b → eqb (be_at 2 pdu 2 + 4) (length pdu) ≡ c
      → pick a None (pick (not b) None (pick (not c) None (counted_from pdu 10 0))) ≡ Some n
      → Passed pdu n
  passed-cases true b c p q s e = let z : ◌≡◌ {A = ℕ} 0 1 = cc in absurd (omega arith)
  passed-cases false false c p q s e = let z : ◌≡◌ {A = ℕ} 0 1 = cc in absurd (omega arith)
  passed-cases false true false p q s e = let z : ◌≡◌ {A = ℕ} 0 1 = cc in absurd (omega arith)
  passed-cases false true true p q s e =
      record {
        head = ltb-false (length pdu) 10 p;
        version = eqb-true (be_at 2 pdu 0) 1 q;
        adds = eqb-true (be_at 2 pdu 2 + 4) (length pdu) s;
        counted = e;
      }

  opened-passed : opened_of pdu ≡ Some n → Passed pdu n
  unfolding opened_of
  opened-passed e = passed-cases (ltb (length pdu) 10) (eqb (be_at 2 pdu 0) 1) (eqb (be_at 2 pdu 2 + 4) (length pdu)) refl refl refl e

  pub opened_reach : opened_of pdu ≡ Some n → (10 ≤ length pdu) × Reach pdu 10 n
  opened_reach e =
      let p : Passed pdu n = opened-passed e in
      (p.head, rw sub-zero at (counted_reach pdu n 10 0 p.counted p.head).1)

  -- a PDU that is taken with n messages: n are handed out, and after the head they are the PDU byte for byte
  pub opened_is_pdu : opened_of pdu ≡ Some n → IsPdu pdu (handed_out pdu n 10) × (length (handed_out pdu n 10) ≡ n)
  opened_is_pdu e =
      let p : Passed pdu n = opened-passed e in
      let r : Reach pdu 10 n = (opened_reach e).1 in (
        record { head = p.head; version = p.version; adds = p.adds; whole = r.whole; joined = rw r.joined (take-append-drop 10 pdu) },
        r.count,
      )

-- a whole message that lies at `at` is found there
message_found : (pdu m rest : List ℕ) (at : ℕ) → IsMessage m → m ++ rest ≡ drop at pdu → Some (record { start = at; end = at + length m }) ≡ message_place pdu at
message_found pdu m rest at w e =
    let size : length m + length rest ≡ length pdu - at = sym (length-append m rest) ∙ ap length e ∙ length-drop at pdu in
    let field : be_at 2 m 2 ≡ be_at 2 pdu (at + 2) = be_at_same 2 m pdu 2 (at + 2) (λ k h.
    let inside : 2 + k < length m = omega (arith, w.head) in
    let place : at + (2 + k) ≡ at + 2 + k = omega arith in
    sym (get_or-append m rest 0 (2 + k) inside) ∙ ap (λ (l : List ℕ). get_or l (2 + k) 0) e ∙ get_or-drop at pdu (2 + k) 0 ∙ ap (λ (i : ℕ). get_or pdu i 0) place) in
    let end : at + length m ≡ at + 4 + be_at 2 m 2 = omega (arith, w.adds) in
    rw end (place-whole pdu at (be_at 2 m 2) (omega (arith, w.head)) (omega (arith, w.head)) field (omega (arith, w.head, w.adds)) (omega (arith, w.adds)))

-- whole messages from `at` to the PDU's end are counted, each once, and handed out
messages_counted : (pdu : List ℕ) (ms : List (List ℕ)) (at count : ℕ) → AreMessages ms → flatten ms ≡ drop at pdu → at ≤ length pdu
    → (counted_from pdu at count ≡ Some (count + length ms)) × (handed_out pdu (length ms) at ≡ ms)
unfolding flatten
messages_counted pdu [] at count none e inside =
    let left : 0 ≡ length pdu - at = ap length e ∙ length-drop at pdu in
    let here : at ≡ length pdu = omega arith in
    (rw add-zero (count_end pdu at count here), refl)
messages_counted pdu (m ∷ ms) at count (one w ws) e inside =
    let size : length m + length (flatten ms) ≡ length pdu - at = sym (length-append m (flatten ms)) ∙ ap length e ∙ length-drop at pdu in
    let more : (at ≡ length pdu → ⊥) = λ h. omega (arith, w.head) in
    let place : Some (record { start = at; end = at + length m }) ≡ message_place pdu at = message_found pdu m (flatten ms) at w e in
    let rest : flatten ms ≡ drop (at + length m) pdu =
    sym (drop_at m (flatten ms) (length m) refl) ∙ ap (drop (length m)) e ∙ drop-drop (length m) at pdu in
    let r = messages_counted pdu ms (at + length m) (count + 1) ws rest (omega arith) in
    let total : count + 1 + length ms ≡ count + suc (length ms) = omega arith in
    let wide : at + length m - at ≡ length m = omega arith in (
      count_next pdu at count more (message_place pdu at) refl at (at + length m) (sym place) ∙ r.0 ∙ ap Some total,
      rw (← place, wide, ← e, take_at m (flatten ms) (length m) refl, r.1) refl,
    )

-- a head and whole messages are taken, and those messages are handed out
pub pdu_is_opened : (pdu : List ℕ) (ms : List (List ℕ)) → IsPdu pdu ms → (opened_of pdu ≡ Some (length ms)) × (handed_out pdu (length ms) 10 ≡ ms)
pdu_is_opened pdu ms p =
    let long : length (take 10 pdu) ≡ 10 = length-take-le 10 pdu p.head in
    let rest : flatten ms ≡ drop 10 pdu = sym (drop_at (take 10 pdu) (flatten ms) 10 long) ∙ ap (drop 10) p.joined in
    let r = messages_counted pdu ms 10 0 p.whole rest p.head in
    let total : 0 + length ms ≡ length ms = omega arith in (
      sym (opened_counted pdu (be_at 2 pdu 0) (be_at 2 pdu 2) (counted_from pdu 10 0) p.head refl p.version refl p.adds refl) ∙ r.0 ∙ ap Some total,
      r.1,
    )

-- m is the first of k + 1 messages that reach to the PDU's end, and the others reach there from its end
pub record Next (pdu : List ℕ) (at k : ℕ) (m : List ℕ) : Type 0 where
  pub whole : IsMessage m
  pub inside : at + length m ≤ length pdu
  pub handed : handed_out pdu (suc k) at ≡ m ∷ handed_out pdu k (at + length m)
  pub rest : Reach pdu (at + length m) k

-- what a caller knows that hands the messages out one by one
pub reach_next : (pdu : List ℕ) (at k : ℕ) → Reach pdu at (suc k) → Next pdu at k (place_bytes pdu (message_place pdu at))
unfolding flatten
reach_next pdu at k r = go (message_place pdu at) refl r.whole r.count r.joined
  where
    go : (p : Option Place) → message_place pdu at ≡ p → AreMessages (then_from pdu (handed_out pdu k) p) → length (then_from pdu (handed_out pdu k) p) ≡ suc k
        → flatten (then_from pdu (handed_out pdu k) p) ≡ drop at pdu → Next pdu at k (place_bytes pdu p)
    go None q ms n j = absurd (omega arith)
    go (Some p) q (one w ws) n j =
        let l : Within pdu at p.start p.end = place-within pdu at p.start p.end q in
        let size : length (part pdu p.start p.end) ≡ p.end - p.start = length_part pdu p.start p.end l.inside in
        let next : at + length (part pdu p.start p.end) ≡ p.end = omega arith in
        let after : flatten (handed_out pdu k p.end) ≡ drop (at + length (part pdu p.start p.end)) pdu =
        sym (drop_at (part pdu p.start p.end) (flatten (handed_out pdu k p.end)) (length (part pdu p.start p.end)) refl)
        ∙ ap (drop (length (part pdu p.start p.end))) j
        ∙ drop-drop (length (part pdu p.start p.end)) at pdu in
        record {
          whole = w;
          inside = omega arith;
          handed = rw (q, next) refl;
          rest = rw next (record { whole = ws; count = omega arith; joined = rw next at after });
        }
