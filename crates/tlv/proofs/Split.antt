-- The walk says where the TLVs stand exactly where the message is a head and whole TLVs, and Malformed exactly where it is not. Assumes nothing.
use Rattle.std.specs.Prelude.{Option, Some, None}
use Prim.Native.Nat.{ℕ, ◌+◌, ◌-◌, ◌≤◌, ◌<◌}
use mathlib.Core.List.{List, [], ◌∷◌, ◌++◌, flatten}
use mathlib.Core.Path.{◌≡◌, refl, sym, ap, ◌∙◌}
use native.Mathlib.Omega.{arith}
use lib.ListN.{length, take, drop, length-append, length-drop, take-append-drop}
use lib.Seq.{take_at, drop_at, length-take-le}
use Rattle.octets.specs.Be.{be_at}
use Rattle.octets.proofs.Bytes.{be_at-append}
use Rattle.octets.proofs.Choice.{no}
use Rattle.octets.proofs.Fix.{size_ind}
use Rattle.tlv.specs.declared.Found.{Found}
use Rattle.tlv.specs.declared.walk.Tlv.{Tlv}
use Rattle.tlv.specs.declared.walk.Turn.{Turn}
use Rattle.tlv.specs.Split.{AreTlvs, none, one, Once, PlaceIs, HasTlvs}
use Rattle.tlv.specs.Tlv.{head_of}
use Rattle.tlv.specs.Walk.{none_found, place_of, placed_of, turn_of, Rest, left_of, on_turn, walk_of, head_size, tlvs_of}
use Rattle.tlv.proofs.Noted.{head_whole}
use Rattle.tlv.proofs.Placed.{each_at, each_of}
use Rattle.tlv.proofs.Places.{Each, WholeTlvs, whole_tlvs}
use Rattle.tlv.proofs.Standing.{found_in, Free, free_none, free_placed, placed_free, placed_lacks, found_place, place_found}
use Rattle.tlv.proofs.Turns.{Goes, goes, walk_rest, walk_step}
use Rattle.tlv.proofs.Whole.{whole-taken, Taken, turn-taken, nothing_ends, end_empty}

-- whole TLVs that have no place yet are walked, each once
tlvs_walked : (ts : List (List ℕ)) → AreTlvs ts → Once ts → (f : Found) (at : ℕ) → Free f ts → walk_of at (flatten ts) f ≡ Some (found_in f at ts)
unfolding flatten
tlvs_walked [] none once f at free = walk_step at [] f ∙ rw (nothing_ends f at) refl
tlvs_walked (t ∷ ts) (one w ws) once f at free =
    walk_step at (t ++ flatten ts) f
    ∙ rw (whole-taken f at t (flatten ts) w free.0, drop_at t (flatten ts) (length t) refl) refl
    ∙ tlvs_walked ts ws once.1 (placed_of f (head_of t) at) (at + length t) (free_placed f (head_of t) at ts once.0 free.1)

-- the bytes ts, which lie from `at` on, are whole TLVs that had no place before, and g says where they stand
record Walked (f g : Found) (at : ℕ) (ts : List ℕ) : Type 0 where
  tlvs : List (List ℕ)
  joined : flatten tlvs ≡ ts
  whole : AreTlvs tlvs
  once : Once tlvs
  free : Free f tlvs
  found : found_in f at tlvs ≡ g

walked_end : (f : Found) (at : ℕ) → Walked f f at []
unfolding flatten
walked_end f at = record { tlvs = []; joined = refl; whole = none; once = tt; free = tt; found = refl }

-- one TLV more before them
walked_more : (f g h : Found) (at n : ℕ) (ts : List ℕ) → 0 < at → n ≤ length ts → Taken f h at (take n ts) → Walked h g (at + n) (drop n ts) → Walked f g at ts
unfolding flatten
walked_more f g h at n ts some within k w =
    let tlv : Tlv = head_of (take n ts) in
    let free : Free (placed_of f tlv at) w.tlvs = rw k.is w.free in
    record {
      tlvs = take n ts ∷ w.tlvs;
      joined = rw w.joined (take-append-drop n ts);
      whole = one k.whole w.whole;
      once = ((λ l. placed_lacks f tlv at some l w.tlvs free), w.once);
      free = (k.once, placed_free f tlv at k.once w.tlvs free);
      found = rw (k.is, length-take-le n ts within) w.found;
    }

-- what was walked is whole TLVs
walked_tlvs : (g : Found) (r : Rest) → 0 < r.at → walk_rest r ≡ Some g → Walked r.found g r.at r.bytes
walked_tlvs g = size_ind left_of Splits step
  where
    Splits : Rest → Type 0
    Splits r = 0 < r.at → walk_rest r ≡ Some g → Walked r.found g r.at r.bytes

    step : (r : Rest) → ((t : Rest) → left_of t < left_of r → Splits t) → Splits r
    step r shorter some e = go (turn_of r.found r.at r.bytes) refl (sym (walk_step r.at r.bytes r.found) ∙ e)
      where
        go : (t : Turn) → turn_of r.found r.at r.bytes ≡ t → on_turn walk_rest r t ≡ Some g → Walked r.found g r.at r.bytes
        go Turn.End q k = let same : r.found ≡ g = cc in rw (end_empty r.found r.at r.bytes q, same) (walked_end g r.at)
        go Turn.Malformed q k = no cc
        go (Turn.Next f n) q k =
            let w : Goes r.found f r.at n r.bytes = goes r.found f r.at n r.bytes q in
            let left : length (drop n r.bytes) ≡ length r.bytes - n = length-drop n r.bytes in
            walked_more r.found g f r.at n r.bytes some w.within (turn-taken r.found f r.at n r.bytes w)
            (shorter (record { at = r.at + n; bytes = drop n r.bytes; found = f }) (omega (arith, w.size, w.within)) (omega arith) k)

-- nothing was found before the walk
none_placed : (tlv : Tlv) → place_of none_found tlv ≡ 0
none_placed Tlv.Fec = refl
none_placed Tlv.Label = refl
none_placed Tlv.Status = refl
none_placed Tlv.Parameters = refl
none_placed Tlv.Session = refl
none_placed Tlv.Protection = refl
none_placed Tlv.Ack = refl
none_placed Tlv.RequestId = refl
none_placed Tlv.Other = refl

-- the places that a message's TLVs have
abbrev places_in : List (List ℕ) → Found
places_in tlvs = found_in none_found head_size tlvs

-- places that are equal each are equal
same_places : (f g : Found) → Each (λ tlv place. place ≡ place_of g tlv) f → f ≡ g
same_places f g e =
    let same : f ≡ record { fec = g.fec; label = g.label; status = g.status; parameters = g.parameters; session = g.session; protection = g.protection; ack = g.ack; requestid = g.requestid } =
    rw (← e.fec, ← e.label, ← e.status, ← e.parameters, ← e.session, ← e.protection, ← e.ack, ← e.requestid) refl in
    same

-- the bytes behind a message's head are its TLVs
behind_head : (m : List ℕ) (tlvs : List (List ℕ)) (f : Found) → HasTlvs m tlvs f → drop head_size m ≡ flatten tlvs
behind_head m tlvs f h =
    ap (drop head_size) (sym h.joined) ∙ drop_at (take head_size m) (flatten tlvs) head_size (length-take-le head_size m h.head)

-- and each of the places is where its TLV stands
placed_each : (m : List ℕ) (tlvs : List (List ℕ)) (f : Found) → HasTlvs m tlvs f → Each (PlaceIs head_size tlvs) f
placed_each m tlvs f h = record {
  fec = h.fec;
  label = h.label;
  status = h.status;
  parameters = h.parameters;
  session = h.session;
  protection = h.protection;
  ack = h.ack;
  requestid = h.requestid;
}

module _ (m : List ℕ) where
  -- the walk finds what there is: a message that it takes is a head and whole TLVs, which stand where it says
  pub whole_has_tlvs : (f : Found) → tlvs_of m ≡ Some f → (tlvs : List (List ℕ)) × HasTlvs m tlvs f
  whole_has_tlvs f e =
      let h : WholeTlvs m f = whole_tlvs m f e in
      let w : Walked none_found f head_size (drop head_size m) =
      walked_tlvs f (record { at = head_size; bytes = drop head_size m; found = none_found }) (omega arith) h.tlvs in
      let stands : Each (PlaceIs head_size w.tlvs) f = rw w.found at (each_of (PlaceIs head_size w.tlvs) (places_in w.tlvs) (λ tlv l.
      found_place none_found head_size w.tlvs tlv l w.once (none_placed tlv))) in (
        w.tlvs,
        record {
          head = h.head;
          adds = h.adds;
          joined = rw w.joined (take-append-drop head_size m);
          whole = w.whole;
          once = w.once;
          fec = stands.fec;
          label = stands.label;
          status = stands.status;
          parameters = stands.parameters;
          session = stands.session;
          protection = stands.protection;
          ack = stands.ack;
          requestid = stands.requestid;
        },
      )

  -- and all that there is: a head and whole TLVs are taken, with the places where they stand
  pub has_tlvs_whole : (tlvs : List (List ℕ)) (f : Found) → HasTlvs m tlvs f → tlvs_of m ≡ Some f
  has_tlvs_whole tlvs f h =
      let walked : walk_of head_size (drop head_size m) none_found ≡ Some (places_in tlvs) =
      rw (behind_head m tlvs f h) (tlvs_walked tlvs h.whole h.once none_found head_size (free_none none_found none_placed tlvs)) in
      let stands : Each (PlaceIs head_size tlvs) f = placed_each m tlvs f h in
      let same : f ≡ places_in tlvs = same_places f (places_in tlvs) (each_of (λ tlv place. place ≡ place_of (places_in tlvs) tlv) f (λ tlv l.
      place_found none_found head_size tlvs tlv (place_of f tlv) l h.once (none_placed tlv) (each_at (PlaceIs head_size tlvs) f stands tlv l))) in
      sym (head_whole m h.head (be_at 2 m 2) refl h.adds (walk_of head_size (drop head_size m) none_found) refl) ∙ walked ∙ ap Some (sym same)

  -- a message is malformed exactly where it is not a head and whole TLVs
  pub malformed_has_none : tlvs_of m ≡ None → (tlvs : List (List ℕ)) (f : Found) → HasTlvs m tlvs f → ⊥
  malformed_has_none e tlvs f h = let z : None ≡ Some f = sym e ∙ has_tlvs_whole tlvs f h in no cc

  pub has_none_malformed : ((tlvs : List (List ℕ)) (f : Found) → HasTlvs m tlvs f → ⊥) → tlvs_of m ≡ None
  has_none_malformed nothing = go (tlvs_of m) refl
    where
      go : (w : Option Found) → tlvs_of m ≡ w → tlvs_of m ≡ None
      go None q = q
      go (Some f) q = let s = whole_has_tlvs f q in absurd (nothing s.0 f s.1)

-- bytes are joined of whole TLVs in one way
same_tlvs : (ts us : List (List ℕ)) → AreTlvs ts → AreTlvs us → flatten ts ≡ flatten us → ts ≡ us
unfolding flatten
same_tlvs [] [] none none e = refl
same_tlvs [] (u ∷ us) none (one w ws) e = absurd (omega (arith, w.adds, ap length e, length-append u (flatten us)))
same_tlvs (t ∷ ts) [] (one w ws) none e = absurd (omega (arith, w.adds, ap length e, length-append t (flatten ts)))
same_tlvs (t ∷ ts) (u ∷ us) (one v vs) (one w ws) e =
    let here : be_at 2 (t ++ flatten ts) 2 ≡ be_at 2 t 2 = be_at-append 2 t (flatten ts) 2 (omega (arith, v.adds)) in
    let there : be_at 2 (u ++ flatten us) 2 ≡ be_at 2 u 2 = be_at-append 2 u (flatten us) 2 (omega (arith, w.adds)) in
    let field : be_at 2 (t ++ flatten ts) 2 ≡ be_at 2 (u ++ flatten us) 2 = ap (λ (l : List ℕ). be_at 2 l 2) e in
    let long : length u ≡ length t = omega (arith, v.adds, w.adds) in
    let first : t ≡ u = sym (take_at t (flatten ts) (length t) refl) ∙ ap (take (length t)) e ∙ take_at u (flatten us) (length t) long in
    let rest : flatten ts ≡ flatten us = sym (drop_at t (flatten ts) (length t) refl) ∙ ap (drop (length t)) e ∙ drop_at u (flatten us) (length t) long in
    cc (first, same_tlvs ts us vs ws rest)

-- a message has its TLVs, and their places, in one way
pub has_tlvs_unique : (m : List ℕ) (ts us : List (List ℕ)) (f g : Found) → HasTlvs m ts f → HasTlvs m us g → (ts ≡ us) × (f ≡ g)
has_tlvs_unique m ts us f g h k =
    let found : Some f ≡ Some g = sym (has_tlvs_whole m ts f h) ∙ has_tlvs_whole m us g k in
    (same_tlvs ts us h.whole k.whole (sym (behind_head m ts f h) ∙ behind_head m us g k), cc)
