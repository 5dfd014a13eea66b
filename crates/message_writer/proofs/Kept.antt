-- A message less its FT TLVs: of a message that had none, sent with them, it is the message. Assumes nothing.
use Rattle.std.specs.Prelude.{Option, Some, None}
use Prim.Native.Nat.{ℕ, ◌+◌, ◌-◌, ◌/◌, ◌%◌, ◌^◌, ◌≤◌, ◌<◌}
use mathlib.Core.Bool.{Bool, true, false}
use mathlib.Core.List.{List, [], ◌∷◌, ◌++◌, append_assoc, append-nil}
use mathlib.Core.Path.{◌≡◌, refl, sym, ap, ◌∙◌}
use native.Mathlib.Omega.{arith}
use lib.Dec.{ltb}
use lib.ListN.{length, get_or, take, drop, length-drop, length-append, take-append-drop}
use lib.Seq.{drop-append-le, take-append-le, drop-drop, drop-cons}
use borrow.Author.Tests.{le-ltb, ltb-false}
use Rattle.octets.specs.Be.{be_at, bytes}
use Rattle.octets.specs.Fix.{fix, steps}
use Rattle.octets.specs.Pick.{pick}
use Rattle.octets.proofs.Fix.{fix-step, size_ind, Shrinks}
use Rattle.ft_number.specs.declared.FtNumber.{FtNumber}
use Rattle.tlv.specs.declared.Found.{Found}
use Rattle.tlv.specs.declared.walk.Tlv.{Tlv}
use Rattle.tlv.specs.declared.walk.Turn.{Turn}
use Rattle.tlv.specs.Tlv.{tlv_of, head_of, size_of}
use Rattle.tlv.specs.Walk.{none_found, place_of, placed_of, turn_of, Rest, left_of, on_turn, walk_of}
use Rattle.tlv.proofs.Places.{noted, Each, each_placed, walk_keeps, WholeTlvs, whole_tlvs}
use Rattle.tlv.proofs.Turns.{Goes, goes, walk_rest, walk_step}
use Rattle.tlv.proofs.Whole.{end_empty, head_append}
use Rattle.message.specs.declared.Message.{Message}
use Rattle.message.specs.Reading.{reading_of}
use Rattle.message.proofs.Laws.{NoFt, whole}
use Rattle.message_writer.specs.Forms.{raised, ft_tlvs, protected_bytes}
use Rattle.message_writer.specs.Payload.{is_ft, keep_step, kept_of, payload_of}
use Rattle.message_writer.proofs.Append.{size_append}
use Rattle.message_writer.proofs.Raised.{raised_tlvs, raised_front, raised_behind}

shrinks : Shrinks length keep_step
shrinks g h ts e = go (ltb (length ts) (size_of ts)) refl
  where
    go : (b : Bool) → ltb (length ts) (size_of ts) ≡ b
        → pick b ts (pick (is_ft (head_of ts)) [] (take (size_of ts) ts) ++ g (drop (size_of ts) ts)) ≡ pick b ts (pick (is_ft (head_of ts)) [] (take (size_of ts) ts) ++ h (drop (size_of ts) ts))
    go true q = refl
    go false q =
        ap (λ (l : List ℕ). pick (is_ft (head_of ts)) [] (take (size_of ts) ts) ++ l)
        (e (drop (size_of ts) ts) (omega (arith, length-drop (size_of ts) ts, ltb-false (length ts) (size_of ts) q)))

kept_step : (ts : List ℕ) → kept_of ts ≡ keep_step kept_of ts
unfolding kept_of
kept_step ts = fix-step length keep_step [] shrinks ts

-- a TLV that is no FT TLV is kept, whatever stands behind it
kept_other : (ts us : List ℕ) (n : ℕ) → n ≡ size_of ts → n ≤ length ts → is_ft (head_of ts) ≡ false → kept_of (ts ++ us) ≡ take n ts ++ kept_of (drop n ts ++ us)
kept_other ts us n nq within other =
    let l : length (ts ++ us) ≡ length ts + length us = length-append ts us in
    let size : size_of (ts ++ us) ≡ n = size_append ts us (omega arith) ∙ sym nq in
    let head : is_ft (head_of (ts ++ us)) ≡ false = ap is_ft (head_append ts us (omega arith)) ∙ other in
    kept_step (ts ++ us)
    ∙ simp (size, head, le-ltb (length (ts ++ us)) n (omega arith), take-append-le n ts us within, drop-append-le n ts us within)

-- a place that was found before stays found
abbrev Grown : Found → Found → Type 0
Grown f g = Each (λ tlv p. (place_of f tlv ≡ 0 → ⊥) → p ≡ 0 → ⊥) g

grown_same : (f : Found) → Grown f f
grown_same f = record { fec = λ z. z; label = λ z. z; status = λ z. z; parameters = λ z. z; session = λ z. z; protection = λ z. z; ack = λ z. z; requestid = λ z. z }

walk_grows : (s : List ℕ) (at : ℕ) (f g : Found) → 0 < at → at ≤ length s → walk_of at (drop at s) f ≡ Some g → Grown f g
walk_grows s at f g h k e = walk_keeps s at (Grown f) keeps k f g e (grown_same f)
  where
    keeps : (x y : Found) (i n : ℕ) → at ≤ i → i ≤ length s → Goes x y i n (drop i s) → Grown f x → Grown f y
    keeps x y i n l m w grown =
        let t : List ℕ = drop i s in
        rw (noted x y (head_of t) (be_at 2 t 2) i t w.noted).is at
        (each_placed (λ tlv p. (place_of f tlv ≡ 0 → ⊥) → p ≡ 0 → ⊥) x (head_of t) i grown (λ z y. omega arith))

-- so a TLV on the way to places without FT TLVs is none
not_ft : (tlv : Tlv) (f g : Found) (at : ℕ) → 0 < at → Grown (placed_of f tlv at) g → NoFt g → is_ft tlv ≡ false
not_ft Tlv.Fec f g at h grown none = refl
not_ft Tlv.Label f g at h grown none = refl
not_ft Tlv.Status f g at h grown none = refl
not_ft Tlv.Parameters f g at h grown none = refl
not_ft Tlv.Session f g at h grown none = absurd (grown.session (λ z. omega arith) none.session)
not_ft Tlv.Protection f g at h grown none = absurd (grown.protection (λ z. omega arith) none.protection)
not_ft Tlv.Ack f g at h grown none = absurd (grown.ack (λ z. omega arith) none.ack)
not_ft Tlv.RequestId f g at h grown none = refl
not_ft Tlv.Other f g at h grown none = refl

-- TLVs of which none is an FT TLV are kept, whatever stands behind them
module _ (s us : List ℕ) (g : Found) (none : NoFt g) where
  abbrev Keeps : Rest → Type 0
  Keeps r = 0 < r.at → r.at ≤ length s → r.bytes ≡ drop r.at s → walk_rest r ≡ Some g → kept_of (r.bytes ++ us) ≡ r.bytes ++ kept_of us

  keeps-rest : (r : Rest) → Keeps r
  keeps-rest = size_ind left_of Keeps step
    where
      step : (r : Rest) → ((t : Rest) → left_of t < left_of r → Keeps t) → Keeps r
      step r ih some inside b e = go (turn_of r.found r.at r.bytes) refl (sym (walk_step r.at r.bytes r.found) ∙ e)
        where
          go : (t : Turn) → turn_of r.found r.at r.bytes ≡ t → on_turn walk_rest r t ≡ Some g → kept_of (r.bytes ++ us) ≡ r.bytes ++ kept_of us
          go Turn.End q k = rw (end_empty r.found r.at r.bytes q)
          go Turn.Malformed q k = let z : ◌≡◌ {A = ℕ} 0 1 = cc in absurd (omega arith)
          go (Turn.Next f n) q k =
              let w : Goes r.found f r.at n r.bytes = goes r.found f r.at n r.bytes q in
              let is : placed_of r.found (head_of r.bytes) r.at ≡ f = (noted r.found f (head_of r.bytes) (be_at 2 r.bytes 2) r.at r.bytes w.noted).is in
              let left : length (drop n r.bytes) ≡ length r.bytes - n = length-drop n r.bytes in
              let all : length r.bytes ≡ length s - r.at = ap length b ∙ length-drop r.at s in
              let within : n ≤ length r.bytes = w.within in
              let size : 4 ≤ n = omega (arith, w.size) in
              let b' : drop n r.bytes ≡ drop (r.at + n) s = ap (drop n) b ∙ drop-drop n r.at s in
              let grown : Grown f g = walk_grows s (r.at + n) f g (omega arith) (omega arith) (rw b' at k) in
              let other : is_ft (head_of r.bytes) ≡ false = not_ft (head_of r.bytes) r.found g r.at some (rw (← is) at grown) none in
              kept_other r.bytes us n w.size within other
              ∙ ap (λ (l : List ℕ). take n r.bytes ++ l) (ih (record { at = r.at + n; bytes = drop n r.bytes; found = f }) (omega arith) (omega arith) (omega arith) b' k)
              ∙ sym (append_assoc (take n r.bytes) (drop n r.bytes) (kept_of us))
              ∙ ap (λ (l : List ℕ). l ++ kept_of us) (take-append-drop n r.bytes)

-- FT Protection and FT ACK are not
kept_ft : (n : FtNumber) (ack : Option FtNumber) → kept_of (ft_tlvs n ack) ≡ []
unfolding kept_of fix steps tlv_of
kept_ft n None = refl
kept_ft n (Some a) = refl

-- the bytes of a message: type, length, message ID, TLVs
parts_whole : (m : List ℕ) → take 2 m ++ (take 2 (drop 2 m) ++ (take 4 (drop 4 m) ++ drop 8 m)) ≡ m
parts_whole m =
    ap (λ (l : List ℕ). take 2 m ++ (take 2 (drop 2 m) ++ (take 4 (drop 4 m) ++ l))) (sym (drop-drop 4 4 m))
    ∙ ap (λ (l : List ℕ). take 2 m ++ (take 2 (drop 2 m) ++ l)) (take-append-drop 4 (drop 4 m))
    ∙ ap (λ (l : List ℕ). take 2 m ++ (take 2 (drop 2 m) ++ l)) (sym (drop-drop 2 2 m))
    ∙ ap (λ (l : List ℕ). take 2 m ++ l) (take-append-drop 2 (drop 2 m))
    ∙ take-append-drop 2 m

-- a length that is right is spelled by its two bytes
length-spelled : (m : List ℕ) (n : ℕ) → 8 ≤ length m → be_at 2 m 2 ≡ n → n < 256 ^ 2 → get_or m 3 0 < 256 → bytes 2 n ≡ take 2 (drop 2 m)
length-spelled m n head e small low =
    let high : n / 256 % 256 ≡ get_or m 2 0 = omega arith in
    let last : n % 256 ≡ get_or m 3 0 = omega arith in
    let two : drop 2 m ≡ get_or m 2 0 ∷ drop 3 m = drop-cons m 2 0 (omega arith) in
    let three : drop 3 m ≡ get_or m 3 0 ∷ drop 4 m = drop-cons m 3 0 (omega arith) in
    rw (two, three, high, last)

-- a whole message without FT TLVs, sent with them, is itself again without them
pub protected_payload : (m : List ℕ) (g : Message) (n : FtNumber) (ack : Option FtNumber) → reading_of m ≡ Some g → NoFt g.found
    → length m + 12 < 256 ^ 2 → get_or m 3 0 < 256 → payload_of (protected_bytes m n ack) ≡ m
unfolding payload_of
protected_payload m g n ack e none short low =
    let w : WholeTlvs m g.found = whole_tlvs m g.found (whole m g e).tlvs in
    let t : List ℕ = ft_tlvs n ack in
    let head : 8 ≤ length m = w.head in
    let kept : kept_of (drop 8 (raised m t)) ≡ drop 8 m =
    ap kept_of (raised_tlvs m t head)
    ∙ keeps-rest m t g.found none (record { at = 8; bytes = drop 8 m; found = none_found }) (omega arith) head refl w.tlvs
    ∙ ap (λ (l : List ℕ). drop 8 m ++ l) (kept_ft n ack)
    ∙ append-nil (drop 8 m) in
    let size : be_at 2 m 2 ≡ 4 + length (drop 8 m) = omega (arith, w.adds, length-drop 8 m) in
    simp (kept, raised_front m t head, raised_behind m t head)
    (ap (λ (l : List ℕ). take 2 m ++ (l ++ (take 4 (drop 4 m) ++ drop 8 m))) (length-spelled m (4 + length (drop 8 m)) head size (omega (arith, length-drop 8 m)) low)
    ∙ parts_whole m)
