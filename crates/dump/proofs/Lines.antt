-- The lines of a PDU, one message after the other: what holds after k of them, and how the next one keeps it. Assumes nothing.
use Rattle.std.specs.Prelude.{Some}
use Prim.Native.Nat.{ℕ, suc, ◌+◌, ◌-◌, ◌*◌, ◌≤◌, ◌<◌}
use mathlib.Core.List.{List, [], ◌∷◌, ◌++◌, append-nil, append_assoc}
use mathlib.Core.Path.{◌≡◌, refl, sym, ap, ◌∙◌}
use native.Mathlib.Nat.{sub-zero}
use native.Mathlib.Omega.{arith}
use lib.ListN.{length}
use Rattle.pdu.specs.Pdu.{message_place, place_bytes, opened_of}
use Rattle.pdu.specs.Split.{handed_out}
use Rattle.pdu.proofs.Split.{Reach, Next, reach_next, opened_reach}
use Rattle.text.specs.Text.{Put}
use Rattle.text.proofs.Pieces.{put_none, put_then, put-length}
use Rattle.dump.specs.Line.{line_of, lines_of, line_room}

module _ (before : List ℕ) (number : ℕ) (pdu : List ℕ) (count : ℕ) where
  -- after k lines: what was put and the lines of the messages from `at` on are those of the whole PDU
  pub record After (out : List ℕ) (at end k : ℕ) : Type 0 where
    pub text : List ℕ
    pub put : Put before 0 text out end
    pub lines : text ++ lines_of number k (handed_out pdu (count - k) at) ≡ lines_of number 0 (handed_out pdu count 10)
    pub reach : Reach pdu at (count - k)
    pub counted : k ≤ count
    pub passed : 10 + 8 * k ≤ at
    pub inside : at ≤ length pdu
    pub room : end ≤ 2 * at + 311 * k
    pub same : length out ≡ length before

  pub lines_start : opened_of pdu ≡ Some count → After before 10 0 0
  lines_start e =
      let r = opened_reach pdu count e in
      record {
        text = [];
        put = put_none before 0;
        lines = rw sub-zero refl;
        reach = rw sub-zero r.1;
        counted = omega arith;
        passed = omega arith;
        inside = r.0;
        room = omega arith;
        same = refl;
      }

  module _ (out : List ℕ) (at end k : ℕ) (a : After out at end k) (more : k < count) (m : List ℕ) (handed : m ≡ place_bytes pdu (message_place pdu at)) where
    left : count - k ≡ suc (count - (k + 1))
    left = omega arith

    next : Next pdu at (count - (k + 1)) m
    next = rw handed (reach_next pdu at (count - (k + 1)) (rw left at a.reach))

    pub line_message : (8 ≤ length m) × (at + length m ≤ length pdu)
    line_message = (next.whole.head, next.inside)

    pub line-next : (out' : List ℕ) (end' : ℕ) → Put out end (line_of number k m) out' end' → end' ≤ end + line_room (length m) → After out' (at + length m) end' (k + 1)
    line-next out' end' p short =
        let first : handed_out pdu (count - k) at ≡ m ∷ handed_out pdu (count - (k + 1)) (at + length m) = rw left next.handed in
        let lines' : a.text ++ line_of number k m ++ lines_of number (k + 1) (handed_out pdu (count - (k + 1)) (at + length m)) ≡ lines_of number 0 (handed_out pdu count 10) =
        append_assoc a.text (line_of number k m) (lines_of number (k + 1) (handed_out pdu (count - (k + 1)) (at + length m)))
        ∙ ap (λ (ms : List (List ℕ)). a.text ++ lines_of number k ms) (sym first)
        ∙ a.lines in
        record {
          text = a.text ++ line_of number k m;
          put = put_then a.put p;
          lines = lines';
          reach = next.rest;
          counted = omega arith;
          passed = omega (arith, line_message.0);
          inside = next.inside;
          room = omega arith;
          same = put-length p ∙ a.same;
        }

  pub lines_end : (out : List ℕ) (at end k : ℕ) → After out at end k → count ≤ k → Put before 0 (lines_of number 0 (handed_out pdu count 10)) out end
  lines_end out at end k a h =
      let none : count - k ≡ 0 = omega arith in
      let all : a.text ≡ lines_of number 0 (handed_out pdu count 10) = sym (append-nil a.text) ∙ rw none at a.lines in
      rw all at a.put
