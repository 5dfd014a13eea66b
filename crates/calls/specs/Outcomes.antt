-- What a call leaves: its outcome, the image and the output. A call is restore's checks, then the protocol's step on the state that the image stands for,
-- and what that makes of the state is stored.
use Rattle.std.specs.Prelude.{Result, Ok, Err, ℕ, ◌+◌, ◌*◌, Bool, false, List, [], ◌∷◌, length}
use Rattle.octets.specs.Differ.{differ}
use Rattle.octets.specs.Laid.{laid}
use Rattle.octets.specs.Pick.{pick}
use Rattle.image.specs.declared.ImageFault.{ImageFault}
use Rattle.image.specs.Sizes.{block, further}
use Rattle.image.specs.Verdict.{verdict}
use Rattle.protocol.specs.declared.Answer.{Answer}
use Rattle.protocol.specs.declared.Effect.{Effect}
use Rattle.protocol.specs.declared.Phase.{Phase}
use Rattle.protocol.specs.Answers.{effect_of}
use Rattle.protocol.specs.Step.{Step, admitted, failed_with, released_with}
use Rattle.calls.specs.declared.Outcome.{Outcome}
use Rattle.calls.specs.State.{state_of}
use Rattle.calls.specs.Storing.{Further, same, Slots, stay, empty, slot_named, stored}

-- a call with no output has the empty list here
pub record After : Type 0 where
  pub outcome : Outcome
  pub image : List ℕ
  pub out : List ℕ

abbrev pub after_with : Outcome → List ℕ → List ℕ → After
after_with r im o = record { outcome = r; image = im; out = o }

-- "nothing changed"
abbrev pub refusal : Answer → Phase → Outcome
refusal a ph = record { answer = a; phase = ph; written = 0; slot = 0; block0 = false; further = 0; leftout = 0 }

abbrev pub untouched : Answer → Phase → List ℕ → List ℕ → After
untouched a ph im o = after_with (refusal a ph) im o

-- block b has other bytes than before
abbrev pub is_other : List ℕ → List ℕ → ℕ → Bool
is_other im next b = differ (block im b) (block next b)

-- of the blocks in an order a bit for each that a test names, the lowest for the first
abbrev pub bits_of : (ℕ → Bool) → List ℕ → ℕ
bits_of named [] = 0
bits_of named (b ∷ bs) = pick (named b) 1 0 + 2 * bits_of named bs

-- which of the further blocks are others: bit 0 for block 65, and so on in their order
abbrev pub further_bits : List ℕ → List ℕ → ℕ
further_bits im next = bits_of (is_other im next) further

-- what the protocol's step leaves is stored, and its output written: "0 writes the message from the start and no byte after it"
abbrev pub step_stored : List ℕ → Slots → Further → Step → List ℕ → After
step_stored im slots f x o =
    after_with
    (record {
      answer = x.answer;
      phase = x.phase;
      written = length x.output;
      slot = slot_named im slots;
      block0 = is_other im (stored im slots f x.state) 0;
      further = further_bits im (stored im slots f x.state);
      leftout = x.leftout;
    })
    (stored im slots f x.state)
    (laid o 0 x.output)

-- "as connection failed", and "released, Idle"
unfoldable pub failed_on : Answer → List ℕ → List ℕ → After
failed_on a im o = step_stored im stay same (failed_with a (state_of im)) o

unfoldable pub released_on : Answer → List ℕ → List ℕ → After
released_on a im o = step_stored im empty same (released_with a) o

-- what an answer leaves; `done` is what the call does where the answer is Done
abbrev pub left_by : Effect → Answer → Phase → List ℕ → List ℕ → After → After
left_by Effect.Nothing a ph im o done = untouched a ph im o
left_by Effect.Fail a ph im o done = failed_on a im o
left_by Effect.Release a ph im o done = released_on a im o
left_by Effect.Act a ph im o done = done

unfoldable pub settle_of : Answer → Phase → List ℕ → List ℕ → After → After
settle_of a ph im o done = left_by (effect_of a) a ph im o done

-- "In the orders 12 means all restore's checks (12, 10, 11), made by every call on an image"
abbrev pub checked : Result Unit ImageFault → Answer → Answer
checked (Ok tt) a = a
checked (Err ImageFault.WrongSize) a = Answer.WrongSize
checked (Err (ImageFault.BadBlock b)) a = Answer.BadBlock b
checked (Err (ImageFault.BadField b)) a = Answer.BadField b

-- "12, 1": restore's checks, and then the phase that the image rules out; only then the call's own tests
unfoldable pub admitted_on : List ℕ → Phase → Answer → Answer
admitted_on im ph a = checked (verdict im) (admitted (state_of im) ph a)

-- a call whose step is `x`, and that makes this of the ring of slots and of the further blocks
unfoldable pub call_of : List ℕ → Phase → List ℕ → Slots → Further → Step → After
call_of im ph o slots f x = settle_of (checked (verdict im) x.answer) ph im o (step_stored im slots f x o)
