-- The numbers of an outcome have 32 bits, however a call ends: what is written is a message, what is stored and named a block of the image. Assumes nothing.
use Rattle.std.specs.Prelude.{Result, Ok, Err}
use Prim.Native.Nat.{ℕ, ◌≤◌}
use mathlib.Core.Bool.{Bool, true, false≢true}
use mathlib.Core.List.{List}
use mathlib.Core.Path.{◌≡◌, refl}
use native.Mathlib.Omega.{arith}
use Rattle.octets.proofs.Choice.{by_test}
use Rattle.block0.specs.Layout.{slot_count}
use Rattle.image.specs.declared.ImageFault.{ImageFault}
use Rattle.image.specs.Verdict.{verdict}
use Rattle.image.proofs.Sound.{sound_parts}
use Rattle.protocol.specs.declared.Answer.{Answer}
use Rattle.protocol.specs.declared.Effect.{Effect}
use Rattle.protocol.specs.declared.Phase.{Phase}
use Rattle.protocol.specs.Answers.{effect_of, is_done}
use Rattle.protocol.specs.Calls.{Call, step}
use Rattle.protocol.proofs.Effects.{act-done}
use Rattle.calls.specs.Outcomes.{After, untouched, failed_on, released_on, left_by, settle_of, checked, call_of, step_stored}
use Rattle.calls.specs.State.{state_of}
use Rattle.calls.specs.Storing.{Further, Slots, stay, empty, one_more, fewer, slot_named}
use Rattle.session_numbers.specs.Outcome.{Narrow}
use Rattle.session_numbers.proofs.Lengths.{step-short}
use Rattle.session_numbers.proofs.Named.{Named, checked_named}
use Rattle.session_numbers.proofs.Rules.{step_named}

-- ---- how calls end
-- nothing written, and no slot
pub quiet : (a : Answer) (ph : Phase) (b : Bool) (f l : ℕ) → Named a → Narrow (record { answer = a; phase = ph; written = 0; slot = 0; block0 = b; further = f; leftout = l })
quiet a ph b f l n = record { block = n; written = omega arith; slot = omega arith }

module _ (a : Answer) (ph : Phase) (im o : List ℕ) (n : Named a) where
  pub unchanged_narrow : Narrow (untouched a ph im o).outcome
  unchanged_narrow = quiet a ph _ _ _ n

  pub settled_narrow : (d : After) → (is_done a ≡ true → Narrow d.outcome) → Narrow (settle_of a ph im o d).outcome
  unfolding settle_of failed_on released_on
  settled_narrow d w = by (effect_of a) refl
    where
      by : (f : Effect) → effect_of a ≡ f → Narrow (left_by f a ph im o d).outcome
      by Effect.Nothing e = unchanged_narrow
      by Effect.Fail e = quiet a _ _ _ _ n
      by Effect.Release e = quiet a _ _ _ _ n
      by Effect.Act e = by_test (is_done a) w (λ f. absurd (act-done a e f))

-- a slot stands in one of the blocks 1 to 64
slot_low : (im : List ℕ) (slots : Slots) → slot_named im slots ≤ slot_count
slot_low im stay = omega arith
slot_low im empty = omega arith
slot_low im (one_more m) = omega arith
slot_low im (fewer k) = omega arith

-- ---- each call: the protocol's step on what an image stands for that passed restore's checks
passed : (v : Result Unit ImageFault) (a : Answer) → is_done (checked v a) ≡ true → v ≡ Ok tt
passed (Ok tt) a t = refl
passed (Err ImageFault.WrongSize) a t = absurd (false≢true t)
passed (Err (ImageFault.BadBlock b)) a t = absurd (false≢true t)
passed (Err (ImageFault.BadField b)) a t = absurd (false≢true t)

pub call_narrow : (c : Call) (im : List ℕ) (ph : Phase) (o : List ℕ) (slots : Slots) (f : Further) (room : ℕ)
    → Narrow (call_of im ph o slots f (step c (state_of im) ph room)).outcome
unfolding call_of
call_narrow c im ph o slots f room =
    let x = step c (state_of im) ph room in
    let n = step_named c (state_of im) ph room in
    settled_narrow (checked (verdict im) x.answer) ph im o (checked_named im x.answer n) (step_stored im slots f x o)
    (λ t. record { block = n; written = step-short im ph (sound_parts im (passed (verdict im) x.answer t)) c room; slot = slot_low im slots })
