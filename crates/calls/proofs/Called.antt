-- A call is its protocol's step, judged and settled on the image. Assumes nothing.
use Rattle.std.specs.Prelude.{Result, Ok, Err}
use Prim.Native.Nat.{ℕ}
use mathlib.Core.Bool.{false}
use mathlib.Core.List.{List}
use mathlib.Core.Path.{◌≡◌, refl, ap, ◌∙◌}
use Rattle.octets.proofs.Choice.{by_test}
use Rattle.image.specs.declared.ImageFault.{ImageFault}
use Rattle.image.specs.Verdict.{verdict}
use Rattle.protocol.specs.declared.Answer.{Answer}
use Rattle.protocol.specs.declared.Phase.{Phase}
use Rattle.protocol.specs.Answers.{is_done}
use Rattle.protocol.specs.State.{State}
use Rattle.protocol.specs.Step.{Step, admitted, settle}
use Rattle.protocol.proofs.Effects.{done_is}
use Rattle.protocol.proofs.Settling.{settle_answer, settle-does}
use Rattle.calls.specs.Outcomes.{admitted_on, call_of, checked, settle_of, step_stored}
use Rattle.calls.specs.State.{state_of}
use Rattle.calls.specs.Storing.{Further, Slots}
use Rattle.calls.proofs.Ends.{settle_other}

-- restore's checks refuse what is refused
pub checked_refused : (v : Result Unit ImageFault) (a : Answer) → is_done a ≡ false → is_done (checked v a) ≡ false
checked_refused (Ok tt) a n = n
checked_refused (Err ImageFault.WrongSize) a n = refl
checked_refused (Err (ImageFault.BadBlock b)) a n = refl
checked_refused (Err (ImageFault.BadField b)) a n = refl

module _ (im : List ℕ) (ph : Phase) (o : List ℕ) (slots : Slots) (f : Further) (a : Answer) (s : State) (d : Step) (e : d.answer ≡ Answer.Done) where
  pub call_settles : call_of im ph o slots f (settle a s ph d) ≡ settle_of (checked (verdict im) a) ph im o (step_stored im slots f d o)
  unfolding call_of
  call_settles =
      by_test (is_done a)
      (λ t. rw (settle-does a s ph d t, e, done_is a t))
      (λ n.
      ap (λ (x : Answer). settle_of (checked (verdict im) x) ph im o (step_stored im slots f (settle a s ph d) o)) (settle_answer a s ph d e)
      ∙ (settle_other (checked (verdict im) a) ph im o (step_stored im slots f (settle a s ph d) o) (step_stored im slots f d o) (checked_refused (verdict im) a n)))

-- its answer is that of restore's checks, of the phase, and then of its own tests
pub call_is : (im : List ℕ) (ph : Phase) (o : List ℕ) (slots : Slots) (f : Further) (a : Answer) (d : Step) → d.answer ≡ Answer.Done
    → call_of im ph o slots f (settle (admitted (state_of im) ph a) (state_of im) ph d) ≡ settle_of (admitted_on im ph a) ph im o (step_stored im slots f d o)
unfolding admitted_on
call_is im ph o slots f a d e = call_settles im ph o slots f (admitted (state_of im) ph a) (state_of im) d e
