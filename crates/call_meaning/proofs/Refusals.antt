-- What the first tests of a call leave, whatever its own tests are. Assumes nothing.
use Rattle.std.specs.Prelude.{Result}
use Prim.Native.Nat.{ℕ, ◌<◌}
use mathlib.Core.Bool.{true}
use mathlib.Core.List.{List}
use mathlib.Core.Path.{◌≡◌, refl, sym}
use Rattle.image.specs.declared.ImageFault.{ImageFault}
use Rattle.protocol.specs.declared.Answer.{Answer}
use Rattle.protocol.specs.declared.Phase.{Phase}
use Rattle.protocol.specs.Answers.{answer_number, effect_of, is_done}
use Rattle.protocol.proofs.Effects.{effect_nothing}
use Rattle.protocol.proofs.Settling.{Harmless}
use Rattle.calls.specs.Outcomes.{After, checked, admitted_on, settle_of}
use Rattle.calls.proofs.Settled.{checked_all, admitted_all}

refusal_harmless : (x : Answer) → 0 < answer_number x → answer_number x < 20 → Harmless x
refusal_harmless x l m n = sym (effect_nothing x (answer_number x) refl l m)

-- a call whose own refusals change nothing changes nothing where it is refused
pub checked_harmless : (v : Result Unit ImageFault) (a : Answer) → Harmless a → Harmless (checked v a)
checked_harmless v a h = checked_all Harmless refusal_harmless v (λ s. h)

pub admitted_harmless : (im : List ℕ) (ph : Phase) (a : Answer) → Harmless a → Harmless (admitted_on im ph a)
admitted_harmless im ph a h = admitted_all Harmless refusal_harmless im ph (λ d. h)

-- an answer that is Done does what the call does
pub settle-does : (a : Answer) (ph : Phase) (im o : List ℕ) (d : After) → is_done a ≡ true → settle_of a ph im o d ≡ d
unfolding settle_of effect_of
settle-does a ph im o d t = rw t
