-- An answer by its number: its effect, and whether it is Done. Assumes nothing.
use Prim.Native.Nat.{ℕ, ◌<◌, ◌≤◌}
use mathlib.Core.Bool.{Bool, true, false}
use mathlib.Core.Path.{◌≡◌, refl}
use native.Mathlib.Omega.{arith}
use lib.Dec.{ltb}
use borrow.Author.Tests.{eq-eqb, ne_eqb, lt-ltb, le-ltb}
use Rattle.octets.specs.Pick.{pick}
use Rattle.octets.proofs.Choice.{no}
use Rattle.protocol.specs.declared.Answer.{Answer}
use Rattle.protocol.specs.declared.Effect.{Effect}
use Rattle.protocol.specs.Answers.{answer_number, effect_of, is_done}

module _ (a : Answer) (n : ℕ) (e : n ≡ answer_number a) where
  pub effect_act : n ≡ 0 → Effect.Act ≡ effect_of a
  unfolding effect_of
  effect_act z = rw (← e, eq-eqb n 0 z)

  pub effect_nothing : 0 < n → n < 20 → Effect.Nothing ≡ effect_of a
  unfolding effect_of
  effect_nothing l h = rw (← e, ne_eqb n 0 (λ (z : n ≡ 0). omega arith), lt-ltb n 20 h)

  pub effect_fail : 20 ≤ n → n < 30 → Effect.Fail ≡ effect_of a
  unfolding effect_of
  effect_fail l h = rw (← e, ne_eqb n 0 (λ (z : n ≡ 0). omega arith), le-ltb n 20 l, lt-ltb n 30 h)

  pub effect_release : 30 ≤ n → Effect.Release ≡ effect_of a
  unfolding effect_of
  effect_release l = rw (← e, ne_eqb n 0 (λ (z : n ≡ 0). omega arith), le-ltb n 20 (omega arith), le-ltb n 30 l)

-- an answer whose number is 0 is Done
pub done_is : (a : Answer) → is_done a ≡ true → a ≡ Answer.Done
done_is Answer.Done e = refl
done_is Answer.WrongPhase e = no (cc)
done_is Answer.ZeroDistance e = no (cc)
done_is Answer.LengthOutOfRange e = no (cc)
done_is Answer.Malformed e = no (cc)
done_is Answer.KindNotSent e = no (cc)
done_is Answer.LabelNotAllowed e = no (cc)
done_is Answer.StoreFull e = no (cc)
done_is Answer.NothingUnsent e = no (cc)
done_is Answer.OutputTooShort e = no (cc)
done_is (Answer.BadBlock b) e = no (cc)
done_is (Answer.BadField b) e = no (cc)
done_is Answer.WrongSize e = no (cc)
done_is Answer.NoLabelWord e = no (cc)
done_is Answer.RequestsStopped e = no (cc)
done_is Answer.RequestOutsideUpFt e = no (cc)
done_is Answer.OutOfTurn e = no (cc)
done_is Answer.NoWordForMapping e = no (cc)
done_is Answer.MalformedReceived e = no (cc)
done_is Answer.BadInit e = no (cc)
done_is Answer.ZeroNumber e = no (cc)
done_is Answer.FtTlvInPlain e = no (cc)
done_is Answer.ProtectionWrong e = no (cc)
done_is Answer.ProtectionMissing e = no (cc)
done_is Answer.AckSequenceError e = no (cc)
done_is Answer.ParametersChanged e = no (cc)
done_is Answer.StatusFatal e = no (cc)

-- and no other acts
pub act-done : (a : Answer) → effect_of a ≡ Effect.Act → is_done a ≡ false → ⊥
unfolding effect_of
act-done a e n = by (ltb (answer_number a) 20) (ltb (answer_number a) 30) (rw n at e)
  where
    by : (b c : Bool) → pick b Effect.Nothing (pick c Effect.Fail Effect.Release) ≡ Effect.Act → ⊥
    by true c e = no (cc)
    by false true e = no (cc)
    by false false e = no (cc)
