-- A restart writes nothing where the medium is bytes and no label word is to be freed. Assumes nothing.
use Prim.Native.Nat.{ℕ}
use mathlib.Core.List.{List, []}
use mathlib.Core.Path.{◌≡◌, refl, ap, ◌∙◌}
use Rattle.octets.specs.Bytes.{Bytes}
use Rattle.protocol.specs.declared.Answer.{Answer}
use Rattle.protocol.specs.Calls.{restores, step}
use Rattle.protocol.specs.Judged.{done}
use Rattle.protocol.specs.Step.{Step, broken}
use Rattle.calls.specs.Outcomes.{After}
use Rattle.calls.specs.State.{state_of}
use Rattle.calls.specs.Storing.{same, stay, stored}
use Rattle.calls.proofs.Putting.{put_same}
use Rattle.call_meaning.specs.Standing.{Standing}
use Rattle.session.specs.Call.{leaves}
use Rattle.session.proofs.Medium.{all_stored_lem}
use Rattle.session.proofs.Refines.{refines}
use Rattle.stored_ends.specs.Pair.{Pair, restarted}
use Rattle.stored_ends.proofs.Stored.{leaves-stored}

module _ (z : Pair) (medium : List ℕ) (st : Standing medium z.world.a.phase) where
  passes : (leaves restores medium z.world.a.phase []).outcome.answer ≡ Answer.Done
  unfolding step
  passes = ap (λ (y : Step). y.answer) (refines medium z.world.a.phase st [] restores tt)

  pub restart-leaves : Bytes medium → broken (state_of medium) ≡ state_of medium → (restarted z medium).own.medium ≡ medium
  unfolding done
  restart-leaves byte still =
      all_stored_lem restores medium z.world.a.phase [] refl st
      ∙ ap (λ (x : After). x.image) (leaves-stored restores medium z.world.a.phase [] refl passes)
      ∙ ap (stored medium stay same) still
      ∙ put_same medium st.sound byte
