-- What Open and KeepAlive answer: they write where they may and have room, or change nothing. Assumes nothing.
use Prim.Native.Nat.{ℕ}
use mathlib.Core.Bool.{Bool, false, true, true≢false}
use mathlib.Core.List.{List}
use mathlib.Core.Logic.{inl, inr, ◌⊎◌}
use mathlib.Core.Path.{◌≡◌, refl, sym}
use Rattle.octets.proofs.Choice.{by_test}
use Rattle.protocol.specs.declared.Answer.{Answer}
use Rattle.protocol.specs.declared.Phase.{Phase}
use Rattle.protocol.specs.Answers.{is_done}
use Rattle.protocol.specs.State.{State}
use Rattle.protocol.specs.Step.{Step, admitted, room_for, stepped, where_open}
use Rattle.protocol.specs.Writer.{writer}
use Rattle.protocol.proofs.Quiet.{Quiet, refused_quiet}
use Rattle.protocol.proofs.Refusals.{may_harmless, room_harmless}
use Rattle.protocol.proofs.Settling.{admitted-done, settle-does}

may_done : (b : Bool) (a : Answer) → is_done (where_open b a) ≡ true → b ≡ true
may_done true a t = refl
may_done false a t = absurd (true≢false (sym t))

pub record Wrote (now : State) (may : Bool) (next : Phase) (bytes : List ℕ) (x : Step) : Type 0 where
  pub may_write : may ≡ true
  pub is : x ≡ stepped Answer.Done now next bytes

pub writer_says : (now : State) (ph : Phase) (may : Bool) (next : Phase) (bytes : List ℕ) (room : ℕ)
    → Wrote now may next bytes (writer now ph may next bytes room) ⊎ Quiet now ph (writer now ph may next bytes room)
unfolding writer
writer_says now ph may next bytes room =
    let rule = where_open may (room_for bytes room) in
    by_test (is_done (admitted now ph rule))
    (λ t. inl (record {
      may_write = may_done may (room_for bytes room) (admitted-done now ph rule t);
      is = settle-does (admitted now ph rule) now ph (stepped Answer.Done now next bytes) t;
    }))
    (λ n. inr (refused_quiet rule now ph (stepped Answer.Done now next bytes) (may_harmless may (room_for bytes room) (room_harmless bytes room)) n))
