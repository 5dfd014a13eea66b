-- Where the marks of "Requests stopped" come from, over all calls: they stay over every break and restart, are forgotten with the state, and move by kinds 9
-- and 6 alone. Assumes nothing.
use Rattle.std.specs.Prelude.{Result, Ok, Err, Option, Some, None}
use Prim.Native.Nat.{ℕ}
use mathlib.Core.List.{List}
use mathlib.Core.Path.{◌≡◌, refl}
use lib.Dec.{ltb}
use Rattle.octets.proofs.Choice.{pick_all}
use Rattle.message.specs.declared.Message.{Message}
use Rattle.message.specs.Reading.{reading_of}
use Rattle.protocol.specs.declared.Answer.{Answer}
use Rattle.protocol.specs.declared.Phase.{Phase}
use Rattle.protocol.specs.declared.Start.{Start}
use Rattle.protocol.specs.Acked.{acked}
use Rattle.protocol.specs.Calls.{Call, formats, restores, fails, opens, greets, passes, submits, sends, keeps-alive, receives, step}
use Rattle.protocol.specs.Init.{fresh, resumed, init_deed, init_start}
use Rattle.protocol.specs.Judged.{done}
use Rattle.protocol.specs.MeaningRequests.{MarksFrom, remembered, forgotten, telling, told}
use Rattle.protocol.specs.Phases.{issued_count}
use Rattle.protocol.specs.Receive.{received_state, taken, taken_as}
use Rattle.protocol.specs.Send.{sent_state, numbered, place_sent}
use Rattle.protocol.specs.State.{State}
use Rattle.protocol.specs.Submit.{submitted}
use Rattle.protocol.specs.TimePassed.{expired}
use Rattle.protocol.proofs.Settles.{ends}

module _ (s : State) (ph : Phase) where
  greeted_marks : (m : List ℕ) → MarksFrom s ph (greets m) (init_deed s ph m)
  unfolding fresh resumed acked
  greeted_marks m = by (init_start s ph m) refl
    where
      by : (st : Result Start Answer) → init_start s ph m ≡ st → MarksFrom s ph (greets m) (init_deed s ph m)
      by (Err a) e = remembered {x = init_deed s ph m} (rw e)
      by (Ok Start.Plain) e = forgotten {x = init_deed s ph m} (rw e) (rw e)
      by (Ok (Start.Fresh t)) e = forgotten {x = init_deed s ph m} (rw e) (rw e)
      by (Ok (Start.Resumed t k a)) e = remembered {x = init_deed s ph m} (rw e)

  taken_marks : (m : List ℕ) → MarksFrom s ph (receives m) (taken_as s ph (reading_of m))
  unfolding received_state taken acked
  taken_marks m = by ph refl (reading_of m) refl
    where
      by : (p : Phase) → ph ≡ p → (r : Option Message) → reading_of m ≡ r → MarksFrom s ph (receives m) (taken_as s p r)
      by Phase.Idle e r q = remembered refl
      by (Phase.InitWait v) e r q = remembered refl
      by (Phase.UpFT u) e None q = remembered refl
      by (Phase.UpFT u) e (Some g) q = told (record { done = refl; up = rw e; read = q }) refl
      by Phase.UpPlain e r q = remembered refl
      by Phase.Failed e r q = remembered refl

  sent_marks : (sent : ℕ) → (sent_state s sent).marks ≡ s.marks
  unfolding sent_state numbered
  sent_marks sent = pick_all (λ (x : State). x.marks ≡ s.marks) (ltb sent (issued_count s)) refl refl

  done_marks : (c : Call) → MarksFrom s ph c (done c s ph)
  unfolding done submitted
  done_marks formats = forgotten refl refl
  done_marks restores = remembered refl
  done_marks fails = remembered refl
  done_marks (opens id own proposal) = remembered refl
  done_marks (greets m) = greeted_marks m
  done_marks (passes elapsed) = pick_all (MarksFrom s ph (passes elapsed)) (expired s elapsed) (forgotten refl refl) (remembered refl)
  done_marks (submits m) = telling refl refl
  done_marks (sends ask) = remembered (sent_marks (place_sent s ph))
  done_marks (keeps-alive id) = remembered refl
  done_marks (receives m) = taken_marks m

  -- ---- THE THEOREM: of every call, whatever it answers
  pub marks_from : (c : Call) (room : ℕ) → MarksFrom s ph c (step c s ph room)
  marks_from c room = ends c s ph room (MarksFrom s ph c) (λ e. remembered refl) (λ e. remembered refl) (λ e. forgotten refl refl) (λ e. done_marks c)
