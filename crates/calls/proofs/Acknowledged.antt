-- Block 0's numbers for the state that an acknowledgement leaves. Assumes nothing.
use Prim.Native.Nat.{ℕ, ◌-◌}
use mathlib.Core.List.{List}
use mathlib.Core.Path.{◌≡◌}
use lib.ListN.{length-drop}
use Rattle.block0.specs.Updates.{header_released}
use Rattle.image.specs.Sizes.{slot_at}
use Rattle.image.specs.State.{decode}
use Rattle.image.specs.Verdict.{IsSound}
use Rattle.image.proofs.Queue.{queue_length}
use Rattle.image.proofs.Sound.{sound_valid}
use Rattle.protocol.specs.Acked.{acked}
use Rattle.calls.specs.State.{state_of}
use Rattle.calls.specs.Storing.{fewer, first_after, header_for}
use Rattle.calls.proofs.Marking.{marks_said}
use Rattle.calls.proofs.Putting.{kept_is}

-- R is the number acknowledged, and the oldest k slots are free
pub header_acked : (im : List ℕ) → IsSound im → (k a : ℕ)
    → header_for (first_after (decode im).header (fewer k)) (acked (state_of im) k a)
    ≡ header_released (decode im).header (record { 0 = a }) (slot_at (decode im).header.first k) ((decode im).header.held - k)
unfolding acked
header_acked im s k a =
    let v = sound_valid im s in
    rw (length-drop k (decode im).queue, queue_length im, kept_is (decode im).header.kept v.kept, marks_said (decode im).header.marks v.marks)
