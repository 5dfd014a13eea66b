-- Format and Restore on an image: how an image begins, and how a session begins from one.
use Rattle.std.specs.Prelude.{ℕ, true, not, List, [], eqb, length}
use Rattle.octets.specs.Pick.{pick}
use Rattle.image.specs.Events.{new_image}
use Rattle.image.specs.Sizes.{further, image_size}
use Rattle.protocol.specs.declared.Answer.{Answer}
use Rattle.protocol.specs.declared.Phase.{Phase}
use Rattle.protocol.specs.Begin.{format, restore}
use Rattle.calls.specs.Outcomes.{After, after_with, bits_of, call_of, settle_of}
use Rattle.calls.specs.State.{state_of}
use Rattle.calls.specs.Storing.{same, stay}

-- a new image, and no session; every block is to be stored: `further` has the bits of all further blocks
abbrev pub formatted : After
formatted =
    after_with
    (record {
      answer = format.answer;
      phase = format.phase;
      written = length format.output;
      slot = 0;
      block0 = true;
      further = bits_of (λ b. true) further;
      leftout = format.leftout;
    })
    new_image format.output

-- "12: image not 33,280 bytes", 02: "12 reads the new size"; one of another size is left, and has no session: Idle
unfoldable pub format_of : List ℕ → After
format_of im = settle_of (pick (not (eqb (length im) image_size)) Answer.WrongSize Answer.Done) Phase.Idle im [] formatted

-- "Restore checks size, block 0, its fields, then live slots .. It frees code 6 words, as after a break, and answers Failed if kept, else Idle";
-- a refused image has no session: Idle
unfoldable pub restore_of : List ℕ → After
restore_of im = call_of im Phase.Idle [] stay same (restore (state_of im))
