-- What the protocol sees of a call on an image: its answer, the state that the image stands for, the phase, the bytes written, and how many were left out.
use Rattle.std.specs.Prelude.{take}
use Rattle.protocol.specs.Step.{Step}
use Rattle.calls.specs.Outcomes.{After}
use Rattle.calls.specs.State.{state_of}

abbrev pub seen : After → Step
seen x = record {
  answer = x.outcome.answer;
  state = state_of x.image;
  phase = x.outcome.phase;
  output = take x.outcome.written x.out;
  leftout = x.outcome.leftout;
}
