-- An aid of proofs: what the functions that store a start must know of it. No call's meaning rests on it.
use Rattle.std.specs.Prelude.{false, ◌≡◌, Result, Ok, Err, ℕ, ◌≤◌}
use Rattle.protocol.specs.declared.Answer.{Answer}
use Rattle.protocol.specs.declared.Start.{Start}
use Rattle.protocol.specs.Answers.{is_done}

-- a refusal is no Done, and no more is released than `held` messages
abbrev pub StartFits : ℕ → Result Start Answer → Type 0
StartFits held (Err a) = is_done a ≡ false
StartFits held (Ok Start.Plain) = Unit {0}
StartFits held (Ok (Start.Fresh t)) = Unit {0}
StartFits held (Ok (Start.Resumed t k a)) = k ≤ held
