use mathlib.Core.Path.{◌≡◌, ap}
use native.Mathlib.Omega.{arith}
use Rattle.block0.specs.declared.Header.{Header}
use Rattle.image.specs.State.{decode}
use Rattle.image.proofs.Sound.{sound_valid}
use Rattle.send.proofs.leaving_out.search.Goals as goal
use Rattle.send.proofs.leaving_out.search.Goals.{After-header_of}

held_is : (c : After-header_of) → c.header_of.result.held ≡ (decode c.args.image.now).header.held
held_is c = ap (λ (h : Header). h.held) c.header_of.ensures

pub slice_bounds-room-end : goal.slice_bounds-room-end
slice_bounds-room-end c =
    omega (arith, held_is (goal.at.slice_bounds-room-end c).After-header_of, (sound_valid _ c.requires.0).held)
