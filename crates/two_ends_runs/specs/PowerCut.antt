-- A power cut on the media: in the Submit of 8, after its slot is stored and before block 0 is; and a restart in its place.
use Rattle.std.specs.Prelude.{ℕ, Bool, true, false, List, [], ◌∷◌}
use Rattle.image.specs.Events.{new_image}
use Rattle.image.specs.Sizes.{block}
use Rattle.image.specs.State.{slots_of}
use Rattle.two_ends.specs.Runs.{Event, restarts, submits}
use Rattle.stored_ends.specs.Demand.{stored_world}
use Rattle.stored_ends.specs.Pair.{Happening, Pair, cut, run_stored, whole}
use Rattle.stored_ends.specs.Start.{Holder, begins}
use Rattle.stored_ends.specs.Uncut.{uncut}
use Rattle.two_ends_runs.specs.Cabinets.{address, deliver, id, parameters, offer, five}
use Rattle.two_ends_runs.specs.Tales.{Ending, ending, restart_ends}

-- ---- two cabinets with new images, both up
abbrev pub new_cabinet : Holder
new_cabinet = record { image = new_image; id = id; parameters = parameters; proposal = five }

abbrev pub on_media : List (Bool × Event) → Pair
on_media vs = run_stored (begins new_cabinet new_cabinet) (uncut (deliver true ∷ deliver false ∷ vs))

-- a has accepted 7
abbrev pub seven : Pair
seven = on_media (offer true 7 ∷ [])

-- ---- what is looked at: the ending, by the states that the media stand for; of a's medium the bytes of block 0, and what its first two slots have, live or not
pub record OnMedium : Type 0 where
  pub ending : Ending
  pub zeroth : List ℕ
  pub first : List ℕ
  pub second : List ℕ

abbrev pub on_medium : Pair → OnMedium
on_medium z = record { ending = ending (stored_world z); zeroth = block z.own.medium 0; first = slots_of z.own.medium 0; second = slots_of z.own.medium 1 }

-- ---- the power goes in the Submit of 8 after one store: a's second slot has 8, block 0 is the one before, and 8 is neither held nor accepted
abbrev in_submit : Bool × Happening
in_submit = (true, cut 1 (submits (address 8)) [])

abbrev pub cut_at : Pair
cut_at = run_stored seven (in_submit ∷ [])

abbrev pub cut_ends : OnMedium
cut_ends = record { ending = restart_ends; zeroth = block seven.own.medium 0; first = address 7; second = address 8 }

-- a restart there comes to the same state, by another medium: nothing has been put into the second slot
abbrev pub restart_at : Pair
restart_at = run_stored seven ((true, whole restarts []) ∷ [])

abbrev pub unslotted : OnMedium
unslotted = record { ending = restart_ends; zeroth = block seven.own.medium 0; first = address 7; second = [] }
