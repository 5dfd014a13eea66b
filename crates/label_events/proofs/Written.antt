-- Laws of a change: it writes inside the list. Assumes nothing.
use Rattle.std.specs.Prelude.{Option, Some, None}
use Prim.Native.Nat.{ℕ, ◌<◌}
use mathlib.Core.Bool.{Bool, true, false}
use mathlib.Core.List.{List}
use mathlib.Core.Path.{◌≡◌, refl}
use lib.Dec.{eqb}
use lib.ListN.{length}
use Rattle.octets.proofs.Choice.{pick_all}
use Rattle.label_list.specs.declared.Side.{Side}
use Rattle.label_list.specs.Find.{find_of, FoundIn}
use Rattle.label_list.specs.Word.{is_free, stands_for, word_of}
use Rattle.label_list.proofs.Reached.{found_in_lem}
use Rattle.label_events.specs.declared.Change.{Change}
use Rattle.label_events.specs.declared.Change.TheVariants.{Put, Move}
use Rattle.label_events.specs.Change.{ChangeIn, take_free, change_at, move_to, placed_at, change_with, change_of}

-- A change writes inside the list where the places that it was given are inside.
pub take_in : (words : List ℕ) (g : Option ℕ) (w : ℕ) → FoundIn words g → ChangeIn words (take_free g w)
take_in words (Some i) w h = h
take_in words None w h = tt

change_in : (words : List ℕ) (f g : Option ℕ) (label code : ℕ) → FoundIn words f → FoundIn words g → ChangeIn words (change_at f g label code)
unfolding change_at
change_in words (Some i) g label code h k = h
change_in words None g label code h k = pick_all (ChangeIn words) (eqb code 0) tt (take_in words g (word_of label code) k)

move_in : (words : List ℕ) (i : ℕ) (g : Option ℕ) (w : ℕ) → i < length words → FoundIn words g → ChangeIn words (move_to i g w)
move_in words i (Some j) w h k = (h, k)
move_in words i None w h k = tt

pub placed_in : (words : List ℕ) (b : Bool) (f g : Option ℕ) (label code : ℕ) → FoundIn words f → FoundIn words g → ChangeIn words (placed_at b f g label code)
unfolding placed_at
placed_in words true (Some i) g label code h k = move_in words i g (word_of label code) h k
placed_in words true None g label code h k = change_in words None g label code h k
placed_in words false f g label code h k = change_in words f g label code h k

pub change-with_in : (words : List ℕ) (room : Option ℕ) (side : Side) (label code : ℕ) → FoundIn words room → ChangeIn words (change_with words room side label code)
change-with_in words room side label code =
    change_in words (find_of (stands_for side label) words) room label code (found_in_lem (stands_for side label) words refl)

pub change_of_in : (words : List ℕ) (side : Side) (label code : ℕ) → ChangeIn words (change_of words side label code)
change_of_in words side label code = change-with_in words (find_of is_free words) side label code (found_in_lem is_free words refl)

pub change-place : (words : List ℕ) (f : Change) (i w : ℕ) → ChangeIn words f → f ≡ Put i w → i < length words
change-place words f i w h e = rw e at h

pub move_places : (words : List ℕ) (f : Change) (i j w : ℕ) → ChangeIn words f → f ≡ Move i j w → (i < length words) × (j < length words)
move_places words f i j w h e = rw e at h
