-- Runs on the media of two new cabinets are runs by the rules; and what the image of the first has once both are up. Assumes nothing.
use Prim.Native.Nat.{ℕ, zero, suc, ◌<◌}
use mathlib.Core.Bool.{Bool, true, false}
use mathlib.Core.List.{List, [], ◌∷◌}
use mathlib.Core.Logic.{inl}
use mathlib.Core.Path.{◌≡◌, refl, sym, ap, ◌∙◌}
use native.Mathlib.Omega.{arith}
use lib.Dec.{ltb}
use lib.ListN.{replicate}
use borrow.Author.Tests.{ltb-true}
use Rattle.octets.specs.Bytes.{Bytes}
use Rattle.octets.specs.Pick.{both}
use Rattle.octets.proofs.Choice.{both_true}
use Rattle.block.specs.Check.{block_size}
use Rattle.block0.specs.Layout.{slot_count}
use Rattle.image.specs.Events.{new_image}
use Rattle.image.specs.Sizes.{block, block_of}
use Rattle.image.specs.State.{decode}
use Rattle.image.proofs.Changes.{in_range_released, new_decodes, new_slot, new_sound}
use Rattle.image.proofs.Queue.{queue_length}
use Rattle.protocol.specs.declared.Answer.{Answer}
use Rattle.protocol.specs.declared.Phase.{Phase}
use Rattle.protocol.specs.Calls
use Rattle.protocol.specs.Calls.{step}
use Rattle.protocol.specs.Init.{init_received, init_start}
use Rattle.protocol.specs.Judged.{done}
use Rattle.protocol.specs.Open.{open_bytes}
use Rattle.protocol.specs.Proper.{Proper}
use Rattle.protocol.specs.State.{State, held, released_state}
use Rattle.protocol.specs.Step.{Step}
use Rattle.calls.specs.State.{state_of}
use Rattle.calls.specs.Storing.{empty, first_after, slot_named, same}
use Rattle.two_ends.specs.Runs.{AllProperEvents, Event, run}
use Rattle.two_ends.specs.Start.{Afresh, Opener, first_init, start}
use Rattle.two_ends.specs.World.{Lasts, World}
use Rattle.two_ends.proofs.Begun.{at-start}
use Rattle.two_ends.proofs.Invariant.{Good}
use Rattle.init.specs.Received.{start_slots}
use Rattle.session.specs.Call.{leaves}
use Rattle.session.proofs.Refines.{refines}
use Rattle.session.proofs.Told.{others_kept}
use Rattle.stored_ends.specs.Pair.{Pair}
use Rattle.stored_ends.specs.Start.{Sound, begins, opener_of}
use Rattle.stored_ends.proofs.Follows.{arrives}
use Rattle.stored_ends.proofs.Stored.{first_stored, leaves-stored, slot_named_lem}
use Rattle.stored_ends.proofs.StoredBytes.{bytes-stored, bytes_new}
use Rattle.stored_ends.proofs.Theorem.{begins-both, fit}
use Rattle.stored_ends.proofs.Tracks.{Both, Tracks}
use Rattle.stored_ends.proofs.Uncut.{uncut_is}
use Rattle.two_ends_runs.specs.Cabinets.{opener_with, deliver, id, parameters, five}
use Rattle.two_ends_runs.specs.PowerCut.{new_cabinet, on_media}
use Rattle.two_ends_runs.specs.Tales.{begin}
use Rattle.two_ends_runs.proofs.Opened.{everything}

-- ---- the messages are bytes, by computation
abbrev small : List ℕ → Bool
small [] = true
small (x ∷ s) = both (ltb x 256) (small s)

pub small_bytes : (s : List ℕ) → small s ≡ true → Bytes s
small_bytes [] e i = omega arith
small_bytes (x ∷ s) e zero = ltb-true x 256 (both_true (ltb x 256) (small s) e).0
small_bytes (x ∷ s) e (suc i) = small_bytes s (both_true (ltb x 256) (small s) e).1 i

-- ---- a new image stands for the released state
new_state : state_of new_image ≡ released_state
new_state = rw new_decodes

new_opener : opener_of new_cabinet ≡ opener_with released_state
new_opener = ap opener_with new_state

new_afresh : Afresh (opener_of new_cabinet) (opener_of new_cabinet)
new_afresh = inl (ap (λ (s : State). s.kept) new_state)

new_stands : Sound new_cabinet
new_stands = record {
  sound = new_sound;
  range = rw new_decodes in_range_released;
  widths = record { id = omega arith; keepalive = omega arith; pdulength = omega arith };
  proposal = omega arith;
}

-- so a run on the media is the run by the rules, as long as it lasts
pub media_track : (vs : List (Bool × Event)) → AllProperEvents vs → Lasts (begin vs) → Tracks (on_media vs) (begin vs)
media_track vs p k =
    let up : List (Bool × Event) = deliver true ∷ deliver false ∷ vs in
    let same : run (start (opener_of new_cabinet) (opener_of new_cabinet)) up ≡ begin vs = ap (λ (o : Opener). run (start o o) up) new_opener in
    rw same at (uncut_is new_cabinet new_cabinet new_stands new_stands new_afresh up (tt, (tt, p)) (rw same k))

-- ---- a's cabinet once both are up: its ring begins at slot 0, and every slot has zeros
abbrev w₀ : World
w₀ = (begins new_cabinet new_cabinet).world

abbrev ph₀ : Phase
ph₀ = w₀.a.phase

abbrev init : List ℕ
init = first_init (opener_of new_cabinet)

begun₀ : Both (begins new_cabinet new_cabinet)
begun₀ = begins-both new_cabinet new_cabinet new_stands new_stands

good₀ : Good w₀
good₀ = at-start (opener_of new_cabinet) (opener_of new_cabinet) (fit new_cabinet new_stands) (fit new_cabinet new_stands) new_afresh

proper₀ : Proper (Calls.greets init) ph₀
proper₀ = (arrives w₀ good₀ (refl, refl), begun₀.own.timed)

greeted : (leaves (Calls.greets init) new_image ph₀ []).outcome.answer ≡ Answer.Done
unfolding everything step
greeted =
    ap (λ (y : Step). y.answer) (refines new_image ph₀ begun₀.own.stand [] (Calls.greets init) proper₀)
    ∙ ap (λ (s : State). (init_received s ph₀ (open_bytes s id parameters five)).answer) new_state

emptied : start_slots (init_start (state_of new_image) ph₀ init) ≡ empty
unfolding everything
emptied = ap (λ (s : State). start_slots (init_start s ph₀ (open_bytes s id parameters five))) new_state

abbrev pub up : Pair
up = on_media []

pub up_tracks : Tracks up (begin [])
unfolding everything
up_tracks = media_track [] tt (refl, refl)

pub up_first : (decode up.own.image).header.first ≡ 0
up_first = first_stored (Calls.greets init) new_image ph₀ [] refl greeted begun₀.own.stand proper₀ ∙ ap (first_after (decode new_image).header) emptied

pub up-slot : (j : ℕ) → j < slot_count → block up.own.image (block_of j) ≡ replicate block_size 0
up-slot j low =
    let none : (leaves (Calls.greets init) new_image ph₀ []).outcome.slot ≡ 0 = slot_named_lem (Calls.greets init) new_image ph₀ [] refl greeted ∙ ap (slot_named new_image) emptied in
    others_kept (Calls.greets init) new_image ph₀ [] refl (block_of j) (omega arith) (omega arith) (rw none (omega arith)) ∙ new_slot j low

-- all of it is bytes
pub up-bytes : Bytes up.own.image
up-bytes =
    rw (leaves-stored (Calls.greets init) new_image ph₀ [] refl greeted, emptied)
    (bytes-stored new_image empty same (done (Calls.greets init) (state_of new_image) ph₀).state bytes_new tt)

-- as many are held as the rules say
pub held_is : {z : Pair} {w : World} → Tracks z w → (decode z.own.image).header.held ≡ held w.a.state
held_is {z} {w} t = sym (queue_length z.own.image) ∙ ap held (sym t.both.own.state) ∙ ap (λ (u : World). held u.a.state) t.world
