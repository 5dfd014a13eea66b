-- The power cut and the restart in its place: what is on the medium then. Assumes nothing.
use Prim.Native.Nat.{ℕ}
use mathlib.Core.Bool.{true}
use mathlib.Core.List.{List, [], ◌∷◌}
use mathlib.Core.Logic.{◌≢◌}
use mathlib.Core.Path.{◌≡◌, refl, sym, ap, ◌∙◌}
use native.Mathlib.Omega.{arith}
use lib.ListN.{get_or, length, replicate}
use Rattle.octets.specs.Bytes.{Bytes}
use Rattle.octets.specs.Pick.{both}
use Rattle.block.specs.Check.{block_size}
use Rattle.slot.specs.Layout.{slot_message}
use Rattle.image.specs.Ring.{ring}
use Rattle.image.specs.Sizes.{block, block_of}
use Rattle.image.specs.State.{store_slot, decode, slots_of}
use Rattle.protocol.specs.declared.Answer.{Answer}
use Rattle.protocol.specs.Calls
use Rattle.protocol.specs.Judged.{done}
use Rattle.protocol.specs.State.{State}
use Rattle.protocol.specs.Step.{broken}
use Rattle.calls.specs.State.{state_of}
use Rattle.calls.specs.Storing.{next_slot, one_more}
use Rattle.two_ends.specs.Runs.{act, restarts, submits}
use Rattle.two_ends.specs.World.{World}
use Rattle.call_meaning.specs.Medium.{committed}
use Rattle.submit.specs.Call.{submitted_further}
use Rattle.session.specs.Call.{leaves}
use Rattle.session.proofs.Queued.{slot-stored}
use Rattle.session.proofs.Told.{others_kept}
use Rattle.stored_ends.specs.Demand.{stored_world}
use Rattle.stored_ends.specs.Pair.{Pair, left, restarted}
use Rattle.stored_ends.specs.SlotAlone.{CutInSubmit, at_cut}
use Rattle.stored_ends.proofs.Restarting.{restart-leaves}
use Rattle.stored_ends.proofs.SlotAlone.{slot-committed, cut_in_submit, cut_restarts, cut_stands, submit_answers}
use Rattle.stored_ends.proofs.Stored.{leaves-stored, first_stored}
use Rattle.stored_ends.proofs.StoredBytes.{bytes-stored, bytes-store_slot}
use Rattle.stored_ends.proofs.Theorem.{on_media_lem}
use Rattle.stored_ends.proofs.Tracks.{Tracks}
use Rattle.two_ends_runs.specs.Cabinets.{address, offer}
use Rattle.two_ends_runs.specs.PowerCut.{OnMedium, cut_ends, cut_at, on_medium, restart_at, seven, unslotted}
use Rattle.two_ends_runs.specs.Tales.{Ending, begin, ending, restart, restart_ends}
use Rattle.two_ends_runs.proofs.Computed.{restart_is}
use Rattle.two_ends_runs.proofs.Media.{up-bytes, held_is, media_track, small_bytes, up, up_first, up-slot, up_tracks}
use Rattle.two_ends_runs.proofs.Opened.{everything}

-- ---- 7 is accepted, and lies in slot 0
seven_tracks : Tracks seven (begin (offer true 7 ∷ []))
unfolding everything
seven_tracks = media_track (offer true 7 ∷ []) (small_bytes (address 7) refl, tt) (refl, refl)

takes-seven : (left (submits (address 7)) up.world up.own []).outcome.answer ≡ Answer.Done
unfolding everything
takes-seven = submit_answers up_tracks (address 7) (small_bytes (address 7) refl)

seven_first : (decode seven.own.image).header.first ≡ 0
seven_first = first_stored (Calls.submits (address 7)) up.own.image up.world.a.phase [] refl takes-seven up_tracks.both.own.stand (small_bytes (address 7) refl) ∙ up_first

seven-held : (decode seven.own.image).header.held ≡ 1
unfolding everything
seven-held = held_is seven_tracks

-- a ring of one message that begins at slot 0
oldest_slot : (im m : List ℕ) → (decode im).header.first ≡ 0 → (decode im).header.held ≡ 1 → (state_of im).queue ≡ m ∷ [] → slots_of im 0 ≡ m
unfolding decode ring
oldest_slot im m f h q =
    let e : (decode im).queue ≡ slots_of im 0 ∷ [] = rw (f, h) in
    ap (λ (l : List (List ℕ)). get_or l 0 []) (sym e ∙ q)

seven_oldest : slots_of seven.own.image 0 ≡ address 7
unfolding everything
seven_oldest =
    let t = seven_tracks in
    oldest_slot seven.own.image (address 7) seven_first seven-held
    (ap (λ (s : State). s.queue) (sym t.both.own.state) ∙ ap (λ (u : World). u.a.state.queue) t.world)

-- the slot behind it is as it was
seven-next : block seven.own.image (block_of 1) ≡ replicate block_size 0
unfolding everything
seven-next =
    let at : (leaves (Calls.submits (address 7)) up.own.image up.world.a.phase []).outcome.slot ≡ block_of (next_slot (decode up.own.image).header) =
    slot-stored up.own.image up.world.a.phase up_tracks.both.own.stand (address 7) [] (small_bytes (address 7) refl) takes-seven in
    let none : (decode up.own.image).header.held ≡ 0 = held_is up_tracks in
    others_kept (Calls.submits (address 7)) up.own.image up.world.a.phase [] refl (block_of 1) (omega arith) (omega arith) (rw (at, up_first, none) (omega arith))
    ∙ up-slot 1 (omega arith)

-- ---- the medium of a, with 7 accepted
abbrev medium : List ℕ
medium = seven.own.medium

on-medium : medium ≡ seven.own.image
on-medium = seven_tracks.both.own.medium

medium_oldest : slots_of medium 0 ≡ address 7
medium_oldest = rw on-medium seven_oldest

medium-next : slots_of medium 1 ≡ []
unfolding slots_of slot_message
medium-next = rw (on-medium, seven-next)

medium-bytes : Bytes medium
medium-bytes =
    rw (on-medium, leaves-stored (Calls.submits (address 7)) up.own.image up.world.a.phase [] refl takes-seven)
    (bytes-stored up.own.image (one_more (address 7)) (submitted_further (state_of up.own.image).table (address 7)) (done (Calls.submits (address 7)) (state_of up.own.image) up.world.a.phase).state up-bytes
    (small_bytes (address 7) refl))

-- no label word is to be freed
unswept : {s t : State} → s ≡ t → broken t ≡ t → broken s ≡ s
unswept e k = ap broken e ∙ k ∙ sym e

still : broken (state_of medium) ≡ state_of medium
unfolding everything
still =
    let t = seven_tracks in
    let e : state_of medium ≡ (begin (offer true 7 ∷ [])).a.state = rw on-medium (sym t.both.own.state ∙ ap (λ (u : World). u.a.state) t.world) in
    unswept e refl

free-slot : next_slot (decode medium).header ≡ 1
free-slot = rw (on-medium, seven_first, seven-held)

-- ---- 8 would be accepted; the power goes after its first store
takes_eight : (left (submits (address 8)) seven.world seven.own []).outcome.answer ≡ Answer.Done
unfolding everything
takes_eight = submit_answers seven_tracks (address 8) (small_bytes (address 8) refl)

-- block 0 is the one before, and so is every block but the slot's; the state read is the one before
pub cut_leaves : CutInSubmit seven (address 8)
cut_leaves = cut_in_submit seven seven_tracks.both (address 8) (small_bytes (address 8) refl) takes_eight

abbrev cut_medium : List ℕ
cut_medium = at_cut seven (address 8)

cut_bytes : Bytes cut_medium
cut_bytes =
    let s = seven_tracks.both.own in
    let k : ℕ = next_slot (decode seven.own.image).header in
    let stored : cut_medium ≡ store_slot seven.own.image k (address 8) =
    ap (λ (im : List ℕ). committed 1 im (left (submits (address 8)) seven.world seven.own [])) on-medium
    ∙ slot-committed seven.own.image seven.world.a.phase s.stand (address 8) (small_bytes (address 8) refl) takes_eight in
    rw stored (bytes-store_slot seven.own.image k (address 8) (rw on-medium at medium-bytes) (small_bytes (address 8) refl))

-- a slot keeps its message where its block is kept
slot_kept : (im next : List ℕ) (k : ℕ) → block next (block_of k) ≡ block im (block_of k) → slots_of next k ≡ slots_of im k
unfolding slots_of
slot_kept im next k e = ap slot_message e

-- ---- what both come to, by the states that the media stand for
ends_restarted : (z : Pair) → Tracks z restart → ending (stored_world z) ≡ restart_ends
ends_restarted z t = ap ending (sym (on_media_lem z t.both) ∙ t.world) ∙ restart_is

cut_tracks : Tracks (restarted seven cut_medium) restart
cut_tracks =
    let t = rw cut_leaves.restarts at (cut_restarts seven seven_tracks.both (address 8) (small_bytes (address 8) refl) takes_eight) in
    record { world = t.world ∙ ap (λ (u : World). act u restarts) seven_tracks.world; both = t.both }

restart_tracks : Tracks restart_at restart
unfolding everything
restart_tracks = media_track (offer true 7 ∷ (true, restarts) ∷ []) (small_bytes (address 7) refl, (tt, tt)) (refl, refl)

on-medium_is : (z : Pair) {e : Ending} {b m n : List ℕ} → ending (stored_world z) ≡ e → block z.own.medium 0 ≡ b → slots_of z.own.medium 0 ≡ m → slots_of z.own.medium 1 ≡ n
    → on_medium z ≡ record { ending = e; zeroth = b; first = m; second = n }
on-medium_is z p o q r = λ i. record { ending = p i; zeroth = o i; first = q i; second = r i }

-- ---- power comes back: the medium stays as it was at the cut
cut_stays : (restarted seven cut_medium).own.medium ≡ cut_medium
cut_stays = restart-leaves seven cut_medium (cut_stands seven seven_tracks.both (address 8) (small_bytes (address 8) refl) takes_eight) cut_bytes (unswept cut_leaves.alone.state still)

-- THE POWER CUT
pub cut_is : on_medium cut_at ≡ cut_ends
cut_is =
    let c = cut_leaves.alone in
    let z : Pair = restarted seven cut_medium in
    let other : 1 ≢ block_of (next_slot (decode medium).header) = rw free-slot (omega arith) in
    ap on_medium cut_leaves.restarts
    ∙ on-medium_is z (ends_restarted z cut_tracks) (rw cut_stays c.zeroth) (rw cut_stays (slot_kept medium cut_medium 0 (c.others 1 other) ∙ medium_oldest))
    (rw cut_stays (ap (slots_of cut_medium) (sym free-slot) ∙ c.slot))

-- and the restart in its place
restart_stays : restart_at.own.medium ≡ medium
restart_stays = restart-leaves seven medium (rw on-medium seven_tracks.both.own.stand) medium-bytes still

pub restart-at_is : on_medium restart_at ≡ unslotted
restart-at_is = on-medium_is restart_at (ends_restarted restart_at restart_tracks) (rw restart_stays) (rw restart_stays medium_oldest) (rw restart_stays medium-next)

-- so a restart does not pass for the cut: its medium is another
pub not-a-restart : on_medium restart_at ≢ cut_ends
not-a-restart e =
    let same : ◌≡◌ {A = List ℕ} [] (address 8) = ap (λ (x : OnMedium). x.second) (sym restart-at_is ∙ e) in
    let l : ◌≡◌ {A = ℕ} 0 8 = ap length same in
    omega (arith, l)

pub another_medium : cut_at.own.medium ≢ restart_at.own.medium
another_medium e =
    let same : ◌≡◌ {A = List ℕ} (address 8) [] =
    sym (ap (λ (x : OnMedium). x.second) cut_is) ∙ ap (λ (im : List ℕ). slots_of im 1) e ∙ ap (λ (x : OnMedium). x.second) restart-at_is in
    let l : ◌≡◌ {A = ℕ} 8 0 = ap length same in
    omega (arith, l)
