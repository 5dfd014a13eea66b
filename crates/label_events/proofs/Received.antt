-- A message of the peer's is received, and the Request that it ends has ended: the ways through the definition. Assumes nothing.
use Rattle.std.specs.Prelude.{Option, None}
use Prim.Native.Nat.{ℕ}
use mathlib.Core.Bool.{Bool, true, not}
use mathlib.Core.List.{List}
use mathlib.Core.Path.{◌≡◌, refl, ◌∙◌, sym}
use Rattle.octets.proofs.Choice.{pick_all}
use Rattle.label_list.specs.declared.LabelMessage.{LabelMessage}
use Rattle.label_list.specs.Find.{find_of}
use Rattle.label_list.specs.Rules.{received_side, code_received}
use Rattle.label_list.specs.Word.{listable, stands_for}
use Rattle.label_list.proofs.Reached.{found_in_lem}
use Rattle.label_events.specs.declared.Change.{Change}
use Rattle.label_events.specs.declared.Meets.{Meets}
use Rattle.label_events.specs.declared.Reception.{Reception}
use Rattle.label_events.specs.declared.Reception.TheVariants.{Taken}
use Rattle.label_events.specs.declared.Touched.{Touched}
use Rattle.label_events.specs.Change.{ChangeIn, code_at, changed, taken_at}
use Rattle.label_events.specs.Receive.{received_place, moves_by, received_change, takes_at, reception_of, every_received, received_with, every_beside, received_beside}
use Rattle.label_events.specs.Requests.{ended_at, room_at}
use Rattle.label_events.proofs.Ended.{ended_find, ended-code, room-still_in}
use Rattle.label_events.proofs.Written.{placed_in}

module _ (words : List ℕ) (x : Meets) (message : LabelMessage) (protected : Bool) where
  -- the change is the same, planned before the Request is ended or after
  pub received_same : (room : Option ℕ) (label : ℕ) → received_change (ended_at x.request words) room x.another message protected label ≡ received_change words room x.another message protected label
  unfolding received_change
  received_same room label = rw (ended-code words (received_side message) label x.request, ended_find words (received_side message) label x.request)

  abbrev room : Option ℕ
  room = room_at x.request x.spare words

  -- the answer, the place taken and the list afterwards
  abbrev Answered : List ℕ → Touched → Reception → Option ℕ → List ℕ → Type 0
  Answered entries t a taken after =
      (a ≡ (received_beside words entries x message protected t).0)
      × (taken ≡ takes_at words x message protected t)
      × (after ≡ (received_beside words entries x message protected t).1)

  module _ {mid : List ℕ} (ended : mid ≡ ended_at x.request words) where
    module _ (label : ℕ) {change : Change} (planned : change ≡ received_change words room x.another message protected label) where
      pub received_in : ChangeIn mid change
      unfolding received_change
      received_in =
          rw (ended, planned ∙ sym (received_same room label))
          (pick_all
          (ChangeIn (ended_at x.request words))
          (not (listable label))
          tt
          (placed_in (ended_at x.request words) (moves_by message x.another) (find_of (stands_for (received_side message) label) (ended_at x.request words)) room label
          (code_received message protected (code_at (ended_at x.request words) (received_side message) label))
          (found_in_lem (stands_for (received_side message) label) (ended_at x.request words) refl) (room-still_in x.request x.spare words)))

      pub received_label : (entries : List ℕ) {t : Touched} {place taken : Option ℕ} {a : Reception} {after : List ℕ}
          → t ≡ Touched.Label label → place ≡ received_place words message t → a ≡ reception_of change → taken ≡ taken_at place change → after ≡ changed mid change
          → Answered entries t a taken after
      unfolding received_with received_beside
      received_label entries et ep ea ek el =
          let same = planned ∙ sym (received_same room label) in
          (rw (et, ← same) ea, rw (et, ← planned) (rw (ep, et) at ek), rw (et, ← same, ← ended) el)

    -- a message that names no label
    module _ (entries : List ℕ) {a : Reception} {taken : Option ℕ} (ea : a ≡ Taken) (ek : taken ≡ None) where
      pub received_every : {t : Touched} {after : List ℕ} → t ≡ Touched.Every → after ≡ every_received message (λ k. true) mid
          → Answered entries t a taken after
      unfolding received_with received_beside
      received_every et el = (rw et ea, rw et ek, rw (et, ← ended) el)

      pub received_prefix : (entry : ℕ) {t : Touched} {after : List ℕ} → t ≡ Touched.Prefix entry → after ≡ every_beside message entry mid entries
          → Answered entries t a taken after
      unfolding received_beside
      received_prefix entry et el = (rw et ea, rw et ek, rw (et, ← ended) el)

      pub received_nothing : {t : Touched} → t ≡ Touched.Nothing → Answered entries t a taken mid
      unfolding received_with received_beside
      received_nothing et = (rw et ea, rw et ek, rw et ended)
