-- What the functions store that begin a session is the start's state. Assumes nothing.
use Rattle.std.specs.Prelude.{Result, Ok, Err}
use Prim.Native.Nat.{ℕ, ◌-◌}
use mathlib.Core.Bool.{Bool}
use mathlib.Core.List.{List, []}
use mathlib.Core.Path.{◌≡◌, refl, ◌∙◌, sym, ap}
use lib.ListN.{take, length}
use Rattle.octets.specs.Differ.{differ}
use Rattle.octets.specs.Laid.{laid}
use Rattle.block0.specs.declared.Header.{Header}
use Rattle.block0.specs.Updates.{header_released, header_timeout}
use Rattle.image.specs.Sizes.{block, slot_at, image_size}
use Rattle.image.specs.State.{decode, store0}
use Rattle.image.specs.Verdict.{IsSound}
use Rattle.protocol.specs.declared.Answer.{Answer}
use Rattle.protocol.specs.declared.Phase.{Phase}
use Rattle.protocol.specs.declared.Start.{Start}
use Rattle.protocol.specs.declared.Terms.{Terms}
use Rattle.protocol.specs.Acked.{released_labels, acked}
use Rattle.protocol.specs.Init.{resumed, start_phase, start_state}
use Rattle.protocol.specs.State.{released_state, State}
use Rattle.calls.specs.declared.Outcome.{Outcome}
use Rattle.calls.specs.Outcomes.{after_with, released_on, further_bits}
use Rattle.calls.specs.State.{state_of}
use Rattle.calls.specs.Storing.{empty, fewer, header_for, slot_named, stored, same}
use Rattle.calls.proofs.Acknowledged.{header_acked}
use Rattle.calls.proofs.FurtherBits.{further_none}
use Rattle.init.specs.Received.{start_slots, begun_on}

-- ---- resumed; the premises are what the callees ensure
module _ (im : List ℕ) (s : IsSound im) (t : Terms) (k a : ℕ) {h h₂ : Header} (eh : h ≡ (decode im).header)
    (en : h₂ ≡ header_released h (record { 0 = a }) (slot_at h.first k) (h.held - k)) where
  numbers : header_timeout h₂ t.timeout ≡ header_for (slot_at (decode im).header.first k) (resumed (state_of im) t k a)
  unfolding resumed
  numbers = rw (en, eh) (ap (λ (x : Header). header_timeout x t.timeout) (sym (header_acked im s k a)))

  pub resumed_is : {ls ls₂ im' : List ℕ} → ls ≡ (decode im).labels → ls₂ ≡ released_labels (take k (decode im).queue) ls
      → im' ≡ store0 im (header_timeout h₂ t.timeout) ls₂ → im' ≡ stored im (fewer k) same (resumed (state_of im) t k a)
  unfolding resumed acked
  resumed_is el ek e = e ∙ rw (numbers, ek, el)

  -- nothing released frees no label
  pub resumed_none : {im' : List ℕ} → k ≡ 0 → im' ≡ store0 im (header_timeout h₂ t.timeout) (decode im).labels
      → im' ≡ stored im (fewer k) same (resumed (state_of im) t k a)
  unfolding resumed acked released_labels
  resumed_none z e = e ∙ rw (numbers, z)

-- ---- released
pub released_is : (im : List ℕ) {o : Outcome} {im' : List ℕ} → after_with o im' [] ≡ released_on Answer.Done im []
    → (im' ≡ stored im empty same released_state) × (o.block0 ≡ differ (block im 0) (block im' 0))
unfolding released_on
released_is im e = (ap (λ x. x.image) e, ap (λ x. x.outcome.block0) e ∙ ap (λ x. differ (block im 0) (block x 0)) (sym (ap (λ x. x.image) e)))

-- ---- the session begun
-- no slot is written
slotless : (im : List ℕ) (st : Result Start Answer) → 0 ≡ slot_named im (start_slots st)
slotless im (Err a) = refl
slotless im (Ok Start.Plain) = refl
slotless im (Ok (Start.Fresh t)) = refl
slotless im (Ok (Start.Resumed t k a)) = refl

-- the further blocks keep their bytes
furtherless : (im : List ℕ) → length im ≡ image_size → (st : Result Start Answer) (s : State) → further_bits im (stored im (start_slots st) same s) ≡ 0
furtherless im size (Err a) s = further_none im size _ _
furtherless im size (Ok Start.Plain) s = further_none im size _ _
furtherless im size (Ok (Start.Fresh t)) s = further_none im size _ _
furtherless im size (Ok (Start.Resumed t k a)) s = further_none im size _ _

pub begun_is : (im : List ℕ) → length im ≡ image_size → (ph : Phase) (st : Result Start Answer) {im' : List ℕ} {next : Phase} {b : Bool}
    → im' ≡ stored im (start_slots st) same (start_state (state_of im) st) → next ≡ start_phase ph st → b ≡ differ (block im 0) (block im' 0)
    → after_with (record { answer = Answer.Done; phase = next; written = 0; slot = 0; block0 = b; further = 0; leftout = 0 }) im' [] ≡ begun_on im ph st
unfolding begun_on laid
begun_is im size ph st ei en eb = rw (eb, ei, en, ← slotless im st, furtherless im size st (start_state (state_of im) st))
