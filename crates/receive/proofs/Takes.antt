-- The word that a label takes: a spare one is searched only for a message that needs it, and its place lists no label before the call. Assumes nothing.
use Rattle.std.specs.Prelude.{Option, Some, None}
use Prim.Native.Nat.{ℕ, zero, suc, ◌+◌, ◌≤◌, ◌<◌}
use mathlib.Core.Bool.{Bool, true, false, not, true≢false}
use mathlib.Core.List.{List, [], ◌∷◌}
use mathlib.Core.Logic.{◌≢◌}
use mathlib.Core.Path.{◌≡◌, refl, sym, ap, ◌∙◌}
use native.Mathlib.Omega.{arith}
use lib.Dec.{eqb, ltb}
use lib.ListN.{length, get_or}
use borrow.Author.Tests.{eqb-true, eqb-false, ne_eqb}
use Rattle.octets.specs.Pick.{pick, both}
use Rattle.octets.proofs.Choice.{by_test, pick_all}
use Rattle.label_list.specs.declared.LabelMessage.{LabelMessage}
use Rattle.label_list.specs.declared.LabelMessage.TheVariants.{Mapping, Withdraw, Release}
use Rattle.label_list.specs.Beside.{entry_at}
use Rattle.label_list.specs.Find.{find_of, next_of, overlaid, spare_in}
use Rattle.label_list.specs.Rules.{code_received, received_side}
use Rattle.label_list.specs.Word.{is_free, is_request, listable, lists_label, on_side, stands_for, word_of}
use Rattle.label_list.proofs.OpenIds.{request_inside}
use Rattle.label_list.proofs.Sought.{find_next, next_end, next_found, next_more}
use Rattle.label_list.proofs.Spare.{overlaid-length, spare_free}
use Rattle.label_list.proofs.Standing.{request_word_lem}
use Rattle.label_events.specs.declared.Change.{Change}
use Rattle.label_events.specs.declared.Meets.{Meets}
use Rattle.label_events.specs.declared.Touched.{Touched}
use Rattle.label_events.specs.Change.{change_at, changed, code_at, code_in, placed_at, take_free, taken_at}
use Rattle.label_events.specs.Receive.{moves_by, received_change, received_place, received_with, reception_of}
use Rattle.label_events.specs.Requests.{ended_at, room_at, where_free}
use Rattle.label_events.proofs.Received.{received_same}
use Rattle.protocol.specs.Labels.{effect_labels, effect_place, effect_reception, effect_takes}
use Rattle.protocol.specs.State.{Table}
use Rattle.receive.specs.Words.{RequestFound, message_needs, spare_beside, spare_for, takes_anew}

-- ---- whether an entry is another than that of a place, as the code asks
module _ (entries : List ℕ) {place : Option ℕ} {entry new : ℕ} where
  pub another_at : {i there : ℕ} → place ≡ Some i → there ≡ get_or entries i 0 → new ≡ entry → not (eqb there new) ≡ not (eqb (entry_at entries place) entry)
  unfolding entry_at
  another_at e et en = rw (e, et, en)

  pub another_none : place ≡ None → new ≡ entry → not (eqb new 0) ≡ not (eqb (entry_at entries place) entry)
  unfolding entry_at
  another_none e en = rw (e, en) (by_test (eqb entry 0) (λ t. rw (eqb-true entry 0 t)) (λ f. let some : entry ≢ 0 = eqb-false entry 0 f in rw (f, ne_eqb 0 entry (λ z. some (sym z)))))

-- ---- free in both lists
overlaid-at : (words old : List ℕ) (i : ℕ) → length words ≡ length old → get_or (overlaid words old) i 0 ≡ pick (is_free (get_or words i 0)) (get_or old i 0) (get_or words i 0)
unfolding overlaid is_free
overlaid-at [] [] i n = refl
overlaid-at [] (v ∷ vs) i n = absurd (omega arith)
overlaid-at (w ∷ ws) [] i n = absurd (omega arith)
overlaid-at (w ∷ ws) (v ∷ vs) zero n = refl
overlaid-at (w ∷ ws) (v ∷ vs) (suc i) n = overlaid-at ws vs i (omega arith)

-- the search of a spare word
pub spare_next : (old words : List ℕ) → spare_in old words ≡ next_of is_free (overlaid words old) 0
unfolding spare_in
spare_next old words = find_next is_free (overlaid words old)

module _ (old words : List ℕ) (i : ℕ) where
  pub spare_more : i < length words → is_free (get_or (overlaid words old) i 0) ≡ false → next_of is_free (overlaid words old) i ≡ next_of is_free (overlaid words old) (i + 1)
  spare_more l e = next_more is_free (overlaid words old) i (omega (arith, overlaid-length words old)) e

  pub spare_found : i < length words → is_free (get_or (overlaid words old) i 0) ≡ true → next_of is_free (overlaid words old) i ≡ Some i
  spare_found l e = next_found is_free (overlaid words old) i (omega (arith, overlaid-length words old)) e

  pub spare_end : length words ≤ i → next_of is_free (overlaid words old) i ≡ None
  spare_end l = next_end is_free (overlaid words old) i (omega (arith, overlaid-length words old))

module _ (old words : List ℕ) (n : length words ≡ length old) where
  -- a word that is free is spare exactly if it was; one in use is not
  pub spare_here : (i : ℕ) {v : ℕ} → get_or words i 0 ≡ 0 → v ≡ get_or old i 0 → eqb v 0 ≡ is_free (get_or (overlaid words old) i 0)
  unfolding is_free
  spare_here i e ev = rw (overlaid-at words old i n, e, ev)

  pub spare_not : (i : ℕ) → get_or words i 0 ≢ 0 → false ≡ is_free (get_or (overlaid words old) i 0)
  unfolding is_free
  spare_not i some = let f : eqb (get_or words i 0) 0 ≡ false = ne_eqb (get_or words i 0) 0 some in rw (overlaid-at words old i n, f) (sym f)

-- ---- the change of a label that was found at f
abbrev anew : LabelMessage → Option ℕ → Bool → Bool
anew Mapping f another = takes_anew f another
anew Withdraw f another = false
anew Release f another = false

-- one that needs no word asks no room
plan_room : (words : List ℕ) (l : ℕ) (m : LabelMessage) (another p : Bool) (f room other : Option ℕ) → anew m f another ≡ false
    → placed_at (moves_by m another) f room l (code_received m p (code_in words f)) ≡ placed_at (moves_by m another) f other l (code_received m p (code_in words f))
unfolding placed_at change_at code_in code_received
plan_room words l Mapping true p (Some i) room other e = absurd (true≢false e)
plan_room words l Mapping false p (Some i) room other e = refl
plan_room words l Mapping another p None room other e = absurd (true≢false e)
plan_room words l Withdraw another p (Some i) room other e = refl
plan_room words l Withdraw another p None room other e = refl
plan_room words l Release another p (Some i) room other e = refl
plan_room words l Release another p None room other e = refl

needs_listable : (l : ℕ) (m : LabelMessage) (f : Option ℕ) (another : Bool) → listable l ≡ true → message_needs m (Touched.Label l) f another ≡ anew m f another
needs_listable l Mapping f another may = rw may
needs_listable l Withdraw f another may = refl
needs_listable l Release f another may = refl

module _ (old words : List ℕ) where
  -- one that answers a Request has its word
  room_same : (r : Option ℕ) {spare : Option ℕ} → RequestFound words r → spare ≡ spare_beside old words r → room_at r spare words ≡ room_at r (spare_in old words) words
  unfolding room_at
  room_same (Some i) found e = rw found
  room_same None found e = ap (λ (f : Option ℕ). where_free f words) e

  module _ (l : ℕ) (m : LabelMessage) (another p : Bool) (r : Option ℕ) (found : RequestFound words r) where
    abbrev place : Option ℕ
    place = find_of (stands_for (received_side m) l) words

    label_planned : {spare : Option ℕ} → spare ≡ pick (message_needs m (Touched.Label l) place another) (spare_beside old words r) None
        → received_change words (room_at r spare words) another m p l ≡ received_change words (room_at r (spare_in old words) words) another m p l
    unfolding received_change
    label_planned {spare} e =
        by_test (listable l)
        (λ may. rw may
        (by_test (anew m place another)
        (λ t.
        let same : spare ≡ spare_beside old words r = e ∙ rw (needs_listable l m place another may, t) in
        ap (λ (room : Option ℕ). placed_at (moves_by m another) place room l (code_received m p (code_at words (received_side m) l))) (room_same r found same))
        (λ f. plan_room words l m another p place (room_at r spare words) (room_at r (spare_in old words) words) f)))
        (λ may. rw may)

-- ---- of a message: what it meets serves, although no spare word was searched where none is needed
module _ (old : List ℕ) (t : Table) (r : Option ℕ) (another p : Bool) (found : RequestFound t.words r) where
  abbrev with : Option ℕ → Meets
  with spare = record { request = r; spare = spare; another = another }

  pub spare_serves : (e : Option (LabelMessage × Touched)) {spare : Option ℕ} → spare ≡ spare_for old t.words (effect_place t.words e) r another e
      → (effect_reception t (with spare) p e ≡ effect_reception t (with (spare_in old t.words)) p e)
      × (effect_labels t (with spare) p e ≡ effect_labels t (with (spare_in old t.words)) p e)
      × (effect_takes t (with spare) p e ≡ effect_takes t (with (spare_in old t.words)) p e)
  unfolding received_with received_place
  spare_serves None e = (refl, refl, refl)
  spare_serves (Some (m, (Touched.Label l))) {spare} e =
      let left : List ℕ = ended_at r t.words in
      let planned = label_planned old t.words l m another p r found e in
      let same : received_change left (room_at r spare t.words) another m p l ≡ received_change left (room_at r (spare_in old t.words) t.words) another m p l =
      received_same t.words (with spare) m p (room_at r spare t.words) l
      ∙ planned
      ∙ sym (received_same t.words (with spare) m p (room_at r (spare_in old t.words) t.words) l) in
      (ap reception_of same, ap (changed left) same, ap (taken_at (find_of (stands_for (received_side m) l) t.words)) planned)
  spare_serves (Some (m, Touched.Every)) e = (refl, refl, refl)
  spare_serves (Some (m, (Touched.Prefix entry))) e = (refl, refl, refl)
  spare_serves (Some (m, Touched.Nothing)) e = (refl, refl, refl)

-- ---- a place, if there is one, whose word lists no label
abbrev pub DeadAt : List ℕ → Option ℕ → Type 0
DeadAt words (Some j) = (j < length words) × (lists_label (get_or words j 0) ≡ false)
DeadAt words None = Unit {0}

-- a label that takes a word takes the room
module _ (old : List ℕ) (k c : ℕ) where
  room-taken : (g : Option ℕ) (w : ℕ) → DeadAt old g → DeadAt old (taken_at None (take_free g w))
  room-taken (Some j) w d = d
  room-taken None w d = tt

  absent-taken : (g : Option ℕ) → DeadAt old g → DeadAt old (taken_at None (change_at None g k c))
  unfolding change_at
  absent-taken g d = pick_all (λ (x : Change). DeadAt old (taken_at None x)) (eqb c 0) tt (room-taken g (word_of k c) d)

  pub placed_dead : (b : Bool) (f g : Option ℕ) → DeadAt old g → DeadAt old (taken_at f (placed_at b f g k c))
  unfolding placed_at change_at
  placed_dead true (Some i) (Some j) d = d
  placed_dead true (Some i) None d = tt
  placed_dead true None g d = absent-taken g d
  placed_dead false (Some i) g d = tt
  placed_dead false None g d = absent-taken g d

-- its Request's word, or the first that is free before the call too
module _ (old left : List ℕ) (n : length left ≡ length old) (fewer : (i : ℕ) → is_request (get_or left i 0) ≡ true → is_request (get_or old i 0) ≡ true) where
  spare_dead : DeadAt old (where_free (spare_in old left) left)
  unfolding lists_label on_side
  spare_dead = by (spare_in old left) refl
    where
      by : (f : Option ℕ) → f ≡ spare_in old left → DeadAt old (where_free f left)
      by None e = tt
      by (Some j) e =
          let p = spare_free old left j (sym e) in
          pick_all (DeadAt old) (both (ltb j (length left)) (is_free (get_or left j 0))) (omega (arith, p.inside), rw p.before) tt

  request_dead : (i : ℕ) → is_request (get_or left i 0) ≡ true → DeadAt old (Some i)
  unfolding lists_label on_side
  request_dead i t = (omega (arith, request_inside left i t), rw (request_word_lem (get_or old i 0) (fewer i t)))

  room_dead : (request : Option ℕ) → DeadAt old (room_at request (spare_in old left) left)
  unfolding room_at
  room_dead (Some i) = by_test (is_request (get_or left i 0)) (λ t. rw t (request_dead i t)) (λ f. rw f spare_dead)
  room_dead None = spare_dead

  pub received_dead : (request : Option ℕ) (another : Bool) (m : LabelMessage) (p : Bool) (l : ℕ)
      → DeadAt old (taken_at (find_of (stands_for (received_side m) l) left) (received_change left (room_at request (spare_in old left) left) another m p l))
  unfolding received_change
  received_dead request another m p l =
      by_test (listable l)
      (λ may. rw may
      (placed_dead old l (code_received m p (code_at left (received_side m) l)) (moves_by m another) (find_of (stands_for (received_side m) l) left)
      (room_at request (spare_in old left) left) (room_dead request)))
      (λ may. rw may tt)
