-- Between the two ends no answer comes but 0, 21, 35 and 36. Assumes nothing.
use Rattle.std.specs.Prelude.{Ok, Err, Some}
use Prim.Native.Nat.{ℕ}
use mathlib.Core.Bool.{Bool}
use mathlib.Core.List.{List}
use mathlib.Core.Logic.{⊎_elim}
use mathlib.Core.Path.{◌≡◌, refl, sym, ◌∙◌}
use Rattle.octets.proofs.Choice.{no}
use Rattle.ft_number.specs.declared.FtNumber.{FtNumber}
use Rattle.label_list.specs.declared.Protection.{Protection}
use Rattle.message.specs.declared.Message.{Message}
use Rattle.protocol.specs.declared.Answer.{Answer}
use Rattle.protocol.specs.declared.Phase.{Phase}
use Rattle.protocol.specs.declared.Progress.{Progress}
use Rattle.protocol.specs.declared.Start.{Start}
use Rattle.protocol.specs.Acked.{acked}
use Rattle.protocol.specs.Cases.{table_after, Case, missing, wrong}
use Rattle.protocol.specs.Init.{init_start}
use Rattle.protocol.specs.Labels.{label_effect, protection_rule}
use Rattle.protocol.specs.Phases.{waiting_for}
use Rattle.protocol.specs.State.{State}
use Rattle.protocol.proofs.Begins.{changed as changed-init}
use Rattle.two_ends.specs.Answers.{Comes, taken, no_word, changed, fatal, answer_to, AllCome}
use Rattle.two_ends.specs.Calls.{on}
use Rattle.two_ends.specs.Runs.{AllProperEvents, Event, run}
use Rattle.two_ends.specs.Start.{Afresh, Fit, Opener, start}
use Rattle.two_ends.specs.World.{End, Lasts, World, swap}
use Rattle.two_ends.proofs.Arriving.{alive-done, alive_read, carried_fair, carried_read, f, g₁, g₂}
use Rattle.two_ends.proofs.Begun.{at-start}
use Rattle.two_ends.proofs.Greeted.{first_begins}
use Rattle.two_ends.proofs.Hearing.{Between}
use Rattle.two_ends.proofs.Invariant.{Good}
use Rattle.two_ends.proofs.Judging.{Fair, fair_done, fair_fatal, fair_full, fair_missing, fair_wrong}
use Rattle.two_ends.proofs.Labels.{Labels, labels_persist}
use Rattle.two_ends.proofs.Oldest.{Oldests, by_oldest}
use Rattle.two_ends.proofs.Packets.{again, alive, bytes_of, carried}
use Rattle.two_ends.proofs.Persisted.{Persisted, persisted, swap_persists}
use Rattle.two_ends.proofs.Receiving.{judged, rule_answers}
use Rattle.two_ends.proofs.Resuming.{again-begins, again-start}
use Rattle.two_ends.proofs.Sixless.{protected_right}
use Rattle.two_ends.proofs.Starting.{terms}
use Rattle.two_ends.proofs.Theorem.{at-run}
use Rattle.two_ends.proofs.Tidy.{Tidy, tidy_acked}
use Rattle.two_ends.proofs.Worlds.{at-swap}

-- protection is neither missing nor wrong, as an ACK leaves the labels
pub rightly : (s : State) (g : Message) (n : FtNumber) → Tidy s → g.protection ≡ Some n → (k : ℕ) → protection_rule (table_after s k) g ≡ Protection.Right
unfolding protection_rule acked label_effect
rightly s g n t e k = rw e (protected_right (table_after s k) (label_effect g) (tidy_acked s t k 0).sixless)

-- so of the answers that the core leaves open these do not come
pub fair_comes : {s : State} {u : Progress} {g : Message} {a : Answer} → ((k : ℕ) → protection_rule (table_after s k) g ≡ Protection.Right)
    → Case s (Phase.UpFT u) (Some g) a → Fair a → Comes a
fair_comes right c fair_done = taken
fair_comes right c fair_full = no_word
fair_comes right c fair_fatal = fatal
fair_comes right (missing {k = k} a e) fair_missing = no (cc (sym (right k) ∙ e))
fair_comes right (wrong {k = k} a e) fair_wrong = no (cc (sym (right k) ∙ e))

-- ---- whichever message is the oldest
module _ (b : End) (ab : List (List ℕ)) where
  abbrev Answered : End → List ℕ → List (List ℕ) → Type 0
  Answered e m rest = Between Labels e b → Comes (answer_to e m)

  each : Oldests Answered b ab
  each = record {
    firsts = λ now t h id p said ack qs lead i l. rw (first_begins now t h id p said ack i.back.fines.0 lead) taken;
    agains = λ now t h id p said a qs i l.
        let m = bytes_of (again id p said a) in
        let ts = terms now t id p said in
        let st = again-start now t h id p said a i in
        ⊎_elim
        (λ (e : init_start now (waiting_for t) m ≡ Ok (Start.Resumed ts st.0 a)). rw (again-begins now t h id p said a i st.0 e) taken)
        (λ (e : init_start now (waiting_for t) m ≡ Err Answer.ParametersChanged). rw (changed-init now t m e) changed)
        st.2;
    alives = λ now re sent h id n qs i l.
        rw (rule_answers now re sent (bytes_of (alive id n)) (g₁ now re sent h id n) (alive_read now re sent h id n i) h i, alive-done now re sent h id n i) taken;
    carries = λ now re sent h m n ack qs i l.
        let g = g₂ now re sent h m n ack i in
        let read = carried_read now re sent h m n ack i in
        rw (rule_answers now re sent (bytes_of (carried m n ack)) g read h i)
        (fair_comes (rightly now g n l.own refl) (judged now re sent (bytes_of (carried m n ack)) g read) (carried_fair now re sent h m n ack i));
  }

pub good_comes : (w : World) → Good w → Persisted Labels w → Lasts w → AllCome w
good_comes w g l k m rest on line =
    by_oldest (Answered w.b w.ab) w.b w.ab (each w.b w.ab) w.a m rest on (rw line at (g k)) (l k)

-- ---- over every run, at both ends
pub only_these_come : (x y : Opener) → Fit x → Fit y → Afresh x y → (vs : List (Bool × Event)) → AllProperEvents vs → Lasts (run (start x y) vs)
    → AllCome (run (start x y) vs) × AllCome (swap (run (start x y) vs))
only_these_come x y fx fy f vs p k =
    let w = run (start x y) vs in
    let g = at-run (start x y) vs p (at-start x y fx fy f) in
    let l = persisted labels_persist x y fx fy f vs p in
    (good_comes w g l k, good_comes (swap w) (at-swap w g) (swap_persists labels_persist w l) k)
