-- Submit and its last test: a message that every other test passes is accepted below 64 held, and refused at 64; only there is one. Assumes nothing.
use Prim.Native.Nat.{ℕ, ◌≤◌, ◌<◌}
use mathlib.Core.Bool.{true, not}
use mathlib.Core.List.{List}
use mathlib.Core.Path.{◌≡◌, sym, ◌∙◌}
use native.Mathlib.Omega.{arith}
use borrow.Author.Tests.{not-false}
use Rattle.octets.proofs.Choice.{cleared}
use Rattle.protocol.specs.declared.Answer.{Answer}
use Rattle.protocol.specs.declared.Phase.{Phase}
use Rattle.protocol.specs.Phases.{phase_fits}
use Rattle.protocol.specs.State.{State, held}
use Rattle.protocol.specs.Step.{admitted}
use Rattle.protocol.specs.Submit.{submit_rule, submit}
use Rattle.protocol.specs.SubmitCases.{Unbarred, SubmitCase, store-full, queues, Passes}
use Rattle.protocol.proofs.Answered.{submit_says}
use Rattle.protocol.proofs.Settling.{admitted_is}
use Rattle.protocol.proofs.SubmitCases.{Last, case-submit, done_last, full_last}

module _ (s : State) (ph : Phase) (m : List ℕ) where
  -- ---- such a message is answered by the room alone
  passes_unbarred : (p : Passes s ph m) → Unbarred s m p.storable.kind p.storable.label
  passes_unbarred p = record {
    fitting = record { kept = p.kept; low = p.storable.low; high = p.storable.short };
    accepted = p.storable.accepted;
    free = p.free;
    same = p.same;
  }

  answer_by : Passes s ph m → {a : Answer} → SubmitCase s ph m a → (submit s ph m).answer ≡ a
  answer_by p c = submit_says s ph m ∙ admitted_is s ph p.fits (submit_rule s ph m) ∙ case-submit s ph m c

  -- where every other test passes it is taken below 64 held
  pub passes-done : Passes s ph m → held s < 64 → (submit s ph m).answer ≡ Answer.Done
  passes-done p l = answer_by p (queues (passes_unbarred p) p.may p.allowed l)

  -- and answered 7 at 64
  pub passes-full : Passes s ph m → 64 ≤ held s → (submit s ph m).answer ≡ Answer.StoreFull
  passes-full p l = answer_by p (store-full (passes_unbarred p) p.may p.allowed l)

  -- ---- the other way: Done and 7 come after every other test
  last_passes : phase_fits ph s ≡ true → Last s ph m → Passes s ph m
  last_passes f w =
      let u : Unbarred s m w.kind w.label = w.unbarred in
      record {
        fits = f;
        kept = u.fitting.kept;
        storable = record { low = u.fitting.low; short = u.fitting.high; kind = w.kind; label = w.label; accepted = u.accepted };
        free = u.free;
        same = u.same;
        allowed = w.taken;
        may = w.may;
      }

  admitted_last : {a : Answer} → (Answer.WrongPhase ≡ a → ◌≡◌ {A = ℕ} 0 1) → (submit s ph m).answer ≡ a → (phase_fits ph s ≡ true) × (submit_rule s ph m ≡ a)
  unfolding admitted
  admitted_last {a} other e =
      let p = cleared (not (phase_fits ph s)) Answer.WrongPhase (submit_rule s ph m) a other (sym (submit_says s ph m) ∙ e) in
      (not-false (phase_fits ph s) p.0, p.1)

  -- it is taken only so
  pub done-passes : (submit s ph m).answer ≡ Answer.Done → Passes s ph m × (held s < 64)
  done-passes e =
      let p = admitted_last (λ f. cc) e in
      let w = done_last s ph m p.1 in
      (last_passes p.0 w.0, w.1)

  -- and 7 comes only so
  pub full-passes : (submit s ph m).answer ≡ Answer.StoreFull → Passes s ph m × (64 ≤ held s)
  full-passes e =
      let p = admitted_last (λ f. cc) e in
      let w = full_last s ph m p.1 in
      (last_passes p.0 w.0, w.1)

  -- where no more than 64 are held, 7 comes only at 64
  pub full_only : held s ≤ 64 → (submit s ph m).answer ≡ Answer.StoreFull → held s ≡ 64
  full_only few e = omega (arith, (full-passes e).1)
