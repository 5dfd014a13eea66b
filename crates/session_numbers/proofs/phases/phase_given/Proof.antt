-- `session_numbers::phases::phase_given` meets its contract. Assumes nothing.
use Rattle.std.specs.Prelude.{None}
use borrow.Author.Rules.{rules}
use Rattle.tlv.proofs.Rows.{lookup_absent}
use Rattle.session_numbers.specs.Session.{phases, given_of}
use Rattle.session_numbers.proofs.phases.phase_given.Statement.{statement}
use Rattle.session_numbers.proofs.phases.phase_given.Tie as tie

pub phase_given_spec : {M : Type 1} → statement M
unfolding given_of
phase_given_spec =
    let answers = tie.spec
    (λ c. rw c.in-0.is)
    (λ c. rw c.in-1.is)
    (λ c. rw c.in-2.is)
    (λ c. rw c.in-3.is)
    (λ c. rw c.in-4.is)
    (λ c. lookup_absent None (phases c.args.s.value c.args.s.flags) c.args.s.phase (search rules)) in
    tie.close answers
