use Prim.Native.Nat.{◌-◌, ◌≤◌}
use native.Mathlib.Omega.{arith}
use Rattle.protocol.proofs.PassedOver.{passed-within}
use Rattle.send.proofs.Passing.{left_out_is, no_request_lem, none_unsent, numbered-held}
use Rattle.send.proofs.leaving_out.left_out.Goals as goal

pub returns-then-held_kind-ne-REQUEST : goal.returns-then-held_kind-ne-REQUEST
returns-then-held_kind-ne-REQUEST c =
    no_request_lem _ _ c.requires.1 c.held_kind.ensures c.if-held_kind-ne-REQUEST.true

pub returns-then-issued-sent : goal.returns-then-issued-sent
returns-then-issued-sent c =
    none_unsent _ _ c.header_of.ensures c.issued_count-issued.ensures c.if-issued-sent.true

pub search-requires : goal.search-requires
search-requires c =
    (c.requires.0, numbered-held _ _ c.header_of.ensures c.issued_count-issued.ensures c.requires.0 c.if-issued-sent.false)

pub overflow_cast-result : goal.overflow_cast-result
overflow_cast-result c =
    let few : c.search.result ≤ c.issued_count-issued.result - c.args.sent = rw c.search.ensures (passed-within _ _) in
    omega arith

pub returns : goal.returns
returns c = left_out_is _ _ c.header_of.ensures c.issued_count-issued.ensures c.search.ensures
