use Rattle.std.proofs.Common.{arith}
use Rattle.ft_number.proofs.Laws.{refused, ahead, behind}
use Rattle.ft_number.proofs.signed_distance.Goals as goal

pub returns-then-a-eq0 : goal.returns-then-a-eq0
returns-then-a-eq0 c = refused _ _ (λ some. omega arith)

pub returns-then-d-le-HALF : goal.returns-then-d-le-HALF
returns-then-d-le-HALF c = ahead _ _ (omega arith) (omega arith) c.places-d.ensures (omega arith)

pub returns-else-d-le-HALF : goal.returns-else-d-le-HALF
returns-else-d-le-HALF c = behind _ _ (omega arith) (omega arith) c.places-d.ensures (omega arith)
