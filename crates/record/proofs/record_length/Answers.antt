-- `record::record_length` meets its contract: the head, and the bytes of the cells.
-- Assumes nothing.
use native.Mathlib.Omega.{arith}
use Rattle.paper.specs.Jobs.{most}
use Rattle.paper.proofs.Records.{head_size}
use Rattle.record.proofs.Counts.{length_needed}
use Rattle.record.proofs.record_length.Goals as goal

pub overflow_mul-n : goal.overflow_mul-n
unfolding most
overflow_mul-n c = omega arith

pub overflow_add-n : goal.overflow_add-n
unfolding most
overflow_add-n c = omega arith

pub overflow_add-result : goal.overflow_add-result
unfolding most
overflow_add-result c = omega (arith, head_size c.args.n)

pub returns : goal.returns
returns c = omega (arith, length_needed c.args.n)
