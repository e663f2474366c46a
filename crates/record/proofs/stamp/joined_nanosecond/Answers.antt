-- `record::stamp::joined_nanosecond` meets its contract: within the fields' range the sum fits. Assumes nothing.
use Rattle.record.specs.Steps.{nanosecond_of}
use Rattle.record.proofs.stamp.joined_nanosecond.Goals as goal

pub returns-then-millisecond-microsecond : goal.returns-then-millisecond-microsecond
unfolding nanosecond_of
returns-then-millisecond-microsecond c = rw c.if-millisecond-microsecond.true

pub returns-else-millisecond-microsecond : goal.returns-else-millisecond-microsecond
unfolding nanosecond_of
returns-else-millisecond-microsecond c = rw c.if-millisecond-microsecond.false
