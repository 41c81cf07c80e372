use Rattle.std.proofs.Common.{refl}
use lib.Utf8.{encode}
use Rattle.audit_lock.proofs.rendering.mark.Goals as goal

pub returns-in-true-true : goal.returns-in-true-true
unfolding encode
returns-in-true-true c = rw (c.in-true-true.is-0, c.in-true-true.is-1) refl

pub returns-in-true-false : goal.returns-in-true-false
unfolding encode
returns-in-true-false c = rw (c.in-true-false.is-0, c.in-true-false.is-1) refl

pub returns-in-false-true : goal.returns-in-false-true
unfolding encode
returns-in-false-true c = rw (c.in-false-true.is-0, c.in-false-true.is-1) refl
