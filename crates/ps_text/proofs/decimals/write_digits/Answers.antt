use Rattle.std.proofs.Common.{arith}
use Rattle.ps_text.proofs.Printed.{Written-all, Written-more, Written-room}
use Rattle.ps_text.proofs.decimals.write_digits.Goals as goal

pub overflow_sub-at : goal.overflow_sub-at
overflow_sub-at c = omega (arith, Written-room _ _ _ _ _ _ c.loop-rest.invariant c.requires.room (omega arith))

pub bounds-text-at : goal.bounds-text-at
bounds-text-at c = omega (arith, Written-room _ _ _ _ _ _ c.loop-rest.invariant c.requires.room (omega arith))

pub loop-rest-preserved : goal.loop-rest-preserved
loop-rest-preserved c = Written-more _ _ _ _ _ _ c.loop-rest.invariant c.requires.room (omega arith) (omega arith) (omega arith)

pub overflow_sub-at-2 : goal.overflow_sub-at-2
overflow_sub-at-2 c = omega (arith, Written-room _ _ _ _ _ _ c.loop-rest.invariant c.requires.room (omega arith))

pub bounds-text-at-2 : goal.bounds-text-at-2
bounds-text-at-2 c = omega (arith, Written-room _ _ _ _ _ _ c.loop-rest.invariant c.requires.room (omega arith))

pub returns-clause-place : goal.returns-clause-place
returns-clause-place c = (Written-all _ _ _ _ _ _ c.loop-rest.invariant c.requires.room (omega arith) (omega arith)).0

pub returns-clause-digits : goal.returns-clause-digits
returns-clause-digits c = (Written-all _ _ _ _ _ _ c.loop-rest.invariant c.requires.room (omega arith) (omega arith)).1
