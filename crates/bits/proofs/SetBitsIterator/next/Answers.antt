-- The walk gives the first set bit that is left, and leaves the others.
use native.Mathlib.Omega.{arith}
use Rattle.bits.proofs.Trailing.{first-bit, fewer}
use Rattle.bits.proofs.SetBitsIterator.next.Goals as goal

pub returns-clause-steps : goal.returns-clause-steps
returns-clause-steps c = first-bit _ (omega arith) (λ e. omega arith)

pub returns-clause-goes : goal.returns-clause-goes
returns-clause-goes c = record { on = λ _. (tt, tt, fewer (first-bit _ (omega arith) (λ e. omega arith))); keeps = tt; rests = λ _. tt }
