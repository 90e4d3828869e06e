-- Where nothing is refused, both numbers are 0.
use mathlib.Core.Path.{refl}
use native.Mathlib.Omega.{arith}
use Rattle.std.proofs.Output.{has_written_of_eq}
use Rattle.std.proofs.lemmas.Fmt.{decimal_digit}
use Rattle.samples.proofs.calls.NumbersDisplay.fmt.Goals as goal

pub returns-in-Ok-clause-writes : goal.returns-in-Ok-clause-writes
returns-in-Ok-clause-writes g c = λ plain ok. has_written_of_eq _ _ _ _ _ (rw (c.in-Ok.is, decimal_digit 0 (omega arith)) refl) (c.write.ensures.writes plain ok)
