-- `script::is_malformed` meets its contract: four bytes without the kind are the spare bytes. Assumes nothing.
use Prim.Native.Nat.{◌*◌}
use native.Mathlib.Omega.{arith}
use Rattle.script.proofs.Tests.{malformed-spare, malformed-range}
use Rattle.script.proofs.is_malformed.Goals as goal

pub returns-then-read-ne0 : goal.returns-then-read-ne0
returns-then-read-ne0 c =
    malformed-spare c.args.s.now c.args.i c.requires (omega (arith, c.type_inv.s (8 * c.args.i))) c.read.ensures c.if-read-ne0.true

pub returns-else-read-ne0 : goal.returns-else-read-ne0
returns-else-read-ne0 c =
    malformed-range c.args.s.now c.args.i c.requires (omega (arith, c.type_inv.s (8 * c.args.i))) c.read.ensures c.if-read-ne0.false c.number.ensures c.in_range.ensures
