-- `one` meets its contract.
use mathlib.Core.Path.{◌≡◌, ◌∙◌}
use Prim.Native.Nat.{◌*◌, ◌^◌}
use native.Mathlib.Omega.{arith}
use lib.Dec.{lit<}
use lib.Pow.{shl_exact}
use Rattle.bits.proofs.one.Goals as goal

pub returns : goal.returns
returns c = let e : 1 * 2 ^ c.args.a ≡ 2 ^ c.args.a = omega arith in shl_exact 1 c.args.a 64 (lit< tt) (omega arith) ∙ e
