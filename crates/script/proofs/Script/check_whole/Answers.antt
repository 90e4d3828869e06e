-- `script::Script::check_whole` meets its contract: each way out of the chain has its law. Assumes nothing.
use mathlib.Core.Path.{refl, ap}
use native.Mathlib.Omega.{arith}
use Rattle.refusal.specs.Refusal.{refused_as}
use Rattle.script.proofs.Chain.{none_from, first-inside, refused-4, refused-5, refused-6, refused-7}
use Rattle.script.proofs.Script.check_whole.Goals as goal

pub returns-in-Some : goal.returns-in-Some
returns-in-Some c = refused-4 c.args.purpose c.args.self.bytes.now c.requires c.in-Some.is refl

pub returns-in-Some-loose : goal.returns-in-Some-loose
returns-in-Some-loose c = refused-5 c.args.purpose c.args.self.bytes.now c.requires (none_from c.in_default.not-Some) c.in-Some-loose.is refl

pub at-requires : goal.at-requires
at-requires c = omega (arith, first-inside _ _ c.first_undefined.ensures c.in-Some-first_undefined.is)

pub returns-in-Some-first_undefined : goal.returns-in-Some-first_undefined
returns-in-Some-first_undefined c =
    refused-6 c.args.purpose c.args.self.bytes.now c.requires (none_from c.in_default.not-Some) (none_from c.in_default-loose.not-Some) c.first_undefined.ensures c.in-Some-first_undefined.is (ap refused_as c.at.ensures)

pub returns : goal.returns
returns c =
    refused-7 c.args.purpose c.args.self.bytes.now c.requires (none_from c.in_default.not-Some) (none_from c.in_default-loose.not-Some) c.first_undefined.ensures (none_from c.in_default-first_undefined.not-Some) c.check_commands.ensures
