-- `machine::apply` meets its contract: the room is what the limit leaves, and the result lies where the argument ended. Assumes nothing.
use mathlib.Core.Path.{refl}
use native.Mathlib.Omega.{arith}
use Rattle.std.specs.Prelude.{Some, None}
use borrow.Author.Rules.{rules}
use lib.ListN.{length-take}
use Rattle.words.specs.Bytes.{part_left}
use Rattle.machine.proofs.Contract.{ready-source, ready-around, fire-room, fire-made, fire-over}
use Rattle.machine.proofs.apply.Goals as goal

pub room-end-requires : goal.room-end-requires
room-end-requires c = ready-around c.requires.ready c.requires.p_value c.args.code.now.positions

pub reduce-requires-clause-source : goal.reduce-requires-clause-source
reduce-requires-clause-source c = ready-source c.requires.ready c.requires.p_value c.args.code.now.positions

pub returns-in_err-q : goal.returns-in_err-q
returns-in_err-q c =
    rw c.from_residual.ensures (fire-over c.requires.ready c.requires.p_value c.args.code.now.positions _ c.room-end.ensures.end-is _ None _ c.in_err-q.ensures (omega (arith, length-take c.room-end.result.1 c.args.scratch.now)) refl)

pub returns : goal.returns
returns c =
    let fits = fire-room c.requires.ready c.requires.p_value c.args.code.now.positions _ c.room-end.ensures.end-is _ (Some _) _ c.in_ok-q.ensures _ refl in
    fire-made c.requires.ready c.requires.p_value c.args.code.now.positions _ c.room-end.ensures.end-is _ (Some _) _ c.in_ok-q.ensures (omega (arith, length-take c.room-end.result.1 c.args.scratch.now)) _ refl _ _
    (search (rules, part_left)) _ c.copy.ensures
