-- `machine::fire` meets its contract: the kind of the redex decides. Assumes nothing.
use native.Mathlib.Omega.{arith}
use Rattle.machine.proofs.Contract.{ready-inside, ready-addends, fire-added, ready-fork, fire-chosen, fire-none}
use Rattle.machine.proofs.fire.Goals as goal

pub overflow_mul-kind : goal.overflow_mul-kind
overflow_mul-kind c = let i = ready-inside c.requires.ready in omega arith

pub bounds-e-redex : goal.bounds-e-redex
bounds-e-redex c = let i = ready-inside c.requires.ready in omega arith

pub apply-requires-clause-ready : goal.apply-requires-clause-ready
apply-requires-clause-ready c = c.requires.ready

pub apply-requires-clause-p_value : goal.apply-requires-clause-p_value
apply-requires-clause-p_value c = c.in-5.is

pub apply-requires-clause-scratch_room : goal.apply-requires-clause-scratch_room
apply-requires-clause-scratch_room c = c.requires.scratch_room

pub add-requires : goal.add-requires
add-requires c = ready-addends c.requires.ready c.in-9.is

pub choose-requires : goal.choose-requires
choose-requires c = ready-fork c.requires.ready c.in-10.is

pub returns-in-9 : goal.returns-in-9
returns-in-9 c =
    fire-added c.requires.ready c.in-9.is _ c.add.ensures

pub returns-in-10 : goal.returns-in-10
returns-in-10 c =
    fire-chosen c.requires.ready c.in-10.is _ _ c.choose.ensures

pub unreachable-requires : goal.unreachable-requires
unreachable-requires c = fire-none c.requires.ready (λ a. omega arith) (λ a. omega arith) (λ a. omega arith)
