-- `zipper::Pair::at_sum` meets its contract: each way out has the law of its tests. Assumes nothing.
use native.Mathlib.Omega.{arith}
use Rattle.zipper.proofs.Search.{sum_first, sum-second, sum-large, sum_added}
use Rattle.zipper.proofs.Pair.at_sum.Goals as goal

pub returns-then-self-p-ne3 : goal.returns-then-self-p-ne3
returns-then-self-p-ne3 c = sum_first _ _ _ _ _ c.if-self-p-ne3.true

pub returns-then-self-gap-ne3 : goal.returns-then-self-gap-ne3
returns-then-self-gap-ne3 c =
    sum-second _ _ _ _ _ c.if-self-p-ne3.false c.if-self-gap-ne3.true

pub returns-in-Some : goal.returns-in-Some
returns-in-Some c =
    let s = rw c.in-Some.is at c.checked_add.ensures in
    sum_added _ _ _ _ _ c.if-self-p-ne3.false c.if-self-gap-ne3.false (omega (arith, s.0, c.number-first.ensures, c.number-second.ensures))

pub returns-in-None : goal.returns-in-None
returns-in-None c =
    let s = rw c.in-None.is at c.checked_add.ensures in
    sum-large _ _ _ _ _ c.if-self-p-ne3.false c.if-self-gap-ne3.false (omega (arith, s, c.number-first.ensures, c.number-second.ensures))
