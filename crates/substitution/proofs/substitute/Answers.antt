use native.Mathlib.Omega.{arith}
use mathlib.Core.Path.{refl, ◌∙◌}
use Rattle.words.specs.Bytes.{part}
use Rattle.substitution.proofs.Laws.{fits-at}
use Rattle.substitution.proofs.Loop.{more-further, use-yes, use-no, held, started, of-lam, of-more, later, of-use, of-full, of-kept, of_end}
use Rattle.substitution.proofs.Pieces.{both-written, second-none, first-none}
use Rattle.substitution.proofs.substitute.Goals as goal
use Rattle.substitution.proofs.substitute.Goals.{else-loop-need-2-test, then-loop-need-2-test+else-kind-eq5+then-kind-le3+then-is_use}

pub loop-need-init : goal.loop-need-init
loop-need-init c = held (started _ c.requires.lies (fits-at c.args.s.now (λ k. omega (arith, c.type_inv.s k)) _) (omega arith))

pub loop-need-2-preserved-then-kind-eq5 : goal.loop-need-2-preserved-then-kind-eq5
loop-need-2-preserved-then-kind-eq5 c =
    (held (of-more c.loop-need-2.invariant.0.going c.loop-need-2-test.true 1 (omega arith) (rw c.if-kind-eq5.true)), omega arith)

pub loop-need-2-preserved-then-kind-le3 : goal.loop-need-2-preserved-then-kind-le3
loop-need-2-preserved-then-kind-le3 c =
    let e = rw c.number.ensures at c.is_use.ensures in
    (held (of-kept c.loop-need-2.invariant.0.going c.loop-need-2-test.true (omega arith) (use-no _ _ _ _ e c.if-is_use.false) _ c.close_ended-depth.ensures), omega arith)

pub loop-need-2-preserved-then-kind-eq4 : goal.loop-need-2-preserved-then-kind-eq4
loop-need-2-preserved-then-kind-eq4 c =
    (held (of-lam c.loop-need-2.invariant.0.going c.loop-need-2-test.true c.if-kind-eq4.true _ refl), omega arith)

pub further-need-requires : goal.further-need-requires
further-need-requires c =
    let w = later c.loop-need-2.invariant.0.going c.loop-need-2-test.true (omega arith) in
    record { from_sum = w.0; to_branch = w.1 }

pub loop-need-2-preserved : goal.loop-need-2-preserved
loop-need-2-preserved c =
    let w = later c.loop-need-2.invariant.0.going c.loop-need-2-test.true (omega arith) in
    (held (of-more c.loop-need-2.invariant.0.going c.loop-need-2-test.true _ (omega arith) (c.further-need.ensures ∙ more-further _ w.0 w.1)), omega arith)

-- The loops stopped at a use.
pub returns-in_err-end : goal.returns-in_err-end
unfolding part
returns-in_err-end c =
    let g = c.loop-need-2.invariant.0.going in
    let w = first-none _ c.args.u.now _ _ _ c.in_err-end.ensures in
    rw c.from_residual.ensures (of-full g c.if-need-gt0.true (elim c.loop-need-2-test.branch [ else-loop-need-2-test v ↦ absurd (omega arith) | then-loop-need-2-test+else-kind-eq5+then-kind-le3+then-is_use v ↦ use-yes _ _ _ _ (rw v.number.ensures at v.is_use.ensures) v.if-is_use.true ]) (omega (arith, w.0, c.loop-need.invariant.numbers.same)), w.1 ∙ c.loop-need.invariant.numbers.same)

pub returns-in_err-pos : goal.returns-in_err-pos
unfolding part
returns-in_err-pos c =
    let g = c.loop-need-2.invariant.0.going in
    let w = second-none _ c.args.u.now _ _ _ _ c.in_ok-end.ensures _ c.in_err-pos.ensures in
    rw c.from_residual-in_err-pos.ensures (of-full g c.if-need-gt0.true (elim c.loop-need-2-test.branch [ else-loop-need-2-test v ↦ absurd (omega arith) | then-loop-need-2-test+else-kind-eq5+then-kind-le3+then-is_use v ↦ use-yes _ _ _ _ (rw v.number.ensures at v.is_use.ensures) v.if-is_use.true ]) (omega (arith, w.0, c.loop-need.invariant.numbers.same)), w.1 ∙ c.loop-need.invariant.numbers.same)

pub loop-need-preserved-then-need-gt0 : goal.loop-need-preserved-then-need-gt0
unfolding part
loop-need-preserved-then-need-gt0 c =
    let g = c.loop-need-2.invariant.0.going in
    let w = both-written _ c.args.u.now _ _ _ _ c.in_ok-end.ensures _ _ c.in_ok-pos.ensures in
    held (of-use g c.if-need-gt0.true (elim c.loop-need-2-test.branch [ else-loop-need-2-test v ↦ absurd (omega arith) | then-loop-need-2-test+else-kind-eq5+then-kind-le3+then-is_use v ↦ use-yes _ _ _ _ (rw v.number.ensures at v.is_use.ensures) v.if-is_use.true ]) _ _ w.2 w.0 (omega (arith, w.1, c.loop-need.invariant.numbers.same)) _ c.close_ended-depth-then-need-gt0.ensures)

pub returns : goal.returns
unfolding part
returns c =
    of_end c.loop-need.invariant.going c.loop-need-test.false c.put-2.result c.put-2.new.out c.put-2.ensures c.loop-need.invariant.numbers.same
