use mathlib.Core.Path.{refl, sym, ◌∙◌}
use native.Mathlib.Omega.{arith}
use Rattle.rewriting.proofs.Writing.{begins, turn-fits, goes_on, writes-on, end_fits, ends, going-length}
use Rattle.rewriting.proofs.write.Goals.{then-mark-ne0, else-mark-ne0}
use Rattle.rewriting.proofs.write.Goals as goal

pub loop-i-init : goal.loop-i-init
loop-i-init c = begins _ _ _

pub copy-requires-clause-at_in_bounds : goal.copy-requires-clause-at_in_bounds
copy-requires-clause-at_in_bounds c = omega (arith, turn-fits _ _ _ c.loop-i.invariant c.loop-i-test.true c.requires.s_in_bounds refl refl)

pub overflow_add-at : goal.overflow_add-at
overflow_add-at c =
    omega (arith, turn-fits _ _ _ c.loop-i.invariant c.loop-i-test.true c.requires.s_in_bounds refl refl, going-length _ _ _ c.loop-i.invariant c.requires.s_in_bounds)

pub put_commands-at-requires-clause-f_in_bounds : goal.put_commands-at-requires-clause-f_in_bounds
put_commands-at-requires-clause-f_in_bounds c = omega (arith, turn-fits _ _ _ c.loop-i.invariant c.loop-i-test.true c.requires.s_in_bounds c.gain_at-mark.ensures c.number.ensures, c.copy.auto.b)

pub loop-i-preserved : goal.loop-i-preserved
loop-i-preserved c =
    elim c.if-mark-ne0.branch [
      | then-mark-ne0 w ↦
          rw (w.out-is, w.from-is, w.at-is)
          (writes-on _ _ _ c.loop-i.invariant c.loop-i-test.true c.requires.s_in_bounds c.gain_at-mark.ensures w.number.ensures w.copy.ensures w.put_commands-at.ensures.0 w.put_commands-at.ensures.1)
      | else-mark-ne0 w ↦ rw (w.out-is, w.from-is, w.at-is) (goes_on _ _ _ c.loop-i.invariant c.loop-i-test.true (sym c.gain_at-mark.ensures ∙ w.if-mark-ne0.false))
    ]

pub copy-requires-2-clause-at_in_bounds : goal.copy-requires-2-clause-at_in_bounds
copy-requires-2-clause-at_in_bounds c = omega (arith, end_fits _ _ _ c.loop-i.invariant c.loop-i-test.false c.requires.s_len c.requires.s_in_bounds)

pub shape_of-out : goal.shape_of-out
shape_of-out c =
    omega (arith, c.copy-2.auto.b, going-length _ _ _ c.loop-i.invariant c.requires.s_in_bounds)

pub returns : goal.returns
returns c =
    ends _ _ _ c.loop-i.invariant c.loop-i-test.false c.requires.s_len c.requires.s_in_bounds c.copy-2.ensures
