use native.Mathlib.Omega.{arith}
use mathlib.Core.Path.{sym, ap, ◌∙◌}
use Prim.Native.Nat.{ℕ, ◌+◌, ◌<◌}
use Rattle.terms.specs.Record.{count, kind_at}
use Rattle.terms.specs.Read.Laws.{arity-zero, arity-leaf, arity-one, arity-two, arity-none}
use Rattle.terms.specs.Walk.{many}
use Rattle.terms.proofs.Pass.{many-one, many-none, many-past, many_stuck, many-leaf, many-lam, many-pair, many-later}
use Rattle.terms.proofs.pass_term.Goals as goal
use Rattle.terms.proofs.pass_term.Goals.{in-4, in-1-to-3+else-wanted-eq0, in-5-to-7, in-9-to-10}

pub loop-i-init : goal.loop-i-init
loop-i-init c = record { same = many-one _ _; some = omega arith; few = omega arith }

pub returns-then-wanted-eq0 : goal.returns-then-wanted-eq0
returns-then-wanted-eq0 c =
    sym (many-none _ _ _ c.if-wanted-eq0.true)
    ∙ sym (many-leaf _ _ (omega arith) _ c.loop-i.invariant.some (arity-leaf _ (omega arith) (omega arith)))
    ∙ c.loop-i.invariant.same

pub returns-in_default : goal.returns-in_default
returns-in_default c =
    sym (many_stuck _ _ (omega arith) _ c.loop-i.invariant.some (arity-zero _ (omega arith))) ∙ c.loop-i.invariant.same

pub returns-in_default-2 : goal.returns-in_default-2
returns-in_default-2 c =
    sym (many_stuck _ _ (omega arith) _ c.loop-i.invariant.some (arity-none _ (omega arith) (λ e. omega arith) (λ e. omega arith))) ∙ c.loop-i.invariant.same

pub returns-in_default-3 : goal.returns-in_default-3
returns-in_default-3 c =
    sym (many_stuck _ _ (omega arith) _ c.loop-i.invariant.some (arity-none _ (omega arith) (λ e. omega arith) (λ e. omega arith))) ∙ c.loop-i.invariant.same

pub loop-i-preserved : goal.loop-i-preserved
loop-i-preserved c =
    let h : c.loop-i.i < count c.args.s.now = omega arith in
    elim c.match-kind.branch [
      | in-4 w ↦ record {
        same = ap (λ (n : ℕ). many n c.args.s.now (c.loop-i.i + 1)) w.wanted-is ∙ sym (many-lam c.args.s.now c.loop-i.i h c.loop-i.wanted c.loop-i.invariant.some (arity-one (kind_at c.args.s.now c.loop-i.i) w.in-4.is)) ∙ c.loop-i.invariant.same;
        some = omega arith;
        few = omega arith;
      }
      | in-1-to-3+else-wanted-eq0 w ↦ record {
        same = ap (λ (n : ℕ). many n c.args.s.now (c.loop-i.i + 1)) w.wanted-is ∙ sym (many-leaf c.args.s.now c.loop-i.i h c.loop-i.wanted c.loop-i.invariant.some (arity-leaf (kind_at c.args.s.now c.loop-i.i) (omega arith) (omega arith))) ∙ c.loop-i.invariant.same;
        some = omega arith;
        few = omega arith;
      }
      | in-5-to-7 w ↦ record {
        same = ap (λ (n : ℕ). many n c.args.s.now (c.loop-i.i + 1)) w.wanted-is ∙ sym (many-pair c.args.s.now c.loop-i.i h c.loop-i.wanted c.loop-i.invariant.some (arity-two (kind_at c.args.s.now c.loop-i.i) (omega arith) (omega arith))) ∙ c.loop-i.invariant.same;
        some = omega arith;
        few = omega arith;
      }
      | in-9-to-10 w ↦ record {
        same = ap (λ (n : ℕ). many n c.args.s.now (c.loop-i.i + 1)) w.wanted-is ∙ sym (many-later c.args.s.now c.loop-i.i h c.loop-i.wanted c.loop-i.invariant.some (omega arith) (omega arith) _ w.further-wanted.ensures) ∙ c.loop-i.invariant.same;
        some = omega arith;
        few = omega arith;
      }
    ]

pub returns : goal.returns
returns c = sym (many-past _ _ _ c.loop-i.invariant.some (omega arith)) ∙ c.loop-i.invariant.same
