use native.Mathlib.Omega.{arith}
use borrow.Author.Rules.{rules}
use mathlib.Core.Path.{refl, ap, ◌∙◌}
use Prim.Native.Nat.{ℕ, ◌*◌}
use lib.ListN.{length-set}
use Rattle.words.specs.Bytes.{bytes}
use Rattle.words.specs.Put.{put}
use Rattle.zipper.proofs.Search.{seen, seek-enter, seek-none, seek-value, end-in, value-whole, frame-in, seek-turn, seek-branch, first-in, seek-pair}
use Rattle.zipper.proofs.seek.Goals as goal
use Rattle.zipper.proofs.seek.Goals.{in_default-via-then-kind-lt1, in_default-via-else-kind-lt1+else-kind-lt5+then-kind-lt9, in_default-via-else-kind-lt1+else-kind-lt5+else-kind-lt9+else-kind-lt11}

pub loop-p-init : goal.loop-p-init
loop-p-init c = (c.requires, seen c.requires, refl, refl)

pub returns-then-depth-eq0 : goal.returns-then-depth-eq0
returns-then-depth-eq0 c = seek-value c.loop-p.invariant.0 (omega arith) c.if-depth-eq0.true

pub invariant_of-answer-clause-first : goal.invariant_of-answer-clause-first
invariant_of-answer-clause-first c = first-in c.loop-p.invariant.0 (omega arith) c.if-depth-eq0.false _ refl _ c.from-p.ensures c.if-frames-depth.true

pub returns-then-frames-depth : goal.returns-then-frames-depth
returns-then-frames-depth c =
    rw c.answer.ensures (seek-pair c.loop-p.invariant.0 (omega arith) c.if-depth-eq0.false _ refl _ c.from-p.ensures c.if-frames-depth.true)

pub overflow_mul-p : goal.overflow_mul-p
overflow_mul-p c =
    let s = frame-in c.loop-p.invariant.0 (omega arith) c.if-depth-eq0.false _ refl _ c.from-p.ensures in omega arith

pub bounds-e-p : goal.bounds-e-p
bounds-e-p c =
    let s = frame-in c.loop-p.invariant.0 (omega arith) c.if-depth-eq0.false _ refl _ c.from-p.ensures in omega arith

pub returns-then-e-p-eq10 : goal.returns-then-e-p-eq10
returns-then-e-p-eq10 c =
    rw c.at_branch.ensures (seek-branch c.loop-p.invariant.0 (omega arith) c.if-depth-eq0.false _ refl _ c.from-p.ensures c.if-frames-depth.false c.if-e-p-eq10.true)

pub leave-here-requires-clause-whole : goal.leave-here-requires-clause-whole
leave-here-requires-clause-whole c = value-whole c.loop-p.invariant.0 (omega arith) c.if-depth-eq0.false _ refl

pub loop-p-smaller-then-kind-lt5 : goal.loop-p-smaller-then-kind-lt5
loop-p-smaller-then-kind-lt5 c =
    let s = end-in c.loop-p.invariant.0 (omega arith) c.if-depth-eq0.false _ refl in omega (arith, c.leave-here.ensures.right)

pub loop-p-preserved-then-kind-lt5 : goal.loop-p-preserved-then-kind-lt5
loop-p-preserved-then-kind-lt5 c =
    let y = c.leave-here.ensures in
    let z = seek-turn c.loop-p.invariant.0 (omega arith) c.if-depth-eq0.false _ refl _ c.from-p.ensures c.if-frames-depth.false (λ x. omega arith) _ _ y.right y.left _ _ y.copied refl in (z, seen z, omega arith, simp length-set (omega arith))

pub unreachable-requires : goal.unreachable-requires
unreachable-requires c =
    let none = seek-none c.loop-p.invariant.0 in
    elim c.in_default.branch [
      | in_default-via-then-kind-lt1 w ↦ none (λ a b. omega arith) (λ a. omega arith) (λ a b. omega arith)
      | in_default-via-else-kind-lt1+else-kind-lt5+then-kind-lt9 w ↦ none (λ a b. omega arith) (λ a. omega arith) (λ a b. omega arith)
      | in_default-via-else-kind-lt1+else-kind-lt5+else-kind-lt9+else-kind-lt11 w ↦ none (λ a b. omega arith) (λ a. omega arith) (λ a b. omega arith)
    ]

pub loop-p-preserved : goal.loop-p-preserved
loop-p-preserved c =
    let z = seek-enter c.loop-p.invariant.0 (λ a b. search rules) _ _ (c.write.ensures ∙ ap (λ (x : ℕ). put c.loop-p.e (8 * c.loop-p.here.l) (bytes 8 x)) c.from.ensures) refl in (z, seen z, omega arith, simp length-set (omega arith))
