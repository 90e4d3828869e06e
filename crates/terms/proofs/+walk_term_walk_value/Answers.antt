use mathlib.Core.Path.{sym, ap, ◌∙◌}
use native.Mathlib.Omega.{arith}
use lib.Dec.{eqb, leb}
use borrow.Author.Tests.{ne_eqb}
use Rattle.std.specs.Prelude.{ℕ, Ok, ◌≡◌, ◌&&◌}
use Rattle.terms.specs.Record.{kind_at, record_number}
use Rattle.std.proofs.lemmas.Result.{err_from_is_err_and}
use Rattle.terms.specs.Walk.{both_terms}
use Rattle.terms.specs.declared.Extent.{Extent}
use Rattle.terms.proofs.Walk.{walked-within, walked-past, walked-value, value-past, value-two, value-three, value_none, value-leaf, value-one, two-stopped, two-stopped-later, two-whole, three-stopped, three-stopped-second, three-stopped-third, three-whole}
use Rattle.terms.proofs.+walk_term_walk_value.Goals as goal
use Rattle.terms.proofs.+walk_term_walk_value.Goals.{walk_value-then-kind-eq1, walk_value-else-kind-eq1}

pub walk_term-returns-then-s-at : goal.walk_term-returns-then-s-at
walk_term-returns-then-s-at t c = sym (walked-past _ _ _ c.if-s-at.true)

pub walk_value-returns-in-NoTerm : goal.walk_value-returns-in-NoTerm
walk_value-returns-in-NoTerm t c = sym (value_none _ _ _ c.if-s-at.false (sym c.arity_of.ensures ∙ c.in-NoTerm.is))

pub walk_value-returns-after-kind-eq1 : goal.walk_value-returns-after-kind-eq1
walk_value-returns-after-kind-eq1 t c =
    let k : ℕ = kind_at c.args.s.now c.args.at in
    let free : c.if-kind-eq1.free ≡ (eqb k 1 && leb c.args.depth (record_number c.args.s.now c.args.at)) =
    elim c.if-kind-eq1.branch [
      | walk_value-then-kind-eq1 w ↦ rw w.if-kind-eq1.true (w.free-is ∙ ap (leb c.args.depth) w.number.ensures)
      | walk_value-else-kind-eq1 w ↦ rw (ne_eqb k 1 w.if-kind-eq1.false) (w.free-is ∙ ne_eqb k 1 w.if-kind-eq1.false)
    ] in
    rw (c.then_some.ensures, free) (sym (value-leaf _ _ _ c.if-s-at.false (sym c.arity_of.ensures ∙ c.in-Leaf.is)))

pub walk_value-returns-in-One : goal.walk_value-returns-in-One
walk_value-returns-in-One t c = c.walk_term.ensures ∙ sym (value-one _ _ _ c.if-s-at.false (sym c.arity_of.ensures ∙ c.in-One.is))

pub walk_term-returns-in_err-first-in-Two : goal.walk_term-returns-in_err-first-in-Two
walk_term-returns-in_err-first-in-Two t c =
    let p = err_from_is_err_and c.from_residual.result c.from_residual.ensures.1 in
    rw (p.1, p.2) (sym (two-stopped _ _ _ c.if-s-at.false (sym c.arity_of.ensures ∙ c.in-Two.is) _ (sym c.walk_term.ensures ∙ c.in_err-first-in-Two.was)))

pub walk_term-walk_term-requires-in-Two : goal.walk_term-walk_term-requires-in-Two
walk_term-walk_term-requires-in-Two t c =
    let h = walked-within _ _ _ _ (sym c.walk_term.ensures ∙ c.in_ok-first-in-Two.was) in
    omega arith

pub walk_term-returns-in_err-second-in-Two : goal.walk_term-returns-in_err-second-in-Two
walk_term-returns-in_err-second-in-Two t c =
    let p = err_from_is_err_and c.from_residual-in_err-second-in-Two.result c.from_residual-in_err-second-in-Two.ensures.1 in
    rw (p.1, p.2) (sym (two-stopped-later _ _ _ c.if-s-at.false (sym c.arity_of.ensures ∙ c.in-Two.is) _ _ (sym c.walk_term.ensures ∙ c.in_ok-first-in-Two.was) (sym c.walk_term-in-Two.ensures ∙ c.in_err-second-in-Two.was)))

pub walk_term-returns-in_ok-second-in-Two : goal.walk_term-returns-in_ok-second-in-Two
walk_term-returns-in_ok-second-in-Two t c =
    ap Ok c.then.ensures
    ∙ sym (two-whole _ _ _ c.if-s-at.false (sym c.arity_of.ensures ∙ c.in-Two.is) _ _ (sym c.walk_term.ensures ∙ c.in_ok-first-in-Two.was) (sym c.walk_term-in-Two.ensures ∙ c.in_ok-second-in-Two.was))

pub walk_term-returns-in_err-first-in-Three : goal.walk_term-returns-in_err-first-in-Three
walk_term-returns-in_err-first-in-Three t c =
    let p = err_from_is_err_and c.from_residual-in_err-first-in-Three.result c.from_residual-in_err-first-in-Three.ensures.1 in
    rw (p.1, p.2) (sym (three-stopped _ _ _ c.if-s-at.false (sym c.arity_of.ensures ∙ c.in-Three.is) _ (sym c.walk_term-in-Three.ensures ∙ c.in_err-first-in-Three.was)))

pub walk_term-walk_term-requires-in-Three-2 : goal.walk_term-walk_term-requires-in-Three-2
walk_term-walk_term-requires-in-Three-2 t c =
    let h = walked-within _ _ _ _ (sym c.walk_term-in-Three.ensures ∙ c.in_ok-first-in-Three.was) in
    omega arith

pub walk_term-returns-in_err-second-in-Three : goal.walk_term-returns-in_err-second-in-Three
walk_term-returns-in_err-second-in-Three t c =
    let p = err_from_is_err_and c.from_residual-in_err-second-in-Three.result c.from_residual-in_err-second-in-Three.ensures.1 in
    rw (p.1, p.2) (sym (three-stopped-second _ _ _ c.if-s-at.false (sym c.arity_of.ensures ∙ c.in-Three.is) _ _ (sym c.walk_term-in-Three.ensures ∙ c.in_ok-first-in-Three.was) (sym c.walk_term-in-Three-2.ensures ∙ c.in_err-second-in-Three.was)))

pub walk_term-walk_term-requires-in-Three-3 : goal.walk_term-walk_term-requires-in-Three-3
walk_term-walk_term-requires-in-Three-3 t c =
    let h = walked-within _ _ _ _ (sym c.walk_term-in-Three.ensures ∙ c.in_ok-first-in-Three.was) in
    let h' = walked-within _ _ _ _ (sym c.walk_term-in-Three-2.ensures ∙ c.in_ok-second-in-Three.was) in
    omega arith

pub walk_term-returns-in_err-third-in-Three : goal.walk_term-returns-in_err-third-in-Three
walk_term-returns-in_err-third-in-Three t c =
    let p = err_from_is_err_and c.from_residual-in_err-third-in-Three.result c.from_residual-in_err-third-in-Three.ensures.1 in
    rw (p.1, p.2) (sym (three-stopped-third _ _ _ c.if-s-at.false (sym c.arity_of.ensures ∙ c.in-Three.is) _ _ _ (sym c.walk_term-in-Three.ensures ∙ c.in_ok-first-in-Three.was) (sym c.walk_term-in-Three-2.ensures ∙ c.in_ok-second-in-Three.was) (sym c.walk_term-in-Three-3.ensures ∙ c.in_err-third-in-Three.was)))

pub walk_term-returns-in_ok-third-in-Three : goal.walk_term-returns-in_ok-third-in-Three
walk_term-returns-in_ok-third-in-Three t c =
    ap Ok (c.then-in-Three-2.ensures ∙ ap (λ (x : Extent). both_terms x c.in_ok-third-in-Three.third) c.then-in-Three.ensures)
    ∙ sym (three-whole _ _ _ c.if-s-at.false (sym c.arity_of.ensures ∙ c.in-Three.is) _ _ _ (sym c.walk_term-in-Three.ensures ∙ c.in_ok-first-in-Three.was) (sym c.walk_term-in-Three-2.ensures ∙ c.in_ok-second-in-Three.was) (sym c.walk_term-in-Three-3.ensures ∙ c.in_ok-third-in-Three.was))

pub walk_term-returns-in_default : goal.walk_term-returns-in_default
walk_term-returns-in_default t c =
    c.walk_value.ensures
    ∙ walked-value _ _ _ c.if-s-at.false (λ e. c.in_default.not-Two (c.arity_of.ensures ∙ e)) (λ e. c.in_default.not-Three (c.arity_of.ensures ∙ e))

pub walk_value-returns-then-s-at : goal.walk_value-returns-then-s-at
walk_value-returns-then-s-at t c = sym (value-past _ _ _ c.if-s-at.true)

pub walk_value-returns-in-Two : goal.walk_value-returns-in-Two
walk_value-returns-in-Two t c = sym (value-two _ _ _ c.if-s-at.false (sym c.arity_of.ensures ∙ c.in-Two.is))

pub walk_value-returns-in-Three : goal.walk_value-returns-in-Three
walk_value-returns-in-Three t c = sym (value-three _ _ _ c.if-s-at.false (sym c.arity_of.ensures ∙ c.in-Three.is))
