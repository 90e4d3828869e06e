-- `check` meets its contract.
use mathlib.Core.Path.{refl, ap, ◌∙◌}
use Prim.Native.Nat.{ℕ}
use Rattle.guideline.specs.Check.{guideline_verdict}
use Rattle.refusal.proofs.Handed.{handed-on}
use Rattle.refusal.specs.Refusal.{then-refused, then-passed, refused-some}
use Rattle.records.proofs.Laws.{verdict-err, verdict-ok}
use Rattle.records.proofs.check.Goals as goal

pub returns-in_err-definitions : goal.returns-in_err-definitions
returns-in_err-definitions c =
    let r = c.in_err-definitions.field-0.0 in
    rw (handed-on c.from_residual.result r c.from_residual.ensures.1) (then-refused _ _ (verdict-err c.in_err-definitions.was c.check_script.ensures.verdict) (refused-some r))

pub returns : goal.returns
returns c =
    c.check_guideline.ensures ∙ ap (λ (n : ℕ). guideline_verdict n c.args.guideline.now) c.in_ok-definitions.ensures.counted ∙ then-passed _ _ (verdict-ok c.in_ok-definitions.was c.check_script.ensures.verdict) refl
