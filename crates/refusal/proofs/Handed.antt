-- What a `?` hands on. Assumes nothing.
use Rattle.std.specs.Prelude.{◌≡◌, Result, Err}
use Rattle.std.specs.Result.{IsErrAnd}
use Rattle.std.proofs.Common.{ap, ◌∙◌}
use Rattle.std.proofs.lemmas.Result.{err_from_is_err_and}
use Rattle.refusal.specs.declared.Refusal.{Refusal}

-- A refusal that a call met is the one that its caller answers.
pub handed-on : {T : Type 0} (answer : Result T Refusal) (r : Refusal) → IsErrAnd answer (λ e. e ≡ r) → answer ≡ Err r
handed-on answer r h = let p = err_from_is_err_and answer h in p.1 ∙ ap Err p.2
