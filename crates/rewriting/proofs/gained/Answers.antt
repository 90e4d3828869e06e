-- `rewriting::gained` meets its contract. Assumes nothing.
use mathlib.Core.Path.{◌∙◌}
use native.Mathlib.Omega.{arith}
use borrow.Author.Rules.{rules}
use lib.ListN.{take}
use Rattle.std.proofs.lemmas.Iterator.{YieldsList-from_slice, YieldsList-from_map}
use Rattle.std.proofs.lemmas.Iterator.Consumers.{sum_by_from_yields_List, fits_by_from_yields_list}
use Rattle.rewriting.proofs.Marking.{gains-sum}
use Rattle.rewriting.proofs.gained.Goals as goal

pub sum-requires-clause-fits : goal.sum-requires-clause-fits
sum-requires-clause-fits c =
    let ms = c.args.marks.now in
    fits_by_from_yields_list (λ x. x) (take c.args.n ms) c.map.result _
    (YieldsList-from_map _ (λ x. x) (YieldsList-from_slice _ cc) c.map.ensures.closure (λ x r q k. search rules))
    (omega (arith, c.requires, gains-sum ms c.fits-marks 0 c.args.n (omega (arith, c.told-marks, c.requires))))

pub returns : goal.returns
returns c =
    let ms = c.args.marks.now in
    let h = gains-sum ms c.fits-marks 0 c.args.n (omega (arith, c.told-marks, c.requires)) in
    let e = sum_by_from_yields_List (λ x. x) (take c.args.n ms) c.map.result _ c.sum.ensures.ran
    (YieldsList-from_map _ (λ x. x) (YieldsList-from_slice _ cc) c.map.ensures.closure (λ x r q k. search rules)) in
    (e ∙ h.0, omega (arith, e, h))
