-- `script::first_malformed` meets its contract. Assumes nothing.
use mathlib.Core.Bool.{true, false}
use mathlib.Core.Path.{◌≡◌}
use borrow.Author.Rules.{rules}
use Rattle.std.proofs.lemmas.Iterator.{first_from_Range}
use Rattle.refusal.specs.Refusal.{found_is}
use Rattle.script.specs.Check.{malformed}
use Rattle.script.proofs.first_malformed.Goals as goal

pub returns : goal.returns
returns c =
    let p = malformed c.args.s.now in
    found_is p _ _ (first_from_Range _ _ _ _ (λ i. p i ≡ true) (λ i. p i ≡ false) c.find.ensures.ran (λ x q k. search rules) (λ x q k. (search rules, search rules)))
