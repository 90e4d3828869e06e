-- The outcomes of runs and their numbers. Assumes nothing.
use Rattle.std.specs.Prelude.{ℕ}
use Rattle.calculus.specs.Run as runs
use Rattle.calculus.specs.Run.Outcome.{value, stuck, spent, large, full}
use Rattle.machine.specs.declared.Outcome.{Outcome}
use Rattle.machine.specs.declared.Outcome.TheVariants.{Value, Stuck, Spent, Large, Full}

-- An outcome of the calculus's runs, as the program answers it.
abbrev pub outcome_of : runs.Outcome → Outcome
outcome_of value = Value
outcome_of stuck = Stuck
outcome_of spent = Spent
outcome_of large = Large
outcome_of full = Full

-- Its number for callers.
abbrev pub outcome_number : Outcome → ℕ
outcome_number Value = 0
outcome_number Stuck = 1
outcome_number Spent = 2
outcome_number Large = 3
outcome_number Full = 4
