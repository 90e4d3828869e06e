-- The stack of open abstractions. Assumes nothing.
use Rattle.std.specs.Prelude.{cond, List, ℕ, zero, suc, eqb, get_or}

-- How many of d abstractions stay open when so many terms are to come: the innermost ends where its entry is that count.
unfoldable pub closed : List ℕ → ℕ → ℕ → ℕ
closed st need zero = zero
closed st need (suc d) = cond (eqb (get_or st d 0) need) (closed st need d) (suc d)
