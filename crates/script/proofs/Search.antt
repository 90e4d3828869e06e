-- A search through a file, record by record, and the count of its commands. Assumes nothing.
use mathlib.Core.Bool.{Bool, true, false, cond}
use mathlib.Core.List.{List}
use mathlib.Core.Path.{◌≡◌, refl, sym, ap, ◌∙◌}
use Prim.Native.Nat.{ℕ, zero, suc, ◌+◌, ◌-◌, ◌<◌, ◌≤◌}
use native.Mathlib.Omega.{arith}
use native.Mathlib.Numerals.{add-one}
use lib.ListN.{length}
use Rattle.std.specs.List.{filter, range_with_len}
use Rattle.terms.specs.Record.{count}
use Rattle.refusal.specs.First.{first_from, first_below, first_on}
use Rattle.script.specs.Check.{is_command, commands_below}

-- ---- a search

module _ (p : ℕ → Bool) (n : ℕ) where
  -- It has come to record i of n: what is found from there on is what is found at all.
  pub record Searched (i : ℕ) : Type 0 where
    pub within : i ≤ n
    pub same : first_from p i (n - i) ≡ first_below p n

  -- A record that the test passes by.
  pub search-on : {b : Bool} (i : ℕ) → Searched i → i < n → b ≡ p i → b ≡ false → Searched (i + 1)
  search-on i h l e o = record { within = omega arith; same = sym (first_on p n i l (sym e ∙ o)) ∙ h.same }

-- ---- a count

-- Those among the n records from a on, and those before.
commands-from : (s : List ℕ) (a n j : ℕ) → a + n ≡ j → length (filter (is_command s) (range_with_len a n)) + commands_below s a ≡ commands_below s j
unfolding commands_below
commands-from s a zero j l = let z : a ≡ j = omega arith in let q : commands_below s a ≡ commands_below s j = ap (commands_below s) z in omega arith
commands-from s a (suc n) j l = on (is_command s a) refl (commands-from s (a + 1) n j (omega arith))
  where
    on : (b : Bool) → is_command s a ≡ b → length (filter (is_command s) (range_with_len (a + 1) n)) + commands_below s (a + 1) ≡ commands_below s j
        → length (filter (is_command s) (range_with_len a (suc n))) + commands_below s a ≡ commands_below s j
    on true e h = let q : commands_below s (a + 1) ≡ suc (commands_below s a) = rw (add-one a, e) (omega arith) in rw e (omega arith)
    on false e h = let q : commands_below s (a + 1) ≡ commands_below s a = rw (add-one a, e) (omega arith) in rw e (omega arith)

commands-few : (s : List ℕ) (n : ℕ) → commands_below s n ≤ n
unfolding commands_below
commands-few s zero = omega arith
commands-few s (suc n) = on (is_command s n) (commands-few s n)
  where
    on : (b : Bool) → commands_below s n ≤ n → cond b 1 0 + commands_below s n ≤ suc n
    on true h = omega arith
    on false h = omega arith

pub commands-counted : (s : List ℕ) {k : ℕ} → k ≡ length (filter (is_command s) (range_with_len 0 (count s))) → (k ≡ commands_below s (count s)) × (k ≤ count s)
unfolding commands_below
commands-counted s e = let h = commands-from s 0 (count s) (count s) (omega arith) in let f = commands-few s (count s) in (omega arith, omega arith)
