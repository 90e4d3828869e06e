-- The laws of `file_from`: its one equation and the induction by which other modules go. Below `File`, so that they may unfold what is shut there.
-- Assumes nothing.
use Rattle.std.specs.Prelude.{Bool, true, false, List, ◌≡◌, refl, ℕ, zero, suc, ◌+◌, ◌-◌, ◌<◌, ◌≤◌}
use Rattle.std.proofs.Common.{ap, arith, le-ltb}
use Rattle.std.proofs.Math.Decide.{dec_lt}
use Rattle.terms.specs.Record.{count, record_number}
use Rattle.terms.specs.Read.{Read, read_at}
use Rattle.terms.specs.Read.Read.{got, stuck}
use Rattle.terms.specs.Read.Laws.{Beyond, beyond}
use Rattle.script.specs.File.{File, add_definition, definition_at, is_definition, file_step, file_f, file_from}
use Rattle.script.specs.File.File.{broken}

-- Past the end no definition begins.
pub definition-past : (s : List ℕ) (i : ℕ) → count s ≤ i → is_definition s i ≡ false
definition-past s i h = rw (le-ltb i (count s) h)

-- ---- the fuel does not matter, where it is enough

-- A definition looks only at what stands after it.
definition-cong : (s : List ℕ) (i : ℕ) (r : Read) (go go' : ℕ → File) → Beyond (i + 1) r → ((j : ℕ) → i < j → go j ≡ go' j)
    → definition_at s i r go ≡ definition_at s i r go'
definition-cong s i (got b j) go go' h e = ap (add_definition record { place = i; number = record_number s i; body = b }) (e j (omega arith))
definition-cong s i (stuck j) go go' h e = refl

-- So does a step.
step-cong : (d : Bool) (s : List ℕ) (i : ℕ) (go go' : ℕ → File) → ((j : ℕ) → i < j → go j ≡ go' j) → file_step d s i go ≡ file_step d s i go'
step-cong true s i go go' e = definition-cong s i (read_at s (i + 1)) go go' (beyond s (i + 1)) e
step-cong false s i go go' e = refl

-- Past the end only the main term is looked for, whatever is left of the fuel.
step_past : (s : List ℕ) (i : ℕ) (go go' : ℕ → File) → count s ≤ i → file_step (is_definition s i) s i go ≡ file_step (is_definition s i) s i go'
step_past s i go go' h = rw (definition-past s i h)

-- Any two fuels that are enough give the same file.
same : (s : List ℕ) (f g i : ℕ) → count s - i < f → count s - i < g → file_f f s i ≡ file_f g s i
unfolding file_f
same s zero g i hf hg = absurd (omega arith)
same s (suc f) zero i hf hg = absurd (omega arith)
same s (suc f) (suc g) i hf hg = on (dec_lt i (count s)) (λ j h k. same s f g j h k)
  where
    on : Dec (i < count s) → ((j : ℕ) → count s - j < f → count s - j < g → file_f f s j ≡ file_f g s j) → file_step (is_definition s i) s i (file_f f s) ≡ file_step (is_definition s i) s i (file_f g s)
    on (yes l) below = step-cong (is_definition s i) s i (file_f f s) (file_f g s) (λ j h. below j (omega arith) (omega arith))
    on (no l) below = step_past s i (file_f f s) (file_f g s) (omega arith)

-- The one equation of `file_from`: all that a proof needs of it.
pub file-step : (s : List ℕ) (i : ℕ) → file_from s i ≡ file_step (is_definition s i) s i (file_from s)
unfolding file_f file_from
file-step s i = on (dec_lt i (count s))
  where
    on : Dec (i < count s) → file_step (is_definition s i) s i (file_f (count s - i) s) ≡ file_step (is_definition s i) s i (file_from s)
    on (yes l) =
        step-cong (is_definition s i) s i (file_f (count s - i) s) (file_from s)
        (λ j h. same s (count s - i) (suc (count s - j)) j (omega arith) (omega arith))
    on (no l) = step_past s i (file_f (count s - i) s) (file_from s) (omega arith)

-- What a step keeps holds of `file_from`: the induction that a proof of another module goes by.
pub file-ind : (P : ℕ → File → Type 0) (s : List ℕ) → ((i : ℕ) → P i (broken i))
    → ((i : ℕ) (go : ℕ → File) → ((j : ℕ) → P j (go j)) → P i (file_step (is_definition s i) s i go)) → (i : ℕ) → P i (file_from s i)
unfolding file_f file_from
file-ind P s z h i = go (suc (count s - i)) i
  where
    go : (f i : ℕ) → P i (file_f f s i)
    go zero i = z i
    go (suc f) i = h i (file_f f s) (go f)
