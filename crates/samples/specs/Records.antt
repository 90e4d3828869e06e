-- The bytes of records (document 01, "Script records" and "Guideline records"). Assumes nothing.
use Rattle.std.specs.Prelude.{List, [], ◌∷◌, ◌++◌, ℕ}
use Rattle.std.specs.Int.{to_le_bytes, w32}
use Rattle.samples.specs.declared.ScriptRecord.{ScriptRecord}
use Rattle.samples.specs.declared.ScriptRecord.TheVariants.{Variable, Function, Constant, Abstraction, Application, CallEvent, Emit, Definition, Sum, Branch, Faulty}
use Rattle.samples.specs.declared.GuidelineRecord.{GuidelineRecord}
use Rattle.samples.specs.declared.GuidelineRecord.TheVariants.{Fact, Head, Atom, Logged, Trigger, Earlier, Holds, NoCall}

-- ---- scripts

abbrev pub script_kind : ScriptRecord → ℕ
script_kind (Variable n) = 1
script_kind (Function n) = 2
script_kind (Constant n) = 3
script_kind (Abstraction n) = 4
script_kind Application = 5
script_kind (CallEvent n) = 6
script_kind (Emit n) = 7
script_kind (Definition n) = 8
script_kind Sum = 9
script_kind Branch = 10
script_kind (Faulty k b n) = k

abbrev pub script_spare : ScriptRecord → ℕ
script_spare (Faulty k b n) = b
script_spare r = 0

abbrev pub script_number : ScriptRecord → ℕ
script_number (Variable n) = n
script_number (Function n) = n
script_number (Constant n) = n
script_number (Abstraction n) = n
script_number Application = 0
script_number (CallEvent n) = n
script_number (Emit n) = n
script_number (Definition n) = n
script_number Sum = 0
script_number Branch = 0
script_number (Faulty k b n) = n

-- "byte 0 the kind, bytes 1 to 3 zero, bytes 4 to 7 a 32-bit number", where byte 1 may be faulty
abbrev pub script_bytes : ScriptRecord → List ℕ
script_bytes r = script_kind r ∷ script_spare r ∷ 0 ∷ 0 ∷ to_le_bytes w32 (script_number r)

-- ---- guidelines

-- The kind and bytes 1 to 3.
abbrev pub guideline_head : GuidelineRecord → List ℕ
guideline_head (Fact a b) = 1 ∷ 0 ∷ 3 ∷ 3 ∷ []
guideline_head (Head p x y) = 2 ∷ p ∷ x ∷ y ∷ []
guideline_head (Atom p x y) = 3 ∷ p ∷ x ∷ y ∷ []
guideline_head (Logged f) = 4 ∷ 0 ∷ 0 ∷ 0 ∷ []
guideline_head (Trigger f) = 5 ∷ 0 ∷ 0 ∷ 0 ∷ []
guideline_head (Earlier i j) = 6 ∷ 0 ∷ i ∷ j ∷ []
guideline_head (Holds p i j) = 7 ∷ p ∷ i ∷ j ∷ []
guideline_head (NoCall i f) = 9 ∷ 0 ∷ i ∷ 0 ∷ []

-- The numbers of bytes 4 to 11.
abbrev pub first_number : GuidelineRecord → ℕ
first_number (Fact a b) = a
first_number (Head p x y) = 0
first_number (Atom p x y) = 0
first_number (Logged f) = f
first_number (Trigger f) = f
first_number (Earlier i j) = 0
first_number (Holds p i j) = 0
first_number (NoCall i f) = f

abbrev pub second_number : GuidelineRecord → ℕ
second_number (Fact a b) = b
second_number r = 0

abbrev pub guideline_bytes : GuidelineRecord → List ℕ
guideline_bytes r = guideline_head r ++ (to_le_bytes w32 (first_number r) ++ (to_le_bytes w32 (second_number r) ++ (0 ∷ 0 ∷ 0 ∷ 0 ∷ [])))
