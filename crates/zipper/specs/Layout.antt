-- The zipper in its buffers: what stands before the focus at the front of e, the focus and what follows it at e's end, the places of the
-- frames around the focus in fs. Assumes nothing.
use Rattle.std.specs.Prelude.{Bool, true, false, List, [], ◌∷◌, ◌++◌, ◌≡◌, ℕ, ◌+◌, ◌*◌, ◌≤◌, length, take, drop, slice_get, Some}
use Rattle.calculus.specs.Term.{Term, records, Bare}
use Rattle.terms.specs.Record.{record8}
use Rattle.terms.specs.Encode.{encode, Fits}
use Rattle.zipper.specs.Frame.{Frame, kind_of, plug, Fine}
use Rattle.zipper.specs.Frame.Frame.{to_come, done, choosing}
use Rattle.zipper.specs.declared.Entry.{Entry}

-- The bytes between a frame's record and the focus: a part that is done.
abbrev pub between : Frame → List ℕ
between (to_come w b) = []
between (done w a) = encode a
between (choosing a b) = []

-- The same in records.
abbrev pub gone : Frame → ℕ
gone (to_come w b) = 0
gone (done w a) = records a
gone (choosing a b) = 0

-- The bytes after the focus, with those after the frame: the parts to come.
abbrev pub after : Frame → List ℕ → List ℕ
after (to_come w b) rest = encode b ++ rest
after (done w a) rest = rest
after (choosing a b) rest = encode a ++ (encode b ++ rest)

-- The bytes before the focus: each frame's record, and the part that is done.
abbrev pub lefts : List Frame → List ℕ
lefts [] = []
lefts (f ∷ K) = lefts K ++ record8 (kind_of f) 0 (between f)

-- The bytes after the focus.
abbrev pub rights : List Frame → List ℕ
rights [] = []
rights (f ∷ K) = after f (rights K)

-- The records before the focus; for the frames below a frame, the place of its record.
abbrev pub left_size : List Frame → ℕ
left_size [] = 0
left_size (f ∷ K) = left_size K + 1 + gone f

-- Whether a frame's first part is done.
abbrev pub is_half_done : Frame → Bool
is_half_done (to_come w b) = false
is_half_done (done w a) = true
is_half_done (choosing a b) = false

-- The stack of entries, the outermost frame's first: the place of the frame's record, and whether its first part is done.
abbrev pub Stack : List Entry → List Frame → Type 0
Stack fs [] = Unit {0}
Stack fs (f ∷ K) = (slice_get fs (length K) ≡ Some record { place = left_size K; done = is_half_done f }) × Stack fs K

-- An expression that a run holds: no command in it, numbers of four bytes, at most 1,024 records.
pub record Expression (T : Term) : Type 0 where
  pub bare : Bare T
  pub fits : Fits T
  pub small : records T ≤ 1024

-- e and fs hold the focus t in the frames K: l records at the front, a gap, the rest from record r on, and n entries.
pub record Zip (e : List ℕ) (fs : List Entry) (l r n : ℕ) (K : List Frame) (t : Term) : Type 0 where
  pub left : take (8 * l) e ≡ lefts K
  pub right : drop (8 * r) e ≡ encode t ++ rights K
  pub sized : l ≡ left_size K
  pub order : l ≤ r
  pub deep : n ≡ length K
  pub stack : Stack fs K
  pub fine : Fine K
  pub sound : Expression (plug K t)
  pub wide : length e ≡ 24576
  pub high : 1024 ≤ length fs
