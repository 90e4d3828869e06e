-- `zipper::load` meets its contract: the term's bytes are all that the script has from its record on. Assumes nothing.
use native.Mathlib.Omega.{arith}
use mathlib.Core.Path.{refl}
use Rattle.zipper.proofs.Ends.{last-bounds, load_is}
use Rattle.zipper.proofs.load.Goals as goal

pub overflow_mul-n : goal.overflow_mul-n
overflow_mul-n c = let b = last-bounds c.requires in omega arith

pub overflow_sub-n : goal.overflow_sub-n
overflow_sub-n c = let b = last-bounds c.requires in omega arith

pub overflow_sub-n-2 : goal.overflow_sub-n-2
overflow_sub-n-2 c = let b = last-bounds c.requires in omega arith

pub overflow_mul-main : goal.overflow_mul-main
overflow_mul-main c = let b = last-bounds c.requires in omega arith

pub copy-requires : goal.copy-requires
copy-requires c = let b = last-bounds c.requires in omega arith

pub overflow_sub-result : goal.overflow_sub-result
overflow_sub-result c = let b = last-bounds c.requires in omega arith

pub returns : goal.returns
returns c = load_is c.requires _ _ _ refl c.copy.ensures
