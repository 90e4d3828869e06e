-- `u64::read` meets its contract. Assumes nothing.
use Rattle.std.proofs.Common.{◌∙◌}
use Rattle.words.proofs.Laws.{number-read}
use Rattle.words.proofs.U64Number.read.Goals as goal

pub returns : goal.returns
returns c = c.from_le_bytes.ensures ∙ number-read 7 _ _ c.array.ensures c.requires
