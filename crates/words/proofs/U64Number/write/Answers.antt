-- `u64::write` meets its contract. Assumes nothing.
use Rattle.std.proofs.Common.{ap, ◌∙◌}
use Rattle.words.specs.Put.{put}
use Rattle.words.proofs.Laws.{bytes-are}
use Rattle.words.proofs.U64Number.write.Goals as goal

pub returns : goal.returns
returns c = c.write.ensures ∙ ap (put _ _) (c.to_le_bytes.ensures ∙ bytes-are 8 _)
