use Rattle.std.proofs.Common.{◌<◌, length, drop, arith, length-drop, get_or-drop}
use Rattle.std.proofs.lemmas.List.Edits.{paste_more}
use Rattle.words.proofs.copy.Goals as goal

pub loop-i-preserved : goal.loop-i-preserved
loop-i-preserved c =
    let s : c.loop-i.i < length (drop c.args.from c.args.u.now) = simp length-drop (omega arith) in
    rw (c.loop-i.invariant, ← get_or-drop c.args.from c.args.u.now c.loop-i.i 0) (paste_more c.args.b.now c.args.at _ c.loop-i.i 0 (omega arith) s)
