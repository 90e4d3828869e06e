use Rattle.rewriting.proofs.Marking.{marks-none, marks-on, marks-past}
use Rattle.rewriting.proofs.marks_of.Goals.{then-f-lt128, else-f-lt128}
use Rattle.rewriting.proofs.marks_of.Goals as goal

pub loop-i-init : goal.loop-i-init
loop-i-init c = marks-none _

pub loop-i-preserved : goal.loop-i-preserved
loop-i-preserved c =
    elim c.if-f-lt128.branch [
      | then-f-lt128 w ↦ rw w.marks-is (marks-on c.loop-i.invariant c.first_number-f.ensures w.if-f-lt128.true w.marked.ensures)
      | else-f-lt128 w ↦ rw w.marks-is (marks-past c.loop-i.invariant c.first_number-f.ensures w.if-f-lt128.false)
    ]
