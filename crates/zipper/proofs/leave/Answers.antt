use native.Mathlib.Omega.{arith}
use mathlib.Core.Path.{refl, sym, ap, ◌∙◌}
use Prim.Native.Nat.{ℕ, ◌+◌, ◌-◌}
use Rattle.terms.specs.Record.{kind_at}
use Rattle.terms.specs.Read.Laws.{arity-zero, arity-leaf, arity-one, arity-two, arity-none}
use Rattle.terms.specs.Walk.{many}
use Rattle.terms.proofs.Pass.{many-leaf, many-lam, many-pair, many-later}
use Rattle.zipper.proofs.Leaving.{started, within, never, kind-read, ended, onward}
use Rattle.zipper.proofs.leave.Goals as goal
use Rattle.zipper.proofs.leave.Goals.{in-4, in-1-to-3+else-wanted-eq0, in-5-to-7, in-9-to-10, in_default-via-then-kind-lt1, in_default-via-else-kind-lt1+else-kind-lt4+else-kind-lt8+then-kind-lt9, in_default-via-else-kind-lt1+else-kind-lt4+else-kind-lt8+else-kind-lt9+else-kind-lt11}

pub loop-i-init : goal.loop-i-init
loop-i-init c = (started _ _ _ c.requires.whole, refl, λ j. (c.type_inv.e j).fits)

pub returns-then-wanted-eq0-clause-right : goal.returns-then-wanted-eq0-clause-right
returns-then-wanted-eq0-clause-right c =
    let h = c.loop-i.invariant.0 in
    let k = kind-read _ _ _ c.requires.l_le_r h c.loop-i.invariant.2 _ c.read-record.ensures in
    (ended _ _ _ c.requires.l_le_r h c.loop-i.invariant.2 _ c.read-record.ensures _ c.write.ensures _
    (many-leaf _ _ (within _ _ _ c.requires.l_le_r h) _ h.some (arity-leaf _ (omega (arith, k)) (omega (arith, k)))) c.if-wanted-eq0.true).0

pub returns-then-wanted-eq0-clause-copied : goal.returns-then-wanted-eq0-clause-copied
returns-then-wanted-eq0-clause-copied c =
    let h = c.loop-i.invariant.0 in
    let k = kind-read _ _ _ c.requires.l_le_r h c.loop-i.invariant.2 _ c.read-record.ensures in
    (ended _ _ _ c.requires.l_le_r h c.loop-i.invariant.2 _ c.read-record.ensures _ c.write.ensures _
    (many-leaf _ _ (within _ _ _ c.requires.l_le_r h) _ h.some (arity-leaf _ (omega (arith, k)) (omega (arith, k)))) c.if-wanted-eq0.true).1

pub unreachable-requires : goal.unreachable-requires
unreachable-requires c =
    let h = c.loop-i.invariant.0 in
    let k = kind-read _ _ _ c.requires.l_le_r h c.loop-i.invariant.2 _ c.read-record.ensures in
    never _ _ _ c.requires.l_le_r h elim c.in_default.branch [
      | in_default-via-then-kind-lt1 w ↦ arity-zero _ (omega (arith, k))
      | in_default-via-else-kind-lt1+else-kind-lt4+else-kind-lt8+then-kind-lt9 w ↦ arity-none _ (omega (arith, k)) (λ y. omega (arith, k)) (λ y. omega (arith, k))
      | in_default-via-else-kind-lt1+else-kind-lt4+else-kind-lt8+else-kind-lt9+else-kind-lt11 w ↦ arity-none _ (omega (arith, k)) (λ y. omega (arith, k)) (λ y. omega (arith, k))
    ]

pub loop-i-preserved : goal.loop-i-preserved
loop-i-preserved c =
    let e = c.args.e.now in
    let i = c.loop-i.i in
    let v = c.loop-i.wanted in
    let h = c.loop-i.invariant.0 in
    let bytes = c.loop-i.invariant.2 in
    let n = within _ _ _ c.requires.l_le_r h in
    let k = kind-read _ _ _ c.requires.l_le_r h bytes _ c.read-record.ensures in
    let on = onward _ _ _ c.requires.l_le_r h bytes _ c.read-record.ensures _ c.write.ensures in
    elim c.match-kind.branch [
      | in-4 w ↦ (on _ (many-lam e i n v h.some (arity-one (kind_at e i) (omega (arith, k))) ∙ ap (λ (m : ℕ). many m e (i + 1)) (sym w.wanted-is)) (omega arith) (omega arith), omega arith, bytes)
      | in-1-to-3+else-wanted-eq0 w ↦ (on _ (many-leaf e i n v h.some (arity-leaf (kind_at e i) (omega (arith, k)) (omega (arith, k))) ∙ ap (λ (m : ℕ). many m e (i + 1)) (sym w.wanted-is)) (omega arith) (omega arith), omega arith, bytes)
      | in-5-to-7 w ↦ (on _ (many-pair e i n v h.some (arity-two (kind_at e i) (omega (arith, k)) (omega (arith, k))) ∙ ap (λ (m : ℕ). many m e (i + 1)) (sym w.wanted-is)) (omega arith) (omega arith), omega arith, bytes)
      | in-9-to-10 w ↦ (on _ (many-later e i n v h.some (omega (arith, k)) (omega (arith, k)) _ (w.further-wanted.ensures ∙ ap (λ (m : ℕ). m - 8) k) ∙ ap (λ (m : ℕ). many m e (i + 1)) (sym w.wanted-is)) (omega arith) (omega arith), omega arith, bytes)
    ]

pub unreachable-requires-2 : goal.unreachable-requires-2
unreachable-requires-2 c = let n = within _ _ _ c.requires.l_le_r c.loop-i.invariant.0 in omega arith
