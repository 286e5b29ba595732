-- `pairs::near::note_listed` meets its contract. The loop keeps the link noted at as many pairs as it passed; laws of Lookup. Assumes nothing.
use Rattle.pairs.proofs.Lookup.{noted_here, noted-starts, noted-leads}
use Rattle.pairs.proofs.near.note_listed.Goals as goal
use Rattle.pairs.proofs.near.note_listed.Goals.{then-s-from+then-d-to, else-s-from, else-s-from-via-then-s-from+else-d-to, else-s-from-via-else-s-from}

pub loop-i-preserved : goal.loop-i-preserved
loop-i-preserved c =
    let a = c.args in
    let i = c.loop-i.i in
    let f = a.from.now in
    let t = a.to.now in
    elim c.if-s-from.branch [
      | then-s-from+then-d-to w ↦
          rw w.at-is (noted_here f t a.s a.d a.x a.at.now i c.loop-i.at c.loop-i.invariant w.lower.result w.if-s-from.true w.if-d-to.true w.lower.ensures)
      | else-s-from w ↦
          rw w.at-is (elim w.else-s-from.branch [
            | else-s-from-via-then-s-from+else-d-to v ↦ noted-leads f t a.s a.d a.x a.at.now i c.loop-i.at c.loop-i.invariant v.if-s-from.true v.if-d-to.false
            | else-s-from-via-else-s-from v ↦ noted-starts f t a.s a.d a.x a.at.now i c.loop-i.at c.loop-i.invariant v.if-s-from.false
          ])
    ]
