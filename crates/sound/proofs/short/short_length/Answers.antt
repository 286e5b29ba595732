-- `sound::short::short_length` meets its contract: laws of RingShort at the two ways out with a length. Assumes nothing.
use native.Mathlib.Omega.{arith}
use mathlib.Core.Path.{sym, ◌∙◌}
use Rattle.sound.proofs.RingShort.{three-told, four-told}
use Rattle.sound.proofs.short.short_length.Goals as goal

pub returns-then-q-p : goal.returns-then-q-p
returns-then-q-p c =
    let a = c.args in
    let p = c.row_at-p in
    let q = c.row_at-q in
    let z = c.row_at-z in
    λ m ea ef. (omega arith, three-told a.arcs.now a.first a.f p.result q.result z.result p.ensures q.ensures z.ensures c.if-z-first.false c.if-q-p.true (sym c.three_rows.ensures ∙ c.if-not-three_rows.false) m ea ef)

pub returns : goal.returns
returns c =
    let a = c.args in
    let p = c.row_at-p in
    let q = c.row_at-q in
    let z = c.row_at-z in
    let r = c.row_at-r in
    λ m ea ef. (omega arith, four-told a.arcs.now a.first a.f p.result q.result z.result p.ensures q.ensures z.ensures c.if-z-first.false r.result r.ensures c.if-r-p.false (sym c.four_rows.ensures ∙ c.if-not-four_rows.false) m ea ef)
