-- `pairs::near::Nearby::listed` meets its contract. The loop keeps at each pair the least link among those passed by; laws of Lookup. Assumes nothing.
use Prim.Native.Nat.{◌≤◌, ◌<◌}
use native.Mathlib.Omega.{arith}
use mathlib.Core.Path.{◌≡◌, sym, ◌∙◌}
use lib.ListN.{length, get_or, take}
use Rattle.rules.specs.Mesh.{list_of}
use borrow.Author.Rules.{rules}
use Rattle.lists.proofs.Laws.{list-size, list-few}
use Rattle.pairs.proofs.Steps.{item-is}
use Rattle.pairs.proofs.Lookup.{all_from, all-early, sought-skip, sought-note, sought-read, sought-end}
use Rattle.pairs.proofs.near.Nearby.listed.Goals as goal
use Rattle.pairs.proofs.near.Nearby.listed.Goals.{then-s-eq0+else-k-self, else-s-eq0+then-may_leave, else-s-eq0+else-may_leave}

pub returns-then-k-self : goal.returns-then-k-self
returns-then-k-self g c =
    let a = c.args in
    let n = c.min-len.result in
    let en = list-size a.per n (search rules) c.min-len.ensures in
    let few = list-few a.per (search rules) in
    let arcs = a.arcs.now in
    let by = a.self.now in
    let t = c.requires.told.0 in
    let unused = sym c.cell-s.ensures ∙ c.if-s-eq0.true in
    sought-end arcs a.per.at c.ends-to.result n (list_of a.per) en (item-is a.per) c.ends-to.ensures (take c.loop-k.k by.links) c.loop-k.at few t.fits (λ i q. all-early arcs by.links by.len by.used c.loop-k.k (get_or (list_of a.per) i 0) t.listing.ends c.if-k-self.true c.loop-k-test.true unused (all_from arcs by.seen (take by.len by.links) by.spare by.used (get_or (list_of a.per) i 0) t.listing (c.requires.told.1 i q))) c.loop-k.invariant

pub loop-k-preserved : goal.loop-k-preserved
loop-k-preserved g c =
    let a = c.args in
    let n = c.min-len.result in
    let en = list-size a.per n (search rules) c.min-len.ensures in
    let few = list-few a.per (search rules) in
    let arcs = a.arcs.now in
    let f = a.per.at in
    let t = c.ends-to.result in
    let size = n in
    let near = a.self.now.links in
    let x = get_or near c.loop-k.k 0 in
    let s = c.cell-s in
    let list = take c.loop-k.k near in
    let most : size ≤ 64 = omega (arith, en, few) in
    sought-read arcs f t size near c.loop-k.k c.if-s-eq0.at
    (elim c.if-s-eq0.branch [
      | then-s-eq0+else-k-self w ↦
          rw w.at-is (sought-skip arcs f t size list x c.loop-k.at c.loop-k.invariant (λ i q ne e. ne (sym e ∙ sym s.ensures ∙ w.if-s-eq0.true)))
      | else-s-eq0+then-may_leave w ↦
          rw w.at-is (sought-note arcs f t size list x c.loop-k.at c.loop-k.invariant s.result w.cell.result w.note_listed.new.at most s.ensures w.cell.ensures w.if-s-eq0.false w.note_listed.ensures)
      | else-s-eq0+else-may_leave w ↦
          rw w.at-is (sought-skip arcs f t size list x c.loop-k.at c.loop-k.invariant (λ i q ne e.
          let on : i < length (list_of a.per) = omega (arith, en) in
          let is : s.result ≡ get_or (list_of a.per) i 0 = s.ensures ∙ e ∙ item-is a.per i on in
          c.requires.leaves i on (rw (is, w.if-may_leave.false) at w.may_leave.ensures)))
    ])

pub returns : goal.returns
returns g c =
    let a = c.args in
    let n = c.min-len.result in
    let en = list-size a.per n (search rules) c.min-len.ensures in
    let few = list-few a.per (search rules) in
    let arcs = a.arcs.now in
    let by = a.self.now in
    let t = c.requires.told.0 in
    let all : c.loop-k.k ≡ by.len = omega (arith, c.loop-k.auto.k-end t.most, c.loop-k-test.false) in
    sought-end arcs a.per.at c.ends-to.result n (list_of a.per) en (item-is a.per) c.ends-to.ensures (take by.len by.links) c.loop-k.at few t.fits (λ i q. all_from arcs by.seen (take by.len by.links) by.spare by.used (get_or (list_of a.per) i 0) t.listing (c.requires.told.1 i q)) (rw all at c.loop-k.invariant)
