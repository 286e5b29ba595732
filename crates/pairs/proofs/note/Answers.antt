-- `pairs::note` meets its contract. The loop keeps the arc noted at as many pairs as it passed; laws of Steps. Assumes nothing.
use Prim.Native.Nat.{◌<◌}
use native.Mathlib.Omega.{arith}
use mathlib.Core.Path.{◌≡◌, refl, ◌∙◌}
use lib.ListN.{length}
use borrow.Author.Rules.{rules}
use borrow.Author.Tests.{eq-eqb, ne_eqb}
use Rattle.rules.specs.Table.{up_to}
use Rattle.rules.specs.Mesh.{list_of}
use Rattle.lists.proofs.Laws.{list-size}
use Rattle.pairs.specs.Pairs.{noted}
use Rattle.pairs.proofs.Steps.{pair-starts, pair-elsewhere, note-here, note-next}
use Rattle.pairs.proofs.note.Goals as goal
use Rattle.pairs.proofs.note.Goals.{then-s-per+then-leads_to, else-s-per, else-s-per-via-then-s-per+else-leads_to, else-s-per-via-else-s-per}

pub returns-then-s-eq0 : goal.returns-then-s-eq0
unfolding noted
returns-then-s-eq0 c = rw (eq-eqb _ _ c.if-s-eq0.true)

pub loop-i-init : goal.loop-i-init
unfolding up_to
loop-i-init c = refl

pub leads_to-requires : goal.leads_to-requires
leads_to-requires c =
    omega (arith, list-size c.args.per c.min-i-end.result (search rules) c.min-i-end.ensures, c.loop-i-test.true)

pub loop-i-preserved : goal.loop-i-preserved
loop-i-preserved c =
    let a = c.args in
    let per = list_of a.per in
    let i = c.loop-i.i in
    let on : i < length per = omega (arith, list-size a.per c.min-i-end.result (search rules) c.min-i-end.ensures, c.loop-i-test.true) in
    let next = note-next per a.s a.d a.x a.at.now c.loop-i.at i c.loop-i.invariant in
    elim c.if-s-per.branch [
      | then-s-per+then-leads_to w ↦
          w.at-is ∙ note-here per a.s a.d a.x a.at.now c.loop-i.at i c.loop-i.invariant w.or_else.result
          (pair-starts a.per i a.s a.d on w.if-s-per.true w.leads_to.result w.leads_to.ensures ∙ w.if-leads_to.true) w.or_else.ensures
      | else-s-per w ↦
          w.at-is ∙ next (elim w.else-s-per.branch [
            | else-s-per-via-then-s-per+else-leads_to v ↦
                pair-starts a.per i a.s a.d on v.if-s-per.true v.leads_to.result v.leads_to.ensures ∙ v.if-leads_to.false
            | else-s-per-via-else-s-per v ↦ pair-elsewhere a.per i a.s a.d on v.if-s-per.false
          ])
    ]

pub returns : goal.returns
unfolding noted
returns c =
    let a = c.args in
    let all : c.loop-i.i ≡ length (list_of a.per) = omega (arith, c.loop-i.auto.i-end, c.loop-i-test.false, list-size a.per c.min-i-end.result (search rules) c.min-i-end.ensures) in
    rw (ne_eqb _ _ c.if-s-eq0.false) (rw all at c.loop-i.invariant)
