-- The loop has written the lines of the links that it passed, each of at most 128 bytes. Assumes nothing.
use native.Mathlib.Omega.{arith}
use Prim.Native.Nat.{ℕ}
use mathlib.Core.List.{List}
use Rattle.orders.specs.Order.{links_of}
use mathlib.Core.Path.{◌≡◌, refl, ap, ◌∙◌}
use lib.ListN.{take}
use lib.Seq.{length-take-le, take_all}
use borrow.Author.Rules.{rules}
use Rattle.rules.specs.Lent.{mesh_in}
use Rattle.script.specs.Texts.{wrote}
use Rattle.script.proofs.Writes.{wrote_none}
use Rattle.listing.specs.Lines.{line_of, joined_lines, kind_text}
use Rattle.listing.proofs.Lining.{line-more}
use Rattle.listing.proofs.listed.put_records.Goals as goal

pub loop-x-init : goal.loop-x-init
unfolding joined_lines
loop-x-init c = (search rules, (refl, wrote_none c.args.out.now 0 (omega arith)))

pub put_line-at-requires : goal.put_line-at-requires
put_line-at-requires c =
    let o = c.in_order-n in
    omega (arith, length-take-le o.result o.new.links o.ensures.within, o.ensures.within, o.auto.links, c.loop-x-test.true, c.loop-x.invariant.0, c.loop-x.auto.out, c.requires.in_bounds)

pub loop-x-preserved : goal.loop-x-preserved
loop-x-preserved c =
    let o = c.in_order-n in
    let w = c.put_line-at in (
      omega (arith, w.ensures.short, c.loop-x.invariant.0),
      (
        w.auto.out ∙ c.loop-x.invariant.1.0,
        line-more (line_of (mesh_in c.args.mesh) c.args.kind) (take o.result o.new.links) c.loop-x.x-index c.args.out.now c.loop-x.out w.new.out c.loop-x.at w.result c.from.result c.loop-x-test.true c.from.ensures
            (omega (arith, length-take-le o.result o.new.links o.ensures.within, o.ensures.within, o.auto.links, c.loop-x-test.true, c.loop-x.invariant.0, w.ensures.short, c.requires.in_bounds)) c.loop-x.invariant.1.1 w.ensures.result_after,
      ),
    )

pub returns-clause-result_after : goal.returns-clause-result_after
unfolding kind_text
returns-clause-result_after c =
    let o = c.in_order-n in
    let all : take c.loop-x.x-index (take o.result o.new.links) ≡ links_of (mesh_in c.args.mesh) c.args.kind =
    take_all c.loop-x.x-index (take o.result o.new.links) c.loop-x-test.false ∙ o.ensures.links_after in
    c.loop-x.invariant.1.1 ∙ ap (λ (ls : List ℕ). wrote c.args.out.now 0 (joined_lines (line_of (mesh_in c.args.mesh) c.args.kind) ls)) all

pub returns-clause-short : goal.returns-clause-short
returns-clause-short c =
    let o = c.in_order-n in
    omega (arith, length-take-le o.result o.new.links o.ensures.within, o.ensures.within, o.auto.links, c.loop-x.auto.x-index-end, c.loop-x.invariant.0, c.loop-x.auto.out, c.requires.in_bounds)
