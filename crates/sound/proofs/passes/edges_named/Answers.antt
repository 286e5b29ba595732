-- `sound::passes::edges_named` meets its contract. The loop keeps that the rows gone through pass, how many edges they are, their names in the list,
-- and whether their keys rise. Assumes nothing.
use native.Mathlib.Omega.{arith}
use mathlib.Core.Path.{sym, ◌∙◌}
use mathlib.Core.List.{[]}
use lib.ListN.{length, get_or, length-set}
use Rattle.rules.specs.Table.{used}
use Rattle.rules.specs.Lent.{mesh_in}
use Rattle.tables.proofs.Scans.{counted-all}
use Rattle.names.proofs.Loops.{none_yet, one_more}
use Rattle.sound.proofs.Rows.{edge_passes, edges-rows, table-fails, table-passes, counted-on, one_up_lem}
use Rattle.sound.proofs.Named.{name-more, name-all, risen-start, risen-after, risen-all}
use Rattle.sound.specs.Names.{edge_name}
use borrow.Author.Rules.{rules}
use Rattle.sound.proofs.passes.edges_named.Goals as goal

pub loop-i-init : goal.loop-i-init
loop-i-init c =
    let m = mesh_in c.args.mesh in
    (search rules, (search rules, (none_yet (edge_passes m), (search rules, (search rules, risen-start m.edges c.start-keys.result c.start-keys.ensures)))))

pub returns-then-not-edge_row : goal.returns-then-not-edge_row
returns-then-not-edge_row c =
    let m = mesh_in c.args.mesh in
    table-fails (edge_passes m) _ (length m.edges) (edges-rows m) c.loop-i.i (omega arith) (sym c.edge_row.ensures ∙ c.if-not-edge_row.true)

pub loop-i-preserved : goal.loop-i-preserved
loop-i-preserved c =
    let m = mesh_in c.args.mesh in
    let h = c.loop-i-test.true in
    let i = c.loop-i.invariant in
    let n = c.plus-there in (
      simp length-set i.0,
      (
        one_up_lem (used (get_or m.edges c.loop-i.i [])) c.loop-i.there c.loop-i.i n.result i.1.0 n.ensures,
        (
          one_more (edge_passes m) c.loop-i.i i.1.1.0 (sym c.edge_row.ensures ∙ c.if-not-edge_row.false),
          (
            counted-on used m.edges c.loop-i.there c.loop-i.i h i.1.1.1.0 n.result n.ensures,
            (
              rw (i.1.1.1.1.0, c.edge_name.ensures) (name-more (edge_name m.arcs) m.edges c.args.names.now c.loop-i.i h (omega (arith, h, c.requires.1))),
              risen-after m.edges c.loop-i.i h c.loop-i.keys c.after-keys.result i.1.1.1.1.1 c.after-keys.ensures,
            ),
          ),
        ),
      ),
    )

pub returns : goal.returns
returns c =
    let m = mesh_in c.args.mesh in
    let i = c.loop-i.invariant in (
      table-passes (edge_passes m) _ (length m.edges) (edges-rows m) c.loop-i.i (omega arith) (omega arith) i.1.1.0,
      (
        counted-all used m.edges [] c.loop-i.there c.loop-i.i c.loop-i-test.false i.1.1.1.0,
        (
          rw i.1.1.1.1.0 (name-all (edge_name m.arcs) m.edges c.args.names.now c.loop-i.i (omega arith)),
          risen-all m.edges c.loop-i.i (omega arith) (omega arith) c.loop-i.keys.so c.loop-i.keys.last i.1.1.1.1.1,
        ),
      ),
    )
