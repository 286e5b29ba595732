-- The list tells of the arcs, and every row before the lowest unused one is used.
use mathlib.Core.Path.{sym, subst}
use Rattle.edges.specs.Free.{UsedBefore}
use Rattle.edges.proofs.Searches.{used-none, used-free}
use borrow.Author.Rules.{rules}
use Rattle.edits.proofs.near.near_edit.Goals as goal

pub free_row-requires : goal.free_row-requires
free_row-requires c = (search rules, (search rules, used-none _))

pub free_row-requires-2 : goal.free_row-requires-2
free_row-requires-2 c = (search rules, (search rules, used-none _))

pub returns : goal.returns
returns c =
    let m = c.args.mesh in
    record {
      listed = c.list.ensures.near;
      arcs-used = c.list.ensures.first;
      edges-used = subst (UsedBefore m.edges.now) (sym c.free_row.ensures) (used-free m.edges.now);
      faces-used = subst (UsedBefore m.faces.now) (sym c.free_row-2.ensures) (used-free m.faces.now);
    }
