-- The pass over the arcs, the lookups in its list, then the insert by what they found.
use mathlib.Core.Path.{ap, subst, ◌∙◌}
use Rattle.rules.specs.Mesh.{Mesh, list_of}
use Rattle.rules.specs.Lent.{mesh_of}
use Rattle.edges.specs.Free.{UsedBefore}
use Rattle.edges.proofs.Searches.{used-none}
use Rattle.pairs.specs.Pairs.{arcs_of}
use Rattle.pairs.proofs.Listed.{arcs-held}
use Rattle.insert.proofs.face.insert_work.Goals as goal

pub perimeter_arcs-found-requires : goal.perimeter_arcs-found-requires
perimeter_arcs-found-requires c = c.list.ensures.near

pub insert_by-requires : goal.insert_by-requires
insert_by-requires c =
    let m = mesh_of c.args.mesh.now in
    let per = list_of c.args.per in
    let found = c.perimeter_arcs-found in
    let here = arcs-held _ per found.result c.known_few.ensures found.ensures in
    let none = c.default.ensures in
    record {
      found_value = here ∙ ap (λ (n : Mesh). arcs_of n.arcs per) c.view.ensures;
      used_before = (subst (λ (n : Mesh). UsedBefore n.arcs c.list.new.self.first) c.view.ensures c.list.ensures.first, rw (none.1.0, none.1.1) (used-none m.edges, used-none m.faces));
    }
