-- The lookups in the list, then the checks by what they found.
use Rattle.rules.specs.Mesh.{list_of}
use Rattle.pairs.proofs.Listed.{arcs-held}
use Rattle.split.proofs.half_checks.Goals as goal

pub insert_checks_by-requires : goal.insert_checks_by-requires
insert_checks_by-requires c = arcs-held _ (list_of c.args.half) _ c.known_few.ensures c.perimeter_arcs-found.ensures

pub returns : goal.returns
returns c = let m = c.args.mesh in c.insert_checks_by.ensures m.vertices.now m.edges.now m.faces.now m.counters.now
