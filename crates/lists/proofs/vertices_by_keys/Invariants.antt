-- `lists::vertices_by_keys` meets its contract. The loop keeps what was made of the keys passed by; laws of Listing. Assumes nothing.
use Rattle.rules.specs.Mesh.{find_key}
use Rattle.walks.proofs.Listing.{Made}
use Rattle.lists.proofs.vertices_by_keys.Given as goal

abbrev pub invariant-loop-i : goal.invariant-loop-i
invariant-loop-i l = Made (find_key l.vertices) l.key-items l.at l.i
