-- The search, then the insert by what it found.
use mathlib.Core.Path.{ap, ◌∙◌}
use mathlib.Core.List.{◌++◌}
use Rattle.rules.specs.Mesh.{Mesh, list_of}
use Rattle.rules.specs.Lent.{mesh_of}
use Rattle.makers.specs.Search.{sought_for}
use Rattle.insert.specs.Sought.{sought_of}
use Rattle.insert.proofs.Loops.{insert-sought}
use Rattle.insert.proofs.face.insert_by.Goals as goal

pub returns-clause-face : goal.returns-clause-face
returns-clause-face c =
    let a = c.args in
    let none = c.none in
    let found = c.search_lists-sought in
    let seen = ap (λ (m : Mesh). sought_for m (list_of a.found ++ list_of none.result) (list_of a.per)) c.view.ensures in
    c.put_face_sought.ensures.face
    ∙ insert-sought (mesh_of a.mesh.now) (list_of a.per) a.mark (list_of a.found) (list_of none.result) (sought_of found.result) c.requires.found_value none.ensures (found.ensures ∙ seen)
