-- The top face, then the walls: laws of Whole.
use native.Mathlib.Omega.{arith}
use mathlib.Core.Path.{ap, subst}
use Rattle.rules.specs.Mesh.{Mesh, list_of}
use Rattle.rules.specs.Lent.{mesh_of}
use Rattle.rules.specs.Step.{Step}
use Rattle.makers.specs.Makers.{searching, insert_face_by}
use Rattle.insert.proofs.Filled.{filled-insert}
use Rattle.edits.specs.Known.{Known}
use Rattle.edits.proofs.Known.{known-then}
use Rattle.edits.proofs.Steps.{a-key, refused}
use Rattle.edits.proofs.Whole.{top-refused, top-goes}
use borrow.Author.Rules.{rules}
use Rattle.extrude.proofs.top_and_walls.Goals as goal

pub overflow_mul-size : goal.overflow_mul-size
overflow_mul-size c = omega (arith, c.size.ensures, c.known_few.ensures)

pub near_edit-around-requires : goal.near_edit-around-requires
near_edit-around-requires c = omega (arith, c.size.ensures, c.known_few.ensures)

pub insert_face-requires : goal.insert_face-requires
insert_face-requires c = subst (λ (m : Mesh). Known m c.near_edit-around.result) c.view.ensures c.near_edit-around.ensures

pub returns-in_err-insert_face-clause-faces : goal.returns-in_err-insert_face-clause-faces
returns-in_err-insert_face-clause-faces c =
    let a = c.args in
    let top = top-refused (mesh_of a.mesh.now) (list_of a.vs) (list_of a.ds) (mesh_of c.insert_face.new.mesh) _ c.in_err-insert_face.ensures.told (refused _) in
    search rules

pub walls_in-requires : goal.walls_in-requires
walls_in-requires c =
    let a = c.args in
    let m = mesh_of a.mesh.now in
    let known = subst (λ (n : Mesh). Known n c.near_edit-around.result) c.view.ensures c.near_edit-around.ensures in
    known-then m (mesh_of c.insert_face.new.mesh) (insert_face_by searching m (list_of a.ds) 0).tables c.near_edit-around.result (filled-insert m (list_of a.ds) 0) (ap (λ (s : Step). s.tables) c.insert_face.ensures.told) known

pub returns-clause-faces : goal.returns-clause-faces
returns-clause-faces c =
    let a = c.args in
    top-goes (mesh_of a.mesh.now) (list_of a.vs) (list_of a.ds) (mesh_of c.insert_face.new.mesh) _ c.in_ok-insert_face.ensures.told (a-key _) _ c.walls_in.ensures.walls
