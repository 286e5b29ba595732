use mathlib.Core.Path.{ap, sym, ◌∙◌}
use Rattle.rules.specs.declared.Edit.{Edit}
use Rattle.rules.specs.Lent.{mesh_of}
use Rattle.makers.specs.Makers.{searching, work_by}
use Rattle.choice.proofs.work.Goals as goal

pub face_insert-requires : goal.face_insert-requires
face_insert-requires c = c.requires c.in-FaceInsert.mark c.in-FaceInsert.is

pub returns-in-VertexInsert-clause-told : goal.returns-in-VertexInsert-clause-told
returns-in-VertexInsert-clause-told c = c.vertex_insert.ensures.told c.args.keys.now ∙ ap (λ (e : Edit). work_by searching (mesh_of c.args.mesh.now) e c.args.keys.now) (sym c.in-VertexInsert.is)

pub returns-in-FaceInsert-clause-told : goal.returns-in-FaceInsert-clause-told
returns-in-FaceInsert-clause-told c = c.face_insert.ensures.told ∙ ap (λ (e : Edit). work_by searching (mesh_of c.args.mesh.now) e c.args.keys.now) (sym c.in-FaceInsert.is)

pub returns-in-FaceRemove-clause-told : goal.returns-in-FaceRemove-clause-told
returns-in-FaceRemove-clause-told c = c.face_remove.ensures.told c.args.keys.now ∙ ap (λ (e : Edit). work_by searching (mesh_of c.args.mesh.now) e c.args.keys.now) (sym c.in-FaceRemove.is)

pub returns-in-FaceSplit-clause-told : goal.returns-in-FaceSplit-clause-told
returns-in-FaceSplit-clause-told c = c.face_split.ensures.told c.args.keys.now ∙ ap (λ (e : Edit). work_by searching (mesh_of c.args.mesh.now) e c.args.keys.now) (sym c.in-FaceSplit.is)

pub returns-in-FacePoke-clause-told : goal.returns-in-FacePoke-clause-told
returns-in-FacePoke-clause-told c = c.face_poke.ensures.told c.args.keys.now ∙ ap (λ (e : Edit). work_by searching (mesh_of c.args.mesh.now) e c.args.keys.now) (sym c.in-FacePoke.is)

pub returns-in-FaceBridge-clause-told : goal.returns-in-FaceBridge-clause-told
returns-in-FaceBridge-clause-told c = c.face_bridge.ensures.told c.args.keys.now ∙ ap (λ (e : Edit). work_by searching (mesh_of c.args.mesh.now) e c.args.keys.now) (sym c.in-FaceBridge.is)

pub returns-in-FaceExtrude-clause-told : goal.returns-in-FaceExtrude-clause-told
returns-in-FaceExtrude-clause-told c = c.face_extrude.ensures.told c.args.keys.now ∙ ap (λ (e : Edit). work_by searching (mesh_of c.args.mesh.now) e c.args.keys.now) (sym c.in-FaceExtrude.is)

pub returns-in-ArcBridge-clause-told : goal.returns-in-ArcBridge-clause-told
returns-in-ArcBridge-clause-told c = c.arc_bridge.ensures.told c.args.keys.now ∙ ap (λ (e : Edit). work_by searching (mesh_of c.args.mesh.now) e c.args.keys.now) (sym c.in-ArcBridge.is)

pub returns-in-ArcExtrude-clause-told : goal.returns-in-ArcExtrude-clause-told
returns-in-ArcExtrude-clause-told c = c.arc_extrude.ensures.told c.args.keys.now ∙ ap (λ (e : Edit). work_by searching (mesh_of c.args.mesh.now) e c.args.keys.now) (sym c.in-ArcExtrude.is)
