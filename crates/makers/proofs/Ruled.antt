-- With the rules' own makers an edit is the edit, and they are like the rules.
use Prim.Native.Nat.{ℕ}
use mathlib.Core.Path.{◌≡◌, refl}
use mathlib.Core.List.{List}
use Rattle.rules.specs.declared.Edit.{Edit}
use Rattle.rules.specs.declared.Edit.TheVariants.{VertexInsert, FaceInsert, FaceRemove, FaceSplit, FacePoke, FaceBridge, FaceExtrude, ArcBridge, ArcExtrude}
use Rattle.rules.specs.Mesh.{Mesh}
use Rattle.rules.specs.Link.{get_or_insert_edge}
use Rattle.rules.specs.Insert.{edges_in, put_face, insert_work, insert_face}
use Rattle.rules.specs.Edit.{arc_bridge, arc_bridge_work, split_work, poke_work, bridge_work}
use Rattle.rules.specs.Extrude.{copy_one, copies, extrude_work, arc_extrude_work}
use Rattle.rules.specs.Call.{work}
use Rattle.makers.specs.Makers.{ruled, LikeRules, get_or_insert_edge_by, edges_up_to_by, put_face_by, insert_work_by, insert_face_by, split_work_by, poke_work_by, arc_bridge_work_by, arc_bridge_by, bridge_work_by, copy_one_by, copies_by, extrude_work_by, arc_extrude_work_by, work_by}

-- by the rules' makers an edit is the edit
pub ruled-work : (m : Mesh) (e : Edit) (keys : List ℕ) → work_by ruled m e keys ≡ work m e keys
unfolding work_by work get_or_insert_edge_by get_or_insert_edge edges_up_to_by edges_in put_face_by put_face insert_work_by insert_work insert_face_by insert_face split_work_by split_work poke_work_by poke_work arc_bridge_work_by arc_bridge_work arc_bridge_by arc_bridge bridge_work_by bridge_work copy_one_by copy_one copies_by copies extrude_work_by extrude_work arc_extrude_work_by arc_extrude_work
ruled-work m (VertexInsert p) keys = refl
ruled-work m (FaceInsert mark) keys = refl
ruled-work m (FaceRemove f) keys = refl
ruled-work m (FaceSplit f s d) keys = refl
ruled-work m (FacePoke f p) keys = refl
ruled-work m (FaceBridge f g) keys = refl
ruled-work m (FaceExtrude f move) keys = refl
ruled-work m (ArcBridge a b c d) keys = refl
ruled-work m (ArcExtrude s d move) keys = refl

pub ruled-like : LikeRules ruled
ruled-like = record { vertex-same = λ m p r. refl; edge_same = λ m a b r. refl; face-same = λ m x mark r. refl; outside-same = λ old soon per m t. refl }
