-- Any edit but the two extrudes moves no coordinates.
use Prim.Native.Nat.{ℕ}
use mathlib.Core.Path.{◌≡◌, refl}
use mathlib.Core.Bool.{true}
use Rattle.rules.specs.declared.Move.{Move}
use Rattle.rules.specs.declared.Edit.{Edit}
use Rattle.rules.specs.declared.Edit.TheVariants.{VertexInsert, FaceInsert, FaceRemove, FaceSplit, FacePoke, FaceBridge, FaceExtrude, ArcBridge, ArcExtrude}
use Rattle.rules.specs.Mesh.{Mesh}
use Rattle.rules.specs.Call.{moves_finite}

pub none-moved :
    (m : Mesh) (e : Edit) →
    ((f : ℕ) (move : Move) → e ≡ FaceExtrude f move → ⊥) → ((s d : ℕ) (move : Move) → e ≡ ArcExtrude s d move → ⊥) →
    true ≡ moves_finite m e
unfolding moves_finite
none-moved m (VertexInsert p) f a = refl
none-moved m (FaceInsert mark) f a = refl
none-moved m (FaceRemove x) f a = refl
none-moved m (FaceSplit x s d) f a = refl
none-moved m (FacePoke x p) f a = refl
none-moved m (FaceBridge x y) f a = refl
none-moved m (FaceExtrude x move) f a = absurd (f x move refl)
none-moved m (ArcBridge w x y z) f a = refl
none-moved m (ArcExtrude s d move) f a = absurd (a s d move refl)
