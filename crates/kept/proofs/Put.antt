-- A face insert as a part of an edit, in mid-edit too: what it leaves of a mesh of which every clause of Sound holds but perhaps that on rings.
use Prim.Native.Nat.{ℕ, ◌<◌}
use mathlib.Core.Path.{◌≡◌}
use mathlib.Core.List.{List}
use mathlib.Core.Logic.{◌⊎◌}
use lib.ListN.{length}
use lib.Dec.{T}
use Rattle.rules.specs.Table.{has, free_row}
use Rattle.rules.specs.Mesh.{Mesh, source, dest, face, key_at, face_kind, next_key}
use Rattle.rules.specs.Insert.{arc_at, lists_of, put_face, insert_work}
use Rattle.rules.specs.Call.{insert_need, pairs_without}
use Rattle.proved.specs.Demand.{Holds}
use Rattle.proved.specs.Facts.{RingFacts, IsFace, IsArc}
use Rattle.kept.specs.Frame.{AllButRings, ThreeCounters, Met}
use Rattle.kept.specs.Perimeter.{Perimeter, corner, following, ListsLeave}
use Rattle.kept.specs.Reaches.{KeepsEnds, Spared}
use Rattle.kept.specs.Local.{Local, GainsNothing}
use Rattle.makers.specs.Makers.{Makers, LikeRules, insert_work_by}
use Rattle.kept.specs.Suffices.{Tally}
use Rattle.kept.proofs.Find.{Between}
use Rattle.kept.proofs.Lists.{lists-leave}
use Rattle.kept.proofs.Insert.{insert-kept}
use Rattle.kept.proofs.Reaches.{NotOn, insert-ends, insert-joined, insert-makes, insert-spares, insert-local, insert-gains, insert-cases, insert-new-ring, insert-new-key, insert-new-arcs, insert-positions-stay, insert-holds, insert-faces-stay}
use Rattle.kept.proofs.Makers.{insert-by}
use Rattle.kept.proofs.Tallies.{tally-insert}
use Rattle.kept.proofs.Along.{Along}

-- r is m with a face put on the perimeter
pub record Put (m r : Mesh) (per : List ℕ) : Type 0 where
  pub base : AllButRings r
  pub keeps : KeepsEnds m r
  pub joined : (i : ℕ) → i < length per → (x : ℕ) × Between r.arcs (corner per i) (following per i) x
  pub tally : Tally m r 0 (pairs_without m per) 1 0
  pub spares : (g : ℕ) → IsFace m g → NotOn m per g → Spared m r g
  pub local : Local (λ v. T (has per v)) m r
  pub gains : (g : ℕ) → IsFace m g → GainsNothing m r g
  -- the new face
  pub new : ℕ
  pub face-cases : (g : ℕ) → IsFace r g → (g ≡ new) ⊎ IsFace m g
  pub new-ring : RingFacts r new
  pub new-key : key_at r.faces new ≡ next_key m face_kind
  -- the arcs that hold it join the perimeter's pairs, and positions stay
  pub new-arcs : (x : ℕ) → Holds r new x → (i : ℕ) × (i < length per) × (source r x ≡ corner per i) × (dest r x ≡ following per i)
  pub positions-stay : r.positions ≡ m.positions
  -- the perimeter's arcs have a face, and every other arc keeps its own
  pub holds : (x i : ℕ) → IsArc m x → i < length per → x ≡ arc_at m per i → face r x ≡ 0 → ⊥
  pub faces-stay : (x : ℕ) → IsArc m x → ((i : ℕ) → i < length per → x ≡ arc_at m per i → ⊥) → face r x ≡ face m x

module _ (m : Mesh) (s : AllButRings m) (per : List ℕ) (p : Perimeter m per) (k : ThreeCounters m) (w : Met m (insert_need m per)) where
  pub put_in : (lists : List (List ℕ)) → ListsLeave m per lists → (mark : ℕ) → Put m (put_face m per lists mark) per
  put_in lists leave mark =
      record {
        base = insert-kept m s per p k w lists leave mark;
        keeps = insert-ends m s per p k w lists leave mark;
        joined = insert-joined m s per p k w lists leave mark;
        tally = tally-insert (insert-makes m s per p k w lists leave mark);
        spares = insert-spares m s per p k w lists leave mark;
        local = insert-local m s per p k w lists leave mark;
        gains = insert-gains m s per p k w lists leave mark;
        new = free_row m.faces;
        face-cases = insert-cases m s per p k w lists leave mark;
        new-ring = insert-new-ring m s per p k w lists leave mark;
        new-key = insert-new-key m s per p k w lists leave mark;
        new-arcs = insert-new-arcs m s per p k w lists leave mark;
        positions-stay = insert-positions-stay m s per p k w lists leave mark;
        holds = insert-holds m s per p k w lists leave mark;
        faces-stay = insert-faces-stay m s per p k w lists leave mark;
      }

  pub along-insert : {P Q : Mesh → Type 0} (by : Makers) → LikeRules by → (mark : ℕ) → ((r : Mesh) → Put m r per → P r) → ((r : Mesh) → P r → Q r) → Along P Q (insert_work m per mark) (insert_work_by by m per mark)
  unfolding insert_work
  along-insert by like mark h q =
      let r = put_face m per (lists_of m per) mark in
      let here = h r (put_in (lists_of m per) (lists-leave m s per p) mark) in
      record { goes = λ z. here; leaves = q r here; same = insert-by by like m s per p k w mark }
