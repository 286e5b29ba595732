-- Edits that keep every arc with its ends and every vertex, one after another. And an arc is there both ways.
use Prim.Native.Nat.{ℕ}
use native.Mathlib.Omega.{arith}
use mathlib.Core.Path.{◌≡◌, refl, ap, ◌∙◌}
use mathlib.Core.List.{List}
use lib.Ieee.{Float}
use Rattle.rules.specs.Point.{position_at}
use Rattle.rules.specs.Mesh.{Mesh, find_arc, opposite}
use Rattle.kept.specs.Frame.{AllButRings, MadeEdge}
use Rattle.kept.specs.Reaches.{KeepsEnds}
use Rattle.kept.proofs.Find.{Between, arc-some}
use Rattle.kept.proofs.Opposite.{opposite-is}
use Rattle.kept.proofs.Edge.{made-old-arc, made-old-cell, made-vertex}

pub keeps-onto : {m a n : Mesh} → KeepsEnds m a → KeepsEnds a n → KeepsEnds m n
keeps-onto p q =
    record {
      arcs = λ x u. q.arcs x (p.arcs x u);
      sources = λ x u. q.sources x (p.arcs x u) ∙ p.sources x u;
      dests = λ x u. q.dests x (p.arcs x u) ∙ p.dests x u;
      vertices = λ v u. q.vertices v (p.vertices v u);
      places = λ v u. q.places v (p.vertices v u) ∙ p.places v u;
      arc-rows = q.arc-rows ∙ p.arc-rows;
      counter-rows = q.counter-rows ∙ p.counter-rows;
    }

pub keeps-none : (m : Mesh) → KeepsEnds m m
keeps-none m = record { arcs = λ x u. u; sources = λ x u. refl; dests = λ x u. refl; vertices = λ v u. u; places = λ v u. refl; arc-rows = refl; counter-rows = refl }

pub keeps-edge : {m n : Mesh} {a b x y e : ℕ} → MadeEdge m n a b x y e → KeepsEnds m n
keeps-edge w =
    record { arcs = made-old-arc w; sources = λ x u. made-old-cell w x 0 u; dests = λ x u. made-old-cell w x 1 u; vertices = made-vertex w; places = λ v u. ap (λ (t : List (List Float)). position_at t v) w.positions-stay; arc-rows = w.arc-rows; counter-rows = w.counter-rows }

-- an arc between two vertices is one still
pub keeps-between : {m n : Mesh} {a b x : ℕ} → KeepsEnds m n → Between m.arcs a b x → Between n.arcs a b x
keeps-between {x = x} w h = record { exists = w.arcs x h.exists; leaves = w.sources x h.exists ∙ h.leaves; arrives = w.dests x h.exists ∙ h.arrives }

-- an arc both ways: where a mesh has an arc from a to b, another that keeps it has one from b to a
pub back-there : (m n : Mesh) → AllButRings m → KeepsEnds m n → (a b x : ℕ) → Between m.arcs a b x → find_arc n b a ≡ 0 → ⊥
back-there m n s w a b x h =
    let o = opposite-is m s x h.exists in
    let y = opposite m x in
    arc-some n.arcs b a (omega (arith, w.arc-rows, s.sizes.arc-rows, s.sizes.edge-rows)) y (record { exists = w.arcs y o.exists; leaves = w.sources y o.exists ∙ o.leaves ∙ h.arrives; arrives = w.dests y o.exists ∙ o.arrives ∙ h.leaves })
