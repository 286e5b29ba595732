-- Document 01's words on edges, from the facts about arcs: an edge has two arcs, each arc's edge joins its ends, and no two edges join the
-- same pair, which is to say, no two arcs have the same ends.
use Prim.Native.Nat.{ℕ}
use mathlib.Core.Path.{◌≡◌, ap, sym, ◌∙◌}
use mathlib.Core.Logic.{◌↔◌, ◌⊎◌, inl, inr}
use Rattle.rules.specs.Mesh.{Mesh, source, dest, edge, edge_arc, edge_other}
use Rattle.proved.specs.Facts.{IsArc, IsEdge, BothArcs, Joins, SoundFacts}

module _ (m : Mesh) where
  -- no two arcs have the same ends; no two edges join the same pair
  abbrev pub ArcsDiffer : Type 0
  ArcsDiffer = (x y : ℕ) → IsArc m x → IsArc m y → source m x ≡ source m y → dest m x ≡ dest m y → x ≡ y

  abbrev pub EdgesDiffer : Type 0
  EdgesDiffer = (e g a b : ℕ) → IsEdge m e → IsEdge m g → Joins m e a b → Joins m g a b → e ≡ g

  -- each edge has both arcs, its ends differ, and each arc is one of the two that its edge names
  pub record Edges : Type 0 where
    pub both-arcs : (e : ℕ) → IsEdge m e → BothArcs m e
    pub ends-differ : (x : ℕ) → IsArc m x → source m x ≡ dest m x → ⊥
    pub edge-exists : (x : ℕ) → IsArc m x → IsEdge m (edge m x)
    pub edge-names : (x : ℕ) → IsArc m x → (edge_arc m (edge m x) ≡ x) ⊎ (edge_other m (edge m x) ≡ x)

pub edges-of : (m : Mesh) → SoundFacts m → Edges m
edges-of m s = record { both-arcs = s.both-arcs; ends-differ = s.ends-differ; edge-exists = s.edge-exists; edge-names = s.edge-names }

module _ (m : Mesh) (s : Edges m) where
  -- the two arcs that an edge names are two
  pub two-arcs : (e : ℕ) → IsEdge m e → edge_arc m e ≡ edge_other m e → ⊥
  two-arcs e u q =
      let b = s.both-arcs e u in
      s.ends-differ (edge_arc m e) b.first-exists (b.leaves-where-ends ∙ ap (dest m) (sym q))

  -- each arc's edge joins its ends
  pub edge-joins-ends : (x : ℕ) → IsArc m x → Joins m (edge m x) (source m x) (dest m x)
  edge-joins-ends x u = go (s.edge-names x u)
    where
      go : (edge_arc m (edge m x) ≡ x) ⊎ (edge_other m (edge m x) ≡ x) → Joins m (edge m x) (source m x) (dest m x)
      go (inl q) = inl (ap (source m) q, ap (dest m) q)
      go (inr q) = let b = s.both-arcs (edge m x) (s.edge-exists x u) in inr (b.leaves-where-ends ∙ ap (dest m) q, b.ends-where-leaves ∙ ap (source m) q)

  -- of two edges that join a and b, some arc of the one is an arc of the other
  pub edges-differ : ArcsDiffer m → EdgesDiffer m
  edges-differ h e g a b u w p q = go p q
    where
      same : source m (edge_arc m e) ≡ source m (edge_arc m g) → dest m (edge_arc m e) ≡ dest m (edge_arc m g) → e ≡ g
      same i j =
          let x = s.both-arcs e u in
          let y = s.both-arcs g w in
          sym x.first_holds ∙ ap (edge m) (h (edge_arc m e) (edge_arc m g) x.first-exists y.first-exists i j) ∙ y.first_holds

      swapped : source m (edge_arc m e) ≡ dest m (edge_arc m g) → dest m (edge_arc m e) ≡ source m (edge_arc m g) → e ≡ g
      swapped i j =
          let x = s.both-arcs e u in
          let y = s.both-arcs g w in
          sym x.first_holds ∙ ap (edge m) (h (edge_arc m e) (edge_other m g) x.first-exists y.second-exists (i ∙ y.ends-where-leaves) (j ∙ y.leaves-where-ends)) ∙ y.second_holds

      go : Joins m e a b → Joins m g a b → e ≡ g
      go (inl i) (inl j) = same (i.0 ∙ sym j.0) (i.1 ∙ sym j.1)
      go (inl i) (inr j) = swapped (i.0 ∙ sym j.1) (i.1 ∙ sym j.0)
      go (inr i) (inl j) = swapped (i.0 ∙ sym j.1) (i.1 ∙ sym j.0)
      go (inr i) (inr j) = same (i.0 ∙ sym j.0) (i.1 ∙ sym j.1)

  -- an arc and the other of its edge have no ends in common in that order
  not-other : (x y : ℕ) → IsArc m x → edge_arc m (edge m x) ≡ y → edge_other m (edge m x) ≡ x → source m x ≡ source m y → ⊥
  not-other x y u p q e =
      let b = s.both-arcs (edge m x) (s.edge-exists x u) in
      s.ends-differ x u (e ∙ ap (source m) (sym p) ∙ b.leaves-where-ends ∙ ap (dest m) q)

  pub arcs-differ : EdgesDiffer m → ArcsDiffer m
  arcs-differ h x y u w p q = go (s.edge-names x u) (s.edge-names y w)
    where
      one : edge m x ≡ edge m y
      one = h (edge m x) (edge m y) (source m x) (dest m x) (s.edge-exists x u) (s.edge-exists y w) (edge-joins-ends x u) (rw (p, q) (edge-joins-ends y w))

      go : (edge_arc m (edge m x) ≡ x) ⊎ (edge_other m (edge m x) ≡ x) → (edge_arc m (edge m y) ≡ y) ⊎ (edge_other m (edge m y) ≡ y) → x ≡ y
      go (inl i) (inl j) = sym i ∙ ap (edge_arc m) one ∙ j
      go (inl i) (inr j) = absurd (not-other y x w (ap (edge_arc m) (sym one) ∙ i) j (sym p))
      go (inr i) (inl j) = absurd (not-other x y u (ap (edge_arc m) one ∙ j) i p)
      go (inr i) (inr j) = sym i ∙ ap (edge_other m) one ∙ j

  -- so the one is the other
  pub pairs-mean : ArcsDiffer m ↔ EdgesDiffer m
  pairs-mean = (edges-differ, arcs-differ)
