-- The kinds one after the other: the kind at a place has that number.
use Prim.Native.Nat.{ℕ, zero, suc, ◌<◌}
use native.Mathlib.Omega.{arith}
use mathlib.Core.Path.{◌≡◌, refl}
use mathlib.Core.List.{List, [], ◌∷◌}
use lib.ListN.{get_or}
use Rattle.bodies.specs.declared.kinds.Kind.{Kind}
use Rattle.bodies.specs.declared.kinds.Kind.TheVariants.{Vertices, Arcs, Edges, Faces}
use Rattle.bodies.specs.Kinds.{number}

abbrev pub kinds : List Kind
kinds = Vertices ∷ Arcs ∷ Edges ∷ Faces ∷ []

pub number-at : (i : ℕ) → i < 4 → number (get_or kinds i Vertices) ≡ i
number-at zero h = refl
number-at (suc zero) h = refl
number-at (suc (suc zero)) h = refl
number-at (suc (suc (suc zero))) h = refl
number-at (suc (suc (suc (suc i)))) h = let z : ⊥ = omega arith in absurd z

pub not-arcs : (kind : Kind) → (kind ≡ Arcs → ⊥) → number kind ≡ 1 → ⊥
not-arcs Vertices h e = omega arith
not-arcs Arcs h e = h refl
not-arcs Edges h e = omega arith
not-arcs Faces h e = omega arith

pub not-vertices : (kind : Kind) → (kind ≡ Vertices → ⊥) → number kind ≡ 0 → ⊥
not-vertices Vertices h e = h refl
not-vertices Arcs h e = omega arith
not-vertices Edges h e = omega arith
not-vertices Faces h e = omega arith

pub number-small : (kind : Kind) → number kind < 4
number-small Vertices = omega arith
number-small Arcs = omega arith
number-small Edges = omega arith
number-small Faces = omega arith
