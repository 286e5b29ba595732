-- For the loop over all faces: the mesh that it reads, and sums up to a face.
use Prim.Native.Nat.{ℕ, zero, suc, ◌+◌, ◌≤◌, zero-le}
use native.Mathlib.Numerals.{add-one}
use native.Mathlib.Omega.{arith}
use native.Mathlib.Decide.{ℕ_discrete}
use mathlib.Core.Path.{◌≡◌, refl}
use mathlib.Core.Bool.{Bool, true, false}
use mathlib.Core.List.{[]}
use lib.Dec.{T}
use Rattle.rules.specs.Table.{Table, sum_below}
use Rattle.rules.specs.Mesh.{Mesh, mesh}

-- ---- no other table is read

-- a mesh of arcs and faces alone
abbrev pub bare : Table → Table → Mesh
bare arcs faces = mesh [] [] arcs [] faces []

-- ---- sums

pub sum_more : (f : ℕ → ℕ) (i : ℕ) → sum_below f (i + 1) ≡ sum_below f i + f i
unfolding sum_below
sum_more f i = rw (add-one i)

pub sum-upto : (f : ℕ → ℕ) (n k : ℕ) → k ≤ n → sum_below f k ≤ sum_below f n
unfolding sum_below
sum-upto f zero k l = let e : k ≡ 0 = omega arith in rw e zero-le
sum-upto f (suc n) k l = go (ℕ_discrete k (suc n)) (sum-upto f n k)
  where
    go : Dec (k ≡ suc n) → (k ≤ n → sum_below f k ≤ sum_below f n) → sum_below f k ≤ sum_below f n + f n
    go (yes e) ih = rw e (omega arith)
    go (no ne) ih = omega (arith, ih (omega arith))

pub no_test : (b : Bool) → (T b → ⊥) → false ≡ b
no_test true h = absurd (h tt)
no_test false h = refl
