-- Where the cells of a record stand.
use Prim.Native.Nat.{ℕ, zero, suc, ◌+◌, ◌*◌, ◌≤◌, ◌<◌, zero-le, suc-le-suc}
use native.Mathlib.Nat.{le_of_suc-le-suc, not-suc-le-zero}
use native.Mathlib.Omega.{arith}
use mathlib.Core.Path.{◌≡◌, refl, ap, sym, ◌∙◌}
use mathlib.Core.List.{List, [], ◌∷◌}
use lib.ListN.{length, get_or, take, drop}
use lib.Dec.{T, eqb, eqb→eq}
use lib.Ieee.Fits.{and_l, and_r}
use Rattle.rules.specs.Table.{every}
use Rattle.rules.specs.Script.{Text}
use Rattle.file.specs.File.{cell_in, total}
use Rattle.bodies.specs.Bodies.{widths, records_in, place, Holds}
use Rattle.bodies.proofs.Stands.{cell-is, record-within}
use Rattle.fills.specs.Fills.{FourBytes}

-- ---- cells of 4 bytes

all-four : (ws : List ℕ) (j : ℕ) → T (every (eqb 4) ws) → j ≤ length ws → total (take j ws) ≡ 4 * j
unfolding total every
all-four ws zero h l = omega arith
all-four [] (suc j) h l = absurd (not-suc-le-zero l)
all-four (w ∷ ws) (suc j) h l =
    let here : 4 ≡ w = eqb→eq 4 w (and_l (eqb 4 w) (every (eqb 4) ws) h) in
    let rest = all-four ws j (and_r (eqb 4 w) (every (eqb 4) ws) h) (le_of_suc-le-suc l) in
    omega arith

pub few-cells : (kind : ℕ) → kind < 4 → length (widths kind) ≤ 6
few-cells zero h = omega arith
few-cells (suc zero) h = omega arith
few-cells (suc (suc zero)) h = omega arith
few-cells (suc (suc (suc zero))) h = omega arith
few-cells (suc (suc (suc (suc kind)))) h = let z : ⊥ = omega arith in absurd z

-- a key's first cell is such a cell
pub key-four : (kind : ℕ) → kind < 4 → FourBytes kind 0
key-four zero h = record { there = suc-le-suc zero-le; four = refl }
key-four (suc zero) h = record { there = suc-le-suc zero-le; four = refl }
key-four (suc (suc zero)) h = record { there = suc-le-suc zero-le; four = refl }
key-four (suc (suc (suc zero))) h = record { there = suc-le-suc zero-le; four = refl }
key-four (suc (suc (suc (suc kind)))) h = let z : ⊥ = omega arith in absurd z

pub fours : (kind j : ℕ) → kind < 4 → (kind ≡ 0 → ⊥) → FourBytes kind j → 4 * j ≡ total (take j (widths kind))
unfolding every
fours zero j h ne F = absurd (ne refl)
fours (suc zero) j h ne F = sym (all-four (widths 1) j tt (omega (arith, F.there)))
fours (suc (suc zero)) j h ne F = sym (all-four (widths 2) j tt (omega (arith, F.there)))
fours (suc (suc (suc zero))) j h ne F = sym (all-four (widths 3) j tt (omega (arith, F.there)))
fours (suc (suc (suc (suc kind)))) j h ne F = let z : ⊥ = omega arith in absurd z

-- of a vertex the first and the last
pub first-none : (kind j : ℕ) → kind ≡ 0 → j ≡ 0 → 0 ≡ total (take j (widths kind))
unfolding total
first-none kind j e q = ap (λ (k : ℕ). total (take k (widths kind))) (sym q)

pub last-behind : (kind j : ℕ) → kind ≡ 0 → (j ≡ 0 → ⊥) → FourBytes kind j → 28 ≡ total (take j (widths kind))
unfolding total
last-behind zero zero e ne F = absurd (ne refl)
last-behind zero (suc zero) e ne F = let z : ⊥ = omega (arith, F.four) in absurd z
last-behind zero (suc (suc zero)) e ne F = let z : ⊥ = omega (arith, F.four) in absurd z
last-behind zero (suc (suc (suc zero))) e ne F = let z : ⊥ = omega (arith, F.four) in absurd z
last-behind zero (suc (suc (suc (suc zero)))) e ne F = refl
last-behind zero (suc (suc (suc (suc (suc j))))) e ne F = let z : ⊥ = omega (arith, F.there) in absurd z
last-behind (suc kind) j e ne F = let z : ⊥ = omega arith in absurd z

-- a cell stands inside its record
inside : (ws : List ℕ) (j : ℕ) → j < length ws → total (take j ws) + get_or ws j 0 ≤ total ws
unfolding total
inside [] j l = absurd (not-suc-le-zero l)
inside (w ∷ ws) zero l = omega arith
inside (w ∷ ws) (suc j) l = let rest = inside ws j (le_of_suc-le-suc l) in omega arith

pub cell-inside : (t : Text) (kind i j : ℕ) → Holds t kind i → FourBytes kind j → place t kind i + total (take j (widths kind)) + 4 ≤ length t
cell-inside t kind i j H F = omega (arith, inside (widths kind) j F.there, F.four, record-within t kind i H)

pub four-cell : (t : Text) (kind i j : ℕ) → Holds t kind i → FourBytes kind j
    → cell_in (take 4 (drop (place t kind i + total (take j (widths kind))) t)) ≡ get_or (get_or (records_in t kind) i []) j 0
four-cell t kind i j H F =
    ap (λ (w : ℕ). cell_in (take w (drop (place t kind i + total (take j (widths kind))) t))) (sym F.four) ∙ sym (cell-is t kind i H j F.there)

-- ---- coordinates

pub bits_inside : (t : Text) (i j : ℕ) → Holds t 0 i → j < 3 → place t 0 i + 4 + 8 * j + 8 ≤ length t
unfolding total
bits_inside t i j H l = omega (arith, record-within t 0 i H)

pub eight-cell : (t : Text) (i j : ℕ) → Holds t 0 i → j < 3
    → cell_in (take 8 (drop (place t 0 i + 4 + 8 * j) t)) ≡ get_or (get_or (records_in t 0) i []) (j + 1) 0
unfolding total
eight-cell t i j H l = go j l
  where
    at : (n m : ℕ) → n ≡ m → cell_in (take 8 (drop n t)) ≡ cell_in (take 8 (drop m t))
    at n m e = ap (λ (q : ℕ). cell_in (take 8 (drop q t))) e

    go : (k : ℕ) → k < 3 → cell_in (take 8 (drop (place t 0 i + 4 + 8 * k) t)) ≡ get_or (get_or (records_in t 0) i []) (k + 1) 0
    go zero q = at (place t 0 i + 4 + 8 * 0) (place t 0 i + 4) (omega arith) ∙ sym (cell-is t 0 i H 1 (omega arith))
    go (suc zero) q = at (place t 0 i + 4 + 8 * 1) (place t 0 i + 12) (omega arith) ∙ sym (cell-is t 0 i H 2 (omega arith))
    go (suc (suc zero)) q = at (place t 0 i + 4 + 8 * 2) (place t 0 i + 20) (omega arith) ∙ sym (cell-is t 0 i H 3 (omega arith))
    go (suc (suc (suc k))) q = let z : ⊥ = omega arith in absurd z
