-- The loop over all faces: the rings passed are whole and linked, and their arcs are taken off the number of arcs that hold a face.
use Prim.Native.Nat.{ℕ, ◌+◌, ◌-◌, ◌≤◌, ◌<◌}
use native.Mathlib.Omega.{arith}
use mathlib.Core.Path.{◌≡◌, refl, sym, ◌∙◌}
use mathlib.Core.Bool.{Bool, true, false, not, ◌&&◌, ◌||◌}
use mathlib.Core.List.{List, []}
use lib.ListN.{length, get_or}
use lib.Dec.{T, eqb, eqb→eq}
use lib.Ieee.{Float}
use lib.Ieee.Fits.{and_l, and_r, and_i}
use borrow.Author.Tests.{eq-eqb, ne_eqb}
use Rattle.rules.specs.Table.{Table, each_used, there, sum_below}
use Rattle.rules.specs.Mesh.{Mesh, mesh}
use Rattle.rules.specs.Link.{ring, ring_ended}
use Rattle.rules.specs.Sound.{names_holder, comes_back, three_to_limit, sources_differ, ring_holds, runs_back}
use Rattle.rules.proofs.Sums.{same_test}
use Rattle.proved.specs.Demand.{all_holders}
use Rattle.proved.proofs.Rows.{T_true, true-T, same-T, cell_row, used-at}
use Rattle.sound.specs.Rings.{ring_whole, ring_linked, linked_length, rings_full}
use Rattle.std.specs.Bool.{then_some}
use Rattle.sound.specs.declared.keys.Rising.{Rising}
use Rattle.sound.specs.Names.{keys_rise}
use Rattle.sound.specs.Parts.{PassOf}
use Rattle.names.proofs.Loops.{Passed, none_yet, one_more, all-passed}
use Rattle.sound.proofs.Counting.{on_rings, whole-three}
use Rattle.sound.proofs.RingSums.{bare, sum_more, sum-upto, no_test}

-- ---- no other table is read

-- whether all rings are full is told by the arcs and the faces alone
module _ (v : Table) (p : List (List Float)) (arcs e faces : Table) (k : List ℕ) where
  pub bare-full : rings_full (bare arcs faces) ≡ rings_full (mesh v p arcs e faces k)
  unfolding rings_full ring_whole ring_linked names_holder comes_back three_to_limit sources_differ ring_holds runs_back ring ring_ended
  bare-full = refl

-- ---- the loop

pub no_second : (a b : Bool) → false ≡ b → false ≡ (a && b)
no_second true b e = e
no_second false b e = refl

module _ (m : Mesh) where
  abbrev full : ℕ → Bool
  full f = ring_whole m f && ring_linked m f

  abbrev fits : ℕ → Bool
  fits j = not (there m.faces (j + 1)) || (ring_whole m (j + 1) && ring_linked m (j + 1))

  pub all-full : T (rings_full m) → T (each_used (λ f. ring_whole m f && ring_linked m f) m.faces)
  unfolding rings_full
  all-full t = and_l (each_used full m.faces) (eqb (sum_below (on_rings m) (length m.faces)) (all_holders m)) t

  pub sum-full : T (rings_full m) → sum_below (on_rings m) (length m.faces) ≡ all_holders m
  unfolding rings_full
  sum-full t = eqb→eq _ _ (and_r (each_used full m.faces) (eqb (sum_below (on_rings m) (length m.faces)) (all_holders m)) t)

  pub full_from : T (each_used (λ f. ring_whole m f && ring_linked m f) m.faces) → sum_below (on_rings m) (length m.faces) ≡ all_holders m → T (rings_full m)
  unfolding rings_full
  full_from h e = and_i (each_used full m.faces) (eqb (sum_below (on_rings m) (length m.faces)) (all_holders m)) h (same-T _ _ e)

  -- the rings before i are full, and left is what their arcs leave of those that hold a face
  pub record Going (left i : ℕ) : Type 0 where
    pub whole : Passed (λ j. not (there m.faces (j + 1)) || (ring_whole m (j + 1) && ring_linked m (j + 1))) i
    pub sum : left + sum_below (on_rings m) i ≡ all_holders m

  none_of : (f : ℕ → ℕ) → sum_below f 0 ≡ 0
  unfolding sum_below
  none_of f = refl

  pub going_start : (left : ℕ) → left ≡ all_holders m → Going left 0
  going_start left e = record { whole = none_yet fits; sum = omega (arith, none_of (on_rings m)) }

  module _ (left i : ℕ) (g : Going left i) where
    unused-there : get_or (get_or m.faces i []) 0 0 ≡ 0 → there m.faces (i + 1) ≡ false
    unused-there z = rw (eq-eqb _ _ (cell_row m.faces i 0 ∙ z))

    pub going-unused : (rest : ℕ) → rest ≡ left → get_or (get_or m.faces i []) 0 0 ≡ 0 → Going rest (i + 1)
    going-unused rest e z =
        let u = unused-there z in
        record {
          whole = one_more fits i g.whole (rw u);
          sum = let o : on_rings m i ≡ 0 = rw u in omega (arith, sum_more (on_rings m) i, g.sum, o);
        }

    pub going_end : length m.faces ≤ i → i ≤ length m.faces → eqb left 0 ≡ rings_full m
    going_end a b =
        let same : i ≡ length m.faces = omega arith in
        let sums : left + sum_below (on_rings m) (length m.faces) ≡ all_holders m = rw same at g.sum in
        same_test (eqb left 0) (rings_full m)
        (λ t. full_from (true-T (sym (all-passed fits (length m.faces) i a b g.whole))) (omega (arith, sums, eqb→eq left 0 t)))
        (λ t. same-T left 0 (omega (arith, sums, sum-full t)))

    -- at a face in use, whose ring has n arcs
    module _ (n : ℕ) (some : get_or (get_or m.faces i []) 0 0 ≡ 0 → ⊥) (en : n ≡ linked_length m (i + 1)) where
      used-there : there m.faces (i + 1) ≡ true
      used-there = rw (ne_eqb _ _ (λ q. some (sym (cell_row m.faces i 0) ∙ q)))

      length_some : (n ≡ 0 → ⊥) → T (full (i + 1)) × (n ≡ length (ring m (i + 1)))
      unfolding linked_length
      length_some nz = go (full (i + 1)) refl
        where
          go : (b : Bool) → full (i + 1) ≡ b → T (full (i + 1)) × (n ≡ length (ring m (i + 1)))
          go true q = (true-T q, en ∙ rw q)
          go false q = absurd (nz (en ∙ rw q))

      pub length-fails : n ≡ 0 → false ≡ rings_full m
      unfolding linked_length
      length-fails z =
          no_test (rings_full m)
          (λ t.
          let h = used-at full m.faces (all-full t) (i + 1) (true-T used-there) in
          let l : n ≡ length (ring m (i + 1)) = en ∙ rw (T_true (full (i + 1)) h) in
          let y : ⊥ = omega (arith, whole-three m (i + 1) (and_l (ring_whole m (i + 1)) (ring_linked m (i + 1)) h)) in
          y)

      module _ (nz : n ≡ 0 → ⊥) where
        taken : on_rings m i ≡ n
        taken = rw used-there (sym (length_some nz).1)

        pub sum-fails : i < length m.faces → left < n → false ≡ rings_full m
        sum-fails l q =
            no_test (rings_full m) (λ t. let z : ⊥ = omega (arith, g.sum, sum_more (on_rings m) i, taken, sum-upto (on_rings m) (length m.faces) (i + 1) (omega arith), sum-full t) in z)

        pub going-used : (rest : ℕ) → n ≤ left → rest ≡ left - n → Going rest (i + 1)
        going-used rest q e =
            record {
              whole = one_more fits i g.whole (rw (used-there, T_true (full (i + 1)) (length_some nz).0));
              sum = omega (arith, sum_more (on_rings m) i, g.sum, taken);
            }

-- where the clauses of the faces hold, whether the rings are full decides what the pass tells
pub told-keys : (full rows : Bool) → rows ≡ true → (t : Table) (k : Rising) → (k.so ≡ true → keys_rise t ≡ true) → PassOf (rows && full) t (then_some full k)
told-keys true rows e t k r = (rw e, r)
told-keys false rows e t k r = rw e
