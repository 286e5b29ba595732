-- The checks of a split: one law for each way out of the code. Its points are the ring's vertices as it holds them, from and to are the places
-- of s and d among them, far is the ring distance, and each half comes with whether another face holds an arc of it.
use Prim.Native.Nat.{ℕ, ◌+◌, ◌-◌, ◌≤◌, ◌<◌}
use native.Mathlib.Omega.{arith}
use mathlib.Core.Path.{◌≡◌, ap, sym, ◌∙◌}
use mathlib.Core.Bool.{Bool, true, false}
use lib.Dec.{eqb}
use lib.ListN.{length}
use borrow.Author.Tests.{eq-eqb, ne_eqb, lt-ltb, le-ltb}
use Rattle.rules.specs.declared.Links.{Links}
use Rattle.rules.specs.Answer.{Done, Refused}
use Rattle.rules.specs.declared.Refusal.TheVariants.{TopologyMalformed, TopologyNotFound, TopologyConflict}
use Rattle.rules.specs.Mesh.{Mesh, links_of, list_of}
use Rattle.rules.specs.Link.{ring_vertices}
use Rattle.rules.specs.Edit.{place, ring_distance, half, held_by_other, split_checks}
use Rattle.checks.proofs.Bounds.{vertices-back}
use Rattle.checks.proofs.Stretches.{half_back}

module _ (m : Mesh) (f s d : ℕ) where
  pub no-face : f ≡ 0 → Refused TopologyNotFound ≡ split_checks m f s d
  unfolding split_checks
  no-face e = rw (eq-eqb f 0 e)

  module _ (face : f ≡ 0 → ⊥) {points : Links} (ep : points ≡ links_of (ring_vertices m f)) where
    back : list_of points ≡ ring_vertices m f
    back = ap list_of ep ∙ vertices-back m f

    pub no_source : place (list_of points) s ≡ 0 → Refused TopologyNotFound ≡ split_checks m f s d
    unfolding split_checks
    no_source e =
        let none : place (ring_vertices m f) s ≡ 0 = rw back at e in
        rw (ne_eqb f 0 face, none)

    module _ (from : ℕ) (ef : place (list_of points) s ≡ from + 1) where
      source : place (ring_vertices m f) s ≡ from + 1
      source = rw back at ef

      leaves : eqb (from + 1) 0 ≡ false
      leaves = ne_eqb (from + 1) 0 (λ e. omega arith)

      pub no-dest : place (list_of points) d ≡ 0 → Refused TopologyNotFound ≡ split_checks m f s d
      unfolding split_checks
      no-dest e =
          let none : place (ring_vertices m f) d ≡ 0 = rw back at e in
          rw (ne_eqb f 0 face, source, none, leaves)

      module _ (to : ℕ) (et : place (list_of points) d ≡ to + 1) {n far : ℕ} (en : n ≡ length (list_of points)) (ed : far ≡ ring_distance n from to) where
        dest : place (ring_vertices m f) d ≡ to + 1
        dest = rw back at et

        arrives : eqb (to + 1) 0 ≡ false
        arrives = ne_eqb (to + 1) 0 (λ e. omega arith)

        way : ring_distance (length (ring_vertices m f)) (from + 1 - 1) (to + 1 - 1) ≡ far
        way =
            let i : from + 1 - 1 ≡ from = omega arith in
            let j : to + 1 - 1 ≡ to = omega arith in
            rw (i, j) (sym (ed ∙ ap (λ (k : ℕ). ring_distance k from to) (en ∙ ap length back)))

        pub too-near : far < 2 → Refused TopologyMalformed ≡ split_checks m f s d
        unfolding split_checks
        too-near e = rw (ne_eqb f 0 face, source, dest, leaves, arrives, way, lt-ltb far 2 e)

        module _ (apart : 2 ≤ far) {one : Links} (el : one ≡ links_of (half m f s d)) {l : Bool} (hl : l ≡ held_by_other m f (list_of one)) where
          left : held_by_other m f (half m f s d) ≡ l
          left = sym (hl ∙ ap (held_by_other m f) (half_back m f s d one el))

          pub left-held : l ≡ true → Refused TopologyConflict ≡ split_checks m f s d
          unfolding split_checks
          left-held e = rw (ne_eqb f 0 face, source, dest, leaves, arrives, way, le-ltb far 2 apart, left, e)

          module _ (free : l ≡ false) {two : Links} (er : two ≡ links_of (half m f d s)) {r : Bool} (hr : r ≡ held_by_other m f (list_of two)) where
            right : held_by_other m f (half m f d s) ≡ r
            right = sym (hr ∙ ap (held_by_other m f) (half_back m f d s two er))

            pub right-held : r ≡ true → Refused TopologyConflict ≡ split_checks m f s d
            unfolding split_checks
            right-held e = rw (ne_eqb f 0 face, source, dest, leaves, arrives, way, le-ltb far 2 apart, left, free, right, e)

            pub splits : r ≡ false → Done ≡ split_checks m f s d
            unfolding split_checks
            splits e = rw (ne_eqb f 0 face, source, dest, leaves, arrives, way, le-ltb far 2 apart, left, free, right, e)
