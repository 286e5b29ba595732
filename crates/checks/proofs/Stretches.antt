-- A part of a list from place i to place j, on round the end where j is before i: it is made of slices, and has no more than the list.
use Prim.Native.Nat.{ℕ, ◌+◌, ◌-◌, ◌≤◌, ◌<◌, min}
use native.Mathlib.Omega.{arith}
use mathlib.Core.Path.{◌≡◌, refl, ap, sym, ◌∙◌}
use mathlib.Core.List.{List, ◌++◌}
use lib.ListN.{length, take, drop, replicate, length-append, length-take, length-drop, drop_of_length-le}
use lib.Seq.{take_all, take-append-add}
use Rattle.std.proofs.lemmas.List.{take_at, drop_at, drop-drop, drop-replicate, take-replicate, append_assoc}
use borrow.Rule.Slice.PartMut.{put_mid}
use borrow.Author.Tests.{lt-ltb, le-ltb}
use native.Mathlib.Decide.{dec_lt, dec_le}
use Rattle.rules.specs.declared.Links.{Links}
use Rattle.rules.specs.Mesh.{Mesh, places_of, links_of, list_of}
use Rattle.rules.specs.Link.{ring_vertices}
use Rattle.rules.specs.Edit.{place, stretch, half}
use Rattle.rules.proofs.Places.{list_back}
use Rattle.checks.proofs.Bounds.{vertices-few}

-- the places of a list are its members, then zeros
places : (l : List ℕ) → length l ≤ 64 → places_of l ≡ l ++ replicate (64 - length l) 0
unfolding places_of
places l h =
    let all : 64 ≡ length l + (64 - length l) = omega arith in
    ap (λ (n : ℕ). take n (l ++ replicate 64 0)) all
    ∙ take-append-add l (replicate 64 0) (64 - length l)
    ∙ ap (λ (r : List ℕ). l ++ r) (take-replicate (64 - length l) 64 0 (omega arith))

-- two parts written after one another
pub two_parts :
    (a b : List ℕ) → length a + length b ≤ 64 → (u v : List ℕ) → u ≡ a → v ≡ b →
    record { at = put_mid (length a) (length a + length b - length a) (u ++ drop (length a) (replicate 64 0)) v; len = length a + length b } ≡ links_of (a ++ b)
unfolding links_of
two_parts a b h u v eu ev =
    let la = length a in
    let k = length a + length b - length a in
    let z : List ℕ = replicate 64 0 in
    let rest : drop k (drop la z) ≡ replicate (64 - length (a ++ b)) 0 = drop-drop k la z ∙ drop-replicate (la + k) 64 0 ∙ ap (λ (n : ℕ). replicate n 0) (omega (arith, length-append a b)) in
    let at : put_mid la k (u ++ drop la z) v ≡ places_of (a ++ b) =
    (λ i. put_mid la k (eu i ++ drop la z) (ev i))
    ∙ ap (λ (r : List ℕ). r ++ (b ++ drop k (drop la (a ++ drop la z)))) (take_at a (drop la z) la refl)
    ∙ ap (λ (r : List ℕ). a ++ (b ++ drop k r)) (drop_at a (drop la z) la refl)
    ∙ ap (λ (r : List ℕ). a ++ (b ++ r)) rest
    ∙ sym (append_assoc a b (replicate (64 - length (a ++ b)) 0))
    ∙ sym (places (a ++ b) (omega (arith, length-append a b))) in
    let len : la + length b ≡ length (a ++ b) = sym (length-append a b) in
    λ i. record { at = at i; len = len i }

module _ (vs : List ℕ) (i j : ℕ) where
  round : j < i → stretch vs i j ≡ drop i vs ++ take (j + 1) vs
  unfolding stretch
  round h = rw (lt-ltb j i h)

  straight : i ≤ j → stretch vs i j ≡ drop i (take (j + 1) vs)
  unfolding stretch
  straight h = rw (le-ltb j i h)

  size-by : Dec (j < i) → length (stretch vs i j) ≤ length vs
  size-by (yes h) = omega (arith, ap length (round h), length-append (drop i vs) (take (j + 1) vs), length-drop i vs, length-take (j + 1) vs)
  size-by (no nh) = omega (arith, ap length (straight (omega arith)), length-drop i (take (j + 1) vs), length-take (j + 1) vs)

  pub stretch-few : length (stretch vs i j) ≤ length vs
  stretch-few = size-by (dec_lt j i)

-- a slice from a place on, and up to one, however far these are
on-from : (vs : List ℕ) (i k : ℕ) → k ≡ min i (length vs) → take (length vs - k) (drop k vs) ≡ drop i vs
on-from vs i k e = take_all (length vs - k) (drop k vs) (omega (arith, length-drop k vs)) ∙ go (dec_le i (length vs))
  where
    go : Dec (i ≤ length vs) → drop k vs ≡ drop i vs
    go (yes h) = let same : k ≡ i = omega arith in ap (λ (n : ℕ). drop n vs) same
    go (no h) = let m : length vs ≤ k = omega arith in let n : length vs ≤ i = omega arith in rw (drop_of_length-le vs m, drop_of_length-le vs n)

up-to : (vs : List ℕ) (n e : ℕ) → e ≡ min n (length vs) → take e vs ≡ take n vs
up-to vs n e h = go (dec_le n (length vs))
  where
    go : Dec (n ≤ length vs) → take e vs ≡ take n vs
    go (yes q) = let same : e ≡ n = omega arith in ap (λ (m : ℕ). take m vs) same
    go (no q) = take_all e vs (omega arith) ∙ sym (take_all n vs (omega arith))

module _ (vs : List ℕ) (i j e : ℕ) (h : e ≡ min (j + 1) (length vs)) where
  pub round-parts : (k : ℕ) → j < i → k ≡ min i (length vs) → take (length vs - k) (drop k vs) ++ take e vs ≡ stretch vs i j
  round-parts k l q = rw (on-from vs i k q, up-to vs (j + 1) e h) (sym (round vs i j l))

  pub straight-part : (k : ℕ) → i ≤ j → k ≡ min i (length (take e vs)) → take (length (take e vs) - k) (drop k (take e vs)) ≡ stretch vs i j
  straight-part k l q = on-from (take e vs) i k q ∙ ap (drop i) (up-to vs (j + 1) e h) ∙ sym (straight vs i j l)

pub half_back : (m : Mesh) (f s d : ℕ) (l : Links) → l ≡ links_of (half m f s d) → list_of l ≡ half m f s d
unfolding half
half_back m f s d l e =
    let vs = ring_vertices m f in
    ap list_of e ∙ list_back (half m f s d) (omega (arith, stretch-few vs (place vs s - 1) (place vs d - 1), vertices-few m f))
