-- A walk stored as it is taken, into 64 places: what a loop keeps, and what it has at each of its ends.
use Prim.Native.Nat.{ℕ, zero, suc, ◌+◌, ◌-◌, ◌≤◌, ◌<◌}
use native.Mathlib.Omega.{arith}
use native.Mathlib.Decide.{dec_lt}
use mathlib.Core.Path.{◌≡◌, refl, ap, sym, ◌∙◌}
use mathlib.Core.Bool.{cond}
use mathlib.Core.List.{List}
use lib.ListN.{length, get_or, take, set, replicate, length-set, length-replicate, get_or-eq_default}
use lib.Seq.{get_or-set_other, get_or-take, length-take-le, ext_get_or}
use lib.Dec.{eqb}
use borrow.Author.Tests.{eq-eqb, ne_eqb}
use Rattle.rules.specs.declared.Ended.{Ended}
use Rattle.rules.specs.declared.Ended.TheVariants.{Closed, Open, Cut}
use Rattle.rules.specs.declared.Walk.{Walk}
use Rattle.rules.specs.Mesh.{places_of, links_of}
use Rattle.rules.specs.Link.{walk, walk_ended, walk_of}
use Rattle.rules.proofs.Walks.{Stored, stored-none, stored-full, stored-stop, stored_on}
use Rattle.rules.proofs.Places.{place_is, places-length}

-- the places as the code holds them
abbrev pub walk_as : List ℕ → ℕ → Ended → Walk
walk_as at n e = record { links = record { at = at; len = n }; ended = e }

-- zero from n on
abbrev Clear : List ℕ → ℕ → Type 0
Clear at n = (k : ℕ) → n ≤ k → get_or at k 0 ≡ 0

-- places that are zero from n on are those of their first n
clear-places : (at : List ℕ) (n : ℕ) → length at ≡ 64 → n ≤ 64 → Clear at n → at ≡ places_of (take n at)
clear-places at n size few clear = ext_get_or 0 at (places_of (take n at)) (size ∙ sym (places-length (take n at))) same
  where
    short : length (take n at) ≡ n
    short = length-take-le n at (omega arith)

    same : (i : ℕ) → i < length at → get_or at i 0 ≡ get_or (places_of (take n at)) i 0
    same i l = go (dec_lt i n) ∙ sym (place_is (take n at) (omega (arith, short)) i)
      where
        go : Dec (i < n) → get_or at i 0 ≡ get_or (take n at) i 0
        go (yes q) = sym (get_or-take n at i 0 q)
        go (no nq) = clear i (omega arith) ∙ sym (get_or-eq_default (take n at) 0 (omega (arith, short)))

module _ (step : ℕ → ℕ) (first : ℕ) where
  -- ---- how a walk ends, one step at a time

  ended-none : (m : ℕ) → walk_ended step first m 0 ≡ Open
  unfolding walk_ended
  ended-none zero = refl
  ended-none (suc m) = refl

  ended-cut : (x : ℕ) → (x ≡ 0 → ⊥) → walk_ended step first 0 x ≡ Cut
  unfolding walk_ended
  ended-cut zero h = absurd (h refl)
  ended-cut (suc x) h = refl

  ended-suc : (m x : ℕ) → (x ≡ 0 → ⊥) → walk_ended step first (suc m) x ≡ cond (eqb (step x) first) Closed (walk_ended step first m (step x))
  unfolding walk_ended
  ended-suc m zero h = absurd (h refl)
  ended-suc m (suc x) h = refl

  -- ---- what the loop keeps: n places are in, and x is next

  pub record Going (at : List ℕ) (n x : ℕ) : Type 0 where
    pub size : length at ≡ 64
    pub few : n ≤ 64
    pub clear : Clear at n
    pub stored : Stored step first 64 at n x
    pub ended : walk_ended step first (64 - n) x ≡ walk_ended step first 64 first

  zeros : (n k : ℕ) → ◌≡◌ {A = ℕ} (get_or (replicate n 0) k 0) 0
  zeros zero k = refl
  zeros (suc n) zero = refl
  zeros (suc n) (suc k) = zeros n k

  pub going_start : Going (replicate 64 0) 0 first
  going_start = record { size = length-replicate {A = ℕ} 64 0; few = omega arith; clear = λ k l. zeros 64 k; stored = refl; ended = refl }

  -- all of it, as the code holds it
  whole : (at : List ℕ) (n x : ℕ) (e : Ended) → length at ≡ 64 → n ≤ 64 → Clear at n → take n at ≡ walk step first 64 first → e ≡ walk_ended step first 64 first → walk_as at n e ≡ walk_of step first 64
  unfolding walk_of links_of
  whole at n x e size few clear all end =
      let places : at ≡ places_of (walk step first 64 first) = clear-places at n size few clear ∙ ap places_of all in
      let many : n ≡ length (walk step first 64 first) = sym (length-take-le n at (omega arith)) ∙ ap length all in
      λ i. walk_as (places i) (many i) (end i)

  module _ (at : List ℕ) (n x : ℕ) (g : Going at n x) where
    pub going-none : x ≡ 0 → walk_as at n Open ≡ walk_of step first 64
    going-none e =
        whole at n x Open g.size g.few g.clear (stored-none step first 64 at n x e g.stored)
        (sym (ended-none (64 - n)) ∙ ap (walk_ended step first (64 - n)) (sym e) ∙ g.ended)

    pub going-cut : 64 ≤ n → (x ≡ 0 → ⊥) → walk_as at n Cut ≡ walk_of step first 64
    going-cut l h =
        let z : 64 - n ≡ 0 = omega arith in
        whole at n x Cut g.size g.few g.clear (stored-full step first 64 at n x l g.stored)
        (sym (ended-cut x h) ∙ ap (λ (k : ℕ). walk_ended step first k x) (sym z) ∙ g.ended)

    module _ (l : n < 64) (h : x ≡ 0 → ⊥) (y : ℕ) (ey : y ≡ step x) where
      one_more : walk_ended step first (64 - n) x ≡ cond (eqb (step x) first) Closed (walk_ended step first (64 - (n + 1)) (step x))
      one_more =
          let z : 64 - n ≡ suc (64 - (n + 1)) = omega arith in
          rw z (ended-suc (64 - (n + 1)) x h)

      set-clear : Clear (set at n x) (n + 1)
      set-clear k q = get_or-set_other at n k x 0 (λ e. omega arith) ∙ g.clear k (omega arith)

      pub going-closed : y ≡ first → walk_as (set at n x) (n + 1) Closed ≡ walk_of step first 64
      going-closed e =
          let back : step x ≡ first = sym ey ∙ e in
          let closes : walk_ended step first (64 - n) x ≡ Closed = one_more ∙ rw (eq-eqb (step x) first back) in
          whole (set at n x) (n + 1) x Closed (length-set at n x ∙ g.size) (omega arith) set-clear
          (stored-stop step first 64 at n x l (omega (arith, g.size)) (omega arith) back g.stored)
          (sym closes ∙ g.ended)

      pub going_on : (y ≡ first → ⊥) → Going (set at n x) (n + 1) y
      going_on e =
          let on : step x ≡ first → ⊥ = λ q. e (ey ∙ q) in
          let goes : walk_ended step first (64 - n) x ≡ walk_ended step first (64 - (n + 1)) (step x) = one_more ∙ rw (ne_eqb (step x) first on) in
          record {
            size = length-set at n x ∙ g.size;
            few = omega arith;
            clear = set-clear;
            stored = rw ey (stored_on step first 64 at n x l (omega (arith, g.size)) (omega arith) on g.stored);
            ended = rw ey (sym goes ∙ g.ended);
          }
