-- The used links of a table in order: each is in use, each used link is among them once, and each comes before the next.
use Prim.Native.Nat.{ℕ, zero, suc, ◌+◌, ◌≤◌, ◌<◌}
use native.Mathlib.Nat.{le_of_suc-le-suc, not-suc-le-zero}
use native.Mathlib.Omega.{arith}
use native.Mathlib.Decide.{ℕ_discrete}
use mathlib.Core.Path.{◌≡◌, refl, ap, sym, subst, ◌∙◌}
use mathlib.Core.Bool.{Bool, true, false, not, ◌&&◌, ◌||◌, cond}
use mathlib.Core.List.{List, [], ◌∷◌}
use lib.ListN.{length, get_or}
use lib.Dec.{T, eqb, leb, eqb→eq, eqb_refl, leb→le, le→leb}
use lib.Ieee.Fits.{and_l, and_r, and_i}
use Rattle.rules.specs.Table.{Table, there, every, has}
use Rattle.rules.specs.Records.{used_from, put_among, in_order}
use Rattle.rules.proofs.Sums.{or_l, or_r, or_cases}
use Rattle.proved.proofs.Rows.{true-T, differ, differ-T, in_table, every-at}
use Rattle.proved.proofs.Around.{has-place}
use Rattle.file.proofs.Told.{links_in, links-used, put-passes, order-passes}

-- ---- each before the next

-- what stands first in a list, if anything does, comes after x
unfoldable pub head_after : (ℕ → ℕ → Bool) → ℕ → List ℕ → Bool
head_after before x [] = true
head_after before x (y ∷ ys) = before x y

unfoldable pub chained : (ℕ → ℕ → Bool) → List ℕ → Bool
chained before [] = true
chained before (x ∷ xs) = head_after before x xs && chained before xs

-- of two one comes before the other
abbrev pub either_way : (ℕ → ℕ → Bool) → ℕ → ℕ → Bool
either_way before x y = before x y || before y x

put-head : (before : ℕ → ℕ → Bool) (y x : ℕ) (l : List ℕ) → T (before y x) → T (head_after before y l) → T (head_after before y (put_among before x l))
unfolding head_after put_among
put-head before y x [] h k = h
put-head before y x (z ∷ zs) h k = go (before x z)
  where
    go : (b : Bool) → T (head_after before y (cond b (x ∷ z ∷ zs) (z ∷ put_among before x zs)))
    go true = h
    go false = k

pub put-chained : (before : ℕ → ℕ → Bool) (x : ℕ) (l : List ℕ) → T (every (either_way before x) l) → T (chained before l) → T (chained before (put_among before x l))
unfolding chained put_among every
put-chained before x [] h k = unfold head_after in tt
put-chained before x (y ∷ ys) h k =
    go (before x y) refl (put-chained before x ys (and_r (either_way before x y) (every (either_way before x) ys) h) (and_r (head_after before y ys) (chained before ys) k))
  where
    other : before x y ≡ false → T (before y x)
    other e = or_cases (before x y) (before y x) (and_l (either_way before x y) (every (either_way before x) ys) h) (λ t. absurd (subst T e t)) (λ t. t)

    go : (b : Bool) → before x y ≡ b → T (chained before (put_among before x ys)) → T (chained before (cond b (x ∷ y ∷ ys) (y ∷ put_among before x ys)))
    go true e q = and_i (head_after before x (y ∷ ys)) (chained before (y ∷ ys)) (unfold head_after in true-T e) k
    go false e q =
        and_i (head_after before y (put_among before x ys)) (chained before (put_among before x ys))
        (put-head before y x ys (other e) (and_l (head_after before y ys) (chained before ys) k)) q

pub chained-at : (before : ℕ → ℕ → Bool) (l : List ℕ) → T (chained before l) → (i : ℕ) → i + 1 < length l → T (before (get_or l i 0) (get_or l (i + 1) 0))
chained-at before [] h i q = absurd (let z : ⊥ = omega arith in z)
chained-at before (x ∷ []) h i q = absurd (let z : ⊥ = omega arith in z)
chained-at before (x ∷ y ∷ ys) h zero q = unfold chained in unfold head_after in and_l (before x y) (chained before (y ∷ ys)) h
chained-at before (x ∷ y ∷ ys) h (suc i) q =
    let n : suc i + 1 ≡ suc (i + 1) = omega arith in
    let rest : T (chained before (y ∷ ys)) = unfold chained in and_r (head_after before x (y ∷ ys)) (chained before (y ∷ ys)) h in
    subst (λ (j : ℕ). T (before (get_or (y ∷ ys) i 0) (get_or (x ∷ y ∷ ys) j 0))) (sym n) (chained-at before (y ∷ ys) rest i (omega arith))

-- ---- none twice

unfoldable pub apart : List ℕ → Bool
apart [] = true
apart (x ∷ xs) = every (λ y. not (eqb x y)) xs && apart xs

pub put-apart : (before : ℕ → ℕ → Bool) (x : ℕ) (l : List ℕ) → T (every (λ y. not (eqb x y)) l) → T (apart l) → T (apart (put_among before x l))
unfolding apart put_among every
put-apart before x [] h k = tt
put-apart before x (y ∷ ys) h k =
    go (before x y) (put-apart before x ys (and_r (not (eqb x y)) (every (λ z. not (eqb x z)) ys) h) (and_r (every (λ z. not (eqb y z)) ys) (apart ys) k))
  where
    other : T (not (eqb y x))
    other = differ-T y x (λ e. differ x y (and_l (not (eqb x y)) (every (λ z. not (eqb x z)) ys) h) (sym e))

    go : (b : Bool) → T (apart (put_among before x ys)) → T (apart (cond b (x ∷ y ∷ ys) (y ∷ put_among before x ys)))
    go true q = and_i (every (λ z. not (eqb x z)) (y ∷ ys)) (apart (y ∷ ys)) h k
    go false q =
        and_i (every (λ z. not (eqb y z)) (put_among before x ys)) (apart (put_among before x ys))
        (put-passes before (λ z. not (eqb y z)) x ys other (and_l (every (λ z. not (eqb y z)) ys) (apart ys) k)) q

pub apart-once : (l : List ℕ) → T (apart l) → (i j : ℕ) → i < length l → j < length l → get_or l i 0 ≡ get_or l j 0 → i ≡ j
unfolding apart
apart-once [] h i j a b e = absurd (not-suc-le-zero a)
apart-once (x ∷ xs) h zero zero a b e = refl
apart-once (x ∷ xs) h zero (suc j) a b e =
    absurd (differ x (get_or xs j 0) (every-at (λ y. not (eqb x y)) xs 0 (and_l (every (λ y. not (eqb x y)) xs) (apart xs) h) j (le_of_suc-le-suc b)) e)
apart-once (x ∷ xs) h (suc i) zero a b e =
    absurd (differ x (get_or xs i 0) (every-at (λ y. not (eqb x y)) xs 0 (and_l (every (λ y. not (eqb x y)) xs) (apart xs) h) i (le_of_suc-le-suc a)) (sym e))
apart-once (x ∷ xs) h (suc i) (suc j) a b e =
    ap suc (apart-once xs (and_r (every (λ y. not (eqb x y)) xs) (apart xs) h) i j (le_of_suc-le-suc a) (le_of_suc-le-suc b) e)

-- ---- all of them

put-has-new : (before : ℕ → ℕ → Bool) (x : ℕ) (l : List ℕ) → T (has (put_among before x l) x)
unfolding put_among has
put-has-new before x [] = or_l (eqb x x) false (eqb_refl x)
put-has-new before x (y ∷ ys) = go (before x y) (put-has-new before x ys)
  where
    go : (b : Bool) → T (has (put_among before x ys) x) → T (has (cond b (x ∷ y ∷ ys) (y ∷ put_among before x ys)) x)
    go true q = or_l (eqb x x) (has (y ∷ ys) x) (eqb_refl x)
    go false q = or_r (eqb x y) (has (put_among before x ys) x) q

put-has-old : (before : ℕ → ℕ → Bool) (x : ℕ) (l : List ℕ) (z : ℕ) → T (has l z) → T (has (put_among before x l) z)
unfolding put_among has
put-has-old before x [] z h = absurd h
put-has-old before x (y ∷ ys) z h = go (before x y) (put-has-old before x ys z)
  where
    go : (b : Bool) → (T (has ys z) → T (has (put_among before x ys) z)) → T (has (cond b (x ∷ y ∷ ys) (y ∷ put_among before x ys)) z)
    go true q = or_r (eqb z x) (has (y ∷ ys) z) h
    go false q = or_cases (eqb z y) (has ys z) h (λ e. or_l (eqb z y) (has (put_among before x ys) z) e) (λ t. or_r (eqb z y) (has (put_among before x ys) z) (q t))

order-has : (before : ℕ → ℕ → Bool) (l : List ℕ) (z : ℕ) → T (has l z) → T (has (in_order before l) z)
unfolding in_order has
order-has before [] z h = absurd h
order-has before (x ∷ xs) z h =
    or_cases (eqb z x) (has xs z) h
    (λ e. subst (λ (y : ℕ). T (has (put_among before x (in_order before xs)) y)) (sym (eqb→eq z x e)) (put-has-new before x (in_order before xs)))
    (λ t. put-has-old before x (in_order before xs) z (order-has before xs z t))

used-has : (t : Table) (l : ℕ) (rows : Table) (z : ℕ) → l ≤ z → z < l + length rows → T (there t z) → T (has (used_from t l rows) z)
unfolding used_from
used-has t l [] z a b u = absurd (let q : ⊥ = omega arith in q)
used-has t l (r ∷ rs) z a b u = go (ℕ_discrete z l) (there t l) refl (λ c. used-has t (l + 1) rs z c (omega arith) u)
  where
    go : Dec (z ≡ l) → (b : Bool) → there t l ≡ b → (l + 1 ≤ z → T (has (used_from t (l + 1) rs) z)) → T (has (cond b (l ∷ used_from t (l + 1) rs) (used_from t (l + 1) rs)) z)
    go (yes e) true q ih = unfold has in or_l (eqb z l) (has (used_from t (l + 1) rs) z) (subst (λ (y : ℕ). T (eqb z y)) e (eqb_refl z))
    go (yes e) false q ih = absurd (subst T (ap (there t) e ∙ q) u)
    go (no ne) true q ih = unfold has in or_r (eqb z l) (has (used_from t (l + 1) rs) z) (ih (omega arith))
    go (no ne) false q ih = ih (omega arith)

-- the used links from a row on are not below it
used-above : (t : Table) (l : ℕ) (rows : Table) → T (every (λ y. leb l y && there t y) (used_from t l rows))
unfolding used_from every
used-above t l [] = tt
used-above t l (r ∷ rs) = go (there t l) refl (used-above t (l + 1) rs)
  where
    weaker : (k : List ℕ) → T (every (λ y. leb (l + 1) y && there t y) k) → T (every (λ y. leb l y && there t y) k)
    weaker [] h = tt
    weaker (y ∷ ys) h =
        let here = and_l (leb (l + 1) y && there t y) (every (λ z. leb (l + 1) z && there t z) ys) h in
        let low = leb→le (l + 1) y (and_l (leb (l + 1) y) (there t y) here) in
        and_i (leb l y && there t y) (every (λ z. leb l z && there t z) ys)
        (and_i (leb l y) (there t y) (le→leb l y (omega arith)) (and_r (leb (l + 1) y) (there t y) here))
        (weaker ys (and_r (leb (l + 1) y && there t y) (every (λ z. leb (l + 1) z && there t z) ys) h))

    go : (b : Bool) → there t l ≡ b → T (every (λ y. leb (l + 1) y && there t y) (used_from t (l + 1) rs))
        → T (every (λ y. leb l y && there t y) (cond b (l ∷ used_from t (l + 1) rs) (used_from t (l + 1) rs)))
    go true e h =
        and_i (leb l l && there t l) (every (λ y. leb l y && there t y) (used_from t (l + 1) rs))
        (and_i (leb l l) (there t l) (le→leb l l (omega arith)) (true-T e)) (weaker (used_from t (l + 1) rs) h)
    go false e h = weaker (used_from t (l + 1) rs) h

-- what passes one test passes another
pub every-so : (p q : ℕ → Bool) (l : List ℕ) → ((x : ℕ) → T (p x) → T (q x)) → T (every p l) → T (every q l)
unfolding every
every-so p q [] f h = tt
every-so p q (x ∷ xs) f h = and_i (q x) (every q xs) (f x (and_l (p x) (every p xs) h)) (every-so p q xs f (and_r (p x) (every p xs) h))

module _ (before : ℕ → ℕ → Bool) (t : Table) where
  later : (l : ℕ) (rs : Table) → T (every (λ y. leb (l + 1) y && there t y) (in_order before (used_from t (l + 1) rs)))
  later l rs = order-passes before (λ y. leb (l + 1) y && there t y) (used_from t (l + 1) rs) (used-above t (l + 1) rs)

  above : (l y : ℕ) → T (leb (l + 1) y && there t y) → l < y
  above l y h = let q = leb→le (l + 1) y (and_l (leb (l + 1) y) (there t y) h) in omega arith

  used-apart : (l : ℕ) (rows : Table) → T (apart (in_order before (used_from t l rows)))
  unfolding used_from in_order
  used-apart l [] = unfold apart in tt
  used-apart l (r ∷ rs) = go (there t l) (used-apart (l + 1) rs)
    where
      go : (b : Bool) → T (apart (in_order before (used_from t (l + 1) rs))) → T (apart (in_order before (cond b (l ∷ used_from t (l + 1) rs) (used_from t (l + 1) rs))))
      go true h =
          put-apart before l (in_order before (used_from t (l + 1) rs))
          (every-so (λ y. leb (l + 1) y && there t y) (λ y. not (eqb l y)) (in_order before (used_from t (l + 1) rs))
          (λ y q. differ-T l y (λ e. omega (arith, above l y q))) (later l rs)) h
      go false h = h

  -- two used links are in order one way or the other
  abbrev pub Total : Type 0
  Total = (x y : ℕ) → T (there t x) → T (there t y) → (x ≡ y → ⊥) → T (either_way before x y)

  used-chained : Total → (l : ℕ) (rows : Table) → T (chained before (in_order before (used_from t l rows)))
  unfolding used_from in_order
  used-chained total l [] = unfold chained in tt
  used-chained total l (r ∷ rs) = go (there t l) refl (used-chained total (l + 1) rs)
    where
      go : (b : Bool) → there t l ≡ b → T (chained before (in_order before (used_from t (l + 1) rs)))
          → T (chained before (in_order before (cond b (l ∷ used_from t (l + 1) rs) (used_from t (l + 1) rs))))
      go true e h =
          put-chained before l (in_order before (used_from t (l + 1) rs))
          (every-so (λ y. leb (l + 1) y && there t y) (either_way before l) (in_order before (used_from t (l + 1) rs))
          (λ y q. total l y (true-T e) (and_r (leb (l + 1) y) (there t y) q) (λ z. omega (arith, above l y q))) (later l rs)) h
      go false e h = h

-- ---- a table's used links

pub record Listed (t : Table) (links : List ℕ) : Type 0 where
  pub each : (i : ℕ) → i < length links → T (there t (get_or links i 0))
  pub all : (x : ℕ) → T (there t x) → (i : ℕ) × (i < length links) × (get_or links i 0 ≡ x)
  pub once : (i j : ℕ) → i < length links → j < length links → get_or links i 0 ≡ get_or links j 0 → i ≡ j

pub listed : (before : ℕ → ℕ → Bool) (t : Table) → Listed t (links_in before t)
listed before t =
    record {
      each = every-at (there t) (links_in before t) 0 (links-used before t);
      all = λ x u. has-place (links_in before t) x (order-has before (used_from t 1 t) x (used-has t 1 t x (in_table t x u).0 (omega (arith, (in_table t x u).1)) u));
      once = apart-once (links_in before t) (used-apart before t 1 t);
    }

pub in-order-at : (before : ℕ → ℕ → Bool) (t : Table) → Total before t → (i : ℕ) → i + 1 < length (links_in before t)
    → T (before (get_or (links_in before t) i 0) (get_or (links_in before t) (i + 1) 0))
in-order-at before t total i l = chained-at before (links_in before t) (used-chained before t total 1 t) i l
