-- Keys in a table differ: a key names one row, and lookup by key finds it.
use Prim.Native.Nat.{ℕ, zero, suc, ◌+◌, ◌-◌, ◌≤◌, ◌<◌}
use native.Mathlib.Nat.{le_of_suc-le-suc, not-suc-le-zero}
use native.Mathlib.Omega.{arith}
use mathlib.Core.Path.{◌≡◌, refl, ap, sym, subst, ◌∙◌}
use mathlib.Core.Bool.{Bool, true, false, not, cond}
use mathlib.Core.List.{List, [], ◌∷◌}
use lib.ListN.{length, get_or}
use lib.Dec.{T, T_not, not_T, eqb, eqb→eq, eqb_refl}
use lib.Ieee.Fits.{and_l, and_r, and_i}
use borrow.Author.Tests.{le-leb}
use Rattle.rules.specs.Table.{Table, there, used, unused, has, distinct, every, first_row, count}
use Rattle.rules.specs.Mesh.{key_of, key_at, keyed, find_key}
use Rattle.rules.specs.Sound.{keys_of}
use Rattle.rules.proofs.Sums.{or_l, or_r, or_cases, every-has}
use Rattle.rules.proofs.Counts.{count-found, found-passes, count-cons, bit}
use Rattle.proved.proofs.Rows.{T_true, true-T, same-T, cell_row, there-row, link_row, in_table}

-- ---- the keys of the used rows

-- a used row's key is among them
pub keys-have : (t : Table) (k : ℕ) → T (used (get_or t k [])) → T (has (keys_of t) (key_of (get_or t k [])))
unfolding keys_of has
keys-have [] k u = absurd u
keys-have (r ∷ rs) zero u = go (unused r) u
  where
    go : (b : Bool) → T (not b) → T (has (cond b (keys_of rs) (key_of r ∷ keys_of rs)) (key_of r))
    go true n = absurd n
    go false n = or_l (eqb (key_of r) (key_of r)) _ (eqb_refl (key_of r))
keys-have (r ∷ rs) (suc k) u = go (unused r) (keys-have rs k u)
  where
    go : (b : Bool) → T (has (keys_of rs) (key_of (get_or rs k []))) → T (has (cond b (keys_of rs) (key_of r ∷ keys_of rs)) (key_of (get_or rs k [])))
    go true h = h
    go false h = or_r (eqb (key_of (get_or rs k [])) (key_of r)) _ h

-- no two used rows have one key
abbrev keys_with : Bool → List ℕ → Table → List ℕ
keys_with b r rs = cond b (keys_of rs) (key_of r ∷ keys_of rs)

first_key : (r : List ℕ) (rs : Table) (k : ℕ) (b : Bool) → T (distinct (keys_with b r rs)) → T (not b) → T (used (get_or rs k [])) → key_of r ≡ key_of (get_or rs k []) → ⊥
unfolding distinct
first_key r rs k true d n w e = n
first_key r rs k false d n w e =
    T_not (has (keys_of rs) (key_of r)) (and_l (not (has (keys_of rs) (key_of r))) (distinct (keys_of rs)) d) (subst (λ (z : ℕ). T (has (keys_of rs) z)) (sym e) (keys-have rs k w))

later-keys : (r : List ℕ) (rs : Table) (b : Bool) → T (distinct (keys_with b r rs)) → T (distinct (keys_of rs))
unfolding distinct
later-keys r rs true d = d
later-keys r rs false d = and_r (not (has (keys_of rs) (key_of r))) (distinct (keys_of rs)) d

abbrev RowsApart : Table → Type 0
RowsApart t = (j k : ℕ) → T (used (get_or t j [])) → T (used (get_or t k [])) → key_of (get_or t j []) ≡ key_of (get_or t k []) → j ≡ k

keys-apart : (t : Table) → T (distinct (keys_of t)) → RowsApart t
unfolding keys_of
keys-apart [] d j k u w e = absurd u
keys-apart (r ∷ rs) d zero zero u w e = refl
keys-apart (r ∷ rs) d zero (suc k) u w e = absurd (first_key r rs k (unused r) d u w e)
keys-apart (r ∷ rs) d (suc j) zero u w e = absurd (first_key r rs j (unused r) d w u (sym e))
keys-apart (r ∷ rs) d (suc j) (suc k) u w e = ap suc (keys-apart rs (later-keys r rs (unused r) d) j k u w e)

-- a key among them is some used row's
abbrev KeyRow : Table → ℕ → Type 0
KeyRow t x = (k : ℕ) × T (used (get_or t k [])) × (key_of (get_or t k []) ≡ x)

keys-row : (t : Table) (x : ℕ) → T (has (keys_of t) x) → KeyRow t x
unfolding keys_of has
keys-row [] x h = absurd h
keys-row (r ∷ rs) x h = go (unused r) refl h (keys-row rs x)
  where
    later : KeyRow rs x → KeyRow (r ∷ rs) x
    later w = (suc w.0, w.1, w.2)

    go : (b : Bool) → unused r ≡ b → T (has (keys_with b r rs) x) → (T (has (keys_of rs) x) → KeyRow rs x) → KeyRow (r ∷ rs) x
    go true e q ih = later (ih q)
    go false e q ih = or_cases (eqb x (key_of r)) (has (keys_of rs) x) q (λ z. (0, subst (λ (b : Bool). T (not b)) (sym e) tt, sym (eqb→eq x (key_of r) z))) (λ z. later (ih z))

apart-keys : (t : Table) → RowsApart t → T (distinct (keys_of t))
unfolding keys_of distinct
apart-keys [] h = tt
apart-keys (r ∷ rs) h = go (unused r) refl (apart-keys rs (λ j k u w e. let z = h (suc j) (suc k) u w e in omega arith))
  where
    clash : T (not (unused r)) → KeyRow rs (key_of r) → ⊥
    clash u w = let z = h 0 (suc w.0) u w.1 (sym w.2) in omega arith

    go : (b : Bool) → unused r ≡ b → T (distinct (keys_of rs)) → T (distinct (keys_with b r rs))
    go true e d = d
    go false e d =
        and_i (not (has (keys_of rs) (key_of r))) (distinct (keys_of rs)) (not_T (has (keys_of rs) (key_of r)) (λ t. clash (subst (λ (b : Bool). T (not b)) (sym e) tt) (keys-row rs (key_of r) t))) d

-- every element passes, from each
every-from : (p : ℕ → Bool) (l : List ℕ) → ((x : ℕ) → T (has l x) → T (p x)) → T (every p l)
unfolding every has
every-from p [] h = tt
every-from p (y ∷ ys) h = and_i (p y) (every p ys) (h y (or_l (eqb y y) (has ys y) (eqb_refl y))) (every-from p ys (λ x t. h x (or_r (eqb x y) (has ys x) t)))

-- ---- by link

module _ (t : Table) where
  row-used : (l : ℕ) → T (there t l) → T (used (get_or t (l - 1) []))
  row-used l h =
      let e = link_row l (in_table t l h).0 in
      subst T (there-row t (l - 1)) (subst (λ (z : ℕ). T (there t z)) (sym e) h)

  row-key : (l : ℕ) → T (there t l) → key_at t l ≡ key_of (get_or t (l - 1) [])
  row-key l h =
      let e = link_row l (in_table t l h).0 in
      ap (λ (z : ℕ). key_at t z) (sym e) ∙ ap (λ (z : ℕ). z - 1) (cell_row t (l - 1) 0)

  -- a key names one row
  pub one_key : T (distinct (keys_of t)) → (l k : ℕ) → T (there t l) → T (there t k) → key_at t l ≡ key_at t k → l ≡ k
  one_key d l k a b e =
      let q = keys-apart t d (l - 1) (k - 1) (row-used l a) (row-used k b) (sym (row-key l a) ∙ e ∙ row-key k b) in
      omega (arith, (in_table t l a).0, (in_table t k b).0)

  -- and passes what every key passes
  pub key-passes : (p : ℕ → Bool) → T (every p (keys_of t)) → (l : ℕ) → T (there t l) → T (p (key_at t l))
  key-passes p h l a =
      subst (λ (z : ℕ). T (p z)) (sym (row-key l a)) (every-has p (keys_of t) h (key_of (get_or t (l - 1) [])) (keys-have t (l - 1) (row-used l a)))

  link-used : (k : ℕ) → T (used (get_or t k [])) → T (there t (k + 1))
  link-used k u = subst T (sym (there-row t k)) u

  link-key : (k : ℕ) → key_at t (k + 1) ≡ key_of (get_or t k [])
  link-key k = ap (λ (z : ℕ). z - 1) (cell_row t k 0)

  -- the other way round
  pub keys_from : ((l k : ℕ) → T (there t l) → T (there t k) → key_at t l ≡ key_at t k → l ≡ k) → T (distinct (keys_of t))
  keys_from h =
      apart-keys t (λ j k u w e. let z = h (j + 1) (k + 1) (link-used j u) (link-used k w) (link-key j ∙ e ∙ sym (link-key k)) in omega arith)

  pub keys-pass : (p : ℕ → Bool) → ((l : ℕ) → T (there t l) → T (p (key_at t l))) → T (every p (keys_of t))
  keys-pass p h = every-from p (keys_of t) (λ x i. go x (keys-row t x i))
    where
      go : (x : ℕ) → KeyRow t x → T (p x)
      go x w = subst (λ (z : ℕ). T (p z)) (link-key w.0 ∙ w.2) (h (w.0 + 1) (link-used w.0 w.1))

-- ---- lookup

-- a row that passes is counted
pub some-passes {ℓ} : {A : Type ℓ} (p : A → Bool) (xs : List A) (d : A) (k : ℕ) → k < length xs → T (p (get_or xs k d)) → 1 ≤ count p xs
some-passes p [] d k l h = absurd (not-suc-le-zero l)
some-passes p (x ∷ xs) d zero l h = omega (arith, count-cons p x xs, ap bit (T_true (p x) h))
some-passes p (x ∷ xs) d (suc k) l h = omega (arith, count-cons p x xs, some-passes p xs d k (le_of_suc-le-suc l) h)

-- lookup by a used row's key finds that row
pub find-key : (t : Table) → length t ≤ 16384 → T (distinct (keys_of t)) → (l : ℕ) → T (there t l) → find_key t (key_at t l) ≡ l
unfolding find_key
find-key t s d l h = rw (le-leb (length t) 16384 s) (go (keyed k (get_or t k [])) refl)
  where
    k : ℕ
    k = key_at t l

    named : (i : ℕ) → T (keyed k (get_or t i [])) → i + 1 ≡ l
    named i q =
        let u = and_l (used (get_or t i [])) (eqb (key_of (get_or t i [])) k) q in
        let e = eqb→eq (key_of (get_or t i [])) k (and_r (used (get_or t i [])) (eqb (key_of (get_or t i [])) k) q) in
        one_key t d (i + 1) l (subst T (sym (there-row t i)) u) h (ap (λ (z : ℕ). z - 1) (cell_row t i 0) ∙ e)

    here : T (keyed k (get_or t (l - 1) []))
    here = and_i (used (get_or t (l - 1) [])) (eqb (key_of (get_or t (l - 1) [])) k) (row-used t l h) (same-T (key_of (get_or t (l - 1) [])) k (sym (row-key t l h)))

    found : 1 ≤ first_row (keyed k) t
    found = count-found (keyed k) t (some-passes (keyed k) t [] (l - 1) (omega (arith, (in_table t l h).0, (in_table t l h).1)) here)

    go : (b : Bool) → keyed k (get_or t k []) ≡ b → cond b (k + 1) (first_row (keyed k) t) ≡ l
    go true e = named k (true-T e)
    go false e = omega (arith, found, named (first_row (keyed k) t - 1) (true-T (found-passes (keyed k) t [] found)))
