-- Links chained by the remainders that the sources of their rows leave: a link more, a table filled up, and a walk along a chain.
use Prim.Native.Nat.{ℕ, ◌+◌, ◌-◌, ◌%◌, ◌≤◌, ◌<◌}
use native.Mathlib.Nat.{le_refl, not-suc-le-zero}
use native.Mathlib.Omega.{arith}
use native.Mathlib.Decide.{ℕ_discrete}
use borrow.Author.Count.{below_more}
use borrow.Author.Tests.{eq-eqb, ne_eqb}
use lib.Dec.{eqb}
use mathlib.Core.Path.{◌≡◌, refl, ap, sym, ◌∙◌, subst}
use mathlib.Core.Bool.{cond}
use mathlib.Core.List.{List, [], ◌∷◌, ◌++◌}
use lib.ListN.{length, get_or, set, take, length-set}
use lib.Seq.{get_or-set_same, get_or-set_other, take-set-le}
use Rattle.rules.specs.Table.{Table, cell}
use Rattle.pairs.proofs.Has.{one_written}
use Rattle.pairs.specs.Near.{FilledUp, source_at, LastLike, Chained, chained_at}

-- ---- where the sources are the same

module _ (arcs arcs₁ : Table) (near near₁ : List ℕ) where
  like-same : (v n p : ℕ) → ((j : ℕ) → j < n → source_at arcs₁ near₁ j ≡ source_at arcs near j) → LastLike arcs near v n p → LastLike arcs₁ near₁ v n p
  like-same v n p same h = record {
    within = h.within;
    like = λ q. ap (λ (s : ℕ). s % 128) (same (p - 1) (omega (arith, h.within))) ∙ h.like q;
    past = λ j a b e. h.past j a b (sym (ap (λ (s : ℕ). s % 128) (same j b)) ∙ e);
  }

  chained_same : (n : ℕ) → ((j : ℕ) → j < n → source_at arcs₁ near₁ j ≡ source_at arcs near j) → ((k : ℕ) → 1024 ≤ k → get_or near₁ k 0 ≡ get_or near k 0) → Chained arcs near n → Chained arcs₁ near₁ n
  chained_same n same beyond h = record {
    used = λ j q z. h.used j q (sym (same j q) ∙ z);
    next = λ k q. rw (same k q, beyond (1024 + k) (omega arith)) (like-same (source_at arcs near k) k (get_or near (1024 + k) 0) (λ j b. same j (omega arith)) (h.next k q));
    last = λ v. rw (beyond (2048 + v % 128) (omega arith)) (like-same v n (get_or near (2048 + v % 128) 0) same (h.last v));
  }

pub chained-stays : (t n : Table) (near : List ℕ) (c : ℕ) → FilledUp t n → Chained t near c → Chained n near c
chained-stays t n near c f h = chained_same t n near near c (λ j q. f.stays (get_or near j 0) (h.used j q)) (λ k q. refl) h

-- ---- a link more

module _ (arcs : Table) (near : List ℕ) where
  pub chained-none : ((k : ℕ) → 2048 ≤ k → k < 2176 → get_or near k 0 ≡ 0) → Chained arcs near 0
  chained-none zeros = record {
    used = λ j q. absurd (not-suc-le-zero q);
    next = λ k q. absurd (not-suc-le-zero q);
    last = λ v. subst (LastLike arcs near v 0) (sym (zeros (2048 + v % 128) (omega arith) (omega arith))) (record { within = le_refl 0; like = λ q. absurd (not-suc-le-zero q); past = λ j a q. absurd (not-suc-le-zero q) });
  }

  -- a link that is listed and not chained
  pub chained-put : (n c x : ℕ) → n < 1024 → c ≤ n → Chained arcs near c → Chained arcs (set near n x) c
  chained-put n c x few le = chained_same arcs arcs near (set near n x) c (λ j q. ap (λ (y : ℕ). cell arcs y 0) (get_or-set_other near n j x 0 (λ e. omega arith))) (λ k q. get_or-set_other near n k x 0 (λ e. omega arith))

  longer : (v n p : ℕ) → (source_at arcs near n % 128 ≡ v % 128 → ⊥) → LastLike arcs near v n p → LastLike arcs near v (n + 1) p
  longer v n p ne h = record { within = omega (arith, h.within); like = h.like; past = λ j a b e. go j a b e (ℕ_discrete j n) }
    where
      go : (j : ℕ) → p ≤ j → j < n + 1 → source_at arcs near j % 128 ≡ v % 128 → Dec (j ≡ n) → ⊥
      go j a b e (yes q) = ne (ap (λ (i : ℕ). source_at arcs near i % 128) (sym q) ∙ e)
      go j a b e (no nq) = h.past j a (omega arith) e

module _ (arcs : Table) (near : List ℕ) (n s : ℕ) (few : n < 1024) (size : length near ≡ 2176) (es : s ≡ source_at arcs near n) (ns : s ≡ 0 → ⊥) (h : Chained arcs near n) where
  abbrev end : ℕ
  end = 2048 + s % 128

  abbrev put : List ℕ
  put = set near (1024 + n) (get_or near end 0)

  abbrev done : List ℕ
  done = chained_at near n s

  other : (k : ℕ) → (k ≡ 1024 + n → ⊥) → (k ≡ end → ⊥) → get_or done k 0 ≡ get_or near k 0
  other k a b = get_or-set_other put end k (n + 1) 0 b ∙ get_or-set_other near (1024 + n) k (get_or near end 0) 0 a

  source : (j : ℕ) → j < 1024 → source_at arcs done j ≡ source_at arcs near j
  source j q = ap (λ (y : ℕ). cell arcs y 0) (other j (λ e. omega arith) (λ e. omega arith))

  is : source_at arcs done n ≡ s
  is = source n few ∙ sym es

  last-same : (v : ℕ) → v % 128 ≡ s % 128 → LastLike arcs done v (n + 1) (get_or done (2048 + v % 128) 0)
  last-same v e = subst (LastLike arcs done v (n + 1)) (sym (ap (λ (r : ℕ). get_or done (2048 + r) 0) e ∙ get_or-set_same put end (n + 1) 0 (omega (arith, length-set near (1024 + n) (get_or near end 0), size)))) (record {
    within = le_refl (n + 1);
    like = λ q. let w : n + 1 - 1 ≡ n = omega arith in ap (λ (j : ℕ). source_at arcs done j % 128) w ∙ ap (λ (r : ℕ). r % 128) is ∙ sym e;
    past = λ j a b. absurd (omega arith);
  })

  last-other : (v : ℕ) → (v % 128 ≡ s % 128 → ⊥) → LastLike arcs done v (n + 1) (get_or done (2048 + v % 128) 0)
  last-other v ne = subst (LastLike arcs done v (n + 1)) (sym (other (2048 + v % 128) (λ e. omega arith) (λ e. ne (omega arith)))) (longer arcs done v n (get_or near (2048 + v % 128) 0) (λ e. ne (sym e ∙ ap (λ (r : ℕ). r % 128) is)) (like-same arcs arcs near done v n (get_or near (2048 + v % 128) 0) (λ j q. source j (omega arith)) (h.last v)))

  next-before : (k : ℕ) → k < n → LastLike arcs done (source_at arcs done k) k (get_or done (1024 + k) 0)
  next-before k q = rw (source k (omega arith), other (1024 + k) (λ e. omega arith) (λ e. omega arith)) (like-same arcs arcs near done (source_at arcs near k) k (get_or near (1024 + k) 0) (λ j b. source j (omega arith)) (h.next k q))

  here : get_or done (1024 + n) 0 ≡ get_or near end 0
  here = get_or-set_other put end (1024 + n) (n + 1) 0 (λ e. omega arith) ∙ get_or-set_same near (1024 + n) (get_or near end 0) 0 (omega (arith, size))

  next_here : LastLike arcs done (source_at arcs done n) n (get_or done (1024 + n) 0)
  next_here = rw (is, here) (like-same arcs arcs near done s n (get_or near end 0) (λ j b. source j (omega arith)) (h.last s))

  pub chained_more : Chained arcs done (n + 1)
  chained_more = record {
    used = below_more _ n (λ j q z. h.used j q (sym (source j (omega arith)) ∙ z)) (λ z. ns (sym is ∙ z));
    next = below_more _ n next-before next_here;
    last = λ v. go v (ℕ_discrete (v % 128) (s % 128));
  }
    where
      go : (v : ℕ) → Dec (v % 128 ≡ s % 128) → LastLike arcs done v (n + 1) (get_or done (2048 + v % 128) 0)
      go v (yes e) = last-same v e
      go v (no ne) = last-other v ne

-- ---- a used row listed, and chained where all before it are

module _ (near : List ℕ) (n c x s : ℕ) (few : n < 1024) (size : length near ≡ 2176) where
  abbrev listed : List ℕ
  listed = set near n x

  abbrev after-it : List ℕ
  after-it = cond (eqb c n) (chained_at listed n s) listed

  pub used-listed : take (n + 1) after-it ≡ take n near ++ (x ∷ [])
  used-listed = go (ℕ_discrete c n) ∙ one_written near n x (omega (arith, size))
    where
      go : Dec (c ≡ n) → take (n + 1) after-it ≡ take (n + 1) listed
      go (yes e) = rw (eq-eqb c n e) (take-set-le (n + 1) (set listed (1024 + n) (get_or listed (2048 + s % 128) 0)) (2048 + s % 128) (n + 1) (omega arith) ∙ take-set-le (n + 1) listed (1024 + n) (get_or listed (2048 + s % 128) 0) (omega arith))
      go (no ne) = rw (ne_eqb c n ne)

  pub used-chained : (arcs : Table) → cell arcs x 0 ≡ s → (s ≡ 0 → ⊥) → c ≤ n → Chained arcs near c → (cond (eqb c n) (n + 1) c ≤ n + 1) × Chained arcs after-it (cond (eqb c n) (n + 1) c)
  used-chained arcs es ns le k = go (ℕ_discrete c n)
    where
      here : get_or listed n 0 ≡ x
      here = get_or-set_same near n x 0 (omega (arith, size))

      go : Dec (c ≡ n) → (cond (eqb c n) (n + 1) c ≤ n + 1) × Chained arcs after-it (cond (eqb c n) (n + 1) c)
      go (yes e) = rw (eq-eqb c n e) (le_refl (n + 1), chained_more arcs listed n s few (length-set near n x ∙ size) (sym es ∙ ap (λ (y : ℕ). cell arcs y 0) (sym here)) ns (chained-put arcs near n n x few (le_refl n) (subst (Chained arcs near) e k)))
      go (no ne) = rw (ne_eqb c n ne) (omega arith, chained-put arcs near n c x few le k)
