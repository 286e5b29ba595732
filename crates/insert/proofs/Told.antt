-- The arcs of a perimeter's pairs after its edges: the arc that was there, or the first arc of the edge that was made. So it is unless two pairs
-- join the same vertices, or an edge has no row.
use Prim.Native.Nat.{ℕ, zero, suc, ◌+◌, ◌-◌, ◌≤◌, ◌<◌}
use native.Mathlib.Nat.{not-suc-le-zero}
use native.Mathlib.Omega.{arith}
use native.Mathlib.Decide.{ℕ_discrete, dec_lt}
use mathlib.Core.Path.{◌≡◌, refl, ap, sym, ◌∙◌}
use mathlib.Core.Bool.{Bool, true, false, cond, ◌&&◌, ◌||◌}
use mathlib.Core.List.{List, [], ◌∷◌}
use lib.ListN.{length, get_or, take, set, length-set}
use lib.Seq.{get_or-set_same, get_or-set_other, get_or-take, length-take-le, ext_get_or}
use lib.Dec.{eqb}
use borrow.Author.Tests.{eq-eqb, ne_eqb}
use Rattle.rules.specs.Table.{Table, put_row, unused, first_row, below, link_into, free_row, some_below, has, after}
use Rattle.rules.specs.Mesh.{Mesh, joins, arc_between}
use Rattle.rules.specs.Link.{new_arc, new_edge}
use Rattle.rules.proofs.Scan.{joins-yes, first-le}
use Rattle.tables.proofs.Scans.{into-large, into-fits, into-found}
use Rattle.pairs.specs.Pairs.{pair_arc, arcs_of, same_two, meets, met_before}
use Rattle.pairs.proofs.Listed.{arcs-length, arcs-at}
use Rattle.pairs.proofs.Below.{some-here, or_left, or_right}
use Rattle.insert.specs.Perimeter.{edge_in, Tells}
use Rattle.insert.proofs.Apart.{arc-apart, insert-apart, found}

clash : false ≡ true → ⊥
clash e = let z : ◌≡◌ {A = ℕ} 0 1 = ap (λ (b : Bool). cond b 1 0) e in omega arith

-- ---- a new edge's first arc is found

-- where no row passes, each fails
none_here : (p : List ℕ → Bool) (t : Table) (k : ℕ) → first_row p t ≡ 0 → k < length t → p (get_or t k []) ≡ false
unfolding first_row
none_here p [] k e l = absurd (not-suc-le-zero l)
none_here p (r ∷ rs) k e l = go (p r) refl k (first_row p rs) (none_here p rs) e l
  where
    go : (b : Bool) → p r ≡ b → (j f : ℕ) → ((i : ℕ) → f ≡ 0 → i < length rs → p (get_or rs i []) ≡ false) → cond b 1 (below f) ≡ 0 → j < length (r ∷ rs) → p (get_or (r ∷ rs) j []) ≡ false
    go true q j f ih z b = absurd (omega arith)
    go false q zero f ih z b = q
    go false q (suc j) zero ih z b = ih j refl (omega arith)
    go false q (suc j) (suc f) ih z b = absurd (omega arith)

-- a row put into the lowest unused one, where none joined the two vertices before
module _ (t : Table) (a b : ℕ) (r : List ℕ) (here : joins a b r ≡ true) (na : a ≡ 0 → ⊥) (none : arc_between t a b ≡ 0) (free : free_row t ≡ 0 → ⊥) where
  fits : length t ≤ 16384
  unfolding free_row
  fits = go (dec_lt 16384 (length t))
    where
      go : Dec (16384 < length t) → length t ≤ 16384
      go (yes q) = absurd (free (sym (into-large t (first_row unused t) q)))
      go (no nq) = omega arith

  first-none : first_row (joins a b) t ≡ 0
  unfolding arc_between
  first-none =
      let z : link_into t (first_row (joins a b) t) ≡ 0 = rw (ne_eqb a 0 na) at none in
      into-fits t (first_row (joins a b) t) fits ∙ z

  in_table : free_row t ≤ length t
  unfolding free_row
  in_table = omega (arith, first-le unused t, into-fits t (first_row unused t) fits)

  row_made : arc_between (put_row t (free_row t) r) a b ≡ free_row t
  unfolding put_row arc_between
  row_made =
      let i : ℕ = free_row t - 1 in
      let inside : free_row t - 1 < length t = omega (arith, in_table, free) in
      let missed : (k : ℕ) → k < free_row t - 1 → joins a b (get_or (set t (free_row t - 1) r) k []) ≡ false = λ k l. ap (λ (s : List ℕ). joins a b s) (get_or-set_other t (free_row t - 1) k r [] (λ e. omega arith)) ∙ none_here (joins a b) t k first-none (omega arith) in
      let passes : joins a b (get_or (set t (free_row t - 1) r) (free_row t - 1) []) ≡ true = ap (λ (s : List ℕ). joins a b s) (get_or-set_same t (free_row t - 1) r [] inside) ∙ here in
      let there : free_row t - 1 + 1 ≡ link_into (set t (free_row t - 1) r) (first_row (joins a b) (set t (free_row t - 1) r)) = into-found (joins a b) (set t (free_row t - 1) r) [] (free_row t - 1) (omega (arith, fits, length-set t (free_row t - 1) r)) (omega (arith, inside, length-set t (free_row t - 1) r)) missed passes in
      let link : free_row t - 1 + 1 ≡ free_row t = omega (arith, free) in
      rw (ne_eqb (free_row t) 0 free, ne_eqb a 0 na) (sym there ∙ link)

arc-made : (m : Mesh) (a b e : ℕ) → (a ≡ 0 → ⊥) → arc_between m.arcs a b ≡ 0 → (free_row m.arcs ≡ 0 → ⊥) → arc_between (new_arc m a b e).arcs a b ≡ free_row m.arcs
unfolding new_arc
arc-made m a b e na none free = row_made m.arcs a b (a ∷ b ∷ 0 ∷ 0 ∷ 0 ∷ e ∷ []) (joins-yes a b (a ∷ b ∷ 0 ∷ 0 ∷ 0 ∷ e ∷ []) refl refl) na none free

edge-found : (m : Mesh) (a b : ℕ) → (a ≡ 0 → ⊥) → (a ≡ b → ⊥) → arc_between m.arcs a b ≡ 0 → (free_row m.arcs ≡ 0 → ⊥) → arc_between (new_edge m a b).arcs a b ≡ free_row m.arcs
unfolding new_edge
edge-found m a b na nab none free =
    let e = free_row m.edges in
    arc-apart (new_arc m a b e) b a e a b (rw (ne_eqb b a (λ q. nab (sym q)))) ∙ arc-made m a b e na none free

-- ---- what is told of pair i where its edge is made: y is the new edge's first arc, and r what is known of it

module _ (m : Mesh) (per : List ℕ) (i : ℕ) {n j a b : ℕ} (en : n ≡ length per) (ej : j ≡ after n i) (ea : a ≡ get_or per i 0) (eb : b ≡ get_or per j 0) where
  pub pair-told : {o : Mesh} {x y r : ℕ} → x ≡ pair_arc m.arcs per i → x ≡ 0 → o ≡ new_edge m a b → y ≡ free_row m.arcs → (r ≡ 0 → ⊥) → (r ≡ y) × ((a ≡ 0 → ⊥) × (a ≡ b → ⊥)) → r ≡ pair_arc o.arcs per i
  pair-told {o} {x} {y} {r} ex z eo ey some k =
      let is : r ≡ free_row m.arcs = k.0 ∙ ey in
      let none : arc_between m.arcs a b ≡ 0 = sym (found m per i en ej ea eb ex) ∙ z in
      let made : arc_between (new_edge m a b).arcs a b ≡ free_row m.arcs = edge-found m a b k.1.0 k.1.1 none (λ q. some (is ∙ q)) in
      is ∙ sym made ∙ ap (λ (w : Mesh). arc_between w.arcs a b) (sym eo) ∙ sym (found o per i en ej ea eb {x = pair_arc o.arcs per i} refl)

-- ---- pairs that join other vertices

eqb-turn : (a b : ℕ) → eqb a b ≡ eqb b a
eqb-turn a b = go (ℕ_discrete a b)
  where
    go : Dec (a ≡ b) → eqb a b ≡ eqb b a
    go (yes e) = eq-eqb a b e ∙ sym (eq-eqb b a (sym e))
    go (no ne) = ne_eqb a b ne ∙ sym (ne_eqb b a (λ e. ne (sym e)))

and-turn : (a b : Bool) → (a && b) ≡ (b && a)
and-turn true true = refl
and-turn true false = refl
and-turn false true = refl
and-turn false false = refl

same_turn : (a b c d : ℕ) → same_two a b c d ≡ same_two c d a b
unfolding same_two
same_turn a b c d =
    let one : (eqb a c && eqb b d) ≡ (eqb c a && eqb d b) = λ j. eqb-turn a c j && eqb-turn b d j in
    let two : (eqb b c && eqb a d) ≡ (eqb d a && eqb c b) = and-turn (eqb b c) (eqb a d) ∙ (λ j. eqb-turn a d j && eqb-turn b c j) in
    λ j. one j || two j

none_below : (p : ℕ → Bool) (i k : ℕ) → some_below p i ≡ false → k < i → p k ≡ false
none_below p i k h l = go (p k) refl
  where
    go : (b : Bool) → p k ≡ b → p k ≡ false
    go true e = absurd (clash (sym h ∙ some-here p i k l e))
    go false e = e

-- ---- what the loop keeps: if all arcs told so far are known, they are the pairs'

abbrev pub Told : Table → List ℕ → List ℕ → ℕ → Type 0
Told arcs per at i = ((k : ℕ) → k < i → get_or at k 0 ≡ 0 → ⊥) → (k : ℕ) → k < i → get_or at k 0 ≡ pair_arc arcs per k

pub told_none : (arcs : Table) (per at : List ℕ) → Told arcs per at 0
told_none arcs per at some k l = absurd (not-suc-le-zero l)

pub told_more : (m o : Mesh) (per at : List ℕ) (i x : ℕ) → i < length at → o ≡ edge_in per i m → Tells o.arcs per i x → Told m.arcs per at i → Told o.arcs per (set at i x) (i + 1)
unfolding met_before meets pair_arc
told_more m o per at i x l e t h some k q = go (ℕ_discrete k i)
  where
    here : get_or (set at i x) i 0 ≡ x
    here = get_or-set_same at i x 0 l

    known : (met_before per i i ≡ false) × (x ≡ pair_arc o.arcs per i)
    known = t (λ z. some i (omega arith) (here ∙ z))

    before : (j : ℕ) → j < i → get_or at j 0 ≡ 0 → ⊥
    before j b z = some j (omega arith) (get_or-set_other at i j x 0 (λ w. omega arith) ∙ z)

    go : Dec (k ≡ i) → get_or (set at i x) k 0 ≡ pair_arc o.arcs per k
    go (yes w) = ap (λ (j : ℕ). get_or (set at i x) j 0) w ∙ here ∙ known.1 ∙ ap (pair_arc o.arcs per) (sym w)
    go (no ne) =
        let a = get_or per i 0 in
        let b = get_or per (after (length per) i) 0 in
        let c = get_or per k 0 in
        let d = get_or per (after (length per) k) 0 in
        let far : same_two a b c d ≡ false = same_turn a b c d ∙ none_below (meets per a b) i k known.0 (omega arith) in
        get_or-set_other at i k x 0 ne ∙ h before k (omega arith) ∙ sym (insert-apart m a b c d far) ∙ ap (λ (w : Mesh). arc_between w.arcs c d) (sym e)

has-not : (l : List ℕ) (x k : ℕ) → has l x ≡ false → k < length l → get_or l k 0 ≡ x → ⊥
unfolding has
has-not [] x k h b e = absurd (not-suc-le-zero b)
has-not (y ∷ ys) x zero h b e = clash (sym (or_left (eqb x y) (has ys x) h) ∙ eq-eqb x y (sym e))
has-not (y ∷ ys) x (suc k) h b e = has-not ys x k (or_right (eqb x y) (has ys x) h) (omega arith) e

pub told-all : (arcs : Table) (per at : List ℕ) (n : ℕ) → n ≡ length per → n ≤ length at → Told arcs per at n → has (take n at) 0 ≡ false → take n at ≡ arcs_of arcs per
told-all arcs per at n en few h none = ext_get_or 0 (take n at) (arcs_of arcs per) (short ∙ en ∙ sym (arcs-length arcs per)) same
  where
    short : length (take n at) ≡ n
    short = length-take-le n at few

    some : (k : ℕ) → k < n → get_or at k 0 ≡ 0 → ⊥
    some k b z = has-not (take n at) 0 k none (omega (arith, short)) (get_or-take n at k 0 b ∙ z)

    same : (k : ℕ) → k < length (take n at) → get_or (take n at) k 0 ≡ get_or (arcs_of arcs per) k 0
    same k b =
        let l : k < n = omega (arith, short) in
        get_or-take n at k 0 l ∙ h some k l ∙ sym (arcs-at arcs per k (omega arith))
