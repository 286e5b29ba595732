-- Lists searched before anything is changed (makers/specs/Search): wherever what was found still tells of the mesh, the exterior by it is rule 5's
-- exterior by the lists. A search may go on for as many arcs as there are rows: it finds nothing beyond as many as there are arcs, which is where
-- a list ends. So the makers of the code are like the rules.
use Prim.Native.Nat.{ℕ, zero, suc, ◌+◌, ◌≤◌, ◌<◌}
use native.Mathlib.Omega.{arith}
use native.Mathlib.Nat.{le_of_suc-le-suc, not-suc-le-zero}
use mathlib.Core.Path.{◌≡◌, refl, ap, sym, subst, ◌∙◌}
use mathlib.Core.Bool.{Bool, true, false, not, ◌&&◌, cond}
use mathlib.Core.List.{List, [], ◌∷◌, map}
use mathlib.Core.Logic.{◌⊎◌, inl, inr}
use lib.ListN.{length, get_or}
use lib.Dec.{T, eqb, eqb→eq}
use Rattle.rules.specs.Table.{Table, cell, put, there, used, count, up_to, after, has, distinct}
use Rattle.rules.specs.Mesh.{Mesh, face, leading, opposite, opposite_of}
use Rattle.rules.specs.Link.{connect, walk, turn, outgoing, arc_count}
use Rattle.rules.specs.Insert.{arc_at, faceless_in, lists_of, exterior_at, exterior}
use Rattle.rules.proofs.Counts.{bit, count-le}
use Rattle.rules.proofs.Sums.{or_cases, or_l, or_r, sum-list, count-sum}
use Rattle.proved.proofs.Rows.{same-T, there-row, in_table}
use Rattle.proved.proofs.Totals.{sum-le, bit_le}
use Rattle.makers.specs.Search.{held_in, first_free, list_from, out_from, back_from, Sought, sought_for, exterior_sought_at, exterior_sought}
use Rattle.makers.specs.Makers.{StillTells, LikeRules, searching}
use Rattle.kept.proofs.Cells.{put-other-cell}
use Rattle.kept.proofs.Lists.{map_at, map-has, walk-each}
use Rattle.kept.proofs.Round.{after-low}

-- ---- no more arcs are met than there are

-- arcs that are there, none twice, are at most as many as the mesh has
pub at-most-all : (t : Table) (l : List ℕ) → T (distinct l) → ((x : ℕ) → T (has l x) → T (there t x)) → length l ≤ count used t
at-most-all t l d h =
    let listed = sum-list l (length t) d (λ x i. in_table t x (h x i)) in
    let all = count-sum used t [] in
    let fewer = sum-le (λ k. bit (has l (k + 1))) (λ k. bit (used (get_or t k []))) (length t) (λ k b. bit_le (has l (k + 1)) (used (get_or t k [])) (λ i. subst T (there-row t k) (h (k + 1) i))) in
    omega (arith, listed, all, fewer)

module _ (held : ℕ → Bool) (g step : ℕ → ℕ) (first : ℕ) where
  -- what a search of the list from x finds among its first b arcs, or what stands for them
  abbrev found : ℕ → ℕ → ℕ
  found b x = first_free held (map g (walk step first b x))

  -- among held arcs that the list does not leave it finds nothing
  none-among : (vs : List ℕ) → ((y : ℕ) → T (has vs y) → held (g y) ≡ true) → ((y : ℕ) → T (has vs y) → T (has vs (step y))) → (b x : ℕ) → T (has vs x) → found b x ≡ 0
  unfolding walk first_free
  none-among vs all on zero x i = refl
  none-among vs all on (suc b) zero i = refl
  none-among vs all on (suc b) (suc x) i = rw (all (suc x) i) (go (eqb (step (suc x)) first) (none-among vs all on b (step (suc x)) (on (suc x) i)))
    where
      go : (r : Bool) → found b (step (suc x)) ≡ 0 → first_free held (map g (cond r [] (walk step first b (step (suc x))))) ≡ 0
      go true e = refl
      go false e = e

  module _ (t : Table) (on : (x : ℕ) → T (there t x) → (step x ≡ 0 → ⊥) → T (there t (step x))) where
    -- the arcs met so far: they are there, held, none twice, and lead to one another or to x
    record Met (vs : List ℕ) (x : ℕ) : Type 0 where
      apart : T (distinct vs)
      exist : (y : ℕ) → T (has vs y) → T (there t y)
      all_held : (y : ℕ) → T (has vs y) → held (g y) ≡ true
      lead : (y : ℕ) → T (has vs y) → T (has vs (step y)) ⊎ (step y ≡ x)

    again : (vs : List ℕ) (x : ℕ) → Met vs x → T (has vs x) → (b : ℕ) → found b x ≡ 0
    again vs x w i b = none-among vs w.all_held stay b x i
      where
        stay : (y : ℕ) → T (has vs y) → T (has vs (step y))
        stay y h = go (w.lead y h)
          where
            go : T (has vs (step y)) ⊎ (step y ≡ x) → T (has vs (step y))
            go (inl q) = q
            go (inr e) = subst (λ (z : ℕ). T (has vs z)) (sym e) i

    met-more : (vs : List ℕ) (x : ℕ) → Met vs x → T (there t x) → (T (has vs x) → ⊥) → held (g x) ≡ true → Met (x ∷ vs) (step x)
    unfolding has distinct
    met-more vs x w u new h =
        record {
          apart = both (has vs x) new w.apart;
          exist = λ y i. or_cases (eqb y x) (has vs y) i (λ e. subst (λ (z : ℕ). T (there t z)) (sym (eqb→eq y x e)) u) (w.exist y);
          all_held = λ y i. or_cases (eqb y x) (has vs y) i (λ e. ap (λ (z : ℕ). held (g z)) (eqb→eq y x e) ∙ h) (w.all_held y);
          lead = λ y i. or_cases (eqb y x) (has vs y) i (λ e. inr (ap step (eqb→eq y x e))) (λ j. go y (w.lead y j));
        }
      where
        both : (b : Bool) → (T b → ⊥) → T (distinct vs) → T (not b && distinct vs)
        both true n d = absurd (n tt)
        both false n d = d

        go : (y : ℕ) → T (has vs (step y)) ⊎ (step y ≡ x) → T (has (x ∷ vs) (step y)) ⊎ (step y ≡ step x)
        go y (inl q) = inl (or_r (eqb (step y) x) (has vs (step y)) q)
        go y (inr e) = inl (or_l (eqb (step y) x) (has vs (step y)) (same-T (step y) x e))

    one_more : (vs : List ℕ) (x : ℕ) → Met vs x → T (there t x) → has vs x ≡ false → suc (length vs) ≤ count used t
    unfolding has distinct
    one_more vs x w u new =
        at-most-all t (x ∷ vs) (subst (λ (c : Bool). T (not c && distinct vs)) (sym new) w.apart)
        (λ y h. or_cases (eqb y x) (has vs y) h (λ e. subst (λ (z : ℕ). T (there t z)) (sym (eqb→eq y x e)) u) (w.exist y))

    from-none : (c : ℕ) → found c 0 ≡ 0
    unfolding walk first_free
    from-none zero = refl
    from-none (suc c) = refl

    -- with r arcs left to meet, r steps find what more do
    no-further : (r : ℕ) (vs : List ℕ) (x : ℕ) → Met vs x → ((x ≡ 0 → ⊥) → T (there t x)) → length vs + r ≡ count used t → (b : ℕ) → r ≤ b → found b x ≡ found r x
    unfolding walk first_free
    no-further zero vs zero w u e b l = from-none b
    no-further zero vs (suc x) w u e b l = go (has vs (suc x)) refl
      where
        go : (i : Bool) → has vs (suc x) ≡ i → found b (suc x) ≡ 0
        go true i = again vs (suc x) w (subst T (sym i) tt) b
        go false i = let z : ⊥ = omega (arith, one_more vs (suc x) w (u (λ n. omega arith)) i, e) in absurd z
    no-further (suc r) vs x w u e zero l = absurd (not-suc-le-zero l)
    no-further (suc r) vs zero w u e (suc b) l = refl
    no-further (suc r) vs (suc x) w u e (suc b) l =
        go (has vs (suc x)) refl (λ i h. no-further r (suc x ∷ vs) (step (suc x)) (met-more vs (suc x) w here (λ q. subst T i q) h) (on (suc x) here) (omega (arith, e)) b (le_of_suc-le-suc l))
      where
        here : T (there t (suc x))
        here = u (λ n. omega arith)

        stop : (s : Bool) → found b (step (suc x)) ≡ found r (step (suc x)) → first_free held (map g (cond s [] (walk step first b (step (suc x))))) ≡ first_free held (map g (cond s [] (walk step first r (step (suc x)))))
        stop true q = refl
        stop false q = q

        either : (h : Bool) → held (g (suc x)) ≡ h → (held (g (suc x)) ≡ true → found b (step (suc x)) ≡ found r (step (suc x))) → found (suc b) (suc x) ≡ found (suc r) (suc x)
        either false h q = rw h
        either true h q = rw h (stop (eqb (step (suc x)) first) (q h))

        go : (i : Bool) → has vs (suc x) ≡ i → (has vs (suc x) ≡ false → held (g (suc x)) ≡ true → found b (step (suc x)) ≡ found r (step (suc x))) → found (suc b) (suc x) ≡ found (suc r) (suc x)
        go true i q = again vs (suc x) w (subst T (sym i) tt) (suc b) ∙ sym (again vs (suc x) w (subst T (sym i) tt) (suc r))
        go false i q = either (held (g (suc x))) refl (q i)

    -- as many steps as there are arcs find what more do
    pub none-further : ((first ≡ 0 → ⊥) → T (there t first)) → (b : ℕ) → count used t ≤ b → found b first ≡ found (count used t) first
    unfolding has distinct
    none-further u b l = no-further (count used t) [] first (record { apart = tt; exist = λ y i. absurd i; all_held = λ y i. absurd i; lead = λ y i. absurd i }) u (omega arith) b l

-- ---- what was found is the first without a face

-- a list whose arcs are held just if they have a face in t
free-is : (held : ℕ → Bool) (t : Table) (l : List ℕ) → ((x : ℕ) → T (has l x) → held x ≡ not (eqb (cell t x 4) 0)) → first_free held l ≡ faceless_in t l
unfolding first_free faceless_in has
free-is held t [] h = refl
free-is held t (x ∷ xs) h =
    rw (h x (or_l (eqb x x) (has xs x) (same-T x x refl)), free-is held t xs (λ y i. h y (or_r (eqb y x) (has xs y) i)))
    (swap (eqb (cell t x 4) 0))
  where
    swap : (b : Bool) → cond (not b) (faceless_in t xs) x ≡ cond b x (faceless_in t xs)
    swap true = refl
    swap false = refl

map_same : (g h : ℕ → ℕ) (l : List ℕ) → ((x : ℕ) → T (has l x) → g x ≡ h x) → map g l ≡ map h l
unfolding has
map_same g h [] e = refl
map_same g h (x ∷ xs) e = rw (e x (or_l (eqb x x) (has xs x) (same-T x x refl)), map_same g h xs (λ y i. e y (or_r (eqb y x) (has xs y) i)))

map-itself : (l : List ℕ) → map (λ x. x) l ≡ l
map-itself [] = refl
map-itself (x ∷ xs) = rw (map-itself xs)

module _ {old m : Mesh} {soon per : List ℕ} (w : StillTells old soon per m) where
  -- a mesh with the faces and the edges of m
  record LikeNow (a : Mesh) : Type 0 where
    faces-same : (x : ℕ) → face a x ≡ face m x
    opposites-same : (x : ℕ) → opposite a x ≡ opposite m x

  abbrev held : ℕ → Bool
  held = held_in old.arcs soon

  module _ (i : ℕ) (l : i < length per) where
    abbrev v : ℕ
    v = get_or per i 0

    lead : (leading old v ≡ 0 → ⊥) → T (there old.arcs (leading old v))
    lead = w.leads-there i l

    on_list : (x : ℕ) → T (has (outgoing old v) x) → T (there old.arcs x)
    unfolding outgoing
    on_list x h =
        walk-each (turn old) (leading old v) (λ y. T (there old.arcs y)) (λ y u q. w.turns-there y u (λ e. omega arith)) (arc_count old) (leading old v) (λ q. lead (λ e. omega arith)) x h

    -- as far as the list goes
    whole : (g : ℕ → ℕ) → first_free held (map g (list_from old.arcs old.edges (leading old v))) ≡ first_free held (map g (outgoing old v))
    unfolding list_from outgoing arc_count
    whole g = none-further held g (turn old) (leading old v) old.arcs w.turns-there lead (length old.arcs) (count-le used old.arcs)

    out-is : (a : Mesh) → LikeNow a → out_from old.arcs old.edges soon (leading old v) ≡ faceless_in a.arcs (outgoing old v)
    unfolding out_from
    out-is a q =
        let listed = list_from old.arcs old.edges (leading old v) in
        ap (first_free held) (sym (map-itself listed)) ∙ whole (λ x. x) ∙ ap (first_free held) (map-itself (outgoing old v))
        ∙ free-is held a.arcs (outgoing old v) (λ x h. w.held x (on_list x h) ∙ ap (λ (z : ℕ). not (eqb z 0)) (sym (q.faces-same x)))

    back_is : (a : Mesh) → LikeNow a → back_from old.arcs old.edges soon (leading old v) ≡ faceless_in a.arcs (map (opposite a) (outgoing old v))
    unfolding back_from
    back_is a q =
        whole (opposite old)
        ∙ ap (first_free held) (map_same (opposite old) (opposite a) (outgoing old v) (λ x h. sym (w.opposites-stay x (on_list x h)) ∙ sym (q.opposites-same x)))
        ∙ free-is held a.arcs (map (opposite a) (outgoing old v)) each
      where
        each : (y : ℕ) → T (has (map (opposite a) (outgoing old v)) y) → held y ≡ not (eqb (face a y) 0)
        each y h =
            let p = map-has (opposite a) (outgoing old v) y h in
            let u = on_list p.0 p.1 in
            let e : y ≡ opposite old p.0 = p.2 ∙ q.opposites-same p.0 ∙ w.opposites-stay p.0 u in
            w.held y (subst (λ (z : ℕ). T (there old.arcs z)) (sym e) (w.opposites-there p.0 u)) ∙ ap (λ (z : ℕ). not (eqb z 0)) (sym (q.faces-same y))

  -- ---- the exterior

  abbrev sought : Sought
  sought = sought_for old soon per

  at_pair : (i : ℕ) → i < length per → (a : Mesh) → LikeNow a → exterior_sought_at per sought i a ≡ exterior_at per (lists_of old per) i a
  unfolding exterior_sought_at exterior_at sought_for lists_of
  at_pair i l a q =
      let j = after (length per) i in
      let jl = after-low (length per) i l in
      rw (map_at (λ z. out_from old.arcs old.edges soon (leading old z)) per i 0 0 l, map_at (λ z. back_from old.arcs old.edges soon (leading old z)) per j 0 0 jl, out-is i l a q, back_is j jl a q, map_at (outgoing old) per i 0 [] l, map_at (outgoing old) per j 0 [] jl)

  -- linking arcs changes no face and no opposite
  connected : (a : Mesh) (x y : ℕ) → LikeNow a → LikeNow (connect a x y)
  unfolding connect opposite_of
  connected a x y q =
      record {
        faces-same = λ z. put-other-cell (put a.arcs x 2 y) y 3 x z 4 (λ e. omega arith) ∙ put-other-cell a.arcs x 2 y z 4 (λ e. omega arith) ∙ q.faces-same z;
        opposites-same = λ z. ap (λ (e : ℕ). cond (eqb (cell a.edges e 1) z) (cell a.edges e 2) (cell a.edges e 1)) (put-other-cell (put a.arcs x 2 y) y 3 x z 5 (λ e. omega arith) ∙ put-other-cell a.arcs x 2 y z 5 (λ e. omega arith)) ∙ q.opposites-same z;
      }

  either : (b : Bool) (x y : Mesh) → LikeNow x → LikeNow y → LikeNow (cond b x y)
  either true x y p q = p
  either false x y p q = q

  at-kept : (i : ℕ) (a : Mesh) → LikeNow a → LikeNow (exterior_at per (lists_of old per) i a)
  unfolding exterior_at
  at-kept i a q = either (eqb (face a (opposite a (arc_at a per i))) 0) _ a (connected _ _ _ (connected a _ _ q)) q

  up-to : (n : ℕ) → n ≤ length per → (up_to (exterior_sought_at per sought) n m ≡ up_to (exterior_at per (lists_of old per)) n m) × LikeNow (up_to (exterior_at per (lists_of old per)) n m)
  unfolding up_to
  up-to zero l = (refl, record { faces-same = λ x. refl; opposites-same = λ x. refl })
  up-to (suc n) l =
      let before = up-to n (omega arith) in
      let a = up_to (exterior_at per (lists_of old per)) n m in
      (ap (exterior_sought_at per sought n) before.0 ∙ at_pair n l a before.1, at-kept n a before.1)

  pub exterior-sought : exterior_sought per (sought_for old soon per) m ≡ exterior per (lists_of old per) m
  unfolding exterior_sought exterior
  exterior-sought = (up-to (length per) (omega arith)).0

-- so the code's makers are like the rules
pub searching-like : LikeRules searching
searching-like =
    record { vertex-same = λ m p r. refl; edge_same = λ m a b r. refl; face-same = λ m x mark r. refl; outside-same = λ old soon per m t. exterior-sought t }
