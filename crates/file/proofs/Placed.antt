-- The file that a sound mesh's writer writes: its length is what its counts ask, each body starts where the one before ends, and keys rise.
use Prim.Native.Nat.{ℕ, zero, suc, ◌+◌, ◌-◌, ◌*◌, ◌^◌, ◌≤◌, ◌<◌}
use native.Mathlib.Nat.{le_of_suc-le-suc, not-suc-le-zero}
use native.Mathlib.Nat.{mul-le-mul_left}
use native.Mathlib.Omega.{arith}
use native.Mathlib.Decide.{ℕ_discrete, dec_lt}
use mathlib.Core.Path.{◌≡◌, refl, ap, sym, subst, ◌∙◌}
use mathlib.Core.Bool.{Bool, true, false, ◌&&◌, ◌||◌}
use mathlib.Core.List.{List, [], ◌∷◌, ◌++◌, map}
use lib.ListN.{length, get_or, length-append, length-map}
use lib.Dec.{T, eqb, ltb, leb, ltb→lt, eqb_refl, le→leb}
use lib.Ieee.Fits.{and_l, and_r, and_i, eq→eqb}
use Rattle.rules.specs.Table.{Table, there, every}
use Rattle.rules.specs.Mesh.{Mesh, source, dest, key_at}
use Rattle.rules.specs.Records.{vertex_record, arc_record, edge_record, face_record, key_before, arc_before, records}
use Rattle.rules.specs.Script.{Text}
use Rattle.rules.proofs.Sums.{or_l, or_r}
use Rattle.proved.specs.Facts.{SoundFacts}
use Rattle.proved.proofs.Rows.{same-T, all_from}
use Rattle.file.specs.File.{Contents, row_text, total, row_fits, body_text, body_length, schema, counter_widths, key_cells, places, bodies_text, head_length, file_text, contents_in, bodies_fit, contents_fit, asked, length_fits, placed, rises_by, rising, all_rise, in_place, vertex_cells, arc_cells, edge_cells, face_cells, contents_of, file_of}
use Rattle.file.specs.Promises.{Stored}
use Rattle.file.proofs.Cells.{below-T, row-length, body-length}
use Rattle.file.proofs.Whole.{entry-count, entry-offset, entry-rest, entry-before, places-length, counters-length, contents-back}
use Rattle.file.proofs.Told.{links_in, links-few, starts-at, ends_at, contents-of-fit}
use Rattle.file.proofs.Listed.{Total, in-order-at, listed}

-- ---- any contents that fit

-- the counts ask what the bodies take
pub asked-back : (at : ℕ) (wss : List (List ℕ)) (bs : List Table) (t : Text) → T (bodies_fit wss bs) → asked wss (places at wss bs ++ t) ≡ length (bodies_text wss bs)
unfolding places bodies_text asked bodies_fit
asked-back at [] [] t h = refl
asked-back at [] (b ∷ bs) t h = absurd h
asked-back at (ws ∷ wss) [] t h = absurd h
asked-back at (ws ∷ wss) (b ∷ bs) t h =
    let n : ℕ = length b in
    let few : n < 256 ^ 4 = ltb→lt n (256 ^ 4) (and_l (ltb n (256 ^ 4)) (every (row_fits ws) b && bodies_fit wss bs) h) in
    let others : T (bodies_fit wss bs) = and_r (every (row_fits ws) b) (bodies_fit wss bs) (and_r (ltb n (256 ^ 4)) (every (row_fits ws) b && bodies_fit wss bs) h) in
    let P : Text = places (at + body_length ws n) wss bs in
    rw (entry-before n at P t, entry-count n at (P ++ t) few, entry-rest n at (P ++ t))
    (sym (length-append (body_text ws b) (bodies_text wss bs) ∙ omega (arith, body-length ws b, asked-back (at + body_length ws n) wss bs t others)))

-- and the offsets are in place, as long as they fit
pub placed-back : (at : ℕ) (wss : List (List ℕ)) (bs : List Table) (t : Text) → T (bodies_fit wss bs) → at + length (bodies_text wss bs) < 256 ^ 4
    → T (placed at wss (places at wss bs ++ t))
unfolding places bodies_text placed bodies_fit
placed-back at [] [] t h l = tt
placed-back at [] (b ∷ bs) t h l = absurd h
placed-back at (ws ∷ wss) [] t h l = absurd h
placed-back at (ws ∷ wss) (b ∷ bs) t h l =
    let n : ℕ = length b in
    let few : n < 256 ^ 4 = ltb→lt n (256 ^ 4) (and_l (ltb n (256 ^ 4)) (every (row_fits ws) b && bodies_fit wss bs) h) in
    let others : T (bodies_fit wss bs) = and_r (every (row_fits ws) b) (bodies_fit wss bs) (and_r (ltb n (256 ^ 4)) (every (row_fits ws) b && bodies_fit wss bs) h) in
    let P : Text = places (at + body_length ws n) wss bs in
    let whole = length-append (body_text ws b) (bodies_text wss bs) in
    let long = body-length ws b in
    rw (entry-before n at P t, entry-count n at (P ++ t) few, entry-offset n at (P ++ t) (omega arith), entry-rest n at (P ++ t))
    (and_i (eqb at at) (placed (at + body_length ws n) wss (P ++ t)) (eqb_refl at) (placed-back (at + body_length ws n) wss bs t others (omega arith)))

pub file-length : (c : Contents) → length (file_text c) ≡ 44 + length (bodies_text schema c.bodies)
unfolding file_text
file-length c =
    let P : Text = places 44 schema c.bodies in
    let R : Text = row_text counter_widths c.counters in
    let B : Text = bodies_text schema c.bodies in
    length-append P (R ++ B) ∙ omega (arith, length-append R B, places-length 44 schema c.bodies, row-length counter_widths c.counters, counters-length)

pub bodies_of_lem : (c : Contents) → T (contents_fit c) → T (bodies_fit schema c.bodies)
unfolding contents_fit
bodies_of_lem c h = and_l (bodies_fit schema c.bodies) (row_fits counter_widths c.counters) h

pub file-fits : (c : Contents) → T (contents_fit c) → T (length_fits (file_text c))
unfolding length_fits
file-fits c h =
    and_i (leb head_length (length (file_text c))) _ (le→leb head_length (length (file_text c)) (omega (arith, file-length c)))
    (eq→eqb (file-length c ∙ ap (λ (k : ℕ). 44 + k) (sym (asks c h))))
  where
    asks : (d : Contents) → T (contents_fit d) → asked schema (file_text d) ≡ length (bodies_text schema d.bodies)
    asks d f = unfold file_text in asked-back 44 schema d.bodies (row_text counter_widths d.counters ++ bodies_text schema d.bodies) (bodies_of_lem d f)

pub file-placed : (c : Contents) → T (contents_fit c) → 44 + length (bodies_text schema c.bodies) < 256 ^ 4 → T (placed head_length schema (file_text c))
unfolding file_text
file-placed c h l = placed-back 44 schema c.bodies (row_text counter_widths c.counters ++ bodies_text schema c.bodies) (bodies_of_lem c h) l

-- ---- a sound mesh's

-- a record's cells, by its place
pub cells_at {ℓ} : {B : Type ℓ} (cells : B → List ℕ) (of : ℕ → B) (l : List ℕ) (i : ℕ) → i < length l
    → get_or (map cells (map of l)) i [] ≡ cells (of (get_or l i 0))
cells_at cells of [] i h = absurd (not-suc-le-zero h)
cells_at cells of (x ∷ xs) zero h = refl
cells_at cells of (x ∷ xs) (suc i) h = cells_at cells of xs i (le_of_suc-le-suc h)

pub cells_count {ℓ} : {B : Type ℓ} (cells : B → List ℕ) (of : ℕ → B) (l : List ℕ) → length (map cells (map of l)) ≡ length l
cells_count cells of l = length-map (map of l) cells ∙ length-map l of

-- records in an order that their cells rise by
body-rises : {B : Type 0} (n : ℕ) (cells : B → List ℕ) (of : ℕ → B) (before : ℕ → ℕ → Bool) (t : Table) → Total before t
    → ((x y : ℕ) → T (there t x) → T (there t y) → T (before x y) → T (rises_by n (cells (of x)) (cells (of y))))
    → T (rising n (map cells (map of (links_in before t))))
unfolding rising
body-rises n cells of before t total rises =
    let L : List ℕ = links_in before t in
    let rows : Table = map cells (map of L) in
    all_from (λ i. rises_by n (get_or rows i []) (get_or rows (i + 1) [])) (length rows - 1)
    (λ i l.
    let many = cells_count cells of L in
    let a : i < length L = omega arith in
    let b : i + 1 < length L = omega arith in
    subst (λ (r : List ℕ). T (rises_by n r (get_or rows (i + 1) []))) (sym (cells_at cells of L i a))
    (subst (λ (r : List ℕ). T (rises_by n (cells (of (get_or L i 0))) r)) (sym (cells_at cells of L (i + 1) b))
    (rises (get_or L i 0) (get_or L (i + 1) 0) ((listed before t).each i a) ((listed before t).each (i + 1) b) (in-order-at before t total i b))))

-- a body takes no more than its table's rows would
body-bound : {B : Type 0} (ws : List ℕ) (cells : B → List ℕ) (of : ℕ → B) (before : ℕ → ℕ → Bool) (t : Table) (k : ℕ) → total ws ≡ k
    → length (body_text ws (map cells (map of (links_in before t)))) ≤ k * length t
unfolding body_length
body-bound ws cells of before t k e =
    let rows : Table = map cells (map of (links_in before t)) in
    let long : length (body_text ws rows) ≡ k * length (links_in before t) = body-length ws rows ∙ rw (e, cells_count cells of (links_in before t)) in
    let most : k * length (links_in before t) ≤ k * length t = mul-le-mul_left k (links-few before t) in
    omega arith

-- two keys that differ rise one way or the other
either_less : (a b : ℕ) → (a ≡ b → ⊥) → T (ltb a b || ltb b a)
either_less a b h = go (dec_lt a b)
  where
    go : Dec (a < b) → T (ltb a b || ltb b a)
    go (yes l) = or_l (ltb a b) (ltb b a) (below-T a b l)
    go (no n) = or_r (ltb a b) (ltb b a) (below-T b a (omega arith))

key-total : (t : Table) → ((l k : ℕ) → T (there t l) → T (there t k) → key_at t l ≡ key_at t k → l ≡ k) → Total (key_before t) t
unfolding key_before
key-total t differ x y u w ne = either_less (key_at t x) (key_at t y) (λ e. ne (differ x y u w e))

rises-by-one : (r s : List ℕ) → T (ltb (get_or r 0 0) (get_or s 0 0)) → T (rises_by 1 r s)
unfolding rises_by
rises-by-one r s h = or_l (ltb (get_or r 0 0) (get_or s 0 0)) (eqb (get_or r 0 0) (get_or s 0 0) && false) h

module _ (m : Mesh) (S : SoundFacts m) (H : Stored m) where
  vertices-rise : T (rising 1 (map vertex_cells (map (vertex_record m) (links_in (key_before m.vertices) m.vertices))))
  vertices-rise =
      body-rises 1 vertex_cells (vertex_record m) (key_before m.vertices) m.vertices (key-total m.vertices S.vertex-keys-differ)
      (λ x y u w b. rises-by-one (vertex_cells (vertex_record m x)) (vertex_cells (vertex_record m y)) (unfold vertex_cells in unfold vertex_record in unfold key_before in b))

  edges-rise : T (rising 1 (map edge_cells (map (edge_record m) (links_in (key_before m.edges) m.edges))))
  edges-rise =
      body-rises 1 edge_cells (edge_record m) (key_before m.edges) m.edges (key-total m.edges S.edge-keys-differ)
      (λ x y u w b. rises-by-one (edge_cells (edge_record m x)) (edge_cells (edge_record m y)) (unfold edge_cells in unfold edge_record in unfold key_before in b))

  faces-rise : T (rising 1 (map face_cells (map (face_record m) (links_in (key_before m.faces) m.faces))))
  faces-rise =
      body-rises 1 face_cells (face_record m) (key_before m.faces) m.faces (key-total m.faces S.face-keys-differ)
      (λ x y u w b. rises-by-one (face_cells (face_record m x)) (face_cells (face_record m y)) (unfold face_cells in unfold face_record in unfold key_before in b))

  -- arcs by source, then destination
  arc-total : Total (arc_before m) m.arcs
  unfolding arc_before key_before
  arc-total x y u w ne = go (ℕ_discrete (k (source m x)) (k (source m y)))
    where
      k : ℕ → ℕ
      k v = key_at m.vertices v

      one : (a b : ℕ) (c d : Bool) → T (ltb a b || ltb b a) → T ((ltb a b || (eqb a b && c)) || (ltb b a || (eqb b a && d)))
      one a b c d h = widen (ltb a b) (ltb b a) (eqb a b && c) (eqb b a && d) h
        where
          widen : (p q r s : Bool) → T (p || q) → T ((p || r) || (q || s))
          widen true q r s t = tt
          widen false true true s t = tt
          widen false true false s t = tt
          widen false false r s t = absurd t

      two : (a b : ℕ) (c d : Bool) → a ≡ b → T (c || d) → T ((ltb a b || (eqb a b && c)) || (ltb b a || (eqb b a && d)))
      two a b c d e h = wide (ltb a b) (ltb b a) (eqb a b) (eqb b a) (same-T a b e) (same-T b a (sym e)) c d h
        where
          wide : (p q r s : Bool) → T r → T s → (c d : Bool) → T (c || d) → T ((p || (r && c)) || (q || (s && d)))
          wide true q r s tr ts c d t = tt
          wide false q true s tr ts true d t = tt
          wide false true true s tr ts false d t = tt
          wide false false true true tr ts false true t = tt
          wide false false true true tr ts false false t = absurd t
          wide false false true false tr ts false d t = absurd ts
          wide false q false s tr ts c d t = absurd tr

      go : Dec (k (source m x) ≡ k (source m y)) → T (arc_before m x y || arc_before m y x)
      go (no n) = one (k (source m x)) (k (source m y)) (ltb (k (dest m x)) (k (dest m y))) (ltb (k (dest m y)) (k (dest m x))) (either_less (k (source m x)) (k (source m y)) n)
      go (yes e) =
          let s : source m x ≡ source m y = S.vertex-keys-differ (source m x) (source m y) (S.ends-exist x u).0 (S.ends-exist y w).0 e in
          two (k (source m x)) (k (source m y)) (ltb (k (dest m x)) (k (dest m y))) (ltb (k (dest m y)) (k (dest m x))) e
          (either_less (k (dest m x)) (k (dest m y))
          (λ d. ne (S.pairs-differ x y u w s (S.vertex-keys-differ (dest m x) (dest m y) (S.ends-exist x u).1 (S.ends-exist y w).1 d))))

  arcs-rise : T (rising 2 (map arc_cells (map (arc_record m) (links_in (arc_before m) m.arcs))))
  arcs-rise = body-rises 2 arc_cells (arc_record m) (arc_before m) m.arcs arc-total rises
    where
      rises : (x y : ℕ) → T (there m.arcs x) → T (there m.arcs y) → T (arc_before m x y) → T (rises_by 2 (arc_cells (arc_record m x)) (arc_cells (arc_record m y)))
      rises x y u w b =
          unfold rises_by in unfold arc_cells in unfold arc_record in
          rw (starts-at m S H x u, ends_at m S H x u, starts-at m S H y w, ends_at m S H y w)
          (widen (ltb (k (source m x)) (k (source m y))) (eqb (k (source m x)) (k (source m y))) (ltb (k (dest m x)) (k (dest m y))) (eqb (k (dest m x)) (k (dest m y)) && false)
          (unfold arc_before in unfold key_before in b))
        where
          k : ℕ → ℕ
          k v = key_at m.vertices v

          widen : (p q r s : Bool) → T (p || (q && r)) → T (p || (q && (r || s)))
          widen true q r s t = tt
          widen false true true s t = tt
          widen false true false s t = absurd t
          widen false false r s t = absurd t

  pub keys-rise-of : T (all_rise key_cells (contents_of (records m)).bodies)
  unfolding all_rise contents_of records
  keys-rise-of =
      let vs = map vertex_cells (map (vertex_record m) (links_in (key_before m.vertices) m.vertices)) in
      let xs = map arc_cells (map (arc_record m) (links_in (arc_before m) m.arcs)) in
      let es = map edge_cells (map (edge_record m) (links_in (key_before m.edges) m.edges)) in
      let fs = map face_cells (map (face_record m) (links_in (key_before m.faces) m.faces)) in
      and_i (rising 1 vs) (rising 2 xs && (rising 1 es && (rising 1 fs && true))) vertices-rise
      (and_i (rising 2 xs) (rising 1 es && (rising 1 fs && true)) arcs-rise
      (and_i (rising 1 es) (rising 1 fs && true) edges-rise (and_i (rising 1 fs) true faces-rise tt)))

  -- at most 688,172 bytes
  pub file-bound : 44 + length (bodies_text schema (contents_of (records m)).bodies) ≤ 688172
  unfolding contents_of records bodies_text
  file-bound =
      let vs = map vertex_cells (map (vertex_record m) (links_in (key_before m.vertices) m.vertices)) in
      let xs = map arc_cells (map (arc_record m) (links_in (arc_before m) m.arcs)) in
      let es = map edge_cells (map (edge_record m) (links_in (key_before m.edges) m.edges)) in
      let fs = map face_cells (map (face_record m) (links_in (key_before m.faces) m.faces)) in
      let wv : List ℕ = 4 ∷ 8 ∷ 8 ∷ 8 ∷ 4 ∷ [] in
      let wa : List ℕ = 4 ∷ 4 ∷ 4 ∷ 4 ∷ 4 ∷ 4 ∷ [] in
      let we : List ℕ = 4 ∷ 4 ∷ 4 ∷ [] in
      let wf : List ℕ = 4 ∷ 4 ∷ 4 ∷ 4 ∷ [] in
      let lv = body-bound wv vertex_cells (vertex_record m) (key_before m.vertices) m.vertices 32 (unfold total in refl) in
      let la = body-bound wa arc_cells (arc_record m) (arc_before m) m.arcs 24 (unfold total in refl) in
      let le = body-bound we edge_cells (edge_record m) (key_before m.edges) m.edges 12 (unfold total in refl) in
      let lf = body-bound wf face_cells (face_record m) (key_before m.faces) m.faces 16 (unfold total in refl) in
      omega (
        arith,
        S.sizes.vertex-rows,
        S.sizes.arc-rows,
        S.sizes.edge-rows,
        S.sizes.face-rows,
        length-append (body_text wv vs) (body_text wa xs ++ (body_text we es ++ (body_text wf fs ++ []))),
        length-append (body_text wa xs) (body_text we es ++ (body_text wf fs ++ [])),
        length-append (body_text we es) (body_text wf fs ++ []),
        length-append (body_text wf fs) [],
      )

  pub file-in-place : T (in_place (file_of m))
  unfolding in_place file_of
  file-in-place =
      let c : Contents = contents_of (records m) in
      let fit : T (contents_fit c) = contents-of-fit m S H in
      and_i (placed head_length schema (file_text c)) (all_rise key_cells (contents_in (file_text c)).bodies)
      (file-placed c fit (omega (arith, file-bound)))
      (subst (λ (d : Contents). T (all_rise key_cells d.bodies)) (sym (contents-back c fit)) keys-rise-of)
