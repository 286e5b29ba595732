-- The whole file is the table of contents with the counters, and then the four bodies; how long it is; and what a mesh that the check does
-- not refuse with 1 gives.
use Prim.Native.Nat.{ℕ, ◌+◌, ◌*◌, ◌≤◌, ◌<◌}
use native.Mathlib.Omega.{arith}
use mathlib.Core.Path.{◌≡◌, refl, ap, sym, subst, ◌∙◌}
use mathlib.Core.Bool.{Bool, true, false, not}
use mathlib.Core.List.{List, [], ◌∷◌, ◌++◌, map, append_assoc, append-nil}
use lib.ListN.{length, get_or, drop, length-append, length-map}
use lib.Seq.{get_or-drop}
use lib.Dec.{T, eqb, leb, leb→le, eqb→eq}
use lib.Ieee.{Float}
use lib.Ieee.Fits.{and_l, and_r}
use borrow.Author.Tests.{lt-ltb, le-ltb}
use Rattle.rules.specs.Table.{Table}
use Rattle.rules.specs.Mesh.{Mesh, mesh}
use Rattle.rules.specs.Records.{vertex_record, arc_record, edge_record, face_record, records}
use Rattle.rules.specs.Sound.{within_limits, sound}
use Rattle.rules.specs.Script.{Text}
use Rattle.file.specs.File.{cell_text, row_text, total, body_text, body_length, schema, counter_widths, places, bodies_text, head_length, file_text, vertex_cells, arc_cells, edge_cells, face_cells, contents_of, file_of, wrote, check_refuses, write_file}
use Rattle.file.proofs.Cells.{cell-length, body-length}
use Rattle.file.proofs.Calls.{check-refuses}
use Rattle.orders.specs.declared.kinds.Kind.{Kind}
use Rattle.orders.specs.declared.kinds.Kind.TheVariants.{Vertices, Arcs, Edges, Faces}
use Rattle.orders.specs.Order.{table_of, before_of, used_links, links_of}
use Rattle.writes.specs.declared.Counts.{Counts}
use Rattle.writes.specs.Writing.{put_text, words_text, widths_of, cells_of, links_text, kind_text, bodies_of, counts_of, head_text, length_of, Small}
use Rattle.writes.proofs.Texts.{put_then, put_whole}
use Rattle.writes.proofs.Linked.{links-same, kind-same}

-- ---- one text after the other

words_append : (xs ys : List ℕ) → words_text (xs ++ ys) ≡ words_text xs ++ words_text ys
unfolding words_text
words_append [] ys = refl
words_append (x ∷ xs) ys = ap (λ (t : Text). cell_text 4 x ++ t) (words_append xs ys) ∙ sym (append_assoc (cell_text 4 x) (words_text xs) (words_text ys))

words_long : (xs : List ℕ) → length (words_text xs) ≡ 4 * length xs
unfolding words_text
words_long [] = refl
words_long (x ∷ xs) = omega (arith, length-append (cell_text 4 x) (words_text xs), cell-length 4 x, words_long xs)

-- ---- the bodies

pub kind-long : (m : Mesh) (kind : Kind) → length (kind_text m kind) ≡ body_length (widths_of kind) (length (links_of m kind))
unfolding kind_text links_text
kind-long m kind =
    body-length (widths_of kind) (map (cells_of m kind) (links_of m kind))
    ∙ ap (body_length (widths_of kind)) (length-map (links_of m kind) (cells_of m kind))

both : {B : Type 0} (g : B → List ℕ) (f : ℕ → B) (h : ℕ → List ℕ) → ((x : ℕ) → g (f x) ≡ h x) → (l : List ℕ) → map g (map f l) ≡ map h l
both g f h e [] = refl
both g f h e (x ∷ l) = rw (e x, both g f h e l)

rows_of : (m : Mesh) → (contents_of (records m)).bodies
    ≡ map (cells_of m Vertices) (links_of m Vertices)
    ∷ map (cells_of m Arcs) (links_of m Arcs)
    ∷ map (cells_of m Edges) (links_of m Edges)
    ∷ map (cells_of m Faces) (links_of m Faces)
    ∷ []
unfolding contents_of records links_of used_links before_of table_of
rows_of m =
    rw (
      both vertex_cells (vertex_record m) (cells_of m Vertices) (λ x. unfold cells_of in refl),
      both arc_cells (arc_record m) (cells_of m Arcs) (λ x. unfold cells_of in refl),
      both edge_cells (edge_record m) (cells_of m Edges) (λ x. unfold cells_of in refl),
      both face_cells (face_record m) (cells_of m Faces) (λ x. unfold cells_of in refl),
    )

-- ---- the table of contents

contents-words : (b0 b1 b2 b3 : Table)
    → places head_length schema (b0 ∷ b1 ∷ b2 ∷ b3 ∷ [])
    ≡ words_text
    (length b0
    ∷ 44
    ∷ length b1
    ∷ (44 + 32 * length b0)
    ∷ length b2
    ∷ (44 + 32 * length b0 + 24 * length b1)
    ∷ length b3
    ∷ (44 + 32 * length b0 + 24 * length b1 + 12 * length b2)
    ∷ [])
unfolding places words_text body_length total
contents-words b0 b1 b2 b3 = refl

counter-words : (k : List ℕ) → row_text counter_widths k ≡ words_text (get_or k 0 0 ∷ get_or k 1 0 ∷ get_or k 2 0 ∷ [])
unfolding row_text words_text
counter-words k = rw (get_or-drop 1 k 0 0, get_or-drop 1 (drop 1 k) 0 0, get_or-drop 1 k 1 0)

bodies-are : (b0 b1 b2 b3 : Table)
    → bodies_text schema (b0 ∷ b1 ∷ b2 ∷ b3 ∷ [])
    ≡ body_text (widths_of Vertices) b0 ++ (body_text (widths_of Arcs) b1 ++ (body_text (widths_of Edges) b2 ++ body_text (widths_of Faces) b3))
unfolding bodies_text widths_of
bodies-are b0 b1 b2 b3 = rw (append-nil (body_text (4 ∷ 4 ∷ 4 ∷ 4 ∷ []) b3))

-- ---- the whole

module _ (m : Mesh) where
  counters-of : (contents_of (records m)).counters ≡ m.counters
  unfolding contents_of records
  counters-of = refl

  -- how many records a kind has, and its records
  abbrev many : Kind → ℕ
  many kind = length (map (cells_of m kind) (links_of m kind))

  abbrev body : Kind → Table
  body kind = map (cells_of m kind) (links_of m kind)

  abbrev entries : ℕ → ℕ → ℕ → ℕ → List ℕ
  entries v a e f = v ∷ 44 ∷ a ∷ (44 + 32 * v) ∷ e ∷ (44 + 32 * v + 24 * a) ∷ f ∷ (44 + 32 * v + 24 * a + 12 * e) ∷ []

  abbrev key-words : List ℕ
  key-words = get_or m.counters 0 0 ∷ get_or m.counters 1 0 ∷ get_or m.counters 2 0 ∷ []

  split : file_of m
      ≡ places head_length schema (body Vertices ∷ body Arcs ∷ body Edges ∷ body Faces ∷ [])
      ++ (row_text counter_widths m.counters ++ bodies_text schema (body Vertices ∷ body Arcs ∷ body Edges ∷ body Faces ∷ []))
  unfolding file_of file_text
  split = rw (rows_of m, counters-of)

  head-is : head_text (counts_of m) m.counters
      ≡ words_text (entries (length (links_of m Vertices)) (length (links_of m Arcs)) (length (links_of m Edges)) (length (links_of m Faces))) ++ words_text key-words
  unfolding head_text counts_of
  head-is =
      words_append
      (entries (length (links_of m Vertices)) (length (links_of m Arcs)) (length (links_of m Edges)) (length (links_of m Faces))) key-words

  entries-are : places head_length schema (body Vertices ∷ body Arcs ∷ body Edges ∷ body Faces ∷ [])
      ≡ words_text (entries (length (links_of m Vertices)) (length (links_of m Arcs)) (length (links_of m Edges)) (length (links_of m Faces)))
  entries-are =
      contents-words (body Vertices) (body Arcs) (body Edges) (body Faces)
      ∙ rw (length-map (links_of m Vertices) (cells_of m Vertices), length-map (links_of m Arcs) (cells_of m Arcs), length-map (links_of m Edges) (cells_of m Edges), length-map (links_of m Faces) (cells_of m Faces))

  texts-are : bodies_text schema (body Vertices ∷ body Arcs ∷ body Edges ∷ body Faces ∷ []) ≡ bodies_of m
  unfolding bodies_of kind_text links_text
  texts-are = bodies-are (body Vertices) (body Arcs) (body Edges) (body Faces)

  pub file-is : file_of m ≡ head_text (counts_of m) m.counters ++ bodies_of m
  file-is =
      let w : List ℕ = entries (length (links_of m Vertices)) (length (links_of m Arcs)) (length (links_of m Edges)) (length (links_of m Faces)) in
      split
      ∙ rw (entries-are, counter-words m.counters, texts-are) (sym (append_assoc (words_text w) (words_text key-words) (bodies_of m)))
      ∙ ap (λ (t : Text). t ++ bodies_of m) (sym head-is)

  bodies-long : 44 + length (bodies_of m) ≡ length_of (counts_of m)
  unfolding bodies_of length_of counts_of
  bodies-long =
      let v : length (kind_text m Vertices) ≡ 32 * length (links_of m Vertices) = kind-long m Vertices ∙ (unfold body_length in unfold widths_of in unfold total in refl) in
      let a : length (kind_text m Arcs) ≡ 24 * length (links_of m Arcs) = kind-long m Arcs ∙ (unfold body_length in unfold widths_of in unfold total in refl) in
      let e : length (kind_text m Edges) ≡ 12 * length (links_of m Edges) = kind-long m Edges ∙ (unfold body_length in unfold widths_of in unfold total in refl) in
      let f : length (kind_text m Faces) ≡ 16 * length (links_of m Faces) = kind-long m Faces ∙ (unfold body_length in unfold widths_of in unfold total in refl) in
      let ef = length-append (kind_text m Edges) (kind_text m Faces) in
      let aef = length-append (kind_text m Arcs) (kind_text m Edges ++ kind_text m Faces) in
      let vaef = length-append (kind_text m Vertices) (kind_text m Arcs ++ (kind_text m Edges ++ kind_text m Faces)) in
      omega (arith, v, a, e, f, ef, aef, vaef)

pub head-long : (c : Counts) (k : List ℕ) → length (head_text c k) ≡ 44
unfolding head_text
head-long c k =
    words_long
    (c.vertices
    ∷ 44
    ∷ c.arcs
    ∷ (44 + 32 * c.vertices)
    ∷ c.edges
    ∷ (44 + 32 * c.vertices + 24 * c.arcs)
    ∷ c.faces
    ∷ (44 + 32 * c.vertices + 24 * c.arcs + 12 * c.edges)
    ∷ get_or k 0 0
    ∷ get_or k 1 0
    ∷ get_or k 2 0
    ∷ [])

pub file-long : (m : Mesh) → length (file_of m) ≡ length_of (counts_of m)
file-long m =
    ap length (file-is m)
    ∙ length-append (head_text (counts_of m) m.counters) (bodies_of m)
    ∙ omega (arith, head-long (counts_of m) m.counters, bodies-long m)

-- ---- told by the tables alone

module _ (v : Table) (p : List (List Float)) (a e f : Table) (k : List ℕ) where
  -- no positions and no counters change how many there are
  pub counts_same : counts_of (mesh v [] a e f []) ≡ counts_of (mesh v p a e f k)
  unfolding counts_of
  counts_same = rw (links-same v p a e f k Vertices, links-same v p a e f k Arcs, links-same v p a e f k Edges, links-same v p a e f k Faces)

  one_same : (kind : Kind) → kind_text (mesh v p a e f []) kind ≡ kind_text (mesh v p a e f k) kind
  one_same kind = sym (kind-same v p a e f [] kind) ∙ kind-same v p a e f k kind

  -- no counters change the bodies
  pub bodies-same : bodies_of (mesh v p a e f []) ≡ bodies_of (mesh v p a e f k)
  unfolding bodies_of
  bodies-same = rw (one_same Vertices, one_same Arcs, one_same Edges, one_same Faces)

-- ---- what the check lets pass is small

module _ (m : Mesh) (h : sound m ≡ true) where
  limited : T (within_limits m)
  unfolding sound
  limited = and_l (within_limits m) _ (subst T (sym h) tt)

  pub small : Small m
  unfolding within_limits table_of
  small = record { rows = rows }
    where
      parts : (length m.vertices ≤ 4096) × ((length m.edges ≤ 8192) × ((length m.arcs ≡ 2 * length m.edges) × (length m.faces ≤ 4096)))
      parts =
          let p = and_r (leb (length m.vertices) 4096) _ limited in
          let e = and_r (eqb (length m.positions) (length m.vertices)) _ p in
          let a = and_r (leb (length m.edges) 8192) _ e in (
            leb→le _ _ (and_l (leb (length m.vertices) 4096) _ limited),
            (
              leb→le _ _ (and_l (leb (length m.edges) 8192) _ e),
              (
                eqb→eq _ _ (and_l (eqb (length m.arcs) (2 * length m.edges)) _ a),
                leb→le _ _ (and_r (eqb (length m.arcs) (2 * length m.edges)) (leb (length m.faces) 4096) a),
              ),
            ),
          )

      rows : (kind : Kind) → length (table_of m kind) ≤ 16384
      rows Vertices = omega (arith, parts.0)
      rows Arcs = omega (arith, parts.1.0, parts.1.1.0)
      rows Edges = omega (arith, parts.1.0)
      rows Faces = omega (arith, parts.1.1.1)

-- ---- the turns of the calls

-- of any counts, the whole length holds the table of contents
pub length-least : (c : Counts) → 44 ≤ length_of c
unfolding length_of
length-least c = omega arith

-- the whole length, by the room that each body takes
pub sizes : (m : Mesh)
    → length_of (counts_of m)
    ≡ 44
    + body_length (widths_of Vertices) (length (links_of m Vertices))
    + body_length (widths_of Arcs) (length (links_of m Arcs))
    + body_length (widths_of Edges) (length (links_of m Edges))
    + body_length (widths_of Faces) (length (links_of m Faces))
unfolding length_of counts_of body_length widths_of total
sizes m = refl

module _ (m : Mesh) where
  next : (kind : Kind) (at r : ℕ) → r ≡ at + body_length (widths_of kind) (length (links_of m kind)) → r ≡ at + length (kind_text m kind)
  next kind at r g = g ∙ ap (λ (n : ℕ). at + n) (sym (kind-long m kind))

  pub four-bodies : (out one two three four : Text) (r s t : ℕ)
      → one ≡ put_text out 44 (kind_text m Vertices) → r ≡ 44 + body_length (widths_of Vertices) (length (links_of m Vertices))
      → two ≡ put_text one r (kind_text m Arcs) → s ≡ r + body_length (widths_of Arcs) (length (links_of m Arcs))
      → three ≡ put_text two s (kind_text m Edges) → t ≡ s + body_length (widths_of Edges) (length (links_of m Edges))
      → four ≡ put_text three t (kind_text m Faces)
      → four ≡ put_text out 44 (bodies_of m)
  unfolding bodies_of
  four-bodies out one two three four r s t e1 g1 e2 g2 e3 g3 e4 =
      let last = put_then two three four s t (kind_text m Edges) (kind_text m Faces) e3 (next Edges s t g3) e4 in
      let rest = put_then one two four r s (kind_text m Arcs) (kind_text m Edges ++ kind_text m Faces) e2 (next Arcs r s g2) last in
      put_then out one four 44 r (kind_text m Vertices) (kind_text m Arcs ++ (kind_text m Edges ++ kind_text m Faces)) e1 (next Vertices 44 r g1) rest

module _ (m : Mesh) (out : Text) where
  refusing : (b : Bool) → sound m ≡ b → check_refuses m ≡ not b
  refusing b e = check-refuses m ∙ ap not e

  pub refused : sound m ≡ false → record { number = 1; count = 0; bytes = out } ≡ write_file m out
  unfolding write_file
  refused e = rw (refusing false e)

  pub too_few : sound m ≡ true → length out < length_of (counts_of m) → record { number = 7; count = 0; bytes = out } ≡ write_file m out
  unfolding write_file
  too_few e h = rw (refusing true e, lt-ltb (length out) (length (file_of m)) (rw (file-long m) h))

  pub all-written : (n : ℕ) (one two : Text) → sound m ≡ true → n ≡ length_of (counts_of m) → n ≤ length out
      → one ≡ put_text out 0 (head_text (counts_of m) m.counters) → two ≡ put_text one 44 (bodies_of m)
      → record { number = 0; count = n; bytes = two } ≡ write_file m out
  unfolding write_file
  all-written n one two e en h e1 e2 =
      let long : n ≡ length (file_of m) = en ∙ sym (file-long m) in
      let fits : length (file_of m) ≤ length out = omega arith in
      let here : 44 ≡ 0 + length (head_text (counts_of m) m.counters) = omega (arith, head-long (counts_of m) m.counters) in
      let text : two ≡ wrote out (file_of m) =
      put_then out one two 0 44 (head_text (counts_of m) m.counters) (bodies_of m) e1 here e2 ∙ ap (put_text out 0) (sym (file-is m)) ∙ put_whole out (file_of m) fits in
      rw (refusing true e, le-ltb (length out) (length (file_of m)) fits, long, text)
