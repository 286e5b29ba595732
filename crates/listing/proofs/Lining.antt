-- The line of a record, of what the code reads for it; the lines of a kind, one after the other; and all kinds as the records' text.
-- Assumes nothing.
use Prim.Native.Nat.{ℕ, ◌+◌, ◌≤◌, ◌<◌}
use native.Mathlib.Numerals.{add-one}
use mathlib.Core.Path.{◌≡◌, refl, ap, sym, ◌∙◌}
use mathlib.Core.List.{List, [], ◌∷◌, ◌++◌, map, append_assoc, append-nil}
use lib.ListN.{length, get_or, take}
use lib.Seq.{take-suc}
use lib.Ieee.{Float}
use Rattle.rules.specs.Table.{Table}
use Rattle.rules.specs.Mesh.{Mesh, mesh}
use Rattle.rules.specs.Records.{arc_name, vertex_record, arc_record, edge_record, face_record, used_from, in_order, key_before, arc_before, records}
use Rattle.rules.specs.Script.{Text, newline}
use Rattle.rules.specs.Dump.{vertex_line, arc_line, edge_line, face_line, lines_by, records_text}
use Rattle.script.specs.Texts.{written, wrote}
use Rattle.script.specs.Dumps.{counters_text}
use Rattle.script.proofs.Writes.{wrote_then}
use Rattle.orders.specs.declared.kinds.Kind.{Kind}
use Rattle.orders.specs.declared.kinds.Kind.TheVariants.{Vertices, Arcs, Edges, Faces}
use Rattle.orders.specs.Order.{table_of, before_of, used_links, links_of}
use Rattle.listing.specs.Lines.{Listable, line_of, joined_lines, kind_text}

-- ---- one line more

pub rows_few : (m : Mesh) (kind : Kind) → Listable m → length (table_of m kind) ≤ 256
unfolding table_of
rows_few m Vertices l = l.few-vertices
rows_few m Arcs l = l.few-arcs
rows_few m Edges l = l.few-edges
rows_few m Faces l = l.few-faces

joined-append : (line : ℕ → Text) (xs ys : List ℕ) → joined_lines line (xs ++ ys) ≡ joined_lines line xs ++ joined_lines line ys
unfolding joined_lines
joined-append line [] ys = refl
joined-append line (x ∷ xs) ys = rw (joined-append line xs ys) (sym (append_assoc (line x) (joined_lines line xs) (joined_lines line ys)))

-- a turn of the loop
module _ (line : ℕ → Text) (links : List ℕ) (i : ℕ) (d b b' : Text) (n n' x : ℕ) where
  pub line-more : i < length links → x ≡ get_or links i 0 → n' ≤ length d → written b n ≡ wrote d 0 (joined_lines line (take i links))
      → written b' n' ≡ wrote b n (line x) → written b' n' ≡ wrote d 0 (joined_lines line (take (i + 1) links))
  line-more h f r e e' =
      wrote_then d 0 b b' n n' (joined_lines line (take i links)) (line (get_or links i 0)) r e (e' ∙ ap (λ (y : ℕ). wrote b n (line y)) f) ∙ ap (wrote d 0) (sym step)
    where
      step : joined_lines line (take (i + 1) links) ≡ joined_lines line (take i links) ++ line (get_or links i 0)
      step =
          rw (add-one i, take-suc links i 0 h)
          (joined-append line (take i links) (get_or links i 0 ∷ [])
          ∙ ap (λ (t : Text). joined_lines line (take i links) ++ t) (unfold joined_lines in append-nil (line (get_or links i 0))))

-- ---- all kinds

joined-records {ℓ} : {A : Type ℓ} (line : A → Text) (record_of : ℕ → A) (ls : List ℕ)
    → lines_by line (map record_of ls) ≡ joined_lines (λ x. line (record_of x) ++ (newline ∷ [])) ls
unfolding lines_by joined_lines
joined-records line record_of [] = refl
joined-records line record_of (x ∷ xs) =
    rw (joined-records line record_of xs) (sym (append_assoc (line (record_of x)) (newline ∷ []) (joined_lines (λ x. line (record_of x) ++ (newline ∷ [])) xs)))

module _ (m : Mesh) where
  vertices-text : lines_by vertex_line (records m).vertices ≡ kind_text m Vertices
  unfolding records kind_text links_of used_links table_of before_of line_of
  vertices-text = joined-records vertex_line (vertex_record m) (in_order (key_before m.vertices) (used_from m.vertices 1 m.vertices))

  arcs-text : lines_by arc_line (records m).arcs ≡ kind_text m Arcs
  unfolding records kind_text links_of used_links table_of before_of line_of
  arcs-text = joined-records arc_line (arc_record m) (in_order (arc_before m) (used_from m.arcs 1 m.arcs))

  edges-text : lines_by edge_line (records m).edges ≡ kind_text m Edges
  unfolding records kind_text links_of used_links table_of before_of line_of
  edges-text = joined-records edge_line (edge_record m) (in_order (key_before m.edges) (used_from m.edges 1 m.edges))

  faces-text : lines_by face_line (records m).faces ≡ kind_text m Faces
  unfolding records kind_text links_of used_links table_of before_of line_of
  faces-text = joined-records face_line (face_record m) (in_order (key_before m.faces) (used_from m.faces 1 m.faces))

-- the four kinds one after the other, and the counters
pub all-records : (vertices : Table) (positions : List (List Float)) (arcs edges faces : Table) (v e f : ℕ)
    → records_text (records (mesh vertices positions arcs edges faces (v ∷ e ∷ f ∷ [])))
    ≡ kind_text (mesh vertices positions arcs edges faces (v ∷ e ∷ f ∷ [])) Vertices
    ++ (kind_text (mesh vertices positions arcs edges faces (v ∷ e ∷ f ∷ [])) Arcs
    ++ (kind_text (mesh vertices positions arcs edges faces (v ∷ e ∷ f ∷ [])) Edges
    ++ (kind_text (mesh vertices positions arcs edges faces (v ∷ e ∷ f ∷ [])) Faces ++ counters_text v e f)))
unfolding records_text counters_text
all-records vertices positions arcs edges faces v e f =
    let m = mesh vertices positions arcs edges faces (v ∷ e ∷ f ∷ []) in
    rw (vertices-text m, arcs-text m, edges-text m, faces-text m) (unfold records in refl)

-- the lines of a kind read no counters
kind_bare : (vertices : Table) (positions : List (List Float)) (arcs edges faces : Table) (counters : List ℕ) (kind : Kind)
    → kind_text (mesh vertices positions arcs edges faces counters) kind ≡ kind_text (mesh vertices positions arcs edges faces []) kind
unfolding kind_text links_of used_links table_of before_of line_of vertex_record arc_record edge_record face_record arc_name arc_before
kind_bare vertices positions arcs edges faces counters Vertices = refl
kind_bare vertices positions arcs edges faces counters Arcs = refl
kind_bare vertices positions arcs edges faces counters Edges = refl
kind_bare vertices positions arcs edges faces counters Faces = refl

-- so the records' text is that of the mesh without them, and the counters
pub all-records-bare : (vertices : Table) (positions : List (List Float)) (arcs edges faces : Table) (v e f : ℕ)
    → records_text (records (mesh vertices positions arcs edges faces (v ∷ e ∷ f ∷ [])))
    ≡ kind_text (mesh vertices positions arcs edges faces []) Vertices
    ++ (kind_text (mesh vertices positions arcs edges faces []) Arcs
    ++ (kind_text (mesh vertices positions arcs edges faces []) Edges ++ (kind_text (mesh vertices positions arcs edges faces []) Faces ++ counters_text v e f)))
all-records-bare vertices positions arcs edges faces v e f =
    let same = kind_bare vertices positions arcs edges faces (v ∷ e ∷ f ∷ []) in
    all-records vertices positions arcs edges faces v e f ∙ rw (same Vertices, same Arcs, same Edges, same Faces)
