-- A body in lent bytes, record after record, and the links of a kind, which are told by the tables alone.
use Prim.Native.Nat.{ℕ, suc, ◌+◌, ◌-◌, ◌≤◌, ◌<◌}
use native.Mathlib.Numerals.{add-one}
use native.Mathlib.Omega.{arith}
use mathlib.Core.Path.{◌≡◌, refl, ap, sym, ◌∙◌}
use mathlib.Core.List.{List, [], ◌++◌, map}
use lib.ListN.{length, get_or, drop, drop_of_length-le}
use lib.Seq.{drop-cons}
use lib.Ieee.{Float}
use Rattle.rules.specs.Table.{Table}
use Rattle.rules.specs.Mesh.{Mesh, mesh}
use Rattle.rules.specs.Records.{arc_name, vertex_record, arc_record, edge_record, face_record, arc_before}
use Rattle.rules.specs.Script.{Text}
use Rattle.file.specs.File.{total, body_text, body_length}
use Rattle.file.proofs.Cells.{row-length, body-space, body-none}
use Rattle.orders.specs.declared.kinds.Kind.{Kind}
use Rattle.orders.specs.declared.kinds.Kind.TheVariants.{Vertices, Arcs, Edges, Faces}
use Rattle.orders.specs.Order.{table_of, before_of, used_links, links_of}
use Rattle.writes.specs.Writing.{put_text, widths_of, cells_of, record_text, links_text, kind_text}
use Rattle.writes.proofs.Texts.{put-none, put_on}

-- ---- record after record

record-long : (m : Mesh) (kind : Kind) (x : ℕ) → length (record_text m kind x) ≡ total (widths_of kind)
unfolding record_text
record-long m kind x = row-length (widths_of kind) (cells_of m kind x)

module _ (m : Mesh) (kind : Kind) (links : List ℕ) (i : ℕ) where
  pub links-next : (whole out out' : Text) (at size x : ℕ) → i < length links → size ≡ total (widths_of kind) → x ≡ get_or links i 0
      → whole ≡ put_text out at (links_text m kind (drop i links)) → out' ≡ put_text out at (record_text m kind x)
      → whole ≡ put_text out' (at + size) (links_text m kind (drop (i + 1) links))
  links-next whole out out' at size x h es ex e f =
      put_on whole out out' at (at + size) (record_text m kind x) (links_text m kind (drop (i + 1) links)) (e ∙ ap (put_text out at) next) f
      (ap (λ (k : ℕ). at + k) (es ∙ sym (record-long m kind x)))
    where
      next : links_text m kind (drop i links) ≡ record_text m kind x ++ links_text m kind (drop (i + 1) links)
      next =
          ap (links_text m kind) (drop-cons links i 0 h)
          ∙ (unfold links_text in unfold body_text in unfold record_text in rw (add-one i, ex))

  pub links_end : (whole out : Text) (at : ℕ) → length links ≤ i → whole ≡ put_text out at (links_text m kind (drop i links)) → out ≡ whole
  links_end whole out at h e =
      sym (e ∙ ap (λ (l : List ℕ). put_text out at (links_text m kind l)) (drop_of_length-le links h) ∙ (unfold links_text in unfold body_text in put-none out at))

-- the room that is left
pub room_next : (ws : List ℕ) (n i : ℕ) → i < n → body_length ws (n - i) ≡ total ws + body_length ws (n - (i + 1))
room_next ws n i h = let e : n - i ≡ suc (n - (i + 1)) = omega arith in ap (body_length ws) e ∙ body-space ws (n - (i + 1))

pub room-end : (ws : List ℕ) (n i : ℕ) → n ≤ i → body_length ws (n - i) ≡ 0
room-end ws n i h = let e : n - i ≡ 0 = omega arith in ap (body_length ws) e ∙ body-none ws

-- ---- the links of a kind

module _ (v : Table) (p : List (List Float)) (a e f : Table) (k : List ℕ) where
  -- no positions and no counters order them
  pub links-same : (kind : Kind) → links_of (mesh v [] a e f []) kind ≡ links_of (mesh v p a e f k) kind
  unfolding links_of used_links before_of table_of arc_before
  links-same Vertices = refl
  links-same Arcs = refl
  links-same Edges = refl
  links-same Faces = refl

  cells_same : (kind : Kind) → cells_of (mesh v p a e f []) kind ≡ cells_of (mesh v p a e f k) kind
  unfolding cells_of vertex_record arc_record edge_record face_record arc_name
  cells_same Vertices = refl
  cells_same Arcs = refl
  cells_same Edges = refl
  cells_same Faces = refl

  -- nor do their records read the counters
  pub kind-same : (kind : Kind) → links_text (mesh v p a e f []) kind (links_of (mesh v [] a e f []) kind) ≡ kind_text (mesh v p a e f k) kind
  unfolding kind_text links_text
  kind-same kind =
      ap (λ (l : List ℕ). body_text (widths_of kind) (map (cells_of (mesh v p a e f []) kind) l)) (links-same kind)
      ∙ ap (λ (g : ℕ → List ℕ). body_text (widths_of kind) (map g (links_of (mesh v p a e f k) kind))) (cells_same kind)
