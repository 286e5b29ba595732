-- A ring as the code tests it: all that is asked of one ring but that no arc off it holds the face, which is counted over all rings.
use Rattle.std.specs.Prelude.{◌≡◌, ℕ, ◌-◌, ◌≤◌, Bool, not, ◌&&◌, cond, List, [], length, get_or, eqb, leb, Option, Some, None}
use Rattle.rules.specs.Table.{Table, cell, there, used, every, each_used, all_below}
use Rattle.rules.specs.Mesh.{Mesh, source, dest, next}
use Rattle.rules.specs.Link.{ring}
use Rattle.proved.specs.Demand.{over_faces, all_holders}
use Rattle.rules.specs.Sound.{names_holder, comes_back, three_to_limit, sources_differ, ring_holds, runs_back}

-- the row that a link names, if the table has it
abbrev pub row_of : Table → ℕ → Option (List ℕ)
row_of t x = cond (leb 1 x && leb x (length t)) (Some (get_or t (x - 1) [])) None

-- an arc on it holds the face, and previous of next is the arc itself
unfoldable pub ring_arc : Table → ℕ → ℕ → Bool
ring_arc arcs f x = (there arcs x && eqb (cell arcs x 4) f) && eqb (cell arcs (cell arcs x 2) 3) x

unfoldable pub ring_whole : Mesh → ℕ → Bool
ring_whole m f =
    names_holder m f && (comes_back m f && (three_to_limit m f && (sources_differ m f && (ring_holds m f && runs_back m f))))

-- its length, or 0 where it fails
unfoldable pub ring_length : Mesh → ℕ → ℕ
ring_length m f = cond (ring_whole m f) (length (ring m f)) 0

-- ---- a ring whose arcs are linked too: what the pass over all rings tests

-- each arc on it ends where its next leaves
unfoldable pub ring_linked : Mesh → ℕ → Bool
ring_linked m f = every (λ x. eqb (source m (next m x)) (dest m x)) (ring m f)

-- an arc's row on the ring of f, after the arc `before`, which ends at `end`
unfoldable pub ring_row : List ℕ → ℕ → ℕ → ℕ → Bool
ring_row r f before end = used r && (eqb (get_or r 4 0) f && (eqb (get_or r 3 0) before && eqb (get_or r 0 0) end))

-- three numbers differ
abbrev pub three_apart : ℕ → ℕ → ℕ → Bool
three_apart a b c = not (eqb a b) && (not (eqb a c) && not (eqb b c))

-- the rows of three arcs on the ring of f, or of four: each comes after the one before, and p, which `first` names, after z
unfoldable pub three_rows : List ℕ → List ℕ → List ℕ → ℕ → ℕ → Bool
three_rows p q z f first =
    ring_row p f (get_or p 3 0) (get_or z 1 0)
    && (ring_row q f first (get_or p 1 0)
    && (ring_row z f (get_or p 2 0) (get_or q 1 0) && three_apart (get_or p 0 0) (get_or q 0 0) (get_or z 0 0)))

unfoldable pub four_rows : List ℕ → List ℕ → List ℕ → List ℕ → ℕ → ℕ → Bool
four_rows p q r z f first =
    ring_row p f (get_or p 3 0) (get_or z 1 0)
    && (ring_row q f first (get_or p 1 0)
    && (ring_row r f (get_or p 2 0) (get_or q 1 0)
    && (ring_row z f (get_or q 2 0) (get_or r 1 0)
    && (three_apart (get_or p 0 0) (get_or q 0 0) (get_or z 0 0)
    && (not (eqb (get_or p 0 0) (get_or r 0 0)) && (not (eqb (get_or q 0 0) (get_or r 0 0)) && not (eqb (get_or r 0 0) (get_or z 0 0))))))))

-- the first n numbers of a list differ
unfoldable pub apart : List ℕ → ℕ → Bool
apart l n = all_below (λ i. all_below (λ j. not (eqb (get_or l j 0) (get_or l i 0))) i) n

unfoldable pub linked_length : Mesh → ℕ → ℕ
linked_length m f = cond (ring_whole m f && ring_linked m f) (length (ring m f)) 0

-- a length that is given, or none for 0
abbrev pub LengthIs : ℕ → Option ℕ → Type 0
LengthIs n None = 0 ≡ n
LengthIs n (Some r) = (1 ≤ r) × (r ≡ n)

-- the same where one is given, and nothing else
abbrev pub IfTold : ℕ → Option ℕ → Type 0
IfTold n None = Unit {0}
IfTold n (Some r) = (1 ≤ r) × (r ≡ n)

-- all rings are so, and together have as many arcs as hold a face
unfoldable pub rings_full : Mesh → Bool
rings_full m =
    each_used (λ f. ring_whole m f && ring_linked m f) m.faces && eqb (over_faces m (λ f. length (ring m f))) (all_holders m)
