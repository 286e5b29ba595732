-- The arcs of a perimeter's pairs, and the steps by which one pass over the arc table finds them.
use Rattle.std.specs.Prelude.{ℕ, ◌%◌, ◌≤◌, ◌<◌, ◌≡◌, Bool, true, false, ◌&&◌, ◌||◌, cond, List, [], ◌∷◌, ◌++◌, length, get_or, set, replicate, eqb}
use Rattle.rules.specs.Table.{Table, some_below, up_to, after, or_else}
use Rattle.rules.specs.Mesh.{arc_between}

-- the list of f at 0, 1, up to n - 1
unfoldable pub list_below : (ℕ → ℕ) → ℕ → List ℕ
list_below f n = up_to (λ i l. l ++ (f i ∷ [])) n []

-- the arc of pair i, by the arc table alone, and those of all pairs
unfoldable pub pair_arc : Table → List ℕ → ℕ → ℕ
pair_arc arcs per i = arc_between arcs (get_or per i 0) (get_or per (after (length per) i) 0)

unfoldable pub arcs_of : Table → List ℕ → List ℕ
arcs_of arcs per = list_below (pair_arc arcs per) (length per)

-- ---- one pass

-- marks at the remainders that the numbers of a list leave, put to others or alone
abbrev pub mark_count : ℕ
mark_count = 4096

unfoldable pub marked_at : List Bool → List ℕ → List Bool
marked_at seen l = up_to (λ i s. set s (get_or l i 0 % mark_count) true) (length l) seen

unfoldable pub marks_of : List ℕ → List Bool
marks_of l = marked_at (replicate mark_count false) l

-- the rows from i up to r have no mark: each is told by its source
abbrev pub NoMarks : Table → List Bool → ℕ → ℕ → Type 0
NoMarks arcs seen i r = (j : ℕ) → i ≤ j → j < r → get_or seen (get_or (get_or arcs j []) 0 0 % mark_count) false ≡ false

-- from row i on, r is reached over such rows
abbrev pub Reached : Table → List Bool → ℕ → ℕ → Type 0
Reached arcs seen i r = (i ≤ r) × ((r ≤ length arcs) × NoMarks arcs seen i r)

-- pair i runs from s to d
unfoldable pub is_pair : List ℕ → ℕ → ℕ → ℕ → Bool
is_pair per i s d = eqb s (get_or per i 0) && eqb d (get_or per (after (length per) i) 0)

-- the arc x from s to d noted at pair i, and at all pairs, where it is theirs and none was noted before
unfoldable pub note_at : List ℕ → ℕ → ℕ → ℕ → ℕ → List ℕ → List ℕ
note_at per s d x i at = cond (is_pair per i s d) (set at i (or_else (get_or at i 0) x)) at

unfoldable pub noted : List ℕ → ℕ → ℕ → ℕ → List ℕ → List ℕ
noted per s d x at = cond (eqb s 0) at (up_to (note_at per s d x) (length per) at)

-- ---- pairs that join the same two vertices

-- s and d are a and b, in either order
unfoldable pub same_two : ℕ → ℕ → ℕ → ℕ → Bool
same_two s d a b = (eqb s a && eqb d b) || (eqb d a && eqb s b)

-- pair j joins a and b; a pair before i joins the two vertices of pair k
unfoldable pub meets : List ℕ → ℕ → ℕ → ℕ → Bool
meets per a b j = same_two (get_or per j 0) (get_or per (after (length per) j) 0) a b

unfoldable pub met_before : List ℕ → ℕ → ℕ → Bool
met_before per i k = some_below (meets per (get_or per k 0) (get_or per (after (length per) k) 0)) i

-- ---- a list of pairs: pair j runs from place j of the one list to place j of the other

-- it runs from s to d
unfoldable pub runs_at : List ℕ → List ℕ → ℕ → ℕ → ℕ → Bool
runs_at from to s d j = eqb s (get_or from j 0) && eqb d (get_or to j 0)
