-- Rows near an edit in a list, and rows of one table that become those of another: the listed ones, those of new edges, all.
use Rattle.std.specs.Prelude.{ℕ, ◌+◌, ◌-◌, ◌≤◌, ◌<◌, ◌≡◌, Bool, true, ◌&&◌, List, [], ◌⊎◌, length, get_or, Option, IfSome}
use Rattle.rules.specs.Table.{Table, has, unused, used}
use Rattle.rules.specs.Mesh.{opposite_of}
use Rattle.pairs.specs.Near.{is_marked}

-- every row has six cells
abbrev pub SixCells : Table → Type 0
SixCells t = (i : ℕ) → i < length t → length (get_or t i []) ≡ 6

-- ---- the list

-- of the first i rows, every arc that leaves a vertex with a mark stands in the list, and its opposite
abbrev pub ListedTo : Table → Table → List Bool → List ℕ → ℕ → Type 0
ListedTo arcs edges seen list i =
    (j : ℕ) → j < i → (get_or (get_or arcs j []) 0 0 ≡ 0 → ⊥) → is_marked seen (get_or (get_or arcs j []) 0 0) ≡ true → (has list (j + 1) ≡ true) × (has list (opposite_of arcs edges (j + 1)) ≡ true)

-- of all rows
abbrev pub Listed : Table → Table → List Bool → List ℕ → Type 0
Listed arcs edges seen list = ListedTo arcs edges seen list (length arcs)

-- ---- rows as another table has them

-- the row of the link x is in t as in o
abbrev pub Right : Table → Table → ℕ → Type 0
Right o t x = 1 ≤ x → x ≤ length t → get_or t (x - 1) [] ≡ get_or o (x - 1) []

-- from t to n every row that is as in o stays so
pub record Toward (o t n : Table) : Type 0 where
  pub size : length n ≡ length t
  pub stays : (x : ℕ) → Right o t x → Right o n x

-- every row of a list is in t as in o
abbrev pub AllRight : Table → Table → List ℕ → Type 0
AllRight o t list = (x : ℕ) → has list x ≡ true → Right o t x

-- from t to n the row of x became that of o; the rows of a list did
abbrev pub CopiedRow : Table → Table → Table → ℕ → Type 0
CopiedRow o t n x = Toward o t n × Right o n x

abbrev pub Copied : List ℕ → Table → Table → Table → Type 0
Copied list o t n = Toward o t n × AllRight o n list

-- ---- new arcs

-- a row that is used and was not
abbrev pub is_new : List ℕ → List ℕ → Bool
is_new was row = unused was && used row

-- both arcs of the edge in row k are in t as in o, if that edge is new
abbrev pub RightIfNew : Table → Table → Table → Table → ℕ → Type 0
RightIfNew were edges o t k =
    is_new (get_or were k []) (get_or edges k []) ≡ true → Right o t (get_or (get_or edges k []) 1 0) × Right o t (get_or (get_or edges k []) 2 0)

-- from t to n the arcs of the new edges among the first i became those of o
abbrev pub NewCopiedTo : Table → Table → Table → Table → Table → ℕ → Type 0
NewCopiedTo were edges o t n i = Toward o t n × ((k : ℕ) → k < i → RightIfNew were edges o n k)

-- of all edges
abbrev pub NewCopied : Table → Table → Table → Table → Table → Type 0
NewCopied were edges o t n = NewCopiedTo were edges o t n (length edges)

-- x is an arc of a new edge
pub record OfNewEdge (were edges : Table) (x : ℕ) : Type 0 where
  pub row : ℕ
  pub within : row < length edges
  pub new : is_new (get_or were row []) (get_or edges row []) ≡ true
  pub named : (x ≡ get_or (get_or edges row []) 1 0) ⊎ (x ≡ get_or (get_or edges row []) 2 0)

-- ---- all arcs

-- where t and o differ, the row is listed or is an arc of a new edge; where there were too many to list, they may differ anywhere
abbrev pub DifferNear : Table → Table → Option (List ℕ) → Table → Table → Type 0
DifferNear o t near edges were = IfSome near (λ list. (x : ℕ) → Right o t x ⊎ ((has list x ≡ true) ⊎ OfNewEdge were edges x))
