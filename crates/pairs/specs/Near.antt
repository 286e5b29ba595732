-- Arcs near an edit, listed in one pass for all perimeters of that edit: those that leave a vertex with a mark, and the lowest unused rows, which
-- the edit's new arcs take. The list stays true as arcs are made, as long as its last unused row, the spare one, is unused.
use Rattle.std.specs.Prelude.{ℕ, ◌+◌, ◌-◌, ◌%◌, ◌≤◌, ◌<◌, ◌≡◌, Bool, true, false, ◌&&◌, cond, List, [], length, get_or, set, take, eqb, ltb}
use Rattle.rules.specs.Table.{Table, cell, has, unused, row_limit}
use Rattle.pairs.specs.Pairs.{mark_count, marked_at, runs_at}
use Rattle.pairs.specs.declared.near.Nearby.{Nearby}

-- a vertex has a mark
abbrev pub is_marked : List Bool → ℕ → Bool
is_marked seen v = get_or seen (v % mark_count) false

-- from place `used` on, an unused row is followed by unused rows only
abbrev pub Ends : Table → List ℕ → ℕ → Type 0
Ends arcs list used = (k j : ℕ) → used ≤ k → k ≤ j → j < length list → cell arcs (get_or list k 0) 0 ≡ 0 → cell arcs (get_or list j 0) 0 ≡ 0

-- from place `used` on the list names rows up to i, in their order
pub record Rising (list : List ℕ) (used i : ℕ) : Type 0 where
  pub named : (k : ℕ) → used ≤ k → k < length list → (1 ≤ get_or list k 0) × (get_or list k 0 ≤ i)
  pub ordered : (k j : ℕ) → used ≤ k → k ≤ j → j < length list → get_or list k 0 ≤ get_or list j 0

-- every arc that leaves a vertex with a mark is listed, and every unused row up to the spare one; from place `used` on only rows that new arcs take
-- one after the other
pub record Listing (arcs : Table) (seen : List Bool) (list : List ℕ) (spare used : ℕ) : Type 0 where
  pub leaving : (x : ℕ) → x ≤ length arcs → (cell arcs x 0 ≡ 0 → ⊥) → is_marked seen (cell arcs x 0) ≡ true → has list x ≡ true
  pub free : (x : ℕ) → 1 ≤ x → x ≤ spare → cell arcs x 0 ≡ 0 → has list x ≡ true
  pub rising : Rising list used (length arcs)
  pub ends : Ends arcs list used

-- ---- links chained by the remainders that the sources of their rows leave

-- the source of the row that place k names
abbrev pub source_at : Table → List ℕ → ℕ → ℕ
source_at arcs near k = cell arcs (get_or near k 0) 0

-- place p - 1 is the last of the first n whose source leaves the same remainder as v; p is 0 where there is none
pub record LastLike (arcs : Table) (near : List ℕ) (v n p : ℕ) : Type 0 where
  pub within : p ≤ n
  pub like : 1 ≤ p → source_at arcs near (p - 1) % 128 ≡ v % 128
  pub past : (j : ℕ) → p ≤ j → j < n → source_at arcs near j % 128 ≡ v % 128 → ⊥

-- the first n places are chained: each has the last place before it that is like it, and each remainder the last of all
pub record Chained (arcs : Table) (near : List ℕ) (n : ℕ) : Type 0 where
  pub used : (j : ℕ) → j < n → source_at arcs near j ≡ 0 → ⊥
  pub next : (k : ℕ) → k < n → LastLike arcs near (source_at arcs near k) k (get_or near (1024 + k) 0)
  pub last : (v : ℕ) → LastLike arcs near v n (get_or near (2048 + v % 128) 0)

-- place n, of a row that leaves s, put at the end of its chain
abbrev pub chained_at : List ℕ → ℕ → ℕ → List ℕ
chained_at near n s = set (set near (1024 + n) (get_or near (2048 + s % 128) 0)) (2048 + s % 128) (n + 1)

-- that is so if there is a spare row and it is still unused
abbrev pub Near : Table → Nearby → Type 0
Near arcs by = 1 ≤ by.spare → by.spare ≤ length arcs → cell arcs by.spare 0 ≡ 0 → Listing arcs by.seen (take by.len by.links) by.spare by.used × ((by.chained ≤ by.len) × Chained arcs by.links by.chained)

-- marks at the vertices of a list
abbrev pub marking : Nearby → List ℕ → Nearby
marking by l = record { seen = marked_at by.seen l; links = by.links; len = by.len; spare = by.spare; first = by.first; used = by.used; chained = by.chained }

-- n is t with unused rows taken from the lowest on: a used row keeps its first cell, and from a row on that is still unused so does every row
pub record FilledUp (t n : Table) : Type 0 where
  pub rows : length n ≡ length t
  pub stays : (x : ℕ) → (cell t x 0 ≡ 0 → ⊥) → cell n x 0 ≡ cell t x 0
  pub beyond : (s x : ℕ) → 1 ≤ s → s ≤ length t → cell n s 0 ≡ 0 → s ≤ x → cell n x 0 ≡ cell t x 0

-- ---- the pass that lists them

-- place n, of a row that leaves s, chained where all before it are
abbrev pub chaining : Nearby → ℕ → ℕ → Nearby
chaining by n s = record {
  seen = by.seen;
  links = cond (eqb by.chained n) (chained_at by.links n s) by.links;
  len = by.len;
  spare = by.spare;
  first = by.first;
  used = by.used;
  chained = cond (eqb by.chained n) (n + 1) by.chained;
}

-- a row whose source is s may be passed by, with so many unused rows left to list
abbrev pub Passable : List Bool → ℕ → ℕ → Type 0
Passable seen left s = ((s ≡ 0 → ⊥) → is_marked seen s ≡ false) × ((left ≡ 0 → ⊥) → s ≡ 0 → ⊥)

-- so may the rows from i up to r
abbrev pub Onward : Table → List Bool → ℕ → ℕ → ℕ → Type 0
Onward arcs seen left i r = (i ≤ r) × ((r ≤ length arcs) × ((j : ℕ) → i ≤ j → j < r → Passable seen left (get_or (get_or arcs j []) 0 0)))

-- what stands in the list after i rows, with so many unused rows left to list: the used rows with a mark, and the unused rows up to the spare one,
-- or all of them while some are left; no row before the first is unused, and from place `used` on every row is
pub record ListedTo (arcs : Table) (seen : List Bool) (list : List ℕ) (i spare first left used : ℕ) : Type 0 where
  pub leaving : (j : ℕ) → j < i → (get_or (get_or arcs j []) 0 0 ≡ 0 → ⊥) → is_marked seen (get_or (get_or arcs j []) 0 0) ≡ true → has list (j + 1) ≡ true
  pub free : (j : ℕ) → j < i → (left ≡ 0 → j < spare) → get_or (get_or arcs j []) 0 0 ≡ 0 → has list (j + 1) ≡ true
  pub reached : spare ≤ i
  pub before : (j : ℕ) → j + 1 < first → unused (get_or arcs j []) ≡ false
  pub none : first ≡ 0 → (left ≡ 0 → ⊥) → (j : ℕ) → j < i → unused (get_or arcs j []) ≡ false
  pub rising : Rising list used i
  pub taken_none : (k : ℕ) → used ≤ k → k < length list → cell arcs (get_or list k 0) 0 ≡ 0

-- so it is of what an edit knows, and the first links are chained
pub record Met (arcs : Table) (by : Nearby) (i left : ℕ) : Type 0 where
  pub listed : ListedTo arcs by.seen (take by.len by.links) i by.spare by.first left by.used
  pub most : by.chained ≤ by.len
  pub chained : Chained arcs by.links by.chained

-- ---- the lookup

-- the list tells: what stands in it is so, in a table that has links to give
pub record Telling (arcs : Table) (by : Nearby) : Type 0 where
  pub fits : length arcs ≤ row_limit
  pub few : by.len ≤ 1024
  pub listing : Listing arcs by.seen (take by.len by.links) by.spare by.used
  pub most : by.chained ≤ by.len
  pub chained : Chained arcs by.links by.chained

-- every vertex of a list has a mark
abbrev pub AllMarked : List Bool → List ℕ → Type 0
AllMarked seen l = (i : ℕ) → i < length l → is_marked seen (get_or l i 0) ≡ true

-- every arc that leaves a is listed
abbrev pub AllFrom : Table → List ℕ → ℕ → Type 0
AllFrom arcs list a = (x : ℕ) → x ≤ length arcs → (a ≡ 0 → ⊥) → cell arcs x 0 ≡ a → has list x ≡ true

-- x names an arc from a to b
abbrev pub leads : Table → ℕ → ℕ → ℕ → Bool
leads arcs a b x = eqb (cell arcs x 0) a && eqb (cell arcs x 1) b

-- m is the least such link in the list, or 0 where there is none
pub record Least (arcs : Table) (a b : ℕ) (list : List ℕ) (m : ℕ) : Type 0 where
  pub is : (m ≡ 0 → ⊥) → leads arcs a b m ≡ true
  pub some : (x : ℕ) → has list x ≡ true → leads arcs a b x ≡ true → m ≡ 0 → ⊥
  pub low : (x : ℕ) → has list x ≡ true → leads arcs a b x ≡ true → m ≤ x

-- at each of so many pairs stands the least link in the list, and none where the pair starts at none; pair i runs from f i to t i
pub record Sought (arcs : Table) (f t : List ℕ) (size : ℕ) (list at : List ℕ) : Type 0 where
  pub places : length at ≡ 64
  pub none : (i : ℕ) → i < size → get_or f i 0 ≡ 0 → get_or at i 0 ≡ 0
  pub least : (i : ℕ) → i < size → (get_or f i 0 ≡ 0 → ⊥) → Least arcs (get_or f i 0) (get_or t i 0) list (get_or at i 0)
  pub clear : (i : ℕ) → size ≤ i → get_or at i 0 ≡ 0

-- the lesser of two links, where 0 is none
unfoldable pub lower_link : ℕ → ℕ → ℕ
lower_link m x = cond (eqb m 0) x (cond (ltb x m) x m)

-- the link x noted at each of the first n pairs that runs from s to d and has no lesser link: what was noted before is at₀, and at is after
pub record LinkNoted (from to : List ℕ) (s d x : ℕ) (at₀ : List ℕ) (n : ℕ) (at : List ℕ) : Type 0 where
  pub size : length at ≡ length at₀
  pub told : (j : ℕ) → j < n → j < length at → get_or at j 0 ≡ cond (runs_at from to s d j) (lower_link (get_or at₀ j 0) x) (get_or at₀ j 0)
  pub past : (j : ℕ) → n ≤ j → get_or at j 0 ≡ get_or at₀ j 0
