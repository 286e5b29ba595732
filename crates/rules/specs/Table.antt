-- Tables as lists of rows, and the few ways to go over them that every rule is written with.
-- A link is a row plus one, and 0 is none. A row whose first cell is 0 is unused.
use Rattle.std.specs.Prelude.{ℕ, zero, suc, ◌+◌, ◌-◌, Bool, true, false, not, ◌&&◌, ◌||◌, cond, List, [], ◌∷◌, length, get_or, set, eqb, leb}

-- a table of numbers: its rows, each a list of cells
abbrev pub Table : Type 0
Table = List (List ℕ)

-- ---- one row, by its link

-- cell c of the row that the link l names. Reading through none, or past the table, gives 0
unfoldable pub cell : Table → ℕ → ℕ → ℕ
cell t l c = cond (eqb l 0) 0 (get_or (get_or t (l - 1) []) c 0)

-- the table with that cell set, and with that whole row set. Writing through none, or past the table, changes nothing
unfoldable pub put : Table → ℕ → ℕ → ℕ → Table
put t l c v = cond (eqb l 0) t (set t (l - 1) (set (get_or t (l - 1) []) c v))

unfoldable pub put_row {ℓ} : {A : Type ℓ} → List A → ℕ → A → List A
put_row t l r = cond (eqb l 0) t (set t (l - 1) r)

-- a row is unused; the link names a used row
abbrev pub unused : List ℕ → Bool
unused r = eqb (get_or r 0 0) 0

abbrev pub used : List ℕ → Bool
used r = not (unused r)

abbrev pub there : Table → ℕ → Bool
there t l = not (eqb (cell t l 0) 0)

-- ---- all rows

-- the link of a row, seen from one row further up
abbrev pub below : ℕ → ℕ
below zero = 0
below (suc n) = suc (suc n)

-- the link of the first row that passes the test, or 0
unfoldable pub first_row {ℓ} : {A : Type ℓ} → (A → Bool) → List A → ℕ
first_row p [] = 0
first_row p (r ∷ rs) = let later = below (first_row p rs) in cond (p r) 1 later

-- a link into a table that is within the limits; the largest such table has 16,384 rows, and a larger one has no links to give
abbrev pub row_limit : ℕ
row_limit = 16384

abbrev pub link_into {ℓ} : {A : Type ℓ} → List A → ℕ → ℕ
link_into t l = cond (leb (length t) row_limit) l 0

-- the lowest unused row
unfoldable pub free_row : Table → ℕ
free_row t = link_into t (first_row unused t)

-- how many rows pass the test; whether all do
unfoldable pub count {ℓ} : {A : Type ℓ} → (A → Bool) → List A → ℕ
count p [] = 0
count p (r ∷ rs) = let rest = count p rs in cond (p r) (suc rest) rest

unfoldable pub every {ℓ} : {A : Type ℓ} → (A → Bool) → List A → Bool
every p [] = true
every p (r ∷ rs) = p r && every p rs

-- ---- the numbers below n

-- some of them pass; all do; the sum of f over them
unfoldable pub some_below : (ℕ → Bool) → ℕ → Bool
some_below p zero = false
some_below p (suc n) = some_below p n || p n

unfoldable pub all_below : (ℕ → Bool) → ℕ → Bool
all_below p zero = true
all_below p (suc n) = all_below p n && p n

unfoldable pub sum_below : (ℕ → ℕ) → ℕ → ℕ
sum_below f zero = 0
sum_below f (suc n) = sum_below f n + f n

-- f at 0, then at 1, up to n - 1, each on what the one before made
unfoldable pub up_to {ℓ} : {A : Type ℓ} → (ℕ → A → A) → ℕ → A → A
up_to f zero a = a
up_to f (suc n) a = f n (up_to f n a)

-- f, n times
unfoldable pub times : (ℕ → ℕ) → ℕ → ℕ → ℕ
times f zero x = x
times f (suc n) x = f (times f n x)

-- every link of the table passes; every link of a used row does
abbrev pub each_link {ℓ} : {A : Type ℓ} → (ℕ → Bool) → List A → Bool
each_link p t = all_below (λ i. p (i + 1)) (length t)

abbrev pub each_used : (ℕ → Bool) → Table → Bool
each_used p t = each_link (λ l. not (there t l) || p l) t

-- ---- lists of numbers

-- x stands in the list; the list has no element twice
unfoldable pub has : List ℕ → ℕ → Bool
has [] x = false
has (y ∷ ys) x = eqb x y || has ys x

unfoldable pub distinct : List ℕ → Bool
unfolding has
distinct [] = true
distinct (y ∷ ys) = not (has ys y) && distinct ys

-- the place after i on a ring of n places
abbrev pub after : ℕ → ℕ → ℕ
after n i = cond (eqb (i + 1) n) 0 (i + 1)

-- x, or the other where x is none
abbrev pub or_else : ℕ → ℕ → ℕ
or_else x other = cond (eqb x 0) other x
