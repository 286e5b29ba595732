-- A list of at most 64 as the code holds it: how many it has, what stands in it from a place on, and keys put into its places.
use Prim.Native.Nat.{ℕ, suc, ◌+◌, ◌-◌, ◌≤◌, ◌<◌, min}
use native.Mathlib.Numerals.{add-one}
use native.Mathlib.Omega.{arith}
use native.Mathlib.Decide.{dec_lt, ℕ_discrete}
use mathlib.Core.Path.{◌≡◌, refl, ap, sym, ◌∙◌}
use mathlib.Core.Bool.{Bool, true, false}
use mathlib.Core.List.{List, [], ◌∷◌, ◌++◌, map}
use lib.ListN.{length, get_or, take, drop, set, replicate, length-take, length-map, drop_of_length-le, get_or-eq_default}
use lib.Seq.{take-suc, drop-cons, take_all, take-take, take-append-le, take-append-add, length-take-le, get_or-take}
use lib.Dec.{eqb}
use Rattle.std.specs.List.{list_any}
use Rattle.std.proofs.lemmas.List.{drop-take, drop-replicate, take-replicate}
use borrow.Author.Tests.{eq-eqb, ne_eqb}
use Rattle.rules.specs.declared.Links.{Links}
use Rattle.rules.specs.Table.{has, distinct, after}
use Rattle.rules.specs.Mesh.{places_of, links_of, list_of}
use Rattle.walks.proofs.Listing.{Made, pushed, in_list}

-- ---- how many it has

pub list-few : (l : Links) → length l.at ≡ 64 → length (list_of l) ≤ 64
unfolding list_of
list-few l h = omega (arith, length-take l.len l.at)

pub list-size : (l : Links) (n : ℕ) → length l.at ≡ 64 → n ≡ min l.len 64 → n ≡ length (list_of l)
unfolding list_of
list-size l n h e = omega (arith, length-take l.len l.at)

-- its places as far as it has
pub list-taken : (l : Links) (n : ℕ) → n ≡ length (list_of l) → take n l.at ≡ list_of l
unfolding list_of
list-taken l n e = sym (take-take n l.len l.at (omega (arith, length-take l.len l.at))) ∙ take_all n (take l.len l.at) (omega arith)

pub list-min : (l : Links) (n : ℕ) → length l.at ≡ 64 → n ≡ min l.len 64 → take n l.at ≡ list_of l
unfolding list_of
list-min l n size e = in_list l.at l.len n size e

-- ---- what stands at a place

pub item_in : (l : Links) (i : ℕ) → i < l.len → get_or (list_of l) i 0 ≡ get_or l.at i 0
unfolding list_of
item_in l i q = get_or-take l.len l.at i 0 q

pub item-past : (l : Links) (i : ℕ) → length l.at ≡ 64 → min l.len 64 ≤ i → get_or (list_of l) i 0 ≡ 0
unfolding list_of
item-past l i size q = get_or-eq_default (take l.len l.at) 0 (omega (arith, size, length-take l.len l.at))

-- past its end, of however many places
pub item-past-end : (l : Links) (i : ℕ) → l.len ≤ i → get_or (list_of l) i 0 ≡ 0
unfolding list_of
item-past-end l i q = get_or-eq_default (take l.len l.at) 0 (omega (arith, length-take l.len l.at))

-- a place before its end, by how many it has
pub place_in : (l : Links) (n i : ℕ) → n ≡ length (list_of l) → i < n → get_or l.at i 0 ≡ get_or (list_of l) i 0
place_in l n i e q = sym (get_or-take n l.at i 0 q) ∙ ap (λ (o : List ℕ). get_or o i 0) (list-taken l n e)

-- the place after one on a ring is on it
pub after_on : (n i : ℕ) → i < n → after n i < n
after_on n i l = go (ℕ_discrete (i + 1) n)
  where
    go : Dec (i + 1 ≡ n) → after n i < n
    go (yes q) = rw (eq-eqb (i + 1) n q) (omega arith)
    go (no nq) = rw (ne_eqb (i + 1) n nq) (omega arith)

pub next-on : (n i j : ℕ) → i < n → j ≡ after n i → j < n
next-on n i j l e = rw e (after_on n i l)

-- ---- what stands from a place on

module _ (l : List ℕ) (i : ℕ) where
  pub has_here : (x : ℕ) → i < length l → x ≡ get_or l i 0 → has (drop i l) x ≡ true
  unfolding has
  has_here x q e = rw (drop-cons l i 0 q, eq-eqb _ _ e)

  pub has-next : (x : ℕ) → i < length l → (x ≡ get_or l i 0 → ⊥) → has (drop i l) x ≡ has (drop (i + 1) l) x
  unfolding has
  has-next x q e = rw (drop-cons l i 0 q, ne_eqb _ _ e, add-one i)

  pub has_end : (x : ℕ) → length l ≤ i → has (drop i l) x ≡ false
  unfolding has
  has_end x q = rw (drop_of_length-le l q)

  pub twice-here : i < length l → has (drop (i + 1) l) (get_or l i 0) ≡ true → distinct (drop i l) ≡ false
  unfolding distinct
  twice-here q e = rw (drop-cons l i 0 q, ← add-one i, e)

  pub twice-next : i < length l → has (drop (i + 1) l) (get_or l i 0) ≡ false → distinct (drop i l) ≡ distinct (drop (i + 1) l)
  unfolding distinct
  twice-next q e =
      let f : has (drop (suc i) l) (get_or l i 0) ≡ false = rw (add-one i) at e in
      rw (drop-cons l i 0 q, f, add-one i)

  pub twice-end : length l ≤ i → distinct (drop i l) ≡ true
  unfolding distinct
  twice-end q = rw (drop_of_length-le l q)

-- ---- what stands from a place on, by the part of 64 places that is looked at

eqb-swap : (x y : ℕ) → eqb y x ≡ eqb x y
eqb-swap x y = go (ℕ_discrete x y)
  where
    go : Dec (x ≡ y) → eqb y x ≡ eqb x y
    go (yes e) = eq-eqb y x (sym e) ∙ sym (eq-eqb x y e)
    go (no ne) = ne_eqb y x (λ e. ne (sym e)) ∙ sym (ne_eqb x y ne)

any-has : (l : List ℕ) (x : ℕ) → list_any (λ y. eqb y x) l ≡ has l x
unfolding has
any-has [] x = refl
any-has (y ∷ ys) x = rw (eqb-swap x y, any-has ys x)

part-from : (at : List ℕ) (n end i a : ℕ) → length at ≡ 64 → end ≡ min n 64 → a ≡ min i end → take (end - a) (drop a at) ≡ drop i (take n at)
part-from at n end i a size ee ea = go (dec_lt end i) ∙ ap (drop i) (in_list at n end size ee)
  where
    go : Dec (end < i) → take (end - a) (drop a at) ≡ drop i (take end at)
    go (yes q) =
        let none : end - a ≡ 0 = omega (arith, ea) in
        rw none (sym (drop_of_length-le (take end at) (omega (arith, length-take end at))))
    go (no nq) =
        let here : a ≡ i = omega (arith, ea) in
        let sum : i + (end - i) ≡ end = omega arith in
        rw here (sym (drop-take i (end - i) at) ∙ ap (λ (k : ℕ). drop i (take k at)) sum)

pub has_part : (at : List ℕ) (n end i a x : ℕ) (r : Bool) → length at ≡ 64 → end ≡ min n 64 → a ≡ min i end → r ≡ list_any (λ y. eqb y x) (take (end - a) (drop a at)) → r ≡ has (drop i (take n at)) x
has_part at n end i a x r size ee ea h = h ∙ any-has (take (end - a) (drop a at)) x ∙ ap (λ (l : List ℕ). has l x) (part-from at n end i a size ee ea)

-- ---- keys put into places

pub keys-more : (keys at : List ℕ) (i : ℕ) → i < length keys → i < 64 → at ≡ places_of (take i keys) → set at i (get_or keys i 0) ≡ places_of (take (i + 1) keys)
keys-more keys at i l q h =
    let short : length (take i keys) ≡ i = length-take-le i keys (omega arith) in
    let put : set (places_of (take i keys)) i (get_or keys i 0) ≡ places_of (take i keys ++ (get_or keys i 0 ∷ [])) = rw short at (pushed (take i keys) (get_or keys i 0) (omega (arith, short))) in
    ap (λ (o : List ℕ). set o i (get_or keys i 0)) h ∙ put ∙ ap places_of (rw (add-one i) (sym (take-suc keys i 0 l)))

same-places : (keys : List ℕ) (n : ℕ) → n ≡ min (length keys) 64 → Dec (length keys < 64) → places_of (take n keys) ≡ places_of keys
unfolding places_of
same-places keys n e (yes q) = ap places_of (take_all n keys (omega arith))
same-places keys n e (no nq) =
    let all : n ≡ 64 = omega arith in
    rw all (take-append-le 64 (take 64 keys) (replicate 64 0) (omega (arith, length-take 64 keys)) ∙ take-take 64 64 keys (omega arith) ∙ sym (take-append-le 64 keys (replicate 64 0) (omega arith)))

pub keys-all : (keys at : List ℕ) (n : ℕ) → n ≡ min (length keys) 64 → at ≡ places_of (take n keys) → record { at = at; len = length keys } ≡ links_of keys
unfolding links_of
keys-all keys at n e h =
    let same : at ≡ places_of keys = h ∙ same-places keys n e (dec_lt (length keys) 64) in
    λ i. record { at = same i; len = length keys }

-- the first n of them copied over zeros
padded : (keys : List ℕ) (n : ℕ) → n ≡ min (length keys) 64 → take n keys ++ drop n (replicate 64 0) ≡ places_of (take n keys)
unfolding places_of
padded keys n e =
    let short : length (take n keys) ≡ n = length-take-le n keys (omega (arith, e)) in
    let less : 64 - n ≤ 64 = omega arith in
    let rest : drop n (replicate 64 0) ≡ take (64 - n) (replicate 64 0) = drop-replicate n 64 0 ∙ sym (take-replicate (64 - n) 64 0 less) in
    let all : length (take n keys) + (64 - n) ≡ 64 = omega (arith, short, e) in
    ap (λ (l : List ℕ). take n keys ++ l) rest ∙ sym (take-append-add (take n keys) (replicate 64 0) (64 - n)) ∙ ap (λ (k : ℕ). take k (take n keys ++ replicate 64 0)) all

pub keys-copied : (keys part : List ℕ) (n : ℕ) → n ≡ min (length keys) 64 → part ≡ take n keys → record { at = part ++ drop n (replicate 64 0); len = length keys } ≡ links_of keys
keys-copied keys part n e h = keys-all keys (part ++ drop n (replicate 64 0)) n e (ap (λ (l : List ℕ). l ++ drop n (replicate 64 0)) h ∙ padded keys n e)

-- a list made of another, element by element, at its end
pub made_list : (g : ℕ → ℕ) (from out : List ℕ) (n : ℕ) → n ≡ length from → Made g from out n → record { at = out; len = n } ≡ links_of (map g from)
unfolding links_of
made_list g from out n e h =
    let same : out ≡ places_of (map g from) = h ∙ ap (λ (r : List ℕ). places_of (map g r)) (take_all n from (omega arith)) in
    let many : n ≡ length (map g from) = e ∙ sym (length-map from g) in
    λ i. record { at = same i; len = many i }
