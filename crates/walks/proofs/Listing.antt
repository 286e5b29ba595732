-- A list of links built place by place, and read: the laws for every loop over such a list.
use Prim.Native.Nat.{ℕ, ◌+◌, ◌≤◌, ◌<◌, min}
use native.Mathlib.Nat.{le_refl}
use Rattle.std.proofs.Common.{zero-le}
use native.Mathlib.Numerals.{add-one}
use native.Mathlib.Omega.{arith}
use native.Mathlib.Decide.{dec_lt, ℕ_discrete}
use mathlib.Core.Path.{◌≡◌, refl, ap, sym, ◌∙◌}
use mathlib.Core.List.{List, [], ◌∷◌, ◌++◌, map, map-append}
use lib.ListN.{length, get_or, take, set, length-set, length-append, length-map, get_or-eq_default, get_or-append}
use lib.Seq.{get_or-set_same, get_or-set_other, take-suc, take_all, take-take, length-take-le, ext_get_or}
use Rattle.rules.specs.declared.Links.{Links}
use Rattle.rules.specs.Mesh.{places_of, links_of, list_of}
use Rattle.rules.specs.Edit.{place}
use lib.Dec.{eqb}
use borrow.Author.Tests.{eq-eqb, ne_eqb}
use Rattle.std.specs.Prelude.{Option, None, Some, MatchOption}
use Rattle.std.specs.List.{AllWithin, HoldsAt}
use Rattle.rules.proofs.Scan.{none_passes, first_passes}
use Rattle.rules.proofs.Places.{place_is, places-length}

at-end : (l : List ℕ) (x : ℕ) → get_or (l ++ (x ∷ [])) (length l) 0 ≡ x
at-end [] x = refl
at-end (y ∷ ys) x = at-end ys x

past_end : (l : List ℕ) (x i : ℕ) → length l < i → get_or (l ++ (x ∷ [])) i 0 ≡ 0
past_end l x i h = get_or-eq_default (l ++ (x ∷ [])) 0 (omega (arith, length-append l (x ∷ [])))

-- one more at the first place that is free
pub pushed : (l : List ℕ) (x : ℕ) → length l < 64 → set (places_of l) (length l) x ≡ places_of (l ++ (x ∷ []))
pushed l x h = ext_get_or 0 (set (places_of l) (length l) x) (places_of (l ++ (x ∷ []))) (length-set (places_of l) (length l) x ∙ places-length l ∙ sym (places-length (l ++ (x ∷ [])))) (λ i b. same i ∙ sym (place_is (l ++ (x ∷ [])) (omega (arith, length-append l (x ∷ []))) i))
  where
    same : (i : ℕ) → get_or (set (places_of l) (length l) x) i 0 ≡ get_or (l ++ (x ∷ [])) i 0
    same i = go (ℕ_discrete i (length l)) (dec_lt i (length l))
      where
        go : Dec (i ≡ length l) → Dec (i < length l) → get_or (set (places_of l) (length l) x) i 0 ≡ get_or (l ++ (x ∷ [])) i 0
        go (yes e) d =
            ap (λ (k : ℕ). get_or (set (places_of l) (length l) x) k 0) e
            ∙ get_or-set_same (places_of l) (length l) x 0 (omega (arith, places-length l))
            ∙ sym (ap (λ (k : ℕ). get_or (l ++ (x ∷ [])) k 0) e ∙ at-end l x)
        go (no ne) (yes q) =
            get_or-set_other (places_of l) (length l) i x 0 ne ∙ place_is l (omega arith) i ∙ sym (get_or-append l (x ∷ []) 0 i q)
        go (no ne) (no nq) =
            get_or-set_other (places_of l) (length l) i x 0 ne ∙ place_is l (omega arith) i
            ∙ get_or-eq_default l 0 (omega arith)
            ∙ sym (past_end l x i (omega arith))

-- ---- a list made of another, element by element

module _ (g : ℕ → ℕ) (from : List ℕ) where
  abbrev pub Made : List ℕ → ℕ → Type 0
  Made out i = out ≡ places_of (map g (take i from))

  pub made_more : (out : List ℕ) (i x : ℕ) → i < length from → length from ≤ 64 → x ≡ g (get_or from i 0) → Made out i → Made (set out i x) (i + 1)
  made_more out i x l few ex h =
      let short : length (map g (take i from)) ≡ i = length-map (take i from) g ∙ length-take-le i from (omega arith) in
      let grown : map g (take (i + 1) from) ≡ map g (take i from) ++ (x ∷ []) = rw (add-one i, take-suc from i 0 l, map-append g (take i from) (get_or from i 0 ∷ []), ex) in
      let put : set (places_of (map g (take i from))) i x ≡ places_of (map g (take i from) ++ (x ∷ [])) = rw short at (pushed (map g (take i from)) x (omega (arith, short))) in
      ap (λ (o : List ℕ). set o i x) h ∙ put ∙ ap places_of (sym grown)

-- ---- the list that the code holds: of its places, as many as its length says, and at most 64

module _ (at : List ℕ) (len n : ℕ) (size : length at ≡ 64) (en : n ≡ min len 64) where
  pub in_list : take n at ≡ take len at
  in_list = go (dec_lt len 64)
    where
      go : Dec (len < 64) → take n at ≡ take len at
      go (yes q) =
          let same : n ≡ len = omega arith in
          ap (λ (k : ℕ). take k at) same
      go (no nq) = take_all n at (omega arith) ∙ sym (take_all len at (omega arith))

  pub list_length : length (take len at) ≡ n
  list_length = ap length (sym in_list) ∙ length-take-le n at (omega arith)

-- all of a list made of another
pub made_all : (g : ℕ → ℕ) (list : Links) (out : List ℕ) (n : ℕ) → length list.at ≡ 64 → n ≡ min list.len 64 → Made g (take n list.at) out n → record { at = out; len = n } ≡ links_of (map g (list_of list))
unfolding links_of list_of
made_all g list out n size en h =
    let all : take n (take n list.at) ≡ take list.len list.at = take-take n n list.at (le_refl n) ∙ in_list list.at list.len n size en in
    let same : out ≡ places_of (map g (take list.len list.at)) = h ∙ ap (λ (r : List ℕ). places_of (map g r)) all in
    let many : n ≡ length (map g (take list.len list.at)) = sym (list_length list.at list.len n size en) ∙ sym (length-map (take list.len list.at) g) in
    λ i. record { at = same i; len = many i }

-- ---- the first place where x stands

place_first : (xs : List ℕ) (x : ℕ) (r : Option ℕ) → MatchOption r (AllWithin (λ y. y ≡ x → ⊥) xs 0 (length xs)) (λ i. (i < length xs) × HoldsAt (λ y. y ≡ x) xs i × AllWithin (λ y. y ≡ x → ⊥) xs 0 i) → MatchOption r (place xs x ≡ 0) (λ i. place xs x ≡ i + 1)
unfolding place
place_first xs x None h = none_passes (eqb x) xs 0 (λ k q. ne_eqb _ _ (λ e. h k 0 zero-le q (sym e)))
place_first xs x (Some i) h =
    first_passes (eqb x) xs 0 i h.0 (λ k q. ne_eqb _ _ (λ e. h.2 k 0 zero-le q (sym e))) (eq-eqb _ _ (sym (h.1 0))) ∙ sym (add-one i)

pub place_of : (list : Links) (x n : ℕ) → length list.at ≡ 64 → n ≡ min list.len 64 → (r : Option ℕ) → MatchOption r (AllWithin (λ y. y ≡ x → ⊥) (take n list.at) 0 (length (take n list.at))) (λ i. (i < length (take n list.at)) × HoldsAt (λ y. y ≡ x) (take n list.at) i × AllWithin (λ y. y ≡ x → ⊥) (take n list.at) 0 i) → MatchOption r (place (list_of list) x ≡ 0) (λ i. place (list_of list) x ≡ i + 1)
unfolding list_of
place_of list x n size en r h = rw (in_list list.at list.len n size en) at (place_first (take n list.at) x r h)
