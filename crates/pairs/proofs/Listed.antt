-- The list of a perimeter's arcs: how long it is, what stands at a place, and the list as the code holds it.
use Prim.Native.Nat.{ℕ, zero, suc, ◌≤◌, ◌<◌}
use native.Mathlib.Nat.{not-suc-le-zero}
use native.Mathlib.Omega.{arith}
use native.Mathlib.Decide.{ℕ_discrete, dec_lt}
use mathlib.Core.Path.{◌≡◌, refl, ap, sym, ◌∙◌}
use mathlib.Core.List.{List, [], ◌∷◌, ◌++◌}
use lib.ListN.{length, get_or, length-append, get_or-append, get_or-eq_default}
use Rattle.rules.specs.declared.Links.{Links}
use Rattle.rules.specs.Table.{Table, up_to}
use Rattle.rules.specs.Mesh.{Mesh, arc_between, links_of, list_of}
use Rattle.rules.specs.Insert.{arc_at}
use Rattle.rules.proofs.Places.{list_back}
use Rattle.pairs.specs.Pairs.{list_below, pair_arc, arcs_of}

-- ---- a list made place by place

pub below_length : (f : ℕ → ℕ) (n : ℕ) → length (list_below f n) ≡ n
unfolding list_below up_to
below_length f zero = refl
below_length f (suc n) = omega (arith, below_length f n, length-append (list_below f n) (f n ∷ []))

at_last : (l : List ℕ) (x : ℕ) → get_or (l ++ (x ∷ [])) (length l) 0 ≡ x
at_last [] x = refl
at_last (y ∷ ys) x = at_last ys x

below_at : (f : ℕ → ℕ) (n i : ℕ) → i < n → get_or (list_below f n) i 0 ≡ f i
unfolding list_below up_to
below_at f zero i l = absurd (not-suc-le-zero l)
below_at f (suc n) i l = go (below_at f n i) (ℕ_discrete i n)
  where
    go : (i < n → get_or (list_below f n) i 0 ≡ f i) → Dec (i ≡ n) → get_or (list_below f n ++ (f n ∷ [])) i 0 ≡ f i
    go ih (yes e) =
        let k : i ≡ length (list_below f n) = e ∙ sym (below_length f n) in
        ap (λ (j : ℕ). get_or (list_below f n ++ (f n ∷ [])) j 0) k ∙ at_last (list_below f n) (f n) ∙ ap f (sym e)
    go ih (no ne) = get_or-append (list_below f n) (f n ∷ []) 0 i (omega (arith, below_length f n)) ∙ ih (omega arith)

-- ---- the arcs of all pairs

pub arcs-length : (arcs : Table) (per : List ℕ) → length (arcs_of arcs per) ≡ length per
unfolding arcs_of
arcs-length arcs per = below_length (pair_arc arcs per) (length per)

pub arcs-at : (arcs : Table) (per : List ℕ) (i : ℕ) → i < length per → get_or (arcs_of arcs per) i 0 ≡ pair_arc arcs per i
unfolding arcs_of
arcs-at arcs per i l = below_at (pair_arc arcs per) (length per) i l

-- past the end there is none
pub arcs-past : (arcs : Table) (per : List ℕ) (i : ℕ) → length per ≤ i → get_or (arcs_of arcs per) i 0 ≡ 0
arcs-past arcs per i l = get_or-eq_default (arcs_of arcs per) 0 (omega (arith, arcs-length arcs per))

pair-past : (arcs : Table) (per : List ℕ) (i : ℕ) → length per ≤ i → pair_arc arcs per i ≡ 0
unfolding pair_arc arc_between
pair-past arcs per i l = rw (get_or-eq_default per 0 l)

-- so at every place stands the arc of that pair
pub pair-listed : (arcs : Table) (per : List ℕ) (i : ℕ) → get_or (arcs_of arcs per) i 0 ≡ pair_arc arcs per i
pair-listed arcs per i = go (dec_lt i (length per))
  where
    go : Dec (i < length per) → get_or (arcs_of arcs per) i 0 ≡ pair_arc arcs per i
    go (yes q) = arcs-at arcs per i q
    go (no nq) = arcs-past arcs per i (omega arith) ∙ sym (pair-past arcs per i (omega arith))

pub arc-of-pair : (m : Mesh) (per : List ℕ) (i : ℕ) → get_or (arcs_of m.arcs per) i 0 ≡ arc_at m per i
unfolding arc_at pair_arc
arc-of-pair m per i = pair-listed m.arcs per i

-- the list that the code holds
pub arcs-held : (arcs : Table) (per : List ℕ) (xs : Links) → length per ≤ 64 → xs ≡ links_of (arcs_of arcs per) → list_of xs ≡ arcs_of arcs per
arcs-held arcs per xs few e = ap list_of e ∙ list_back (arcs_of arcs per) (omega (arith, arcs-length arcs per))
