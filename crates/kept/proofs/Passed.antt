-- What the checks of a face insert let pass: three keys or more, all known and distinct, so their vertices are a perimeter; and no arc of it
-- that is there has a face.
use Prim.Native.Nat.{ℕ, zero, suc, ◌≤◌, ◌<◌}
use native.Mathlib.Omega.{arith}
use native.Mathlib.Nat.{not-suc-le-zero}
use native.Mathlib.Decide.{ℕ_discrete}
use mathlib.Core.Path.{◌≡◌, refl, ap, sym, subst, ◌∙◌}
use mathlib.Core.Bool.{Bool, true, false, not, ◌&&◌, ◌||◌, cond}
use mathlib.Core.List.{List, [], ◌∷◌, map}
use lib.ListN.{length, get_or, length-map}
use lib.Dec.{T, eqb, ltb, T_not}
use borrow.Author.Tests.{ltb-false, ne_eqb}
use Rattle.rules.specs.Answer.{Done, Refused}
use Rattle.rules.specs.declared.Refusal.TheVariants.{TopologyMalformed, TopologyNotFound, TopologyConflict, SamePlace}
use Rattle.rules.specs.Table.{has, distinct, some_below}
use Rattle.rules.specs.Mesh.{Mesh, face, key_at, find_vertex}
use Rattle.rules.specs.Insert.{arc_at, malformed, in_one_spot, has_hair, has_face, leads_back, conflict, insert_checks}
use Rattle.rules.specs.Step.{accepted}
use Rattle.rules.specs.Call.{by_keys}
use Rattle.proved.specs.Facts.{IsVertex}
use Rattle.proved.proofs.Around.{place-has, one_place}
use Rattle.kept.specs.Perimeter.{Perimeter, Fresh}
use Rattle.kept.specs.Reaches.{NoArcAt}
use Rattle.kept.proofs.Find.{find-back}
use Rattle.kept.proofs.Lists.{map_at}

-- the keys, and the perimeter that they name
pub record Passed (m : Mesh) (keys per : List ℕ) : Type 0 where
  pub at-least-3 : 3 ≤ length keys
  pub keys-differ : T (distinct keys)
  pub all_known : T (not (has per 0))
  pub no-hair : T (not (has_hair m per))
  pub no-conflict : T (not (conflict m per))

pub passed : (m : Mesh) (keys per : List ℕ) → T (accepted (insert_checks m keys per)) → Passed m keys per
unfolding insert_checks malformed accepted
passed m keys per h = go (ltb (length keys) 3) refl (distinct keys) refl (has per 0) refl (has_hair m per) refl (conflict m per) refl h
  where
    go : (a : Bool) → ltb (length keys) 3 ≡ a → (b : Bool) → distinct keys ≡ b → (c : Bool) → has per 0 ≡ c → (t : Bool) → has_hair m per ≡ t → (d : Bool) → conflict m per ≡ d → T (accepted (cond (a || not b) (Refused TopologyMalformed) (cond c (Refused TopologyNotFound) (cond t (Refused SamePlace) (cond d (Refused TopologyConflict) Done))))) → Passed m keys per
    go true e b f c g t j d i q = absurd q
    go false e true f true g t j d i q = absurd q
    go false e true f false g true j d i q = absurd q
    go false e true f false g false j true i q = absurd q
    go false e true f false g false j false i q =
        record { at-least-3 = ltb-false (length keys) 3 e; keys-differ = rw f tt; all_known = rw g tt; no-hair = rw j tt; no-conflict = rw i tt }
    go false e false f c g t j d i q = absurd q

-- whether two neighbours are in one spot is told by positions alone
pub hair-same : (m n : Mesh) (per : List ℕ) → n.positions ≡ m.positions → has_hair n per ≡ has_hair m per
unfolding has_hair in_one_spot
hair-same m n per e = rw e

-- ---- an arc of the perimeter that is there has no face

pub none_of : (p : ℕ → Bool) (n : ℕ) → T (not (some_below p n)) → (i : ℕ) → i < n → T (not (p i))
unfolding some_below
none_of p zero h i l = absurd (not-suc-le-zero l)
none_of p (suc n) h i l = go (some_below p n) (p n) refl h (none_of p n) (ℕ_discrete i n)
  where
    go : (a b : Bool) → p n ≡ b → T (not (a || b)) → (T (not a) → (i : ℕ) → i < n → T (not (p i))) → Dec (i ≡ n) → T (not (p i))
    go true b e q ih d = absurd q
    go false true e q ih d = absurd q
    go false false e q ih (yes d) = rw (d, e) tt
    go false false e q ih (no d) = ih tt i (omega arith)

pub pair-faceless : (m : Mesh) (per : List ℕ) → T (not (conflict m per)) → (i : ℕ) → i < length per → (arc_at m per i ≡ 0 → ⊥) → face m (arc_at m per i) ≡ 0
unfolding conflict has_face
pair-faceless m per h i l n =
    go (ℕ_discrete (face m (arc_at m per i)) 0) (none_of (λ k. has_face m per k || leads_back m per k) (length per) h i l)
  where
    go : Dec (face m (arc_at m per i) ≡ 0) → T (not ((not (eqb (arc_at m per i) 0) && not (eqb (face m (arc_at m per i)) 0)) || leads_back m per i)) → face m (arc_at m per i) ≡ 0
    go (yes e) q = e
    go (no f) q = absurd (rw (ne_eqb (arc_at m per i) 0 n, ne_eqb (face m (arc_at m per i)) 0 f) at q)

-- ---- the keys' vertices

map-none : (l : List ℕ) → map (λ (x : ℕ). x) l ≡ l
map-none [] = refl
map-none (x ∷ xs) = ap {B = List ℕ} (λ r. x ∷ r) (map-none xs)

-- a list with no element twice has each at one place
pub places-apart : (l : List ℕ) → T (distinct l) → (i j : ℕ) → i < length l → j < length l → get_or l i 0 ≡ get_or l j 0 → i ≡ j
places-apart l d = one_place (λ x. x) l (rw (map-none l) d)

module _ (m : Mesh) (keys : List ℕ) (limit : length keys ≤ 64) (q : Passed m keys (by_keys m keys)) where
  abbrev per : List ℕ
  per = by_keys m keys

  pub as_long : length per ≡ length keys
  unfolding by_keys
  as_long = length-map keys (find_vertex m)

  named : (i : ℕ) → i < length keys → get_or per i 0 ≡ find_vertex m (get_or keys i 0)
  unfolding by_keys
  named i l = map_at (find_vertex m) keys i 0 0 l

  pub found : (i : ℕ) → i < length keys → IsVertex m (get_or per i 0) × (key_at m.vertices (get_or per i 0) ≡ get_or keys i 0)
  found i l = rw (named i l) (find-back m.vertices (get_or keys i 0) some)
    where
      some : find_vertex m (get_or keys i 0) ≡ 0 → ⊥
      some e = T_not (has per 0) q.all_known (subst (λ (z : ℕ). T (has per z)) (named i l ∙ e) (place-has per i (rw as_long l)))

  -- they are the vertices of a perimeter
  pub keys-perimeter : Perimeter m (by_keys m keys)
  keys-perimeter =
      record {
        at-least-3 = rw as_long q.at-least-3;
        at-most-64 = rw as_long limit;
        vertices = λ i l. (found i (rw as_long at l)).0;
        differ = λ i k a b e. let c : i < length keys = rw as_long at a in let d : k < length keys = rw as_long at b in places-apart keys q.keys-differ i k c d (sym (found i c).1 ∙ ap (key_at m.vertices) e ∙ (found k d).1);
      }

  pub keys-fresh : NoArcAt m keys → Fresh m (by_keys m keys)
  keys-fresh n x i u l e = let c : i < length keys = rw as_long at l in n.none-leaves x (get_or keys i 0) u (place-has keys i c) (e ∙ named i c)
