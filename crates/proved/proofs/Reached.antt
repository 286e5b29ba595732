-- Every mesh that calls reach from an empty one is sound: an empty mesh is, an accepted call tested its result, a refused one keeps the mesh.
-- So a call on such a mesh answers 1 for its rooms alone.
use Prim.Native.Nat.{ℕ, zero, suc, ◌+◌, ◌-◌, ◌*◌, ◌≤◌, ◌<◌}
use native.Mathlib.Omega.{arith}
use native.Mathlib.Decide.{dec_lt}
use mathlib.Core.Path.{◌≡◌, refl, ap, sym, subst, ◌∙◌}
use mathlib.Core.Bool.{Bool, true, false, not, ◌&&◌, cond}
use mathlib.Core.List.{List, [], ◌∷◌}
use lib.ListN.{length, get_or, replicate, length-replicate, get_or-replicate}
use lib.Dec.{T}
use lib.Ieee.{Float, nan, binary64, span, climb, size, odd, units, round, of_fields, of_bits, to_bits}
use Rattle.rules.specs.declared.Edit.{Edit}
use Rattle.rules.specs.declared.Call.{Call}
use Rattle.rules.specs.Answer.{Refused}
use Rattle.rules.specs.declared.Refusal.TheVariants.{Tables, WouldBreak}
use Rattle.rules.specs.Table.{cell, every, there}
use Rattle.rules.specs.Mesh.{Mesh, Room, vertex_limit, edge_limit, face_limit}
use Rattle.rules.specs.Point.{exponent_field, zero_float, finite_row, finite_position, finite_number, zero_position_row, zero_number}
use Rattle.rules.specs.Sound.{sound, zero_row}
use Rattle.rules.specs.Step.{Step, stops, accepted, told}
use Rattle.rules.specs.Call.{outcome, ready, room_enough, zeroed, given, checks, moves_finite, room_for, need, work, last_step, worked, decided, kept, called, call}
use Rattle.rules.specs.Script.{empty_room, empty_mesh}
use Rattle.rules.proofs.Promises.{one-exactly}
use Rattle.proved.specs.Facts.{SoundFacts}
use Rattle.proved.specs.Demand.{Made, after_call, after_calls, reached}
use Rattle.proved.proofs.Rows.{T_true, differ, cell-none, cell_row, cell-past}
use Rattle.proved.proofs.Clauses.{zero-cells, zero_row_lem, finite-row, sound-from}

-- ---- a table of zero rows

module _ (n : ℕ) (r : List ℕ) (z : T (zero_row r)) where
  pub cells-zero : (l c : ℕ) → cell (replicate n r) l c ≡ 0
  cells-zero zero c = cell-none (replicate n r) c
  cells-zero (suc k) c = go (dec_lt k n)
    where
      e : suc k ≡ k + 1
      e = omega arith

      go : Dec (k < n) → cell (replicate n r) (suc k) c ≡ 0
      go (yes l) = ap (λ (x : ℕ). cell (replicate n r) x c) e ∙ cell_row (replicate n r) k c ∙ ap (λ (x : List ℕ). get_or x c 0) (get_or-replicate n k r [] l) ∙ (zero-cells r).0 z c
      go (no l) = cell-past (replicate n r) (suc k) c (omega (arith, length-replicate n r))

  -- no row of it is in use
  pub none-there : (l : ℕ) → T (there (replicate n r) l) → ⊥
  none-there l h = differ (cell (replicate n r) l 0) 0 h (cells-zero l 0)

-- ---- an empty mesh

abbrev origin : List Float
origin = zero_float ∷ zero_float ∷ zero_float ∷ []

origin-zero : T (zero_position_row origin)
unfolding zero_position_row zero_number to_bits of_bits of_fields span climb size odd units round
origin-zero = tt

origin-finite : T (finite_row origin)
unfolding finite_row finite_position finite_number exponent_field to_bits of_bits of_fields span climb size odd units round
origin-finite = tt

-- a coordinate of one of n origins
at-origin : (n v c : ℕ) → 1 ≤ v → v ≤ length (replicate n origin) → get_or (get_or (replicate n origin) (v - 1) []) c nan ≡ get_or origin c nan
at-origin n v c a b = ap (λ (r : List Float). get_or r c nan) (get_or-replicate n (v - 1) origin [] (omega (arith, length-replicate n origin)))

module _ (v e f : ℕ) (vs : v ≤ vertex_limit) (es : e ≤ edge_limit) (fs : f ≤ face_limit) where
  empty-facts : SoundFacts (empty_mesh v e f)
  unfolding empty_mesh empty_room every
  empty-facts =
      let no-vertex = none-there v (0 ∷ 0 ∷ []) tt in
      let no-arc = none-there (2 * e) (0 ∷ 0 ∷ 0 ∷ 0 ∷ 0 ∷ 0 ∷ []) tt in
      let no_edge = none-there e (0 ∷ 0 ∷ 0 ∷ []) tt in
      let no-face = none-there f (0 ∷ 0 ∷ 0 ∷ []) tt in
      record {
        sizes = record { vertex-rows = rw length-replicate vs; position-rows = simp length-replicate; edge-rows = rw length-replicate es; arc-rows = simp length-replicate; face-rows = rw length-replicate fs };
        vertex-keys-differ = λ l k u w q. absurd (no-vertex l u);
        edge-keys-differ = λ l k u w q. absurd (no_edge l u);
        face-keys-differ = λ l k u w q. absurd (no-face l u);
        vertex-keys-below = λ l u. absurd (no-vertex l u);
        edge-keys-below = λ l u. absurd (no_edge l u);
        face-keys-below = λ l u. absurd (no-face l u);
        both-arcs = λ x u. absurd (no_edge x u);
        ends-differ = λ x u. absurd (no-arc x u);
        ends-exist = λ x u. absurd (no-arc x u);
        pairs-differ = λ x y u w p q. absurd (no-arc x u);
        edge-exists = λ x u. absurd (no-arc x u);
        edge-names = λ x u. absurd (no-arc x u);
        leads-out = λ x u. absurd (no-vertex x u);
        next-leaves = λ x u. absurd (no-arc x u);
        previous-arrives = λ x u. absurd (no-arc x u);
        face-exists = λ x u. absurd (no-arc x u);
        rings = λ x u. absurd (no-face x u);
        vertices-zero = λ l c n. cells-zero v (0 ∷ 0 ∷ []) tt l c;
        arcs-zero = λ l c n. cells-zero (2 * e) (0 ∷ 0 ∷ 0 ∷ 0 ∷ 0 ∷ 0 ∷ []) tt l c;
        edges-zero = λ l c n. cells-zero e (0 ∷ 0 ∷ 0 ∷ []) tt l c;
        faces-zero = λ l c n. cells-zero f (0 ∷ 0 ∷ 0 ∷ []) tt l c;
        positions-zero = λ l c a b n q. ap (to_bits binary64) (at-origin v l c a b) ∙ (zero_row_lem origin).0 origin-zero c q;
        all-finite = λ l c a b q k. (finite-row origin).0 origin-finite c q (ap (λ (x : Float). exponent_field (to_bits binary64 x)) (sym (at-origin v l c a b)) ∙ k);
      }

  pub empty-sound : T (sound (empty_mesh v e f))
  empty-sound = sound-from (empty_mesh v e f) empty-facts

-- ---- a call

-- an accepted step has sound tables
abbrev Tested : Step → Type 0
Tested s = T (accepted s.answer) → T (sound s.tables)

tested-either : (b : Bool) (x y : Step) → Tested x → Tested y → Tested (cond b x y)
tested-either true x y p q = p
tested-either false x y p q = q

stopped : (m : Mesh) → Tested (stops m WouldBreak)
unfolding accepted
stopped m h = absurd h

worked-tested : (s : Step) → Tested (worked s)
unfolding worked last_step
worked-tested s = go (accepted s.answer) refl (sound s.tables) refl
  where
    go : (a : Bool) → accepted s.answer ≡ a → (b : Bool) → sound s.tables ≡ b → Tested (cond a (cond b s (stops s.tables WouldBreak)) s)
    go true p true q h = subst T (sym q) tt
    go true p false q h = stopped s.tables h
    go false p b q h = absurd (subst T p h)

decided-tested : (m : Mesh) → T (sound m) → (e : Edit) (keys : List ℕ) → Tested (decided m e keys)
unfolding decided
decided-tested m t e keys =
    tested-either (not (given e keys)) _ _ (λ h. t)
    (tested-either (not (accepted (checks m e keys))) _ _ (λ h. t)
    (tested-either (not (moves_finite m e)) _ _ (λ h. t) (tested-either (not (room_for m (need m e keys))) _ _ (λ h. t) (worked-tested (work m e keys)))))

kept-sound : (m : Mesh) → T (sound m) → (s : Step) → Tested s → T (sound (kept m s))
unfolding kept
kept-sound m t s h = go (accepted s.answer) refl
  where
    go : (b : Bool) → accepted s.answer ≡ b → T (sound (cond b s.tables m))
    go true e = h (subst T (sym e) tt)
    go false e = t

-- a call on a sound mesh leaves a sound mesh, whatever it answers
pub called-sound : (m : Mesh) → T (sound m) → (one two : Room) (c : Call) (keys : List ℕ) → T (sound (called m one two c keys).mesh)
unfolding called
called-sound m t one two c keys = go (ready m one two)
  where
    s : Step
    s = decided m c.edit keys

    go : (b : Bool) → T (sound (cond b (outcome s.answer (kept m s) (zeroed one) (zeroed two)) (outcome (Refused Tables) m one two)).mesh)
    go true = kept-sound m t s (decided-tested m t c.edit keys)
    go false = t

-- ---- any calls

pub calls-sound : (m : Mesh) → T (sound m) → (cs : List Made) → T (sound (after_calls m cs))
unfolding after_calls after_call
calls-sound m t [] = t
calls-sound m t (c ∷ cs) = calls-sound (after_call m c) (called-sound m t c.one c.two (call c.edit) c.keys) cs

-- from an empty mesh of any size within the limits, after any calls
pub reached-sound : (v e f : ℕ) → v ≤ vertex_limit → e ≤ edge_limit → f ≤ face_limit → (calls : List Made) → T (sound (reached v e f calls))
unfolding reached
reached-sound v e f vs es fs calls = calls-sound (empty_mesh v e f) (empty-sound v e f vs es fs) calls

-- on a sound mesh 1 is answered only where one of the two rooms is too small
pub one-for-rooms : (m : Mesh) → T (sound m) → (one two : Room) (c : Call) (keys : List ℕ) → (told (called m one two c keys).answer).number ≡ 1 → (room_enough m one && room_enough m two) ≡ false
unfolding ready
one-for-rooms m t one two c keys h = rw (T_true (sound m) t) at ((one-exactly m one two c keys).0 h)
