-- What a face insert, a poke and a split can't reach: document 02's request L13 (specs/Unreached), of the public calls, which are in the plain
-- mode, for every mesh with its three counters, all rooms and all arguments. That the counters are three is the type of the code's parameter.
use Prim.Native.Nat.{ℕ, ◌<◌, ◌≤◌}
use native.Mathlib.Omega.{arith}
use native.Mathlib.Decide.{ℕ_discrete}
use mathlib.Core.Path.{◌≡◌, ap, sym, subst, ◌∙◌}
use mathlib.Core.List.{List, []}
use lib.ListN.{length, get_or}
use lib.Dec.{T, leb→le}
use Rattle.rules.specs.declared.Position.{Position}
use Rattle.rules.specs.Answer.{Answer}
use Rattle.rules.specs.declared.Edit.TheVariants.{FaceInsert, FacePoke, FaceSplit}
use Rattle.rules.specs.Table.{Table, cell, there, has, after, free_row}
use Rattle.rules.specs.Mesh.{Mesh, Room, ring_limit, next, previous, face, leading, key_at, find_key, find_vertex, find_face, face_kind, next_key}
use Rattle.rules.specs.Insert.{arc_at}
use Rattle.rules.specs.Step.{told, accepted}
use Rattle.rules.specs.Records.{key_name, vertex_record, arc_record}
use Rattle.rules.specs.Call.{Outcome, given, checks, by_keys, arc_by_keys, face_insert, face_poke, face_split}
use Rattle.rules.proofs.Promises.{accepted-zero}
use Rattle.proved.specs.Demand.{made}
use Rattle.proved.specs.Facts.{IsVertex, IsArc, IsFace, KeysDiffer}
use Rattle.proved.proofs.Rows.{T_true, differ, differ-T, in_table}
use Rattle.proved.proofs.Keys.{keys_from, find-key}
use Rattle.proved.proofs.Around.{has-place, place-has}
use Rattle.kept.specs.Frame.{ThreeCounters}
use Rattle.kept.specs.Reaches.{InsertReaches, SameRing}
use Rattle.kept.specs.Counters.{new-face}
use Rattle.kept.specs.Unreached.{KeepsVertex, KeepsFaceAndEdge, KeepsNextAndPrevious, perimeter_arc, PerimeterInRing}
use Rattle.kept.specs.Unreached.{OffPerimeter, OutsidePerimeter, OfAnotherFace, OtherThan, UnreachedByInsert, InsertCannotReach}
use Rattle.kept.specs.Unreached.{UnreachedByPokeOrSplit, PokeOrSplitCannotReach, PokeAndSplitCannotReach}
use Rattle.kept.proofs.Round.{after-low}
use Rattle.kept.proofs.Find.{find-back}
use Rattle.kept.proofs.Passed.{Passed, passed, as_long, found}
use Rattle.kept.proofs.Eight.{Accepted, answer-zero}
use Rattle.kept.proofs.Reaches.{accepted-insert-reaches}
use Rattle.kept.proofs.Poke.{poke-keeps-rings}
use Rattle.kept.proofs.Split.{split-keeps-rings}
use Rattle.kept.proofs.Returned.{key-returned}
use Rattle.kept.proofs.RecordsStay.{KeptByCalls, kept-by-call, name-stays, link_stays, next-name-stays, previous-name-stays}
use Rattle.kept.proofs.RecordsStay.{edge-name-stays, face-kept, ring-kept}

-- what is accepted has the number 0
number-0 : (a : Answer) → T (accepted a) → (told a).number ≡ 0
number-0 a h = accepted-zero a (T_true (accepted a) h)

-- a record is found by its key
by_key_lem : (t : Table) → length t ≤ 16384 → KeysDiffer t → (l : ℕ) → T (there t l) → find_key t (key_at t l) ≡ l
by_key_lem t rows d l u = find-key t rows (keys_from t d) l u

-- ---- face insert

module _ (m : Mesh) (three : ThreeCounters m) (one two : Room) (keys : List ℕ) (mark : ℕ) where
  abbrev o : Outcome
  o = face_insert m one two keys mark

  abbrev r : Mesh
  r = o.mesh

  -- the new face: its key, as answered, and its row
  abbrev new : ℕ
  new = (told o.answer).key

  abbrev row : ℕ
  row = free_row m.faces

  -- the perimeter's vertices
  abbrev per : List ℕ
  per = by_keys m keys

  module _ (done : T (accepted o.answer)) where
    as-made : Accepted m (FaceInsert mark) keys r
    unfolding face_insert
    as-made = answer-zero m (FaceInsert mark) keys one two (number-0 o.answer done)

    kept : KeptByCalls m r
    kept = kept-by-call m three (FaceInsert mark) keys r as-made

    reaches : InsertReaches m r per row mark
    reaches = accepted-insert-reaches m one two keys mark three (number-0 o.answer done)

    -- ---- the perimeter by its keys, in the mesh that is left

    keys-passed : Passed m keys per
    unfolding checks
    keys-passed = passed m keys per as-made.behind.checks-passed

    at-most-64 : length keys ≤ 64
    unfolding given
    at-most-64 = leb→le (length keys) ring_limit as-made.behind.numbers-given

    as_many : length per ≡ length keys
    as_many = as_long m keys at-most-64 keys-passed

    known : (i : ℕ) → i < length keys → IsVertex m (get_or per i 0) × (key_at m.vertices (get_or per i 0) ≡ get_or keys i 0)
    known = found m keys at-most-64 keys-passed

    same-vertex : (i : ℕ) → i < length keys → find_vertex r (get_or keys i 0) ≡ get_or per i 0
    same-vertex i l =
        let v = get_or per i 0 in
        let s = kept.now-sound in
        let vertex = kept.vertices v (known i l).0 in
        ap (find_vertex r) (sym (known i l).1 ∙ sym vertex.same_key)
        ∙ by_key_lem r.vertices (omega (arith, s.sizes.vertex-rows)) s.vertex-keys-differ v vertex.exists

    same-arc : (i : ℕ) → i < length keys → perimeter_arc r keys i ≡ arc_at r per i
    unfolding perimeter_arc arc_by_keys arc_at
    same-arc i l = rw (as_many, same-vertex i l, same-vertex (after (length keys) i) (after-low (length keys) i l))

    same-following : (i : ℕ) → i < length keys → perimeter_arc r keys (after (length keys) i) ≡ arc_at r per (after (length per) i)
    same-following i l = rw as_many (same-arc (after (length keys) i) (after-low (length keys) i l))

    -- ---- the new face by its key

    new-key : new ≡ next_key m face_kind
    unfolding face_insert
    new-key =
        (key-returned m three (made (FaceInsert mark) keys one two) face_kind (new-face mark) (number-0 o.answer done)).was-next

    row-there : IsFace r row
    row-there = differ-T (cell r.faces row 0) 0 (λ e. omega (arith, reaches.has_key))

    row-found : find_face r new ≡ row
    row-found =
        let s = kept.now-sound in
        let e : key_at r.faces row ≡ new = omega (arith, reaches.has_key, new-key) in
        ap (find_face r) (sym e) ∙ by_key_lem r.faces (omega (arith, s.sizes.face-rows)) s.face-keys-differ row row-there

    not-before : find_face m new ≡ 0
    not-before = go (ℕ_discrete (find_face m new) 0)
      where
        go : Dec (find_face m new ≡ 0) → find_face m new ≡ 0
        go (yes e) = e
        go (no n) =
            let w = find-back m.faces new n in
            let z : ⊥ = omega (arith, kept.was-sound.face-keys-below (find_face m new) w.0, w.1, new-key) in
            absurd z

    -- the name of an arc's face, where that is the face it was: it is not the new one, whose row was free
    face-name-stays : (x : ℕ) → IsArc m x → face r x ≡ face m x → key_name r.faces (face r x) ≡ key_name m.faces (face m x)
    unfolding key_name
    face-name-stays x u e = rw e (go (ℕ_discrete (face m x) 0))
      where
        not_new : (face m x ≡ 0 → ⊥) → face m x ≡ row → ⊥
        not_new n q =
            differ (cell m.faces (face m x) 0) 0 (kept.was-sound.face-exists x u n)
            (ap (λ (z : ℕ). cell m.faces z 0) q ∙ reaches.was_free)

        go : Dec (face m x ≡ 0) → key_name r.faces (face m x) ≡ key_name m.faces (face m x)
        go (yes z) = rw z
        go (no n) = rw (reaches.other-faces (face m x) 0 (not_new n))

    -- ---- sentence by sentence

    -- "the perimeter's arcs hold the new face and are linked in a ring;"
    perimeter-in-ring : PerimeterInRing m r keys new
    perimeter-in-ring =
        record {
          new-before = not-before;
          new-exists = rw row-found row-there;
          arc-exists = λ i l. rw (same-arc i l) (reaches.arcs-on i (on i l));
          holds-new = λ i l. ap (face r) (same-arc i l) ∙ reaches.holds_on i (on i l) ∙ sym row-found;
          next-on = λ i l. ap (next r) (same-arc i l) ∙ reaches.next-on i (on i l) ∙ sym (same-following i l);
          previous-on = λ i l. ap (previous r) (same-following i l) ∙ reaches.previous-on i (on i l) ∙ sym (same-arc i l);
        }
      where
        on : (i : ℕ) → i < length keys → i < length per
        on i l = rw as_many l

    -- "every other arc there before keeps its face and its edge;"
    other-arcs-keep : (x : ℕ) → IsArc m x → OffPerimeter r keys x → KeepsFaceAndEdge m r x
    unfolding arc_record
    other-arcs-keep x u off =
        record {
          exists = reaches.arcs-stay x u;
          same_name = name-stays kept x u;
          same-face = face-name-stays x u (reaches.faces-stay x u off-links);
          same-edge = edge-name-stays kept x u;
        }
      where
        off-links : (i : ℕ) → i < length per → x ≡ arc_at r per i → ⊥
        off-links i l e = let p : i < length keys = rw as_many at l in off i p (e ∙ sym (same-arc i p))

    -- "no next or previous changes on an arc of another face;"
    other-faces-keep : (x : ℕ) → IsArc m x → OfAnotherFace m x → KeepsNextAndPrevious m r x
    unfolding arc_record
    other-faces-keep x u held =
        record {
          same_next = next-name-stays kept x u (reaches.next-stays x u held);
          same-previous = previous-name-stays kept x u (reaches.previous-stays x u held);
        }

    -- "vertices outside the perimeter keep their whole record."
    other-vertices-keep : (v : ℕ) → IsVertex m v → OutsidePerimeter m keys v → KeepsVertex m r v
    unfolding vertex_record
    other-vertices-keep v u outside =
        let cells : (c : ℕ) → cell r.vertices v c ≡ cell m.vertices v c = λ c. reaches.vertices-stay v c off in
        let arc = link_stays kept (leading m v) (λ n. (kept.was-sound.leads-out v u n).0) in
        record { exists = (kept.vertices v u).exists; whole = rw (cells 0, cells 1, reaches.positions-stay, arc) }
      where
        off : T (has per v) → ⊥
        off h =
            let p = has-place per v h in
            let l : p.0 < length keys = rw as_many at p.1 in
            let e = sym (known p.0 l).1 ∙ ap (key_at m.vertices) p.2 in
            outside (subst (λ (z : ℕ). T (has keys z)) e (place-has keys p.0 l))

    insert-unreached : UnreachedByInsert m r keys new
    insert-unreached =
        record {
          perimeter-arcs = perimeter-in-ring;
          other-arcs = other-arcs-keep;
          other-faces = other-faces-keep;
          other-vertices = other-vertices-keep;
        }

-- of the public call
pub insert-cannot-reach : (m : Mesh) → ThreeCounters m → (one two : Room) (keys : List ℕ) (mark : ℕ)
    → InsertCannotReach m keys (face_insert m one two keys mark)
insert-cannot-reach = insert-unreached

-- ---- poke and split

-- a face with another key than the one named stands in another row
other_row : (m : Mesh) (named g : ℕ) → IsFace m g → OtherThan m named g → g ≡ find_face m named → ⊥
other_row m named g u other e =
    let found = find-back m.faces named (λ z. let w = in_table m.faces g u in omega arith) in
    other (ap (key_at m.faces) e ∙ found.1)

-- of a call that leaves every face but the one named with the same ring
named-alone : {m r : Mesh} (named : ℕ) → KeptByCalls m r
    → ((g : ℕ) → IsFace m g → (g ≡ find_face m named → ⊥) → SameRing m r g) → UnreachedByPokeOrSplit m r named
named-alone {m} named k same =
    record {
      -- "faces other than the one named keep their record"
      other-records = λ g u other. face-kept k g u (same g u (other_row m named g u other));
      -- "and the same ring, arc for arc."
      other-rings = λ g u other. ring-kept k g u (same g u (other_row m named g u other));
    }

module _ (m : Mesh) (three : ThreeCounters m) (one two : Room) where
  poke-cannot-reach : (named : ℕ) (p : Position) → PokeOrSplitCannotReach m named (face_poke m one two named p)
  unfolding face_poke
  poke-cannot-reach named p done =
      let zero = number-0 (face_poke m one two named p).answer done in
      let as-made = answer-zero m (FacePoke named p) [] one two zero in
      named-alone named (kept-by-call m three (FacePoke named p) [] _ as-made) (poke-keeps-rings m one two named p three zero)

  split-cannot-reach : (named s d : ℕ) → PokeOrSplitCannotReach m named (face_split m one two named s d)
  unfolding face_split
  split-cannot-reach named s d done =
      let zero = number-0 (face_split m one two named s d).answer done in
      let as-made = answer-zero m (FaceSplit named s d) [] one two zero in
      named-alone named (kept-by-call m three (FaceSplit named s d) [] _ as-made) (split-keeps-rings m one two named s d three zero)

-- of both public calls
pub poke-and-split-cannot-reach : (m : Mesh) → ThreeCounters m → (one two : Room) → PokeAndSplitCannotReach m one two
poke-and-split-cannot-reach m three one two =
    record { poke = poke-cannot-reach m three one two; split = split-cannot-reach m three one two }
