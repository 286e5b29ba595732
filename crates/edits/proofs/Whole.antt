-- Each edit as a whole, from what its steps leave and answer.
use Prim.Native.Nat.{ℕ, ◌+◌, ◌≤◌, ◌<◌}
use native.Mathlib.Omega.{arith}
use mathlib.Core.Path.{◌≡◌, refl, ap, sym, ◌∙◌}
use mathlib.Core.Bool.{true, false}
use mathlib.Core.List.{List, [], ◌∷◌, ◌++◌, reverse}
use native.Mathlib.Numerals.{add-one}
use lib.ListN.{length, get_or, set, take}
use lib.Seq.{take-suc-set}
use Rattle.rules.specs.Answer.{Answer}
use Rattle.rules.specs.Answer.{Key, Arc, Done, Refused}
use Rattle.rules.specs.declared.Refusal.{Refusal}
use Rattle.rules.specs.declared.Links.{Links}
use Rattle.rules.specs.declared.Position.{Position}
use Rattle.rules.specs.declared.Move.{Move}
use Rattle.rules.specs.Table.{free_row, up_to, after}
use Rattle.rules.specs.Mesh.{Mesh, source, dest, mark, vertex_kind, face_kind, next_key, key_at, links_of, list_of}
use Rattle.rules.specs.Link.{ring, ring_vertices, put_vertex, new_vertex}
use Rattle.rules.specs.Step.{Step, step, accepted, and_then, answering}
use Rattle.rules.specs.Insert.{insert_checks}
use Rattle.rules.specs.Edit.{remove, half, corners}
use Rattle.rules.specs.Extrude.{moved_position, Copies, copy_one, copies, wall}
use Rattle.pairs.specs.Pairs.{arcs_of}
use Rattle.makers.specs.Search.{Sought, arcs_on, sought_for}
use Rattle.makers.specs.Makers.{searching, put_face_by, insert_work_by, insert_face_by, split_work_by, poke_work_by, arc_bridge_work_by, arc_bridge_by, bridge_work_by, copy_one_by, copies_by, extrude_work_by, arc_extrude_work_by}
use Rattle.rules.proofs.Scan.{up_to-more}
use Rattle.checks.proofs.Bounds.{ring-back, vertices-back}
use Rattle.checks.proofs.Pairs.{corners-back}
use Rattle.checks.proofs.Stretches.{half_back}
use Rattle.insert.specs.Sought.{put_sought}
use Rattle.insert.proofs.Loops.{by-sought, arcs-on, insert-sought}
use Rattle.edits.specs.Each.{each_in, joined_by, left_in, both_in}
use Rattle.edits.proofs.Steps.{answering-twice, each-told, each-as, each_from, each-refused}
use Rattle.edits.proofs.Inserts.{checked_refused, checked-done}

-- ---- poke

pub poke-steps : (m m₁ m₂ : Mesh) (f : ℕ) (pos : Position) (vs : Links) (mk c : ℕ) (mₑ : Mesh) (told r : Answer)
    → vs ≡ links_of (ring_vertices m f) → mk ≡ mark m f → m₁ ≡ remove m f → c ≡ free_row m₁.vertices → m₂ ≡ new_vertex m₁ pos
    → step mₑ told ≡ each_in (λ i a. insert_face_by searching a (get_or (list_of vs) i 0 ∷ get_or (list_of vs) (after (length (list_of vs)) i) 0 ∷ c ∷ []) mk) (length (list_of vs)) m₂
    → step mₑ r ≡ answering (Key (next_key m vertex_kind)) (step mₑ told)
    → step mₑ r ≡ poke_work_by searching m f pos
unfolding poke_work_by
poke-steps m m₁ m₂ f pos vs mk c mₑ told r evs emk gone free made parts whole =
    let held : list_of vs ≡ ring_vertices m f = ap list_of evs ∙ vertices-back m f in
    let all : step mₑ r ≡ answering (Key (next_key m vertex_kind)) (up_to (λ i s. and_then s (λ a. insert_face_by searching a (get_or (list_of vs) i 0 ∷ get_or (list_of vs) (after (length (list_of vs)) i) 0 ∷ c ∷ []) mk)) (length (list_of vs)) (step m₂ Done)) =
    whole ∙ ap (answering (Key (next_key m vertex_kind))) parts ∙ each-as (λ i a. insert_face_by searching a (get_or (list_of vs) i 0 ∷ get_or (list_of vs) (after (length (list_of vs)) i) 0 ∷ c ∷ []) mk) (Key (next_key m vertex_kind)) (length (list_of vs)) m₂ in
    rw (← gone, ← made, ← free, ← emk, ← held) all

-- ---- arc bridge

pub corners-bridged : (m m' : Mesh) (x y : ℕ) (per : Links) (key : ℕ) → list_of per ≡ corners m x y → key ≡ next_key m face_kind → m' ≡ put_face_by searching m (arcs_on m (list_of per)) m (list_of per) 0 → step m' (Key key) ≡ arc_bridge_work_by searching m x y
unfolding arc_bridge_work_by insert_work_by
corners-bridged m m' x y per key held ek em =
    let put : m' ≡ put_face_by searching m (arcs_on m (corners m x y)) m (corners m x y) 0 = em ∙ ap (λ (l : List ℕ). put_face_by searching m (arcs_on m l) m l 0) held in
    λ i. step (put i) (Key (ek i))

pub arc_bridged : (m m' : Mesh) (x y : ℕ) (four : List ℕ) (per : Links) (key : ℕ) → per ≡ links_of four → four ≡ corners m x y → key ≡ next_key m face_kind → m' ≡ put_face_by searching m (arcs_on m (list_of per)) m (list_of per) 0 → step m' (Key key) ≡ arc_bridge_work_by searching m x y
arc_bridged m m' x y four per key el ec ek em =
    corners-bridged m m' x y per key (corners-back m x y per (el ∙ ap links_of ec)) ek em

-- ---- bridge

pub bridge-steps : (m m₁ m₂ : Mesh) (f g : ℕ) (forth back : Links) (mₑ : Mesh) (told r : Answer)
    → forth ≡ links_of (ring m f) → back ≡ links_of (ring m g) → m₁ ≡ remove m f → m₂ ≡ remove m₁ g
    → step mₑ told ≡ each_in (λ i a. arc_bridge_by searching a (get_or (list_of forth) i 0) (get_or (reverse (list_of back)) i 0)) (length (list_of forth)) m₂
    → step mₑ r ≡ answering (Key 0) (step mₑ told)
    → step mₑ r ≡ bridge_work_by searching m f g
unfolding bridge_work_by
bridge-steps m m₁ m₂ f g forth back mₑ told r ef eb gone gone₂ pairs whole =
    let there : list_of forth ≡ ring m f = ap list_of ef ∙ ring-back m f in
    let again : list_of back ≡ ring m g = ap list_of eb ∙ ring-back m g in
    let all : step mₑ r ≡ answering (Key 0) (up_to (λ i s. and_then s (λ a. arc_bridge_by searching a (get_or (list_of forth) i 0) (get_or (reverse (list_of back)) i 0))) (length (list_of forth)) (step m₂ Done)) =
    whole ∙ ap (answering (Key 0)) pairs ∙ each-as (λ i a. arc_bridge_by searching a (get_or (list_of forth) i 0) (get_or (reverse (list_of back)) i 0)) (Key 0) (length (list_of forth)) m₂ in
    rw (← gone, ← gone₂, ← there, ← again) all

-- ---- split

-- both halves, by what was found while neither was in
pub both-in : (m n o : Mesh) (left right first second none : List ℕ) (ours theirs : Sought)
    → first ≡ arcs_of m.arcs left → second ≡ arcs_of m.arcs right → none ≡ [] → ours ≡ sought_for m (first ++ none) left → theirs ≡ sought_for m (second ++ first) right
    → n ≡ put_sought ours m left 0 → o ≡ put_sought theirs n right 0 → o ≡ both_in m left right
both-in m n o left right first second none ours theirs e₁ e₂ e₀ es et en eo =
    let soon : second ++ first ≡ arcs_on m right ++ arcs_on m left = λ i. (e₂ ∙ arcs-on m right) i ++ (e₁ ∙ arcs-on m left) i in
    let put : n ≡ left_in m left = en ∙ insert-sought m left 0 first none ours e₁ e₀ es in
    eo ∙ (λ i. put_sought ((et ∙ ap (λ (l : List ℕ). sought_for m l right) soon) i) (put i) right 0) ∙ sym (by-sought m (arcs_on m right ++ arcs_on m left) (left_in m left) right 0)

module _ (m n : Mesh) (f s d : ℕ) (left right : Links) (el : left ≡ links_of (half m f s d)) (er : right ≡ links_of (half m f d s)) (gone : n ≡ remove m f) where
  pub split-first : (r : Refusal) → Refused r ≡ insert_checks n (list_of left) (list_of left) → step n (Refused r) ≡ split_work_by searching m f s d
  unfolding split_work_by
  split-first r first =
      rw (← half_back m f s d left el, ← half_back m f d s right er, ← gone)
      (checked_refused n _ r (insert_checks n (list_of left) (list_of left)) first)

  module _ (first : Done ≡ insert_checks n (list_of left) (list_of left)) where
    pub split-second : (r : Refusal) → Refused r ≡ insert_checks n (list_of right) (list_of right) → step n (Refused r) ≡ split_work_by searching m f s d
    unfolding split_work_by
    split-second r second =
        rw (← half_back m f s d left el, ← half_back m f d s right er, ← gone)
        (checked-done n _ (insert_checks n (list_of left) (list_of left)) (step n (Refused r)) first
        (checked_refused n _ r (insert_checks n (list_of right) (list_of right)) second))

    pub split_done : Done ≡ insert_checks n (list_of right) (list_of right) → (m' : Mesh) (from to : ℕ) → from ≡ key_at m.vertices s → to ≡ key_at m.vertices d
        → m' ≡ both_in n (list_of left) (list_of right) → step m' (Arc from to) ≡ split_work_by searching m f s d
    unfolding split_work_by
    split_done second m' from to ef et put =
        rw (← half_back m f s d left el, ← half_back m f d s right er, ← gone)
        (checked-done n _ (insert_checks n (list_of left) (list_of left)) (step m' (Arc from to)) first
        (checked-done n _ (insert_checks n (list_of right) (list_of right)) (step m' (Arc from to)) second
        (λ i. step (put i) (Arc (ef i) (et i)))))

-- ---- extrude

abbrev pub copy_at : Move → List ℕ → ℕ → Copies → Copies
copy_at move vs i c = copy_one move (get_or vs i 0) c

one-copy : (move : Move) (v : ℕ) (m : Mesh) (l : List ℕ) → copy_one move v (record { tables = m; links = l }) ≡ record { tables = new_vertex m (moved_position m move v); links = l ++ (free_row m.vertices ∷ []) }
unfolding copy_one
one-copy move v m l = refl

pub copies-more : (move : Move) (vs : List ℕ) (c₀ : Copies) (m m' : Mesh) (at : List ℕ) (i v x : ℕ)
    → i < length at → record { tables = m; links = take i at } ≡ up_to (copy_at move vs) i c₀ → v ≡ get_or vs i 0 → x ≡ free_row m.vertices → m' ≡ new_vertex m (moved_position m move v)
    → record { tables = m'; links = take (i + 1) (set at i x) } ≡ up_to (copy_at move vs) (i + 1) c₀
copies-more move vs c₀ m m' at i v x l h ev ex em =
    let put : take (i + 1) (set at i x) ≡ take i at ++ (free_row m.vertices ∷ []) = rw (add-one i) (take-suc-set at i x l ∙ ap (λ (y : ℕ). take i at ++ (y ∷ [])) ex) in
    let made : m' ≡ new_vertex m (moved_position m move (get_or vs i 0)) = em ∙ ap (λ (w : ℕ). new_vertex m (moved_position m move w)) ev in
    let now : ◌≡◌ {A = Copies} (record { tables = m'; links = take (i + 1) (set at i x) }) (record { tables = new_vertex m (moved_position m move (get_or vs i 0)); links = take i at ++ (free_row m.vertices ∷ []) }) = λ j. record { tables = made j; links = put j } in
    now ∙ sym (one-copy move (get_or vs i 0) m (take i at)) ∙ ap (copy_one move (get_or vs i 0)) h ∙ sym (up_to-more (copy_at move vs) i c₀)

pub copies-all : (move : Move) (vs : List ℕ) (m₀ m : Mesh) (at : List ℕ) (i n : ℕ) → i ≡ n → n ≡ length vs → record { tables = m; links = take i at } ≡ up_to (copy_at move vs) i (record { tables = m₀; links = [] })
    → record { tables = m; links = list_of (record { at = at; len = n }) } ≡ copies m₀ move vs
unfolding copies list_of
copies-all move vs m₀ m at i n ei en h = rw (← en, ← ei) h

pub wall-few : (vs ds : List ℕ) (i : ℕ) → length (wall vs ds i) ≤ 64
unfolding wall
wall-few vs ds i = omega arith

-- the walls on a mesh after its top face
abbrev pub walls_on : List ℕ → List ℕ → Step → Step
walls_on vs ds top = up_to (λ i s. and_then s (λ a. insert_face_by searching a (wall vs ds i) 0)) (length vs) top

module _ (m : Mesh) (vs ds : List ℕ) (m₁ : Mesh) (r₁ : Answer) (top : step m₁ r₁ ≡ insert_face_by searching m ds 0) where
  pub top-refused : accepted r₁ ≡ false → step m₁ r₁ ≡ answering Done (walls_on vs ds (insert_face_by searching m ds 0))
  top-refused nay = rw (← top) (each-refused (λ i a. insert_face_by searching a (wall vs ds i) 0) Done (length vs) m₁ r₁ nay)

  pub top-goes : accepted r₁ ≡ true → (s : Step) → s ≡ each_in (λ i a. insert_face_by searching a (wall vs ds i) 0) (length vs) m₁ → s ≡ answering Done (walls_on vs ds (insert_face_by searching m ds 0))
  top-goes ok s walls =
      rw (← top) (walls ∙ sym (each-told (λ i a. insert_face_by searching a (wall vs ds i) 0) (length vs) m₁) ∙ sym (each_from (λ i a. insert_face_by searching a (wall vs ds i) 0) Done (length vs) m₁ r₁ ok))

pub extrude-steps : (m m₁ m₂ : Mesh) (f : ℕ) (move : Move) (vs ds : Links) (mₑ : Mesh) (told r : Answer)
    → vs ≡ links_of (ring_vertices m f) → m₁ ≡ remove m f
    → record { tables = m₂; links = list_of ds } ≡ copies m₁ move (list_of vs)
    → step mₑ told ≡ answering Done (walls_on (list_of vs) (list_of ds) (insert_face_by searching m₂ (list_of ds) 0))
    → step mₑ r ≡ answering (Key (next_key m face_kind)) (step mₑ told)
    → step mₑ r ≡ extrude_work_by searching m f move
unfolding extrude_work_by copies_by copy_one_by copies copy_one
extrude-steps m m₁ m₂ f move vs ds mₑ told r evs gone made walls whole =
    let held : list_of vs ≡ ring_vertices m f = ap list_of evs ∙ vertices-back m f in
    let all : Step = walls_on (list_of vs) (list_of ds) (insert_face_by searching m₂ (list_of ds) 0) in
    rw (← gone, ← held, ← made) (whole ∙ ap (answering (Key (next_key m face_kind))) walls ∙ answering-twice (Key (next_key m face_kind)) all)

-- ---- arc extrude

-- a vertex keeps the arcs
same-source : (m n : Mesh) (pos : Position) (x : ℕ) → n ≡ new_vertex m pos → source m x ≡ source n x
unfolding new_vertex put_vertex
same-source m n pos x e = ap (λ (o : Mesh). source o x) (sym e)

pub arc-extrude-steps : (m m₁ m₂ : Mesh) (x : ℕ) (move : Move) (b a c d : ℕ) (mₑ : Mesh) (told r : Answer)
    → b ≡ dest m x → a ≡ source m x → c ≡ free_row m.vertices → m₁ ≡ new_vertex m (moved_position m move b)
    → d ≡ free_row m₁.vertices → m₂ ≡ new_vertex m₁ (moved_position m₁ move a)
    → step mₑ told ≡ joined_by searching m₂ x c d
    → step mₑ r ≡ answering (Arc (next_key m vertex_kind) (next_key m₁ vertex_kind)) (step mₑ told)
    → step mₑ r ≡ arc_extrude_work_by searching m x move
unfolding arc_extrude_work_by joined_by
arc-extrude-steps m m₁ m₂ x move b a c d mₑ told r eb ea ec made₁ ed made₂ joined whole =
    let n₁ : m₁ ≡ new_vertex m (moved_position m move (dest m x)) = made₁ ∙ ap (λ (v : ℕ). new_vertex m (moved_position m move v)) eb in
    let n₂ : m₂ ≡ new_vertex m₁ (moved_position m₁ move (source m₁ x)) = made₂ ∙ ap (λ (v : ℕ). new_vertex m₁ (moved_position m₁ move v)) (ea ∙ same-source m m₁ _ x made₁) in
    rw (← n₁, ← n₂, ← ed, ← ec, ← joined) whole
