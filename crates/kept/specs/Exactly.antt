-- Answer numbers, "given when": for each number, how far a call comes and what holds where it is given. The order is document 01's: 1; 2 for what
-- the caller gave; the Rust's checks before its first change; 2 for moved coordinates; 7; the Rust's refusals in mid-edit; 8.
use Rattle.std.specs.Prelude.{ℕ, ◌≤◌, ◌<◌, ◌≡◌, not, List, [], ◌⊎◌, length, T}
use Rattle.rules.specs.declared.Position.{Position}
use Rattle.rules.specs.declared.Move.{Move}
use Rattle.rules.specs.declared.Edit.{Edit}
use Rattle.rules.specs.declared.Edit.TheVariants.{VertexInsert, FaceInsert, FaceRemove, FaceSplit, FacePoke, FaceBridge, FaceExtrude, ArcBridge, ArcExtrude}
use Rattle.rules.specs.declared.Refusal.{Refusal}
use Rattle.rules.specs.declared.Refusal.TheVariants.{Tables, Argument, TopologyMalformed, TopologyNotFound, TopologyConflict, ArityNonUniform, NoRoom, WouldBreak, SamePlace}
use Rattle.rules.specs.Answer.{Answer}
use Rattle.rules.specs.Answer.{Refused}
use Rattle.rules.specs.Table.{has, distinct}
use Rattle.rules.specs.Mesh.{Mesh, Room, ring_limit}
use Rattle.rules.specs.Step.{accepted}
use Rattle.rules.specs.Insert.{malformed, has_hair}
use Rattle.rules.specs.Sound.{sound}
use Rattle.rules.specs.Call.{ready, given, by_keys, checks, moves_finite, need, room_for, work, call, called, vertex_insert, face_insert, face_remove, face_split, face_poke, face_bridge, face_extrude, arc_bridge_call, arc_extrude}
use Rattle.proved.specs.Demand.{Made, made}

-- what a call answers: any of the nine edits, with its arguments and keys, and two rooms of any size and contents
abbrev pub answer : Mesh → Made → Answer
answer m c = (called m c.one c.two (call c.edit) c.keys).answer

-- the nine public calls answer so
pub record PublicAnswers (m : Mesh) (one two : Room) : Type 0 where
  pub vertex-insert : (p : Position) → (vertex_insert m one two p).answer ≡ answer m (made (VertexInsert p) [] one two)
  pub face-insert : (keys : List ℕ) (mark : ℕ) → (face_insert m one two keys mark).answer ≡ answer m (made (FaceInsert mark) keys one two)
  pub face-remove : (f : ℕ) → (face_remove m one two f).answer ≡ answer m (made (FaceRemove f) [] one two)
  pub face-split : (f s d : ℕ) → (face_split m one two f s d).answer ≡ answer m (made (FaceSplit f s d) [] one two)
  pub face-poke : (f : ℕ) (p : Position) → (face_poke m one two f p).answer ≡ answer m (made (FacePoke f p) [] one two)
  pub face-bridge : (f g : ℕ) → (face_bridge m one two f g).answer ≡ answer m (made (FaceBridge f g) [] one two)
  pub face-extrude : (f : ℕ) (move : Move) → (face_extrude m one two f move).answer ≡ answer m (made (FaceExtrude f move) [] one two)
  pub arc-bridge : (a b c d : ℕ) → (arc_bridge_call m one two a b c d).answer ≡ answer m (made (ArcBridge a b c d) [] one two)
  pub arc-extrude : (s d : ℕ) (move : Move) → (arc_extrude m one two s d move).answer ≡ answer m (made (ArcExtrude s d move) [] one two)

-- ---- how far a call comes: each place lies behind the one before

-- to the Rust's checks: no table is unsound or over the limit, working room is not too small, and what the caller gave is fit
pub record AtChecks (m : Mesh) (c : Made) : Type 0 where
  pub is-ready : T (ready m c.one c.two)
  pub fit : T (given c.edit c.keys)

-- to the moved coordinates: the checks are passed
pub record AtMoves (m : Mesh) (c : Made) : Type 0 where
  pub at-checks : AtChecks m c
  pub checks-passed : T (accepted (checks m c.edit c.keys))

-- to the need: moved coordinates are finite
pub record AtNeed (m : Mesh) (c : Made) : Type 0 where
  pub at-moves : AtMoves m c
  pub moves-finite : T (moves_finite m c.edit)

-- to the work: free rows are not fewer than the need, and no key above 4,294,967,294 is needed
pub record AtWork (m : Mesh) (c : Made) : Type 0 where
  pub at-need : AtNeed m c
  pub need-met : T (room_for m (need m c.edit c.keys))

-- to the result: nothing was refused in mid-edit
pub record AtResult (m : Mesh) (c : Made) : Type 0 where
  pub at-work : AtWork m c
  pub work-accepted : T (accepted (work m c.edit c.keys).answer)

-- ---- what holds where an answer is given

-- 2 for what the caller gave: more than 64 keys, or a number that is not finite
pub record NotFit (m : Mesh) (c : Made) : Type 0 where
  pub is-ready : T (ready m c.one c.two)
  pub not-fit : T (not (given c.edit c.keys))

-- 2 for a moved coordinate that is not finite
pub record NotFinite (m : Mesh) (c : Made) : Type 0 where
  pub at-moves : AtMoves m c
  pub not_finite : T (not (moves_finite m c.edit))

-- 7
pub record NeedNotMet (m : Mesh) (c : Made) : Type 0 where
  pub at-need : AtNeed m c
  pub not-met : T (not (room_for m (need m c.edit c.keys)))

-- 8
pub record ResultBreaks (m : Mesh) (c : Made) : Type 0 where
  pub at-result : AtResult m c
  pub not_sound : T (not (sound (work m c.edit c.keys).tables))

-- 0
pub record ResultStands (m : Mesh) (c : Made) : Type 0 where
  pub at-result : AtResult m c
  pub is-sound : T (sound (work m c.edit c.keys).tables)

-- the Rust's refusals: by its checks before its first change, or in mid-edit
pub data ByRust (m : Mesh) (c : Made) (r : Refusal) : Type 0 where
  by-checks : AtChecks m c → checks m c.edit c.keys ≡ Refused r → ByRust m c r
  in-mid-edit : AtWork m c → (work m c.edit c.keys).answer ≡ Refused r → ByRust m c r

-- ---- the Rust's numbers

-- 3, 4 and 5, in mid-edit too, and document 02's 13
pub data InMidEdit : Refusal → Type 0 where
  three : InMidEdit TopologyMalformed
  four : InMidEdit TopologyNotFound
  five : InMidEdit TopologyConflict
  thirteen : InMidEdit SamePlace

-- the edit is a bridge of two faces
pub data Bridges : Edit → Type 0 where
  bridges : (f g : ℕ) → Bridges (FaceBridge f g)

-- of the checks: these, and 6 of a bridge alone
pub data OfChecks (e : Edit) : Refusal → Type 0 where
  as-in-mid-edit : {r : Refusal} → InMidEdit r → OfChecks e r
  six : Bridges e → OfChecks e ArityNonUniform

-- 6: a bridge whose checks find it
pub record Uneven (m : Mesh) (c : Made) : Type 0 where
  pub a-bridge : Bridges c.edit
  pub at-checks : AtChecks m c
  pub refused : checks m c.edit c.keys ≡ Refused ArityNonUniform

-- fewer than three keys, or duplicates
abbrev pub FewOrTwice : List ℕ → Type 0
FewOrTwice keys = (length keys < 3) ⊎ T (not (distinct keys))

-- 3 of a face insert, whatever the keys name
pub record KeysMalformed (m : Mesh) (one two : Room) (keys : List ℕ) : Type 0 where
  pub is-ready : T (ready m one two)
  pub at-most-64 : length keys ≤ ring_limit
  pub few-or-twice : FewOrTwice keys

-- 13 of a face insert: three keys or more, all known and none twice, and two neighbours, the last and first too, in one spot
pub record KeysInOneSpot (m : Mesh) (one two : Room) (keys : List ℕ) : Type 0 where
  pub is-ready : T (ready m one two)
  pub at-most-64 : length keys ≤ ring_limit
  pub well-formed : T (not (malformed keys))
  pub all_known : T (not (has (by_keys m keys) 0))
  pub one_spot : T (has_hair m (by_keys m keys))

-- ---- the table of answer numbers

unfoldable pub GivenWhen : Mesh → Made → Refusal → Type 0
GivenWhen m c Tables = T (not (ready m c.one c.two))
GivenWhen m c Argument = NotFit m c ⊎ NotFinite m c
GivenWhen m c TopologyMalformed = ByRust m c TopologyMalformed
GivenWhen m c TopologyNotFound = ByRust m c TopologyNotFound
GivenWhen m c TopologyConflict = ByRust m c TopologyConflict
GivenWhen m c ArityNonUniform = Uneven m c
GivenWhen m c SamePlace = ByRust m c SamePlace
GivenWhen m c NoRoom = NeedNotMet m c
GivenWhen m c WouldBreak = ResultBreaks m c
