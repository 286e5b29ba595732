-- In a mesh made from nothing by calls, refused ones among them, no panel has two neighbouring corners in one spot (specs/Hair): an arc gets a face
-- only by an insert whose checks found its ends apart, and no edit moves a vertex.
use Prim.Native.Nat.{ℕ, ◌≤◌, ◌<◌}
use mathlib.Core.Path.{sym, subst}
use mathlib.Core.List.{List, [], ◌∷◌}
use mathlib.Core.Logic.{◌⊎◌, inl, inr}
use lib.ListN.{length, get_or}
use lib.Dec.{T}
use Rattle.rules.specs.Table.{every, there, after}
use Rattle.rules.specs.Mesh.{Mesh, vertex_limit, edge_limit, face_limit, source, dest}
use Rattle.rules.specs.Link.{ring}
use Rattle.rules.specs.Insert.{in_one_spot}
use Rattle.rules.specs.Sound.{sound}
use Rattle.rules.specs.Script.{empty_room, empty_mesh}
use Rattle.proved.specs.Demand.{Made, after_calls, reached}
use Rattle.proved.specs.Facts.{SoundFacts, IsVertex, IsFace}
use Rattle.proved.proofs.Reached.{reached-sound, none-there}
use Rattle.kept.specs.Frame.{ThreeCounters}
use Rattle.kept.specs.Reaches.{KeepsEnds, Spared, Apart}
use Rattle.kept.specs.Local.{Came}
use Rattle.kept.specs.Hair.{NoHair, HoldersApart}
use Rattle.kept.proofs.Round.{after-low}
use Rattle.kept.proofs.Remove.{ring-place-holds}
use Rattle.kept.proofs.Halves.{vertices-length, ring-pair}
use Rattle.kept.proofs.CountersUp.{three-reached}
use Rattle.kept.proofs.RecordsStay.{KeptByCalls}
use Rattle.kept.proofs.InTurn.{kept-by-calls}

-- an arc's ends stay apart where arcs keep their ends and vertices their places
apart-still : {a r : Mesh} → KeepsEnds a r → (x : ℕ) → T (there a.arcs x) → Apart a x → Apart r x
apart-still {a} {r} w x u p =
    let s = w.sources x u in
    let d = w.dests x u in
    record {
      from-vertex = subst (IsVertex r) (sym s) (w.vertices (source a x) p.from-vertex);
      to-vertex = subst (IsVertex r) (sym d) (w.vertices (dest a x) p.to-vertex);
      two-spots = rw (s, d, w.places (source a x) p.from-vertex, w.places (dest a x) p.to-vertex) p.two-spots;
    }

holders-stay-apart : (m : Mesh) → ThreeCounters m → T (sound m) → (cs : List Made) → HoldersApart m → HoldersApart (after_calls m cs)
holders-stay-apart m three t cs apart g x u h = go (k.since g u)
  where
    k : KeptByCalls m (after_calls m cs)
    k = kept-by-calls m three t cs

    go : (IsFace m g × Spared m (after_calls m cs) g) ⊎ Came m (after_calls m cs) g → Apart (after_calls m cs) x
    go (inl w) = let was = w.1.no_more x h in apart-still k.ends x was.exists (apart g x w.0 was)
    go (inr c) = let was = c.gains.no_more x h in apart-still c.keeps x was.exists (c.apart x was)

-- so no face has a corner in one spot with the next: the arc that joins them holds the face
no-hair-of : (m : Mesh) → SoundFacts m → HoldersApart m → NoHair m
unfolding in_one_spot
no-hair-of m s apart g i u l =
    let n = length (ring m g) in
    let low : i < n = rw (vertices-length m s g u) at l in
    let pair = ring-pair m s g u i l in
    let x = get_or (ring m g) (after n i) 0 in
    let a = apart g x u (ring-place-holds m g (s.rings g u) (after n i) (after-low n i low)) in
    rw (← pair.leaves, ← pair.arrives) a.two-spots

-- from any sound mesh without a hair among the arcs that hold a face
pub calls-leave-no-hair : (m : Mesh) → ThreeCounters m → T (sound m) → HoldersApart m → (cs : List Made) → NoHair (after_calls m cs)
calls-leave-no-hair m three t apart cs =
    no-hair-of (after_calls m cs) (kept-by-calls m three t cs).now-sound (holders-stay-apart m three t cs apart)

-- from an empty mesh
pub no-panel-has-a-hair : (v e f : ℕ) → v ≤ vertex_limit → e ≤ edge_limit → f ≤ face_limit → (cs : List Made) → NoHair (reached v e f cs)
unfolding reached after_calls empty_mesh empty_room every
no-panel-has-a-hair v e f vs es fs cs =
    calls-leave-no-hair (empty_mesh v e f) (three-reached v e f []) (reached-sound v e f vs es fs []) none cs
  where
    none : HoldersApart (empty_mesh v e f)
    none g x u h = absurd (none-there f (0 ∷ 0 ∷ 0 ∷ []) tt g u)
