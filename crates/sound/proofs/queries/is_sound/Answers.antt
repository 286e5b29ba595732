-- `sound::queries::is_sound` meets its contract: what a sound mesh has, and this one lacks; at the end, all but the keys. Assumes nothing.
use native.Mathlib.Omega.{arith}
use mathlib.Core.Path.{◌≡◌, sym, ◌∙◌}
use mathlib.Core.Bool.{true, ◌&&◌}
use Rattle.rules.specs.Table.{used}
use Rattle.rules.specs.Lent.{mesh_in}
use Rattle.rules.specs.Sound.{within_limits, pairs_differ}
use Rattle.rules.proofs.Counts.{count-le}
use Rattle.proved.proofs.Rows.{true-T}
use Rattle.proved.proofs.SoundParts.{parts, sizes}
use Rattle.sound.specs.Parts.{vertices_sound, positions_sound, edges_sound, arcs_sound, faces_sound, rows_sound}
use Rattle.sound.specs.Rings.{rings_full}
use Rattle.sound.proofs.Groups.{lacks, vertices-of, positions-of, edges-of, arcs-of, faces-of, pairs_of, rows_all, pairs-told, decides}
use borrow.Author.Rules.{rules}
use Rattle.sound.proofs.queries.is_sound.Goals as goal

pub returns-then-not-within_limits : goal.returns-then-not-within_limits
returns-then-not-within_limits c =
    let m = mesh_in c.args.mesh in
    lacks m (within_limits m) (λ t. (parts m t).within-limits) (sym c.within_limits.ensures ∙ c.if-not-within_limits.true)

pub returns-in_default : goal.returns-in_default
returns-in_default c =
    let m = mesh_in c.args.mesh in
    lacks m (vertices_sound m) (vertices-of m) c.in_default.ensures

pub returns-then-not-positions_sound : goal.returns-then-not-positions_sound
returns-then-not-positions_sound c =
    let m = mesh_in c.args.mesh in
    lacks m (positions_sound m) (positions-of m) (sym c.positions_sound.ensures ∙ c.if-not-positions_sound.true)

pub edges_named-requires : goal.edges_named-requires
edges_named-requires c =
    let m = mesh_in c.args.mesh in
    let limits : within_limits m ≡ true = sym c.within_limits.ensures ∙ c.if-not-within_limits.false in
    let s = sizes m (true-T limits) in
    (s.edge-rows, s.edge-rows)

pub returns-in_default-edges_named : goal.returns-in_default-edges_named
returns-in_default-edges_named c =
    let m = mesh_in c.args.mesh in
    lacks m (edges_sound m) (edges-of m) c.in_default-edges_named.ensures

pub overflow_mul-named : goal.overflow_mul-named
overflow_mul-named c =
    let m = mesh_in c.args.mesh in
    let limits : within_limits m ≡ true = sym c.within_limits.ensures ∙ c.if-not-within_limits.false in
    search (rules, (sizes m (true-T limits)).edge-rows, c.in-Some-edges_named.ensures.1.0, count-le used m.edges)

pub arcs_held-requires : goal.arcs_held-requires
arcs_held-requires c =
    let m = mesh_in c.args.mesh in
    let limits : within_limits m ≡ true = sym c.within_limits.ensures ∙ c.if-not-within_limits.false in
    let s = sizes m (true-T limits) in
    omega (arith, s.edge-rows, s.arc-rows)

pub returns-in_default-arcs_held : goal.returns-in_default-arcs_held
returns-in_default-arcs_held c =
    let m = mesh_in c.args.mesh in
    lacks m (arcs_sound m) (arcs-of m) (c.in_default-arcs_held.ensures m.vertices m.positions m.edges m.faces m.counters (omega (arith, c.in-Some-edges_named.ensures.1.0)))

pub rings_sound-requires : goal.rings_sound-requires
rings_sound-requires c =
    let m = mesh_in c.args.mesh in
    (c.in-Some-arcs_held.ensures m.vertices m.positions m.edges m.faces m.counters (omega (arith, c.in-Some-edges_named.ensures.1.0))).1

pub returns-in_default-rings_sound : goal.returns-in_default-rings_sound
returns-in_default-rings_sound c =
    let m = mesh_in c.args.mesh in
    lacks m (faces_sound m && rings_full m) (faces-of m) c.in_default-rings_sound.ensures

pub returns-then-not-names_differ : goal.returns-then-not-names_differ
returns-then-not-names_differ c =
    let m = mesh_in c.args.mesh in
    let limits : within_limits m ≡ true = sym c.within_limits.ensures ∙ c.if-not-within_limits.false in
    let e = c.in-Some-edges_named.ensures in
    let arcs = c.in-Some-arcs_held.ensures m.vertices m.positions m.edges m.faces m.counters (omega (arith, e.1.0)) in
    let rows : (rows_sound m ≡ true) × (rings_full m ≡ true) = rows_all m limits c.in-Some.ensures.0 (sym c.positions_sound.ensures ∙ c.if-not-positions_sound.false) e.0 arcs.0 c.in-Some-rings_sound.ensures.0 in
    let pairs : c.names_differ.result ≡ pairs_differ m = pairs-told m rows.0 _ e.1.1.0 c.names_differ.result c.names_differ.ensures in
    lacks m (pairs_differ m) (pairs_of m) (sym pairs ∙ c.if-not-names_differ.true)

pub keys_differ-requires : goal.keys_differ-requires
keys_differ-requires c = (c.in-Some.ensures.1, (c.in-Some-edges_named.ensures.1.1.1, c.in-Some-rings_sound.ensures.1))

pub returns : goal.returns
returns c =
    let m = mesh_in c.args.mesh in
    let limits : within_limits m ≡ true = sym c.within_limits.ensures ∙ c.if-not-within_limits.false in
    let e = c.in-Some-edges_named.ensures in
    let arcs = c.in-Some-arcs_held.ensures m.vertices m.positions m.edges m.faces m.counters (omega (arith, e.1.0)) in
    let rows : (rows_sound m ≡ true) × (rings_full m ≡ true) = rows_all m limits c.in-Some.ensures.0 (sym c.positions_sound.ensures ∙ c.if-not-positions_sound.false) e.0 arcs.0 c.in-Some-rings_sound.ensures.0 in
    let pairs : c.names_differ.result ≡ pairs_differ m = pairs-told m rows.0 _ e.1.1.0 c.names_differ.result c.names_differ.ensures in
    c.keys_differ.ensures m.positions m.arcs m.counters limits ∙ decides m rows.0 rows.1 (sym pairs ∙ c.if-not-names_differ.false)
