-- What was found for the vertices passed by.
use Prim.Native.Nat.{ℕ, ◌≤◌, ◌<◌}
use native.Mathlib.Omega.{arith}
use mathlib.Core.Path.{◌≡◌, refl, ap, ◌∙◌}
use mathlib.Core.List.{List, ◌++◌}
use lib.ListN.{length, get_or, take}
use lib.Seq.{get_or-take}
use Rattle.rules.specs.Table.{cell}
use Rattle.rules.specs.Mesh.{places_of, list_of}
use Rattle.rules.specs.Lent.{mesh_in}
use Rattle.walks.proofs.Listing.{made_more}
use Rattle.lists.proofs.Laws.{list-taken}
use Rattle.makers.specs.Search.{out_from, back_from}
use Rattle.insert.proofs.Seeking.{out_of, back_of, sought-all}
use Rattle.insert.proofs.search.search_lists.Goals as goal

pub loop-i-init : goal.loop-i-init
unfolding places_of
loop-i-init c = (refl, refl)

pub loop-i-preserved : goal.loop-i-preserved
loop-i-preserved c =
    let n = c.size-n in
    let a = c.args in
    let on : c.loop-i.i < n.result = c.loop-i-test.true in
    let xs : List ℕ = take n.result a.per.at in
    let soon : List ℕ = take c.size.result a.found.at ++ take c.size-2.result a.others.at in
    let all : xs ≡ list_of a.per = list-taken a.per n.result n.ensures in
    let here : get_or xs c.loop-i.i 0 ≡ get_or a.per.at c.loop-i.i 0 = get_or-take n.result a.per.at c.loop-i.i 0 on in
    let first : c.cell-first.result ≡ cell a.mesh.vertices.now (get_or xs c.loop-i.i 0) 1 = rw here c.cell-first.ensures in
    let inside : c.loop-i.i < length xs = omega (arith, ap length all, n.ensures, on) in
    let few : length xs ≤ 64 = omega (arith, ap length all, c.known_few.ensures) in
    (made_more (out_of a.mesh.vertices.now a.mesh.arcs.now a.mesh.edges.now soon) xs c.loop-i.outs c.loop-i.i c.unwrap_or.result inside few (c.unwrap_or.ensures ∙ c.free_arcs-free.ensures.0 ∙ ap (out_from a.mesh.arcs.now a.mesh.edges.now soon) first) c.loop-i.invariant.0, made_more (back_of a.mesh.vertices.now a.mesh.arcs.now a.mesh.edges.now soon) xs c.loop-i.backs c.loop-i.i c.unwrap_or-in-loop-i.result inside few (c.unwrap_or-in-loop-i.ensures ∙ c.free_arcs-free.ensures.1 ∙ ap (back_from a.mesh.arcs.now a.mesh.edges.now soon) first) c.loop-i.invariant.1)

pub returns : goal.returns
unfolding list_of
returns c =
    let n = c.size-n in
    let a = c.args in
    let soon : List ℕ = take c.size.result a.found.at ++ take c.size-2.result a.others.at in
    let all : take n.result a.per.at ≡ list_of a.per = list-taken a.per n.result n.ensures in
    let end : c.loop-i.i ≡ n.result = omega arith in
    let made = rw (end, all) at c.loop-i.invariant in
    rw (← list-taken a.found c.size.result c.size.ensures, ← list-taken a.others c.size-2.result c.size-2.ensures)
    (sought-all (mesh_in a.mesh) soon (list_of a.per) c.loop-i.outs c.loop-i.backs n.result c.known_few.ensures n.ensures made.0 made.1)
