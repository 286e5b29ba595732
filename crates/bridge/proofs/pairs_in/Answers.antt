-- Each pair on what the one before left, until one is refused: laws of Steps.
use Prim.Native.Nat.{ℕ}
use native.Mathlib.Omega.{arith}
use mathlib.Core.Path.{◌≡◌, sym, ◌∙◌}
use mathlib.Core.List.{List, reverse}
use lib.ListN.{length, get_or}
use Rattle.rules.specs.Mesh.{Mesh, list_of}
use Rattle.rules.specs.Lent.{mesh_of}
use Rattle.rules.specs.Step.{Step}
use Rattle.rules.proofs.Lent.{same-itself, same-then}
use Rattle.makers.specs.Makers.{searching, arc_bridge_by}
use Rattle.insert.proofs.Filled.{filled-bridge}
use Rattle.edits.proofs.Known.{known-each}
use Rattle.edits.proofs.Steps.{a-key, refused, each_none, each_goes, each-stops}
use borrow.Author.Rules.{rules}
use Rattle.bridge.proofs.pairs_in.Goals as goal

-- what pair i makes
abbrev pair : List ℕ → List ℕ → ℕ → Mesh → Step
pair forth back i m = arc_bridge_by searching m (get_or forth i 0) (get_or (reverse back) i 0)

pub loop-i-init : goal.loop-i-init
loop-i-init c =
    let a = c.args in
    (same-itself _, each_none (pair (list_of a.forth) (list_of a.back)) (mesh_of a.mesh.now))

pub arc_bridge-requires : goal.arc_bridge-requires
arc_bridge-requires c =
    let a = c.args in
    let l = c.loop-i in
    known-each (pair (list_of a.forth) (list_of a.back)) (λ i m. filled-bridge m _ _) (mesh_of a.mesh.now) l.i (mesh_of l.mesh) a.around.now l.invariant.1 c.requires

pub returns-in_err-arc_bridge : goal.returns-in_err-arc_bridge
returns-in_err-arc_bridge c =
    let a = c.args in
    let l = c.loop-i in
    let g = c.in_err-arc_bridge.ensures in
    let told = g.told ∙ (λ j. arc_bridge_by searching (mesh_of l.mesh) (c.item-x.ensures j) (c.item_from_end-y.ensures j)) in
    let stops = each-stops (pair (list_of a.forth) (list_of a.back)) l.i (length (list_of a.forth)) (mesh_of a.mesh.now) (mesh_of l.mesh) (mesh_of c.arc_bridge.new.mesh) _ (omega (arith, c.size-i-end.ensures)) l.invariant.1 told (refused _) in
    record { pairs = search rules; same = same-then l.invariant.0 g.same }

pub loop-i-preserved : goal.loop-i-preserved
loop-i-preserved c =
    let a = c.args in
    let l = c.loop-i in
    let g = c.in_ok-arc_bridge.ensures in
    let told = g.told ∙ (λ j. arc_bridge_by searching (mesh_of l.mesh) (c.item-x.ensures j) (c.item_from_end-y.ensures j)) in
    (same-then l.invariant.0 g.same, each_goes (pair (list_of a.forth) (list_of a.back)) l.i (mesh_of a.mesh.now) (mesh_of l.mesh) (mesh_of c.arc_bridge.new.mesh) _ l.invariant.1 told (a-key _))

pub returns : goal.returns
returns c =
    let all : c.loop-i.i ≡ length (list_of c.args.forth) = omega (arith, c.size-i-end.ensures) in
    record { pairs = sym (rw all at c.loop-i.invariant.1); same = c.loop-i.invariant.0 }
