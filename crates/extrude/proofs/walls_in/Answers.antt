-- Each wall on what the one before left, until one is refused: laws of Steps.
use Prim.Native.Nat.{ℕ}
use native.Mathlib.Omega.{arith}
use mathlib.Core.Path.{◌≡◌, sym}
use mathlib.Core.List.{List}
use lib.ListN.{length}
use Rattle.rules.specs.Mesh.{Mesh, list_of}
use Rattle.rules.specs.Lent.{mesh_of}
use Rattle.rules.specs.Step.{Step}
use Rattle.rules.specs.Extrude.{wall}
use Rattle.rules.proofs.Lent.{same-itself, same-then}
use Rattle.makers.specs.Makers.{searching, insert_face_by}
use Rattle.insert.proofs.Filled.{filled-insert}
use Rattle.edits.proofs.Known.{known-each}
use Rattle.edits.proofs.Steps.{a-key, refused, each_none, each_goes, each-stops}
use Rattle.edits.proofs.Inserts.{insert-held}
use Rattle.edits.proofs.Whole.{wall-few}
use borrow.Author.Rules.{rules}
use Rattle.extrude.proofs.walls_in.Goals as goal

-- what wall i makes
abbrev wall_in : List ℕ → List ℕ → ℕ → Mesh → Step
wall_in vs ds i m = insert_face_by searching m (wall vs ds i) 0

pub loop-i-init : goal.loop-i-init
loop-i-init c =
    let a = c.args in
    (same-itself _, each_none (wall_in (list_of a.vs) (list_of a.ds)) (mesh_of a.mesh.now))

pub wall_at-requires : goal.wall_at-requires
wall_at-requires c = omega (arith, c.size-i-end.ensures)

pub insert_face-requires : goal.insert_face-requires
insert_face-requires c =
    let a = c.args in
    let l = c.loop-i in
    known-each (wall_in (list_of a.vs) (list_of a.ds)) (λ i m. filled-insert m _ 0) (mesh_of a.mesh.now) l.i (mesh_of l.mesh) a.around.now l.invariant.1 c.requires

pub returns-in_err-insert_face : goal.returns-in_err-insert_face
returns-in_err-insert_face c =
    let a = c.args in
    let l = c.loop-i in
    let g = c.in_err-insert_face.ensures in
    let told = insert-held (mesh_of l.mesh) _ c.wall_at.result _ 0 (wall-few (list_of a.vs) (list_of a.ds) l.i) c.wall_at.ensures g.told in
    let stops = each-stops (wall_in (list_of a.vs) (list_of a.ds)) l.i (length (list_of a.vs)) (mesh_of a.mesh.now) (mesh_of l.mesh) (mesh_of c.insert_face.new.mesh) _ (omega (arith, c.size-i-end.ensures)) l.invariant.1 told (refused _) in
    record { walls = search rules; same = same-then l.invariant.0 g.same }

pub loop-i-preserved : goal.loop-i-preserved
loop-i-preserved c =
    let a = c.args in
    let l = c.loop-i in
    let g = c.in_ok-insert_face.ensures in
    let told = insert-held (mesh_of l.mesh) _ c.wall_at.result _ 0 (wall-few (list_of a.vs) (list_of a.ds) l.i) c.wall_at.ensures g.told in
    (same-then l.invariant.0 g.same, each_goes (wall_in (list_of a.vs) (list_of a.ds)) l.i (mesh_of a.mesh.now) (mesh_of l.mesh) (mesh_of c.insert_face.new.mesh) _ l.invariant.1 told (a-key _))

pub returns : goal.returns
returns c =
    let all : c.loop-i.i ≡ length (list_of c.args.vs) = omega (arith, c.size-i-end.ensures) in
    record { walls = sym (rw all at c.loop-i.invariant.1); same = c.loop-i.invariant.0 }
