-- Each part on what the one before left, until one is refused: laws of Steps.
use Prim.Native.Nat.{ℕ}
use native.Mathlib.Omega.{arith}
use mathlib.Core.Path.{◌≡◌, sym}
use mathlib.Core.List.{List, [], ◌∷◌}
use lib.ListN.{length, get_or}
use Rattle.rules.specs.Table.{after}
use Rattle.rules.specs.Mesh.{Mesh, list_of}
use Rattle.rules.specs.Lent.{mesh_of}
use Rattle.rules.specs.Step.{Step}
use Rattle.rules.proofs.Lent.{same-itself, same-then}
use Rattle.makers.specs.Makers.{searching, insert_face_by}
use Rattle.insert.proofs.Filled.{filled-insert}
use Rattle.edits.proofs.Known.{known-each}
use Rattle.edits.proofs.Steps.{a-key, refused, each_none, each_goes, each-stops}
use Rattle.edits.proofs.Inserts.{insert-held}
use borrow.Author.Rules.{rules}
use Rattle.poke.proofs.parts_in.Goals as goal

-- what part i makes
abbrev part : List ℕ → ℕ → ℕ → ℕ → Mesh → Step
part vs c mark i m = insert_face_by searching m (get_or vs i 0 ∷ get_or vs (after (length vs) i) 0 ∷ c ∷ []) mark

pub loop-i-init : goal.loop-i-init
loop-i-init c =
    let a = c.args in
    (same-itself _, each_none (part (list_of a.vs) a.c a.mark) (mesh_of a.mesh.now))

pub part-requires : goal.part-requires
part-requires c = omega (arith, c.size-i-end.ensures)

pub insert_face-requires : goal.insert_face-requires
insert_face-requires c =
    let a = c.args in
    let l = c.loop-i in
    known-each (part (list_of a.vs) a.c a.mark) (λ i m. filled-insert m _ a.mark) (mesh_of a.mesh.now) l.i (mesh_of l.mesh) a.around.now l.invariant.1 c.requires

pub returns-in_err-insert_face : goal.returns-in_err-insert_face
returns-in_err-insert_face c =
    let a = c.args in
    let l = c.loop-i in
    let g = c.in_err-insert_face.ensures in
    let told = insert-held (mesh_of l.mesh) _ c.part.result _ a.mark (omega arith) c.part.ensures g.told in
    let stops = each-stops (part (list_of a.vs) a.c a.mark) l.i (length (list_of a.vs)) (mesh_of a.mesh.now) (mesh_of l.mesh) (mesh_of c.insert_face.new.mesh) _ (omega (arith, c.size-i-end.ensures)) l.invariant.1 told (refused _) in
    record { parts = search rules; same = same-then l.invariant.0 g.same }

pub loop-i-preserved : goal.loop-i-preserved
loop-i-preserved c =
    let a = c.args in
    let l = c.loop-i in
    let g = c.in_ok-insert_face.ensures in
    let told = insert-held (mesh_of l.mesh) _ c.part.result _ a.mark (omega arith) c.part.ensures g.told in
    (same-then l.invariant.0 g.same, each_goes (part (list_of a.vs) a.c a.mark) l.i (mesh_of a.mesh.now) (mesh_of l.mesh) (mesh_of c.insert_face.new.mesh) _ l.invariant.1 told (a-key _))

pub returns : goal.returns
returns c =
    let all : c.loop-i.i ≡ length (list_of c.args.vs) = omega (arith, c.size-i-end.ensures) in
    record { parts = sym (rw all at c.loop-i.invariant.1); same = c.loop-i.invariant.0 }
