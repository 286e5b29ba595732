-- `checks::call::most_of` meets its contract. Each arm by its variant; a ring has at most 64 arcs, so no product or sum wraps. Assumes nothing.
use native.Mathlib.Omega.{arith}
use mathlib.Core.List.{[]}
use Rattle.rules.specs.Mesh.{mesh}
use Rattle.rules.specs.Call.{need}
use Rattle.checks.specs.Most.{most}
use Rattle.checks.proofs.Bounds.{ring-few}
use Rattle.checks.proofs.Most.{most-told}
use Rattle.checks.proofs.call.most_of.Goals as goal

pub overflow_mul-n : goal.overflow_mul-n
overflow_mul-n c =
    let a = c.args in
    omega (arith, c.arity_of-n-in-FaceExtrude.ensures [] [] [] [], ring-few (mesh [] [] a.arcs.now [] a.faces.now []) c.find_key-in-FaceExtrude.result)

pub overflow_add-n : goal.overflow_add-n
overflow_add-n c =
    let a = c.args in
    omega (arith, c.arity_of-n-in-FaceExtrude.ensures [] [] [] [], ring-few (mesh [] [] a.arcs.now [] a.faces.now []) c.find_key-in-FaceExtrude.result)

pub returns-in-VertexInsert : goal.returns-in-VertexInsert
unfolding most need
returns-in-VertexInsert c =
    let a = c.args in
    λ vs ps es ks. most-told (mesh vs ps a.arcs.now es a.faces.now ks) a.edit a.keys.now _ (rw c.in-VertexInsert.is c.new.ensures)

pub returns-in-FaceInsert : goal.returns-in-FaceInsert
unfolding most need
returns-in-FaceInsert c =
    let a = c.args in
    λ vs ps es ks. most-told (mesh vs ps a.arcs.now es a.faces.now ks) a.edit a.keys.now _ (rw c.in-FaceInsert.is c.new-in-FaceInsert.ensures)

pub returns-in-FaceRemove : goal.returns-in-FaceRemove
unfolding most need
returns-in-FaceRemove c =
    let a = c.args in
    λ vs ps es ks. most-told (mesh vs ps a.arcs.now es a.faces.now ks) a.edit a.keys.now _ (rw c.in-FaceRemove.is c.new-in-FaceRemove.ensures)

pub returns-in-FaceSplit : goal.returns-in-FaceSplit
unfolding most need
returns-in-FaceSplit c =
    let a = c.args in
    λ vs ps es ks. most-told (mesh vs ps a.arcs.now es a.faces.now ks) a.edit a.keys.now _ (rw c.in-FaceSplit.is c.new-in-FaceSplit.ensures)

pub returns-in-FacePoke : goal.returns-in-FacePoke
unfolding most need
returns-in-FacePoke c =
    let a = c.args in
    λ vs ps es ks. most-told (mesh vs ps a.arcs.now es a.faces.now ks) a.edit a.keys.now _ (rw (c.in-FacePoke.is, ← c.find_key.ensures, ← c.arity_of-n.ensures vs ps es ks, ← c.saturating_sub.ensures) c.new-in-FacePoke.ensures)

pub returns-in-FaceBridge : goal.returns-in-FaceBridge
unfolding most need
returns-in-FaceBridge c =
    let a = c.args in
    λ vs ps es ks. most-told (mesh vs ps a.arcs.now es a.faces.now ks) a.edit a.keys.now _ (rw (c.in-FaceBridge.is, ← c.find_key-in-FaceBridge.ensures, ← c.arity_of-n-in-FaceBridge.ensures vs ps es ks, ← c.saturating_sub-in-FaceBridge.ensures) c.new-in-FaceBridge.ensures)

pub returns-in-FaceExtrude : goal.returns-in-FaceExtrude
unfolding most need
returns-in-FaceExtrude c =
    let a = c.args in
    λ vs ps es ks. most-told (mesh vs ps a.arcs.now es a.faces.now ks) a.edit a.keys.now _ (rw (c.in-FaceExtrude.is, ← c.find_key-in-FaceExtrude.ensures, ← c.arity_of-n-in-FaceExtrude.ensures vs ps es ks) c.new-in-FaceExtrude.ensures)

pub returns-in-ArcBridge : goal.returns-in-ArcBridge
unfolding most need
returns-in-ArcBridge c =
    let a = c.args in
    λ vs ps es ks. most-told (mesh vs ps a.arcs.now es a.faces.now ks) a.edit a.keys.now _ (rw c.in-ArcBridge.is c.new-in-ArcBridge.ensures)

pub returns-in-ArcExtrude : goal.returns-in-ArcExtrude
unfolding most need
returns-in-ArcExtrude c =
    let a = c.args in
    λ vs ps es ks. most-told (mesh vs ps a.arcs.now es a.faces.now ks) a.edit a.keys.now _ (rw c.in-ArcExtrude.is c.new-in-ArcExtrude.ensures)
