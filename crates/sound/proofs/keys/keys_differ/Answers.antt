-- `sound::keys::keys_differ` meets its contract: table by table, within the limits. Assumes nothing.
use native.Mathlib.Omega.{arith}
use mathlib.Core.Path.{sym, ◌∙◌}
use Rattle.rules.specs.Mesh.{mesh}
use Rattle.rules.specs.Sound.{keys_differ}
use Rattle.proved.proofs.Rows.{true-T}
use Rattle.proved.proofs.SoundParts.{sizes}
use Rattle.sound.proofs.keys.keys_differ.Goals as goal

pub returns-else-differ : goal.returns-else-differ
unfolding keys_differ
returns-else-differ c =
    let x = c.args.mesh in
    λ p a k h. let s = sizes (mesh x.vertices.now p a x.edges.now x.faces.now k) (true-T h) in
    rw (sym (c.differ.ensures (omega arith)) ∙ c.if-differ.false) c.if-differ.false

pub returns-else-differ-2 : goal.returns-else-differ-2
unfolding keys_differ
returns-else-differ-2 c =
    let x = c.args.mesh in
    λ p a k h. let s = sizes (mesh x.vertices.now p a x.edges.now x.faces.now k) (true-T h) in
    rw (sym (c.differ.ensures (omega arith)) ∙ c.if-differ.true, sym (c.differ-then-differ.ensures (omega arith)) ∙ c.if-differ-2.false) c.if-differ-2.false

pub returns-then-differ-2 : goal.returns-then-differ-2
unfolding keys_differ
returns-then-differ-2 c =
    let x = c.args.mesh in
    λ p a k h. let s = sizes (mesh x.vertices.now p a x.edges.now x.faces.now k) (true-T h) in
    rw (sym (c.differ.ensures (omega arith)) ∙ c.if-differ.true, sym (c.differ-then-differ.ensures (omega arith)) ∙ c.if-differ-2.true) (c.differ-then-differ-2.ensures (omega arith))
