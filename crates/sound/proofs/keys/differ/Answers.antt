use native.Mathlib.Omega.{arith}
use mathlib.Core.Path.{◌∙◌}
use Rattle.sound.proofs.Named.{keys-differ, keys-rise}
use Rattle.sound.proofs.keys.differ.Goals as goal

pub returns-then-rising : goal.returns-then-rising
returns-then-rising g c = λ s. keys-rise c.args.t.now (c.requires.1 c.if-rising.true)

pub returns : goal.returns
returns g c =
    let a = c.args in
    let k = c.key_names in
    λ s. c.names_differ.ensures s ∙ keys-differ a.t.now k.new.names (k.ensures (omega arith))
