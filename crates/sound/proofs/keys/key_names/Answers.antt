use Rattle.sound.proofs.Named.{name-more, name-all}
use native.Mathlib.Omega.{arith}
use lib.ListN.{get_or, length-set}
use borrow.Author.Rules.{rules}
use Rattle.sound.proofs.keys.key_names.Goals as goal

pub loop-i-preserved : goal.loop-i-preserved
loop-i-preserved g c =
    let a = c.args in
    (simp length-set (search rules), rw c.loop-i.invariant.1 (name-more (λ r. get_or r 0 0) a.t.now a.names.now c.loop-i.i (omega arith) (omega arith)))

pub returns : goal.returns
returns g c =
    let a = c.args in
    λ s. rw c.loop-i.invariant.1 (name-all (λ r. get_or r 0 0) a.t.now a.names.now c.loop-i.i (omega arith))
