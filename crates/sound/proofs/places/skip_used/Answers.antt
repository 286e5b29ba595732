-- `sound::places::skip_used` meets its contract. The loop keeps that every row gone through passes. Assumes nothing.
use Prim.Native.Nat.{◌+◌}
use mathlib.Core.List.{[]}
use lib.ListN.{get_or}
use Rattle.names.proofs.Loops.{none_yet}
use Rattle.sound.specs.Tests.{position_test}
use borrow.Author.Rules.{rules}
use Rattle.sound.proofs.places.skip_used.Goals as goal

pub loop-i-init : goal.loop-i-init
loop-i-init c = (search rules, none_yet (λ j. position_test c.args.vertices.now (get_or c.args.positions.now j []) (j + 1)))

pub returns-then-not-block_used : goal.returns-then-not-block_used
returns-then-not-block_used c = c.loop-i.invariant

pub loop-i-preserved : goal.loop-i-preserved
loop-i-preserved c =
    (search rules, c.block_used.ensures c.if-not-block_used.false c.loop-i.invariant.1)

pub returns : goal.returns
returns c = c.loop-i.invariant
