-- `pairs::near::Nearby::arc_between` meets its contract: the list tells, or a pass does. Assumes nothing.
use mathlib.Core.Path.{◌≡◌}
use mathlib.Core.Bool.{true}
use Rattle.pairs.specs.Near.{is_marked}
use Rattle.pairs.proofs.near.Nearby.arc_between.Goals as goal

pub arc_listed-requires : goal.arc_listed-requires
arc_listed-requires c =
    let a = c.args in
    let is : is_marked a.self.now.seen a.a ≡ true = rw (← c.wide.ensures) c.if-self-wide.true in
    (c.tells.ensures c.if-tells.true c.requires, is)
