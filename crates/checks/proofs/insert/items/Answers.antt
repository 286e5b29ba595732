-- `checks::insert::items` meets its contract. The places in use. Assumes nothing.
use native.Mathlib.Omega.{arith}
use mathlib.Core.Path.{sym, ◌∙◌}
use lib.ListN.{take, length-take}
use lib.Seq.{take-take, take_all}
use Rattle.rules.specs.Mesh.{list_of}
use Rattle.checks.proofs.insert.items.Goals as goal

pub returns-clause-value : goal.returns-clause-value
unfolding list_of
returns-clause-value c =
    let l = c.args.list.now in
    let k = c.min.result in
    sym (take-take k l.len l.at (omega (arith, c.min.ensures))) ∙ take_all k (take l.len l.at) (omega (arith, c.min.ensures, c.known_few.ensures, length-take l.len l.at))
