-- `checks::split::joined` meets its contract. Two writes; a law of Stretches. Assumes nothing.
use Rattle.checks.proofs.Stretches.{two_parts}
use Rattle.checks.proofs.split.joined.Goals as goal

pub returns : goal.returns
returns c =
    let a = c.args in
    two_parts a.a.now a.b.now c.requires c.copy_from_slice.new.self c.copy_from_slice-2.new.self c.copy_from_slice.ensures.after c.copy_from_slice-2.ensures.after
