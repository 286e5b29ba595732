-- `bodies::records::LaidFile::rises` meets its contract: a test of every record but the last. Assumes nothing.
use Prim.Native.Nat.{◌-◌}
use native.Mathlib.Omega.{arith}
use mathlib.Core.Path.{◌≡◌, refl, ap, ◌∙◌}
use Rattle.std.proofs.Common.{rules}
use Rattle.std.proofs.lemmas.Iterator.{YieldsList-from_range}
use Rattle.std.proofs.lemmas.Iterator.Search.{all_from_yields_List}
use lib.ListN.{length}
use Rattle.rules.specs.Table.{all_below}
use Rattle.names.proofs.Loops.{list-below}
use Rattle.file.specs.File.{rising}
use Rattle.bodies.specs.Bodies.{records_in}
use Rattle.bodies.specs.Kinds.{number}
use Rattle.bodies.proofs.Keys.{rises_at}
use Rattle.bodies.proofs.records.LaidFile.rises.Goals as goal

pub returns : goal.returns
unfolding rising
returns c =
    let q = rises_at c.args.self.text.now (number c.args.kind) in
    let n = c.saturating_sub.result in
    let last : n ≡ length (records_in c.args.self.text.now (number c.args.kind)) - 1 = search rules in
    all_from_yields_List q _ _ _ c.all.ensures.ran (YieldsList-from_range 0 n n refl (omega arith)) (λ x b f k. search rules)
    ∙ list-below q n
    ∙ ap (all_below q) last
