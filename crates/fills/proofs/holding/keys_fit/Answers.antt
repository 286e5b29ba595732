-- `fills::holding::keys_fit` meets its contract: a test of every record is one of every place. Assumes nothing.
use native.Mathlib.Omega.{arith}
use mathlib.Core.Path.{refl, ap, sym, ◌∙◌}
use mathlib.Core.List.{[]}
use Prim.Native.Nat.{ℕ}
use lib.ListN.{get_or}
use Rattle.std.proofs.Common.{rules}
use Rattle.std.proofs.lemmas.Iterator.{YieldsList-from_range}
use Rattle.std.proofs.lemmas.Iterator.Search.{all_from_yields_List}
use Rattle.rules.specs.Table.{all_below}
use Rattle.names.proofs.Loops.{list-below, every-all}
use Rattle.bodies.specs.Bodies.{records_in}
use Rattle.bodies.specs.Kinds.{number}
use Rattle.fills.specs.Fills.{key_fits}
use Rattle.fills.proofs.holding.keys_fit.Goals as goal

pub returns : goal.returns
returns c =
    let rows = records_in c.args.file.text.now (number c.args.kind) in
    let n = c.count.result in
    let q = λ (i : ℕ). key_fits (get_or rows i []) in
    all_from_yields_List q _ _ _ c.all.ensures.ran (YieldsList-from_range 0 n n refl (omega arith)) (λ x b f k. search rules)
    ∙ list-below q n
    ∙ ap (all_below q) c.count.ensures.0
    ∙ sym (every-all key_fits rows [])
