-- `names::sorted_out` meets its contract where both parts were told apart. Assumes nothing.
use denote.Enum.Bare.{same_true}
use borrow.Author.Rules.{rules}
use mathlib.Core.Path.{◌≡◌, sym}
use Rattle.names.specs.contracts.Verdict.{the_type}
use Rattle.names.specs.declared.Verdict.TheVariants.{Apart}
use Rattle.names.proofs.Names.{shown, parts-differ}
use Rattle.names.proofs.sorted_out.Goals as goal

pub returns-then-eq-4 : goal.returns-then-eq-4
returns-then-eq-4 c =
    let a = c.args in
    let p : c.told_of-first.result ≡ Apart = same_true the_type (search rules) _ _ (sym c.if-eq-3.ensures) in
    let q : c.told_of-second.result ≡ Apart = same_true the_type (search rules) _ _ (sym c.if-eq-4.ensures) in
    let first = rw p at c.told_of-first.ensures in
    let second = rw q at c.told_of-second.ensures in
    shown a.names.now a.n (parts-differ a.names.now a.n first second)
