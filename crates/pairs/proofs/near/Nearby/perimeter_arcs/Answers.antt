-- `pairs::near::Nearby::perimeter_arcs` meets its contract: the list tells, or a pass does. Assumes nothing.
use Prim.Native.Nat.{ℕ, ◌%◌, ◌<◌}
use native.Mathlib.Omega.{arith}
use borrow.Author.Rules.{rules}
use borrow.Author.Tests.{tests}
use mathlib.Core.Path.{◌≡◌, refl, sym}
use mathlib.Core.Bool.{false}
use lib.ListN.{get_or}
use Rattle.rules.specs.Mesh.{list_of}
use Rattle.pairs.proofs.Pass.{unmarked}
use Rattle.pairs.proofs.Steps.{item-is}
use Rattle.pairs.proofs.near.Nearby.perimeter_arcs.Goals as goal

pub listed-requires-clause-leaves : goal.listed-requires-clause-leaves
listed-requires-clause-leaves c = λ i q post.
    let per = c.args.per in
    let none : (j : ℕ) → j < 4 → get_or (list_of per) i 0 ≡ get_or per.at j 0 → ⊥ = search (rules, tests) in
    none i (omega (arith, c.size.ensures, c.if-size-le4.true)) (sym (item-is per i q))

pub listed-requires-2-clause-leaves : goal.listed-requires-2-clause-leaves
listed-requires-2-clause-leaves c = λ i q post.
    let per = list_of c.args.per in
    let v = get_or per i 0 in
    let none : get_or c.marks-seen.result (v % 4096) false ≡ false = search (rules, tests) in
    unmarked per v (rw c.marks-seen.ensures at none) i q refl
