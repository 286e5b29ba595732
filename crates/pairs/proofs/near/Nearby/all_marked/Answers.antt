-- `pairs::near::Nearby::all_marked` meets its contract. Assumes nothing.
use borrow.Author.Rules.{rules}
use borrow.Author.Tests.{tests}
use native.Mathlib.Omega.{arith}
use mathlib.Core.Path.{◌≡◌, ap}
use mathlib.Core.Bool.{true}
use lib.ListN.{length, take}
use Rattle.std.proofs.lemmas.Iterator.{cases_from_all, YieldsList-from_slice}
use Rattle.lists.proofs.Laws.{list-min}
use Rattle.pairs.specs.Near.{is_marked}
use Rattle.pairs.proofs.near.Nearby.all_marked.Goals as goal

pub returns : goal.returns
returns c = λ e i q.
    let a = c.args in
    let n = c.min.result in
    let all = cases_from_all _ _ _ (λ v. is_marked a.self.now.seen v ≡ true) (λ v. Unit {0}) c.all.ensures.ran (YieldsList-from_slice (take n a.list.at) c.iter.ensures.rest) (λ x f k. search (rules, tests)) (λ x f k. tt) in
    let is = list-min a.list n (search rules) c.min.ensures in
    let every = rw e at all in
    rw is at (every i 0 (search rules) (omega (arith, ap length is)))
