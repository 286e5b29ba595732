-- `walks::rings::place_in` meets its contract: the first place that passes is the one that `position` finds. Assumes nothing.
use borrow.Author.Rules.{rules}
use borrow.Author.Tests.{tests}
use mathlib.Core.Path.{◌≡◌}
use lib.ListN.{take}
use Rattle.std.proofs.lemmas.Iterator.{IsFirst-from_position, YieldsList-from_slice}
use Rattle.walks.proofs.Listing.{place_of}
use Rattle.walks.proofs.rings.place_in.Goals as goal

pub returns : goal.returns
returns c =
    let a = c.args in
    let n = c.min-len.result in
    place_of a.list a.x n (search rules) c.min-len.ensures c.position.result (IsFirst-from_position _ _ _ (λ y. y ≡ a.x) (λ y. y ≡ a.x → ⊥) c.position.ensures.ran (YieldsList-from_slice (take n a.list.at) c.iter.ensures.rest) (λ x q k. search (rules, tests)) (λ x q k. search (rules, tests)))
