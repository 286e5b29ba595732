-- `pairs::near::Nearby::meet` meets its contract: a law of Listing for each way. Assumes nothing.
use borrow.Author.Rules.{rules}
use mathlib.Core.Path.{refl}
use Rattle.pairs.proofs.Listing.{met-used, met-skip, met-unused}
use Rattle.pairs.proofs.near.Nearby.meet.Goals as goal

pub returns-then-arcs-i-ne0 : goal.returns-then-arcs-i-ne0
returns-then-arcs-i-ne0 c =
    let a = c.args in
    rw c.chain.ensures (record { met = λ h. met-used a.arcs.now a.self.now a.i a.left h c.requires.1.1 (search rules) c.if-arcs-i-ne0.true; seen = refl })

pub returns-then-left-eq0 : goal.returns-then-left-eq0
returns-then-left-eq0 c =
    let a = c.args in
    record { met = λ h. met-skip a.arcs.now a.self.now a.i a.left h c.requires.1.1 c.if-arcs-i-ne0.false c.if-left-eq0.true; seen = refl }

pub returns : goal.returns
returns c =
    let a = c.args in
    record { met = λ h. met-unused a.arcs.now a.self.now a.i a.left h c.requires.1.1 (search rules) c.if-arcs-i-ne0.false c.if-left-eq0.false c.or_else-self.result c.or_else-self.ensures; seen = refl }
