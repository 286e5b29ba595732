-- `order::decide::decide` meets its contract. The tests in their order; laws of Deciding. Assumes nothing.
use Rattle.std.proofs.Common.{rules}
use mathlib.Core.Path.{◌≡◌, sym, ◌∙◌}
use Rattle.rules.specs.Answer.{Refused}
use Rattle.rules.specs.Lent.{mesh_in, allowed}
use Rattle.checks.proofs.Pairs.{given-few}
use Rattle.order.proofs.Deciding.{not-given, checks-refuse, not-moves, not-room, all-passed}
use Rattle.order.proofs.decide.decide.Goals as goal

pub returns-then-not-given : goal.returns-then-not-given
returns-then-not-given c =
    let x = c.args in
    not-given (mesh_in x.mesh) x.edit x.keys.now (sym c.given.ensures ∙ c.if-not-given.true)

pub returns-in_err-checks_of : goal.returns-in_err-checks_of
returns-in_err-checks_of c =
    let x = c.args in
    let given = sym c.given.ensures ∙ c.if-not-given.false in
    let refused : allowed c.from_residual.result ≡ Refused c.in_err-checks_of.field-0.0 = search rules in
    refused ∙ checks-refuse (mesh_in x.mesh) x.edit x.keys.now given (c.in_err-checks_of.ensures (given-few x.edit x.keys.now given))

pub returns-then-not-moves_finite : goal.returns-then-not-moves_finite
returns-then-not-moves_finite c =
    let x = c.args in
    let given = sym c.given.ensures ∙ c.if-not-given.false in
    not-moves (mesh_in x.mesh) x.edit x.keys.now given (c.in_ok-checks_of.ensures (given-few x.edit x.keys.now given)) (sym c.moves_finite.ensures ∙ c.if-not-moves_finite.true)

pub returns-then-not-has_room : goal.returns-then-not-has_room
returns-then-not-has_room c =
    let x = c.args in
    let given = sym c.given.ensures ∙ c.if-not-given.false in
    let few = given-few x.edit x.keys.now given in
    not-room (mesh_in x.mesh) x.edit x.keys.now given (c.in_ok-checks_of.ensures few) (sym c.moves_finite.ensures ∙ c.if-not-moves_finite.false) (sym (c.has_room.ensures few) ∙ c.if-not-has_room.true)

pub returns : goal.returns
returns c =
    let x = c.args in
    let given = sym c.given.ensures ∙ c.if-not-given.false in
    let few = given-few x.edit x.keys.now given in
    all-passed (mesh_in x.mesh) x.edit x.keys.now given (c.in_ok-checks_of.ensures few) (sym c.moves_finite.ensures ∙ c.if-not-moves_finite.false) (sym (c.has_room.ensures few) ∙ c.if-not-has_room.false)
