-- `order::settle::judged` meets its contract. A refusal stays; else the tables decide. Laws of Settling. Assumes nothing.
use Rattle.std.proofs.Common.{rules}
use mathlib.Core.Path.{◌≡◌, sym, ◌∙◌}
use Rattle.rules.specs.Answer.{Refused}
use Rattle.rules.specs.Lent.{mesh_in, answered}
use Rattle.order.proofs.Settling.{told-refused, told-accepted, told-stands, told-broken}
use Rattle.order.proofs.settle.judged.Goals as goal

pub returns-in_err-done : goal.returns-in_err-done
returns-in_err-done c =
    let x = c.args in
    let refused : answered c.from_residual.result ≡ Refused c.in_err-done.field-0.0 = search rules in
    refused ∙ told-refused (mesh_in x.mesh) x.told c.in_err-done.was

pub sound_after-requires : goal.sound_after-requires
sound_after-requires c = let x = c.args in c.requires (told-accepted (mesh_in x.mesh) x.told c.in_ok-done.was)

pub returns-then-sound_after : goal.returns-then-sound_after
returns-then-sound_after c =
    let x = c.args in
    told-stands (mesh_in x.mesh) x.told c.in_ok-done.was (sym c.sound_after.ensures ∙ c.if-sound_after.true)

pub returns : goal.returns
returns c =
    let x = c.args in
    told-broken (mesh_in x.mesh) x.told c.in_ok-done.was (sym c.sound_after.ensures ∙ c.if-sound_after.false)
