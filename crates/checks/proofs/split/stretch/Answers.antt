-- `checks::split::stretch` meets its contract. Parts of a slice; laws of Stretches. Assumes nothing.
use Prim.Native.Nat.{◌+◌, min}
use native.Mathlib.Omega.{arith}
use mathlib.Core.Path.{◌≡◌, ap, ◌∙◌}
use lib.ListN.{length}
use Rattle.rules.specs.Mesh.{links_of}
use Rattle.rules.specs.Edit as Edit
use Rattle.checks.proofs.Stretches.{round-parts, straight-part}
use Rattle.checks.proofs.split.stretch.Goals as goal

pub returns-then-j-i : goal.returns-then-j-i
returns-then-j-i c =
    let a = c.args in
    let all = c.items-all in
    let end : c.min.result ≡ min (a.j + 1) (length all.result.now) = omega (arith, c.min.ensures, c.saturating_add.ensures, all.ensures.few) in
    let part = round-parts all.result.now a.i a.j c.min.result end c.min-then-j-i.result c.if-j-i.true c.min-then-j-i.ensures in
    c.joined.ensures ∙ ap links_of part ∙ ap (λ l. links_of (Edit.stretch l a.i a.j)) all.ensures.value

pub returns : goal.returns
returns c =
    let a = c.args in
    let all = c.items-all in
    let end : c.min.result ≡ min (a.j + 1) (length all.result.now) = omega (arith, c.min.ensures, c.saturating_add.ensures, all.ensures.few) in
    let part = straight-part all.result.now a.i a.j c.min.result end c.min-2.result c.if-j-i.false c.min-2.ensures in
    c.from_keys.ensures ∙ ap links_of part ∙ ap (λ l. links_of (Edit.stretch l a.i a.j)) all.ensures.value
