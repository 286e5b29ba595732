use Prim.Native.Nat.{ℕ, ◌-◌}
use native.Mathlib.Omega.{arith}
use mathlib.Core.Path.{ap, sym, ◌∙◌}
use lib.ListN.{get_or}
use Rattle.rules.specs.Mesh.{list_of}
use Rattle.rules.proofs.Ends.{from_end, past_first}
use Rattle.edits.proofs.pieces.item_from_end.Goals as goal

pub returns-then-i-n : goal.returns-then-i-n
returns-then-i-n c = sym (past_first (list_of c.args.list) c.args.i (omega (arith, c.size-n.ensures)))

pub returns : goal.returns
returns c =
    let a = c.args in
    let l = list_of a.list in
    c.item.ensures ∙ ap (λ (n : ℕ). get_or l (n - 1 - a.i) 0) c.size-n.ensures ∙ sym (from_end l a.i (omega (arith, c.size-n.ensures)))
