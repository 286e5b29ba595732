-- `sound::faces::walked_length` meets its contract: the loop keeps what is known of the arcs passed, and each way out tells of the ring; laws of
-- RingLinked. Assumes nothing.
use Prim.Native.Nat.{ℕ}
use native.Mathlib.Omega.{arith}
use mathlib.Core.Path.{◌≡◌, sym, subst, ◌∙◌}
use lib.ListN.{get_or}
use Rattle.rules.specs.Table.{cell}
use Rattle.sound.specs.Rings.{LengthIs}
use Rattle.sound.proofs.RingLinked.{going_start, going_on, row-none, row-some, past-out, row_out, met-out, apart_out, back-out, end-out}
use Rattle.sound.proofs.faces.walked_length.Goals as goal

pub loop-n-init : goal.loop-n-init
loop-n-init c =
    let a = c.args in
    going_start a.arcs.now a.first a.f a.sources.now c.cell-back.result c.cell-start.result c.told-sources c.cell-back.ensures c.cell-start.ensures

pub returns-in_err-row : goal.returns-in_err-row
returns-in_err-row c =
    let a = c.args in
    λ m ea ef. rw c.from_residual.ensures (past-out a.arcs.now a.first a.f c.loop-n.sources c.loop-n.n c.loop-n.x c.loop-n.before c.loop-n.end c.loop-n.invariant (row-none a.arcs.now c.loop-n.x (sym c.in_err-row.was ∙ c.row_of.ensures)) m ea ef)

pub returns-then-not-ring_row : goal.returns-then-not-ring_row
returns-then-not-ring_row c =
    let a = c.args in
    let r = c.in_ok-row.row in
    let er : (k : ℕ) → get_or r k 0 ≡ cell a.arcs.now c.loop-n.x k = row-some a.arcs.now c.loop-n.x r (sym c.in_ok-row.was ∙ c.row_of.ensures) in
    row_out a.arcs.now a.first a.f c.loop-n.sources c.loop-n.n c.loop-n.x c.loop-n.before c.loop-n.end c.loop-n.invariant r er (sym c.ring_row.ensures ∙ c.if-not-ring_row.true)

pub returns-then-not-meets_first : goal.returns-then-not-meets_first
returns-then-not-meets_first c =
    let a = c.args in
    let r = c.in_ok-row.row in
    let er : (k : ℕ) → get_or r k 0 ≡ cell a.arcs.now c.loop-n.x k = row-some a.arcs.now c.loop-n.x r (sym c.in_ok-row.was ∙ c.row_of.ensures) in
    met-out a.arcs.now a.first a.f c.loop-n.sources c.loop-n.n c.loop-n.x c.loop-n.before c.loop-n.end c.loop-n.invariant r er (omega arith) (sym c.ring_row.ensures ∙ c.if-not-ring_row.false) c.cell-back.result c.cell-start.result c.cell-back.ensures c.cell-start.ensures c.if-x-first.true (sym c.meets_first.ensures ∙ c.if-not-meets_first.true)

pub returns-then-not-sources_apart : goal.returns-then-not-sources_apart
returns-then-not-sources_apart c =
    let a = c.args in
    let r = c.in_ok-row.row in
    let er : (k : ℕ) → get_or r k 0 ≡ cell a.arcs.now c.loop-n.x k = row-some a.arcs.now c.loop-n.x r (sym c.in_ok-row.was ∙ c.row_of.ensures) in
    apart_out a.arcs.now a.first a.f c.loop-n.sources c.loop-n.n c.loop-n.x c.loop-n.before c.loop-n.end c.loop-n.invariant r er (omega arith) (sym c.ring_row.ensures ∙ c.if-not-ring_row.false) c.cell-back.result c.cell-start.result c.cell-back.ensures c.cell-start.ensures c.if-x-first.true (sym c.sources_apart.ensures ∙ c.if-not-sources_apart.true)

pub returns-then-x-first : goal.returns-then-x-first
returns-then-x-first c =
    let a = c.args in
    let r = c.in_ok-row.row in
    let er : (k : ℕ) → get_or r k 0 ≡ cell a.arcs.now c.loop-n.x k = row-some a.arcs.now c.loop-n.x r (sym c.in_ok-row.was ∙ c.row_of.ensures) in
    λ m ea ef. subst (λ (z : ℕ). LengthIs z c.three_or_none.result) (back-out a.arcs.now a.first a.f c.loop-n.sources c.loop-n.n c.loop-n.x c.loop-n.before c.loop-n.end c.loop-n.invariant r er (omega arith) (sym c.ring_row.ensures ∙ c.if-not-ring_row.false) c.cell-back.result c.cell-start.result c.cell-back.ensures c.cell-start.ensures c.if-x-first.true (sym c.meets_first.ensures ∙ c.if-not-meets_first.false) (sym c.sources_apart.ensures ∙ c.if-not-sources_apart.false) m ea ef) c.three_or_none.ensures

pub loop-n-preserved : goal.loop-n-preserved
loop-n-preserved c =
    let a = c.args in
    let r = c.in_ok-row.row in
    let er : (k : ℕ) → get_or r k 0 ≡ cell a.arcs.now c.loop-n.x k = row-some a.arcs.now c.loop-n.x r (sym c.in_ok-row.was ∙ c.row_of.ensures) in
    going_on a.arcs.now a.first a.f c.loop-n.sources c.loop-n.n c.loop-n.x c.loop-n.before c.loop-n.end c.loop-n.invariant r er (omega arith) (sym c.ring_row.ensures ∙ c.if-not-ring_row.false) c.if-x-first.false

pub returns : goal.returns
returns c = let a = c.args in end-out a.arcs.now a.first a.f c.loop-n.sources c.loop-n.n c.loop-n.x c.loop-n.before c.loop-n.end c.loop-n.invariant (omega arith)
