-- The loop keeps how far both searches have come, and each way out is an end of both; laws of Seeking.
-- Assumes nothing.
use Prim.Native.Nat.{ℕ}
use mathlib.Core.Path.{refl, sym, ◌∙◌}
use mathlib.Core.List.{List, ◌++◌}
use mathlib.Core.Logic.{inr}
use lib.ListN.{length}
use Rattle.std.specs.Option.{is_some, unwrap_or}
use Rattle.rules.specs.Mesh.{opposite_of}
use Rattle.rules.specs.Link.{turn_in}
use Rattle.makers.specs.Search.{held_in, out_from, back_from}
use Rattle.insert.proofs.Seeking.{start-out, start_back, turned, comes-end, comes-none, tested, tested-done, tested-closed, tested-circle, tested-on}
use borrow.Author.Rules.{rules}
use Rattle.insert.proofs.search.free_arcs.Goals as goal

pub loop-k-init : goal.loop-k-init
loop-k-init c =
    let a = c.args in
    let soon : List ℕ = a.mine.now ++ a.others.now in
    (search rules, (inr (refl, refl, start-out a.arcs.now a.edges.now soon a.first), inr (refl, refl, start_back a.arcs.now a.edges.now soon a.first)))

pub loop-k-preserved : goal.loop-k-preserved
loop-k-preserved c =
    let a = c.args in
    let soon : List ℕ = a.mine.now ++ a.others.now in
    let o = c.opposite-o in
    let t = c.tried-out.result in
    let u = c.tried-back.result in
    let on = c.loop-k-test.true in
    let some = c.if-x-eq0.false in
    let h = c.is_held in
    let g = c.is_held-in-loop-k in
    let y = c.cell-x in
    let ey = (turned a.arcs.now a.edges.now soon a.first c.loop-k.x o.result y.result o.ensures y.ensures) in
    (search rules, (tested-on (held_in a.arcs.now soon) (λ x. x) (turn_in a.arcs.now a.edges.now) a.first (length a.arcs.now) (out_from a.arcs.now a.edges.now soon a.first) c.loop-k.k c.loop-k.x c.loop-k.saved h.result (is_some t) (unwrap_or t 0) (let soon : List ℕ = a.mine.now ++ a.others.now in let t9 = c.tried-out in let h9 = c.is_held in tested (held_in a.arcs.now soon) (λ x. x) (turn_in a.arcs.now a.edges.now) a.first (length a.arcs.now) (out_from a.arcs.now a.edges.now soon a.first) c.loop-k.k c.loop-k.x c.loop-k.saved (is_some c.loop-k.out) (unwrap_or c.loop-k.out 0) c.loop-k.invariant.1.0 c.loop-k-test.true c.if-x-eq0.false c.loop-k.x refl h9.result h9.ensures (is_some t9.result) (unwrap_or t9.result 0) t9.ensures) on some c.loop-k.x refl h.ensures y.result ey c.if-x-first.false c.saved_at-saved.result c.saved_at-saved.ensures, tested-on (held_in a.arcs.now soon) (opposite_of a.arcs.now a.edges.now) (turn_in a.arcs.now a.edges.now) a.first (length a.arcs.now) (back_from a.arcs.now a.edges.now soon a.first) c.loop-k.k c.loop-k.x c.loop-k.saved g.result (is_some u) (unwrap_or u 0) (let soon : List ℕ = a.mine.now ++ a.others.now in let t9 = c.tried-back in let h9 = c.is_held-in-loop-k in let o9 = c.opposite-o in tested (held_in a.arcs.now soon) (opposite_of a.arcs.now a.edges.now) (turn_in a.arcs.now a.edges.now) a.first (length a.arcs.now) (back_from a.arcs.now a.edges.now soon a.first) c.loop-k.k c.loop-k.x c.loop-k.saved (is_some c.loop-k.back) (unwrap_or c.loop-k.back 0) c.loop-k.invariant.1.1 c.loop-k-test.true c.if-x-eq0.false o9.result o9.ensures h9.result h9.ensures (is_some t9.result) (unwrap_or t9.result 0) t9.ensures) on some o.result o.ensures g.ensures y.result ey c.if-x-first.false c.saved_at-saved.result c.saved_at-saved.ensures))

pub returns-after-loop-k : goal.returns-after-loop-k
returns-after-loop-k c =
    let a = c.args in
    let soon : List ℕ = a.mine.now ++ a.others.now in
    (comes-end (held_in a.arcs.now soon) (λ x. x) (turn_in a.arcs.now a.edges.now) a.first (length a.arcs.now) (out_from a.arcs.now a.edges.now soon a.first) c.loop-k.k c.loop-k.x c.loop-k.saved (is_some c.loop-k.out) (unwrap_or c.loop-k.out 0) c.loop-k.invariant.1.0 c.loop-k-test.false, comes-end (held_in a.arcs.now soon) (opposite_of a.arcs.now a.edges.now) (turn_in a.arcs.now a.edges.now) a.first (length a.arcs.now) (back_from a.arcs.now a.edges.now soon a.first) c.loop-k.k c.loop-k.x c.loop-k.saved (is_some c.loop-k.back) (unwrap_or c.loop-k.back 0) c.loop-k.invariant.1.1 c.loop-k-test.false)

pub returns-then-x-eq0 : goal.returns-then-x-eq0
returns-then-x-eq0 c =
    let a = c.args in
    let soon : List ℕ = a.mine.now ++ a.others.now in
    (comes-none (held_in a.arcs.now soon) (λ x. x) (turn_in a.arcs.now a.edges.now) a.first (length a.arcs.now) (out_from a.arcs.now a.edges.now soon a.first) c.loop-k.k c.loop-k.x c.loop-k.saved (is_some c.loop-k.out) (unwrap_or c.loop-k.out 0) c.loop-k.invariant.1.0 c.if-x-eq0.true, comes-none (held_in a.arcs.now soon) (opposite_of a.arcs.now a.edges.now) (turn_in a.arcs.now a.edges.now) a.first (length a.arcs.now) (back_from a.arcs.now a.edges.now soon a.first) c.loop-k.k c.loop-k.x c.loop-k.saved (is_some c.loop-k.back) (unwrap_or c.loop-k.back 0) c.loop-k.invariant.1.1 c.if-x-eq0.true)

pub returns-then-is_some-2 : goal.returns-then-is_some-2
returns-then-is_some-2 c =
    let a = c.args in
    let soon : List ℕ = a.mine.now ++ a.others.now in
    let o = c.opposite-o in
    let t = c.tried-out.result in
    let u = c.tried-back.result in
    let on = c.loop-k-test.true in
    let some = c.if-x-eq0.false in
    let h = c.is_held in
    let g = c.is_held-in-loop-k in
    let one = sym c.is_some.ensures ∙ c.if-is_some.true in
    let other = sym c.is_some-then-is_some.ensures ∙ c.if-is_some-2.true in
    (tested-done (held_in a.arcs.now soon) (λ x. x) (turn_in a.arcs.now a.edges.now) a.first (length a.arcs.now) (out_from a.arcs.now a.edges.now soon a.first) c.loop-k.k c.loop-k.x c.loop-k.saved h.result (is_some t) (unwrap_or t 0) (let soon : List ℕ = a.mine.now ++ a.others.now in let t9 = c.tried-out in let h9 = c.is_held in tested (held_in a.arcs.now soon) (λ x. x) (turn_in a.arcs.now a.edges.now) a.first (length a.arcs.now) (out_from a.arcs.now a.edges.now soon a.first) c.loop-k.k c.loop-k.x c.loop-k.saved (is_some c.loop-k.out) (unwrap_or c.loop-k.out 0) c.loop-k.invariant.1.0 c.loop-k-test.true c.if-x-eq0.false c.loop-k.x refl h9.result h9.ensures (is_some t9.result) (unwrap_or t9.result 0) t9.ensures) one, tested-done (held_in a.arcs.now soon) (opposite_of a.arcs.now a.edges.now) (turn_in a.arcs.now a.edges.now) a.first (length a.arcs.now) (back_from a.arcs.now a.edges.now soon a.first) c.loop-k.k c.loop-k.x c.loop-k.saved g.result (is_some u) (unwrap_or u 0) (let soon : List ℕ = a.mine.now ++ a.others.now in let t9 = c.tried-back in let h9 = c.is_held-in-loop-k in let o9 = c.opposite-o in tested (held_in a.arcs.now soon) (opposite_of a.arcs.now a.edges.now) (turn_in a.arcs.now a.edges.now) a.first (length a.arcs.now) (back_from a.arcs.now a.edges.now soon a.first) c.loop-k.k c.loop-k.x c.loop-k.saved (is_some c.loop-k.back) (unwrap_or c.loop-k.back 0) c.loop-k.invariant.1.1 c.loop-k-test.true c.if-x-eq0.false o9.result o9.ensures h9.result h9.ensures (is_some t9.result) (unwrap_or t9.result 0) t9.ensures) other)

pub returns-then-x-first : goal.returns-then-x-first
returns-then-x-first c =
    let a = c.args in
    let soon : List ℕ = a.mine.now ++ a.others.now in
    let o = c.opposite-o in
    let t = c.tried-out.result in
    let u = c.tried-back.result in
    let on = c.loop-k-test.true in
    let some = c.if-x-eq0.false in
    let h = c.is_held in
    let g = c.is_held-in-loop-k in
    let y = c.cell-x in
    let ey = (turned a.arcs.now a.edges.now soon a.first c.loop-k.x o.result y.result o.ensures y.ensures) in
    (tested-closed (held_in a.arcs.now soon) (λ x. x) (turn_in a.arcs.now a.edges.now) a.first (length a.arcs.now) (out_from a.arcs.now a.edges.now soon a.first) c.loop-k.k c.loop-k.x c.loop-k.saved h.result (is_some t) (unwrap_or t 0) (let soon : List ℕ = a.mine.now ++ a.others.now in let t9 = c.tried-out in let h9 = c.is_held in tested (held_in a.arcs.now soon) (λ x. x) (turn_in a.arcs.now a.edges.now) a.first (length a.arcs.now) (out_from a.arcs.now a.edges.now soon a.first) c.loop-k.k c.loop-k.x c.loop-k.saved (is_some c.loop-k.out) (unwrap_or c.loop-k.out 0) c.loop-k.invariant.1.0 c.loop-k-test.true c.if-x-eq0.false c.loop-k.x refl h9.result h9.ensures (is_some t9.result) (unwrap_or t9.result 0) t9.ensures) on some c.loop-k.x refl h.ensures y.result ey c.if-x-first.true, tested-closed (held_in a.arcs.now soon) (opposite_of a.arcs.now a.edges.now) (turn_in a.arcs.now a.edges.now) a.first (length a.arcs.now) (back_from a.arcs.now a.edges.now soon a.first) c.loop-k.k c.loop-k.x c.loop-k.saved g.result (is_some u) (unwrap_or u 0) (let soon : List ℕ = a.mine.now ++ a.others.now in let t9 = c.tried-back in let h9 = c.is_held-in-loop-k in let o9 = c.opposite-o in tested (held_in a.arcs.now soon) (opposite_of a.arcs.now a.edges.now) (turn_in a.arcs.now a.edges.now) a.first (length a.arcs.now) (back_from a.arcs.now a.edges.now soon a.first) c.loop-k.k c.loop-k.x c.loop-k.saved (is_some c.loop-k.back) (unwrap_or c.loop-k.back 0) c.loop-k.invariant.1.1 c.loop-k-test.true c.if-x-eq0.false o9.result o9.ensures h9.result h9.ensures (is_some t9.result) (unwrap_or t9.result 0) t9.ensures) on some o.result o.ensures g.ensures y.result ey c.if-x-first.true)

pub returns-then-x-saved : goal.returns-then-x-saved
returns-then-x-saved c =
    let a = c.args in
    let soon : List ℕ = a.mine.now ++ a.others.now in
    let o = c.opposite-o in
    let t = c.tried-out.result in
    let u = c.tried-back.result in
    let on = c.loop-k-test.true in
    let some = c.if-x-eq0.false in
    let h = c.is_held in
    let g = c.is_held-in-loop-k in
    let y = c.cell-x in
    let ey = (turned a.arcs.now a.edges.now soon a.first c.loop-k.x o.result y.result o.ensures y.ensures) in
    (tested-circle (held_in a.arcs.now soon) (λ x. x) (turn_in a.arcs.now a.edges.now) a.first (length a.arcs.now) (out_from a.arcs.now a.edges.now soon a.first) c.loop-k.k c.loop-k.x c.loop-k.saved h.result (is_some t) (unwrap_or t 0) (let soon : List ℕ = a.mine.now ++ a.others.now in let t9 = c.tried-out in let h9 = c.is_held in tested (held_in a.arcs.now soon) (λ x. x) (turn_in a.arcs.now a.edges.now) a.first (length a.arcs.now) (out_from a.arcs.now a.edges.now soon a.first) c.loop-k.k c.loop-k.x c.loop-k.saved (is_some c.loop-k.out) (unwrap_or c.loop-k.out 0) c.loop-k.invariant.1.0 c.loop-k-test.true c.if-x-eq0.false c.loop-k.x refl h9.result h9.ensures (is_some t9.result) (unwrap_or t9.result 0) t9.ensures) on some c.loop-k.x refl h.ensures y.result ey c.if-x-first.false c.if-x-saved.true, tested-circle (held_in a.arcs.now soon) (opposite_of a.arcs.now a.edges.now) (turn_in a.arcs.now a.edges.now) a.first (length a.arcs.now) (back_from a.arcs.now a.edges.now soon a.first) c.loop-k.k c.loop-k.x c.loop-k.saved g.result (is_some u) (unwrap_or u 0) (let soon : List ℕ = a.mine.now ++ a.others.now in let t9 = c.tried-back in let h9 = c.is_held-in-loop-k in let o9 = c.opposite-o in tested (held_in a.arcs.now soon) (opposite_of a.arcs.now a.edges.now) (turn_in a.arcs.now a.edges.now) a.first (length a.arcs.now) (back_from a.arcs.now a.edges.now soon a.first) c.loop-k.k c.loop-k.x c.loop-k.saved (is_some c.loop-k.back) (unwrap_or c.loop-k.back 0) c.loop-k.invariant.1.1 c.loop-k-test.true c.if-x-eq0.false o9.result o9.ensures h9.result h9.ensures (is_some t9.result) (unwrap_or t9.result 0) t9.ensures) on some o.result o.ensures g.ensures y.result ey c.if-x-first.false c.if-x-saved.true)
