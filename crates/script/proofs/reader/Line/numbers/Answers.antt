-- All numbers are those in hand and then those that are left; the places past those in hand are 0. Each number takes two bytes or more,
-- so there is room.
use Rattle.std.proofs.Common.{Bor, ◌≡◌, ◌<◌, arith, refl, ap, ◌∙◌}
use Rattle.script.proofs.Left.{NumberIs, number_is, hand-begin, hand-room, hand-more, hand-unread, hand-full, hand_end, place-full, place-past-end}
use Rattle.rules.specs.Script.{Text}
use Rattle.script.proofs.reader.Line.numbers.Goals as goal

-- it is the same line
line : (r s : Bor Text) → r ≡ s → r.now ≡ s.now
line r s e = ap (λ (x : Bor Text). x.now) e

pub loop-count-init : goal.loop-count-init
loop-count-init c = (hand-begin _ _ _, refl)

pub returns-in_err-values-clause-value : goal.returns-in_err-values-clause-value
returns-in_err-values-clause-value c =
    c.from_residual.ensures
    ∙ hand-unread _ _ _ _ _ _ c.loop-count.invariant.0 (rw (line _ _ c.loop-count.invariant.1) at c.if-ahead.true) (rw (line _ _ c.loop-count.invariant.1) at c.in_err-values.ensures.value) (λ e. omega (arith, e, c.loop-count-test.true))

-- the number that was read, and room for it
is : (c : goal.In_ok-values) → NumberIs c.args.self.now.text.now c.loop-count.ahead.at c.in_ok-values.field-0 c.number.new.self.at
is c = number_is _ _ _ _ (rw (line _ _ c.loop-count.invariant.1) at c.if-ahead.true) (rw (line _ _ c.loop-count.invariant.1) at c.in_ok-values.ensures.value) (rw (line _ _ c.loop-count.invariant.1) at c.in_ok-values.ensures.place)

room : (c : goal.In_ok-values) → c.loop-count.count < 256
room c = hand-room _ _ _ _ _ _ c.loop-count.invariant.0 _ _ (is c) c.requires

pub bounds-values-count : goal.bounds-values-count
bounds-values-count c = room c

pub loop-count-preserved : goal.loop-count-preserved
loop-count-preserved c = (
  hand-more _ _ _ _ _ _ c.loop-count.invariant.0 _ _ (is c) (room c) (λ e. omega (arith, e, c.loop-count-test.true)),
  c.in_ok-values.ensures.same.same_text ∙ c.loop-count.invariant.1,
)

pub returns-else-ahead-clause-place : goal.returns-else-ahead-clause-place
returns-else-ahead-clause-place c = place-past-end _ _ _ _ _ _ c.loop-count.invariant.0 (rw (line _ _ c.loop-count.invariant.1) at c.if-ahead.false)

pub returns-else-ahead-clause-value : goal.returns-else-ahead-clause-value
returns-else-ahead-clause-value c = hand_end _ _ _ _ _ _ c.loop-count.invariant.0 (rw (line _ _ c.loop-count.invariant.1) at c.if-ahead.false)

pub returns-after-loop-count-clause-place : goal.returns-after-loop-count-clause-place
returns-after-loop-count-clause-place c = place-full _ _ _ _ _ _ c.loop-count.invariant.0 (omega (arith, c.loop-count.invariant.0.few, c.loop-count-test.false))

pub returns-after-loop-count-clause-value : goal.returns-after-loop-count-clause-value
returns-after-loop-count-clause-value c = hand-full _ _ _ _ _ _ c.loop-count.invariant.0 (omega (arith, c.loop-count.invariant.0.few, c.loop-count-test.false))
