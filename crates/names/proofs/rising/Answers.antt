use mathlib.Core.Path.{refl, sym, ◌∙◌}
use native.Mathlib.Omega.{arith}
use Rattle.names.specs.Rising.{last_before, rises}
use Rattle.names.proofs.Loops.{none_yet, one_more, all-passed, one-failed}
use Rattle.names.proofs.Names.{last_more}
use Rattle.names.proofs.rising.Goals as goal

pub loop-i-init : goal.loop-i-init
unfolding last_before
loop-i-init c = (refl, none_yet (rises c.args.names.now))

pub returns-then-not-follows : goal.returns-then-not-follows
unfolding rises
returns-then-not-follows c =
    let a = c.args in
    one-failed (rises a.names.now) a.n c.loop-i.i (omega arith) (rw (← c.loop-i.invariant.0) (sym c.follows.ensures ∙ c.if-not-follows.true))

pub loop-i-preserved : goal.loop-i-preserved
unfolding rises
loop-i-preserved c =
    let a = c.args in
    let i = c.loop-i.invariant in
    (c.or_last-last.ensures ∙ rw i.0 (sym (last_more a.names.now c.loop-i.i)), one_more (rises a.names.now) c.loop-i.i i.1 (rw (← i.0) (sym c.follows.ensures ∙ c.if-not-follows.false)))

pub returns : goal.returns
returns c =
    let a = c.args in
    all-passed (rises a.names.now) a.n c.loop-i.i (omega arith) (omega arith) c.loop-i.invariant.1
