-- `checks::insert::named` meets its contract. The tests in their order. Assumes nothing.
use mathlib.Core.Path.{sym, ◌∙◌}
use Rattle.checks.specs.Named.{named_so}
use Rattle.checks.proofs.insert.named.Goals as goal

pub returns-then-malformed : goal.returns-then-malformed
unfolding named_so
returns-then-malformed c = λ vs ar es fs ks. rw (sym c.is_malformed-malformed.ensures ∙ c.if-malformed.true)

pub returns-then-unknown : goal.returns-then-unknown
unfolding named_so
returns-then-unknown c = λ vs ar es fs ks. rw (sym c.is_malformed-malformed.ensures ∙ c.if-malformed.false, sym c.has_from-unknown.ensures ∙ c.if-unknown.true)

pub returns-then-has_hair : goal.returns-then-has_hair
unfolding named_so
returns-then-has_hair c =
    λ vs ar es fs ks.
    rw (sym c.is_malformed-malformed.ensures ∙ c.if-malformed.false, sym c.has_from-unknown.ensures ∙ c.if-unknown.false, sym (rw c.items.ensures.value at (c.has_hair.ensures vs ar es fs ks)) ∙ c.if-has_hair.true)

pub returns : goal.returns
unfolding named_so
returns c =
    λ vs ar es fs ks.
    rw (sym c.is_malformed-malformed.ensures ∙ c.if-malformed.false, sym c.has_from-unknown.ensures ∙ c.if-unknown.false, sym (rw c.items.ensures.value at (c.has_hair.ensures vs ar es fs ks)) ∙ c.if-has_hair.false)
