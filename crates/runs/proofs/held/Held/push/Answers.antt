-- A byte is held unless 513 are.
use Rattle.std.proofs.Common.{ap, sym, ◌∙◌}
use Rattle.runs.specs.Gather.{holding}
use Rattle.runs.proofs.Cutting.{held-full, held_more}
use Rattle.runs.proofs.held.Held.push.Goals as goal

pub returns-then-self-lt-HELD : goal.returns-then-self-lt-HELD
returns-then-self-lt-HELD c =
    held_more c.self.inside.bytes c.self.inside.len c.args.b c.if-self-lt-HELD.true ∙ ap (λ w. holding w c.args.b) c.self.view_is

pub returns-else-self-lt-HELD : goal.returns-else-self-lt-HELD
returns-else-self-lt-HELD c =
    sym c.self.view_is ∙ held-full c.self.inside.bytes c.self.inside.len c.args.b c.if-self-lt-HELD.false ∙ ap (λ w. holding w c.args.b) c.self.view_is
