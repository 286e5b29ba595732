use mathlib.Core.Path.{ap}
use lib.ListN.{get_or}
use Rattle.rules.specs.Answer.{Key}
use Rattle.rules.specs.Mesh.{Mesh}
use Rattle.rules.specs.Step.{step}
use Rattle.makers.specs.Makers.{work_by}
use Rattle.edges.proofs.Searches.{used-none}
use Rattle.choice.proofs.vertex_insert.Goals as goal

pub new_vertex-requires : goal.new_vertex-requires
new_vertex-requires c = used-none _

pub returns-clause-told : goal.returns-clause-told
unfolding work_by
returns-clause-told c =
    λ ks. ap (λ (m : Mesh). step m (Key (get_or c.args.mesh.now.counters.now 0 0))) c.new_vertex.ensures.vertex
