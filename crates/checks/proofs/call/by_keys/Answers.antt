-- `checks::call::by_keys` meets its contract. At most 64 keys are read back as they are; per-back of Pairs. Assumes nothing.
use Rattle.rules.specs.Mesh.{mesh}
use Rattle.checks.proofs.Pairs.{per-back}
use Rattle.checks.proofs.call.by_keys.Goals as goal

pub returns : goal.returns
returns c =
    let a = c.args in
    λ few ps ar es fs ks. per-back (mesh a.vertices.now ps ar es fs ks) a.keys.now few c.from_keys.result c.from_keys.ensures c.vertices_by_keys.result c.vertices_by_keys.ensures
