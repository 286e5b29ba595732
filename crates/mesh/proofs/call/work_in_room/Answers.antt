use Rattle.rules.specs.Lent.{mesh_of}
use Rattle.mesh.proofs.Calling.{few-keys}
use Rattle.mesh.proofs.call.work_in_room.Goals as goal

pub list_near-requires : goal.list_near-requires
list_near-requires c = few-keys (mesh_of c.args.mesh.now) c.args.edit c.args.keys.now c.requires.begun.passed
