-- `order::settle::way_of` meets its contract. Each arm by its variants. Assumes nothing.
use Rattle.std.proofs.Common.{rules}
use Rattle.order.specs.Transaction.{way_of}
use Rattle.order.proofs.settle.way_of.Goals as goal

pub returns-in-VertexInsert : goal.returns-in-VertexInsert
unfolding way_of
returns-in-VertexInsert c = search rules

pub returns-in-FaceInsert : goal.returns-in-FaceInsert
unfolding way_of
returns-in-FaceInsert c = search rules
