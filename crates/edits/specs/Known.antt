-- What an edit knows of the tables near it: a list of the arcs that leave its vertices, and rows before which every row is used.
use Rattle.rules.specs.Mesh.{Mesh}
use Rattle.edges.specs.Free.{UsedBefore}
use Rattle.pairs.specs.Near.{Near}
use Rattle.edits.specs.declared.near.Around.{Around}

pub record Known (m : Mesh) (k : Around) : Type 0 where
  pub listed : Near m.arcs k.near
  pub arcs-used : UsedBefore m.arcs k.from.arc
  pub edges-used : UsedBefore m.edges k.from.edge
  pub faces-used : UsedBefore m.faces k.from.face
