-- "Before two fitters work on one tent in turn" (document 02, L13): what is proved beside the request, of every edit, and so of any calls
-- that one fitter makes before the other goes on. A face whose key is still in use is the panel that it was.
use Rattle.std.specs.Prelude.{ℕ, T}
use Rattle.rules.specs.Table.{has}
use Rattle.rules.specs.Mesh.{Mesh, key_at}
use Rattle.rules.specs.Link.{ring_vertices}
use Rattle.proved.specs.Facts.{IsFace}
use Rattle.kept.specs.Reaches.{KeepsKeyAndPosition}
use Rattle.kept.specs.Counters.{InUse}
use Rattle.kept.specs.Unreached.{KeepsFace, KeepsRing}

-- a panel has its record, its ring, and each corner of it where it was
pub record KeepsPanel (m r : Mesh) (g : ℕ) : Type 0 where
  pub its-face : KeepsFace m r g
  pub its-ring : KeepsRing m r g
  pub its-corners : (v : ℕ) → T (has (ring_vertices m g) v) → KeepsKeyAndPosition m r v

-- every panel of m whose key is in use in r
abbrev pub PanelsInUseStay : Mesh → Mesh → Type 0
PanelsInUseStay m r = (g : ℕ) → IsFace m g → InUse r.faces (key_at m.faces g) → KeepsPanel m r g
