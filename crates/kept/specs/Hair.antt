-- "A panel with two neighbouring corners at equal positions comes off the plotter as a hair" (document 02, L6): what is proved beside the refusal.
use Rattle.std.specs.Prelude.{ℕ, ◌<◌, not, length, T}
use Rattle.rules.specs.Mesh.{Mesh}
use Rattle.rules.specs.Link.{ring_vertices}
use Rattle.rules.specs.Insert.{in_one_spot}
use Rattle.proved.specs.Demand.{Holds}
use Rattle.proved.specs.Facts.{IsFace}
use Rattle.kept.specs.Reaches.{Apart}

-- no corner of a face is in one spot with the corner after it, the last and first too
abbrev pub NoHair : Mesh → Type 0
NoHair m = (g i : ℕ) → IsFace m g → i < length (ring_vertices m g) → T (not (in_one_spot m (ring_vertices m g) i))

-- every arc that holds a face has its ends apart
abbrev pub HoldersApart : Mesh → Type 0
HoldersApart m = (g x : ℕ) → IsFace m g → Holds m g x → Apart m x
