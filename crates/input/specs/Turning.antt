-- What a turn leaves, also where its read or its write fails.
use Rattle.std.specs.Prelude.{◌≡◌}
use Rattle.rules.specs.Mesh.{Mesh, Room}
use Rattle.rules.specs.Script.{Text}
use Rattle.script.specs.Texts.{Written}
use Rattle.runs.specs.Run.{ran}
use Rattle.runs.specs.Feed.{fed, unwritten}

-- the mesh and both rooms are as the lines left them that end in some bytes, fed behind the line that was held: none where nothing was read
abbrev pub LeftBySome : Mesh → Room → Room → Written → Mesh → Room → Room → Type 0
LeftBySome m one two line m' one' two' = (bytes : Text) × ((text : Text) × ((fed (unwritten m one two line) bytes).done ≡ ran text m' one' two'))
