-- `bodies::records::LaidFile::keys_rise` meets its contract. The loop keeps what is asked of the kinds that are left. Assumes nothing.
use mathlib.Core.Path.{◌≡◌}
use lib.ListN.{drop}
use Rattle.file.specs.File.{key_cells, contents_in, all_rise}
use Rattle.bodies.proofs.records.LaidFile.keys_rise.Given as goal

abbrev pub invariant-loop-kind : goal.invariant-loop-kind
invariant-loop-kind l =
    all_rise key_cells (contents_in l.self.text.now).bodies ≡ all_rise (drop l.kind-index key_cells) (drop l.kind-index (contents_in l.self.text.now).bodies)
