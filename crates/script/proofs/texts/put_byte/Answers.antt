-- `script::texts::put_byte` meets its contract. A store is a text of one byte. Assumes nothing.
use mathlib.Core.Path.{refl}
use Rattle.script.proofs.Writes.{wrote-byte}
use Rattle.script.proofs.texts.put_byte.Goals as goal

pub returns : goal.returns
returns c =
    record {
      result_after = wrote-byte _ _ _ c.requires;
      next = refl;
    }
