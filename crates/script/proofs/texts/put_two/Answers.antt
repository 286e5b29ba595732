-- `script::texts::put_two` meets its contract. Two stores are a text of two bytes. Assumes nothing.
use mathlib.Core.Path.{refl}
use Rattle.script.proofs.Writes.{wrote-two}
use Rattle.script.proofs.texts.put_two.Goals as goal

pub returns : goal.returns
returns c =
    record {
      result_after = wrote-two _ _ _ _ c.requires;
      next = refl;
    }
