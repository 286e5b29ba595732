-- `bodies::records::LaidFile::of` meets its contract. A `&[u8]` is made of bytes. Assumes nothing.
use borrow.Author.Rules.{rules}
use mathlib.Core.Path.{sym, ◌∙◌}
use Rattle.proved.proofs.Rows.{true-T}
use Rattle.file.proofs.Whole.{long-enough}
use Rattle.bodies.proofs.Numbers.{all-bytes}
use Rattle.bodies.proofs.records.LaidFile.of.Goals as goal

pub offsets_stand-requires : goal.offsets_stand-requires
offsets_stand-requires c = long-enough c.args.text.now c.requires

pub invariant_of-result : goal.invariant_of-result
invariant_of-result c =
    record {
      laid = record {
        bytes = all-bytes c.args.text.now (search rules);
        fits = c.requires;
        stands = true-T (sym c.offsets_stand.ensures ∙ c.if-not-offsets_stand.false);
      };
    }
