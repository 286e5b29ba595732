-- What the script programs wrote before the check was made at their end, as document 01 has it, on tables of so many vertices, edges and faces.
use Rattle.std.specs.Prelude.{ℕ, ◌++◌}
use Rattle.rules.specs.Records.{records}
use Rattle.rules.specs.Dump.{records_text}
use Rattle.rules.specs.Script.{Text, after_script, end_text}

-- meshrun: the answers, and last `end` with the counts
unfoldable pub program_unchecked : ℕ → ℕ → ℕ → Text → Text
program_unchecked vertices edges faces input = let s = after_script vertices edges faces input in s.written ++ end_text s.mesh

-- meshdump: the answers, all records, and last `end` with the counts
unfoldable pub dumped_unchecked : ℕ → ℕ → ℕ → Text → Text
dumped_unchecked vertices edges faces input =
    let s = after_script vertices edges faces input in
    s.written ++ (records_text (records s.mesh) ++ end_text s.mesh)
