-- A whole input in the chunks in which it is read, on tables of 64 vertices, 128 edges and 64 faces.
use Rattle.std.specs.Prelude.{List, [], ◌∷◌, ◌++◌, replicate}
use Rattle.rules.specs.Records.{records}
use Rattle.rules.specs.Dump.{records_text}
use Rattle.rules.specs.Script.{Text, empty_room, empty_mesh, checked_end}
use Rattle.script.specs.Texts.{Written, written}
use Rattle.runs.specs.Gather.{most_held, Cut, cut, cut_all, lacking}
use Rattle.runs.specs.Feed.{Feeding, unwritten, fed, prefixed}

-- the chunks as one text
unfoldable pub joined : List Text → Text
joined [] = []
joined (chunk ∷ chunks) = chunk ++ joined chunks

-- no byte of a line is held
abbrev pub fresh : Written
fresh = written (replicate most_held 0) 0

-- ---- the lines alone

unfoldable pub one_more_line : List Text → Text → List Text
one_more_line ls line = ls ++ (line ∷ [])

-- chunk by chunk, and at the end of the input the newline that an unended line lacks
unfoldable pub cut_chunks {ℓ} : {A : Type ℓ} → (A → Text → A) → Cut A → List Text → Cut A
cut_chunks f s [] = cut_all f s (lacking s.line.next)
cut_chunks f s (chunk ∷ chunks) = cut_chunks f (cut_all f s chunk) chunks

unfoldable pub lines_cut : List Text → List Text
lines_cut chunks = (cut_chunks one_more_line (cut [] fresh) chunks).done

-- ---- the program

-- a chunk: what is written for it comes after what was written before
unfoldable pub chunk_fed : Feeding → Text → Feeding
chunk_fed s chunk = prefixed s.done.text (fed (unwritten s.done.mesh s.done.one s.done.two s.line) chunk)

unfoldable pub input_fed : Feeding → List Text → Feeding
input_fed s [] = chunk_fed s (lacking s.line.next)
input_fed s (chunk ∷ chunks) = input_fed (chunk_fed s chunk) chunks

-- no record, nothing written
unfoldable pub begin : Feeding
begin = unwritten (empty_mesh 64 128 64) (empty_room 64 128 64) (empty_room 64 128 64) fresh

-- what meshrun writes, and what meshdump writes
unfoldable pub meshrun_writes : List Text → Text
meshrun_writes chunks = let s = (input_fed begin chunks).done in s.text ++ checked_end s.mesh

unfoldable pub meshdump_writes : List Text → Text
meshdump_writes chunks = let s = (input_fed begin chunks).done in s.text ++ (records_text (records s.mesh) ++ checked_end s.mesh)
