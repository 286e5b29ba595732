-- Both moves on coordinates that no script line can say, with what the oracle, which runs the Rust, prints: its stored case, of two scales with
-- each operation rounded once and a shift that is refused; and two shifts whose sums are rounded.
use Prim.Native.String.{String}
use Rattle.std.specs.Prelude.{List, [], ◌∷◌, ◌++◌}
use Rattle.std.specs.Float.{binary64}
use Rattle.std.specs.Float.Ieee.{of_bits}
use Rattle.rules.specs.declared.Move.TheVariants.{Shift, Scale}
use Rattle.rules.specs.declared.Edit.TheVariants.{VertexInsert, FaceInsert, FaceExtrude, ArcExtrude}
use Rattle.rules.specs.Mesh.{Room}
use Rattle.rules.specs.Point.{position}
use Rattle.rules.specs.Records.{records}
use Rattle.rules.specs.Script.{Text, State, state, Line, says, after_line, empty_room, empty_mesh, end_text}
use Rattle.rules.specs.Dump.{records_text}

unfoldable pub scales : List Line
scales =
    says (VertexInsert (position (of_bits binary64 4591870180066957722) (of_bits binary64 4596373779694328218) (of_bits binary64 4599075939470750515))) []
    ∷ says (VertexInsert (position (of_bits binary64 4616189618054758400) (of_bits binary64 0) (of_bits binary64 0))) []
    ∷ says (VertexInsert (position (of_bits binary64 0) (of_bits binary64 4616189618054758400) (of_bits binary64 9214364837600034815))) []
    ∷ says (FaceInsert 7) (0 ∷ 1 ∷ 2 ∷ [])
    ∷ says (FaceExtrude 0 (Scale (of_bits binary64 4591870180066957722) (of_bits binary64 4607182418800017408) (of_bits binary64 4613937818241073152) (of_bits binary64 4599075939470750515))) []
    ∷ says (ArcExtrude 1 0 (Scale (of_bits binary64 4617315517961601024) (of_bits binary64 4604480259023595110) (of_bits binary64 9223372036854775808) (of_bits binary64 4607632778762754458))) []
    ∷ says (ArcExtrude 6 7 (Shift (of_bits binary64 4591870180066957722) (of_bits binary64 4596373779694328218) (of_bits binary64 1))) []
    ∷ []

unfoldable pub shifts : List Line
shifts =
    says (VertexInsert (position (of_bits binary64 4591870180066957722) (of_bits binary64 4596373779694328218) (of_bits binary64 4599075939470750515))) []
    ∷ says (VertexInsert (position (of_bits binary64 4616189618054758400) (of_bits binary64 0) (of_bits binary64 0))) []
    ∷ says (VertexInsert (position (of_bits binary64 0) (of_bits binary64 4616189618054758400) (of_bits binary64 0))) []
    ∷ says (FaceInsert 7) (0 ∷ 1 ∷ 2 ∷ [])
    ∷ says (FaceExtrude 0 (Shift (of_bits binary64 4591870180066957722) (of_bits binary64 4596373779694328218) (of_bits binary64 4607182418800017409))) []
    ∷ says (ArcExtrude 1 0 (Shift (of_bits binary64 4604480259023595110) (of_bits binary64 13822447976325526323) (of_bits binary64 4591870180066957722))) []
    ∷ []

unfoldable pub after_said : Room → State → List Line → State
after_said r s [] = s
after_said r s (l ∷ ls) = after_said r (after_line r s l) ls

-- the answers, all records and the counts, on tables of 11 vertices, 20 edges, 9 faces
unfoldable pub dumped_after : List Line → Text
dumped_after lines =
    let s = after_said (empty_room 11 20 9) (state [] (empty_mesh 11 20 9)) lines in
    s.written ++ (records_text (records s.mesh) ++ end_text s.mesh)

abbrev pub scales_printed : String
scales_printed =
    "ok 0\nok 1\nok 2\nok 0\nok 1\nok 6 7\nno 5\nV 0 0x3fb999999999999a 0x3fc999999999999a 0x3fd3333333333333 0 6\nV 1 0x4010000000000000 0x0000000000000000 0x0000000000000000 1 7\nV 2 0x0000000000000000 0x4010000000000000 0x7fdfffffffffffff 2 4\nV 3 0x3ff451eb851eb852 0x3fe6666666666666 0x4000cccccccccccd 3 1\nV 4 0x3fb1eb851eb851ec 0x3ffe666666666666 0x7fc3333333333332 4 2\nV 5 0x3fb999999999999a 0x3fe851eb851eb852 0x4001851eb851eb85 5 0\nV 6 0xbfd8f5c28f5c2900 0x3fc3333333333334 0x3fd51eb851eb851f 6 0\nV 7 0x400f333333333333 0xbfb1eb851eb851f0 0x0000000000000000 7 1\nA 0 1 1 3 5 0 4 0\nA 0 2 2 1 6 0 - 2\nA 0 5 5 4 2 0 3 8\nA 0 6 6 7 1 0 5 10\nA 1 0 0 6 7 1 5 0\nA 1 2 2 4 3 1 2 1\nA 1 3 3 5 0 1 4 7\nA 1 7 7 6 2 1 - 11\nA 2 0 0 5 4 2 3 2\nA 2 1 1 7 0 2 - 1\nA 2 4 4 3 1 2 2 6\nA 3 1 1 2 4 3 2 7\nA 3 4 4 5 5 3 1 3\nA 3 5 5 0 1 3 4 5\nA 4 2 2 0 5 4 3 6\nA 4 3 3 1 2 4 2 3\nA 4 5 5 3 3 4 1 4\nA 5 0 0 1 3 5 4 8\nA 5 3 3 4 4 5 1 5\nA 5 4 4 2 0 5 3 4\nA 6 0 0 2 7 6 - 10\nA 6 7 7 1 0 6 5 9\nA 7 1 1 0 6 7 5 11\nA 7 6 6 0 1 7 - 9\nE 0 0 1\nE 1 1 2\nE 2 2 0\nE 3 3 4\nE 4 4 5\nE 5 5 3\nE 6 2 4\nE 7 3 1\nE 8 0 5\nE 9 6 7\nE 10 0 6\nE 11 7 1\nF 1 3 4 0\nF 2 1 2 0\nF 3 2 0 0\nF 4 0 1 0\nF 5 1 0 0\nC 8 12 6\nend 8 12 5\n"

abbrev pub shifts_printed : String
shifts_printed =
    "ok 0\nok 1\nok 2\nok 0\nok 1\nok 6 7\nV 0 0x3fb999999999999a 0x3fc999999999999a 0x3fd3333333333333 0 6\nV 1 0x4010000000000000 0x0000000000000000 0x0000000000000000 1 7\nV 2 0x0000000000000000 0x4010000000000000 0x0000000000000000 2 4\nV 3 0x4010666666666666 0x3fc999999999999a 0x3ff0000000000001 3 1\nV 4 0x3fb999999999999a 0x4010cccccccccccd 0x3ff0000000000001 4 2\nV 5 0x3fc999999999999a 0x3fd999999999999a 0x3ff4ccccccccccce 5 0\nV 6 0x3fe9999999999999 0xbfb9999999999998 0x3fd999999999999a 6 0\nV 7 0x4012cccccccccccd 0xbfd3333333333333 0x3fb999999999999a 7 1\nA 0 1 1 3 5 0 4 0\nA 0 2 2 1 6 0 - 2\nA 0 5 5 4 2 0 3 8\nA 0 6 6 7 1 0 5 10\nA 1 0 0 6 7 1 5 0\nA 1 2 2 4 3 1 2 1\nA 1 3 3 5 0 1 4 7\nA 1 7 7 6 2 1 - 11\nA 2 0 0 5 4 2 3 2\nA 2 1 1 7 0 2 - 1\nA 2 4 4 3 1 2 2 6\nA 3 1 1 2 4 3 2 7\nA 3 4 4 5 5 3 1 3\nA 3 5 5 0 1 3 4 5\nA 4 2 2 0 5 4 3 6\nA 4 3 3 1 2 4 2 3\nA 4 5 5 3 3 4 1 4\nA 5 0 0 1 3 5 4 8\nA 5 3 3 4 4 5 1 5\nA 5 4 4 2 0 5 3 4\nA 6 0 0 2 7 6 - 10\nA 6 7 7 1 0 6 5 9\nA 7 1 1 0 6 7 5 11\nA 7 6 6 0 1 7 - 9\nE 0 0 1\nE 1 1 2\nE 2 2 0\nE 3 3 4\nE 4 4 5\nE 5 5 3\nE 6 2 4\nE 7 3 1\nE 8 0 5\nE 9 6 7\nE 10 0 6\nE 11 7 1\nF 1 3 4 0\nF 2 1 2 0\nF 3 2 0 0\nF 4 0 1 0\nF 5 1 0 0\nC 8 12 6\nend 8 12 5\n"
