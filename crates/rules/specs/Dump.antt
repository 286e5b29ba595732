-- The records as text, in the form in which the comparison with the Rust prints them: a line for each record, in key order,
-- links by keys, `-` for none (two for an arc), coordinates as their 64 bits; last the counters.
use Prim.Native.String.{String}
use Rattle.std.specs.Prelude.{ℕ, zero, suc, ◌+◌, ◌/◌, ◌%◌, cond, List, [], ◌∷◌, ◌++◌, ltb, Float}
use Rattle.std.specs.Float.{binary64}
use Rattle.std.specs.Float.Ieee.{to_bits}
use Rattle.rules.specs.Records.{VertexRecord, ArcRecord, EdgeRecord, FaceRecord, Records, records}
use Rattle.rules.specs.Script.{Text, bytes, newline, digit_zero, spaced, after_script, checked_end}

-- ---- words, each after a space

-- a name: its keys, or as many `-` as it would have keys
unfoldable pub name_words : String → List ℕ → Text
name_words absent [] = bytes absent
name_words absent (k ∷ ks) = spaced (k ∷ ks)

-- sixteen hexadecimal digits, the highest first
unfoldable pub hex_digit : ℕ → ℕ
hex_digit d = cond (ltb d 10) (digit_zero + d) (87 + d)

unfoldable pub hex_before : ℕ → ℕ → Text → Text
hex_before zero n later = later
hex_before (suc places) n later = hex_before places (n / 16) (hex_digit (n % 16) ∷ later)

unfoldable pub bits_word : Float → Text
bits_word x = bytes " 0x" ++ hex_before 16 (to_bits binary64 x) []

-- ---- lines

unfoldable pub vertex_line : VertexRecord → Text
vertex_line r =
    bytes "V" ++ (spaced (r.key ∷ []) ++ (bits_word r.position.x ++ (bits_word r.position.y ++ (bits_word r.position.z ++ name_words " - -" r.leading))))

unfoldable pub arc_line : ArcRecord → Text
arc_line r =
    bytes "A" ++ (name_words "" r.name ++ (name_words " - -" r.next ++ (name_words " - -" r.previous ++ (name_words " -" r.face ++ name_words " -" r.edge))))

unfoldable pub edge_line : EdgeRecord → Text
edge_line r = bytes "E" ++ (spaced (r.key ∷ []) ++ name_words " - -" r.arc)

unfoldable pub face_line : FaceRecord → Text
face_line r = bytes "F" ++ (spaced (r.key ∷ []) ++ (name_words " - -" r.arc ++ spaced (r.mark ∷ [])))

unfoldable pub lines_by {ℓ} : {A : Type ℓ} → (A → Text) → List A → Text
lines_by line [] = []
lines_by line (r ∷ rs) = line r ++ (newline ∷ lines_by line rs)

unfoldable pub records_text : Records → Text
records_text r =
    lines_by vertex_line r.vertices
    ++ (lines_by arc_line r.arcs
    ++ (lines_by edge_line r.edges ++ (lines_by face_line r.faces ++ (bytes "C" ++ (spaced r.counters ++ (newline ∷ []))))))

-- ---- meshdump: the answers, then all records, then the check and `end`

unfoldable pub dumped_on : ℕ → ℕ → ℕ → Text → Text
dumped_on vertices edges faces input =
    let s = after_script vertices edges faces input in
    s.written ++ (records_text (records s.mesh) ++ checked_end s.mesh)

unfoldable pub dumped : Text → Text
dumped input = dumped_on 64 128 64 input
