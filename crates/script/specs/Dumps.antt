-- The lines of records as the code is given them: a name is none, a key, or an arc's two keys.
use Rattle.std.specs.Prelude.{ℕ, cond, List, [], ◌∷◌, ◌++◌, eqb}
use Rattle.rules.specs.declared.Position.{Position}
use Rattle.rules.specs.Script.{Text, bytes, newline, spaced}
use Rattle.rules.specs.Dump.{name_words, bits_word, vertex_line, arc_line, edge_line, face_line}
use Rattle.script.specs.declared.Name.{Name}
use Rattle.script.specs.declared.Name.TheVariants.{Absent, Key, Arc}

-- a name's keys
unfoldable pub keys_in : Name → List ℕ
keys_in Absent = []
keys_in (Key k) = k ∷ []
keys_in (Arc s d) = s ∷ d ∷ []

-- its words, with none, one or two dashes where it is absent
unfoldable pub name_text : ℕ → Name → Text
name_text dashes name =
    cond (eqb dashes 0) (name_words "" (keys_in name)) (cond (eqb dashes 1) (name_words " -" (keys_in name)) (name_words " - -" (keys_in name)))

unfoldable pub position_words : Position → Text
position_words p = bits_word p.x ++ (bits_word p.y ++ bits_word p.z)

unfoldable pub arcs_text : Name → Name → Text
arcs_text a b = name_words " - -" (keys_in a) ++ name_words " - -" (keys_in b)

unfoldable pub keys_text : Name → Name → Text
keys_text a b = name_words " -" (keys_in a) ++ name_words " -" (keys_in b)

-- ---- lines, each with its newline

unfoldable pub vertex_text : ℕ → Position → Name → Text
vertex_text key p leading = vertex_line (record { key = key; position = p; leading = keys_in leading }) ++ (newline ∷ [])

unfoldable pub arc_text : Name → Name → Name → Name → Name → Text
arc_text name next previous face edge =
    arc_line (record { name = keys_in name; next = keys_in next; previous = keys_in previous; face = keys_in face; edge = keys_in edge }) ++ (newline ∷ [])

unfoldable pub edge_text : ℕ → Name → Text
edge_text key arc = edge_line (record { key = key; arc = keys_in arc }) ++ (newline ∷ [])

unfoldable pub face_text : ℕ → Name → ℕ → Text
face_text key arc mark = face_line (record { key = key; arc = keys_in arc; mark = mark }) ++ (newline ∷ [])

unfoldable pub counters_text : ℕ → ℕ → ℕ → Text
counters_text v e f = bytes "C" ++ (spaced (v ∷ e ∷ f ∷ []) ++ (newline ∷ []))
