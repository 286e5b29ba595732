-- Rule 5's insert by what was found in the perimeter's lists before anything was changed.
use Rattle.std.specs.Prelude.{ℕ, ◌≡◌, Bool, true, false, List, ◌⊎◌}
use Rattle.rules.specs.Table.{free_row}
use Rattle.rules.specs.Mesh.{Mesh, list_of}
use Rattle.rules.specs.Insert.{arc_at, edges_in, new_face, interior}
use Rattle.makers.specs.Search as search
use Rattle.makers.specs.Search.{exterior_sought}
use Rattle.insert.specs.declared.search.Sought.{Sought}

-- what was found, as the code holds it
abbrev pub sought_of : Sought → search.Sought
sought_of s = record { outs = list_of s.outs; backs = list_of s.backs }

-- the edges, the face with the first perimeter arc, the interior, then the exterior by what was found
unfoldable pub put_sought : search.Sought → Mesh → List ℕ → ℕ → Mesh
put_sought s m per mark =
    let m₁ = edges_in per m in
    let f = free_row m₁.faces in
    exterior_sought per s (interior per f (new_face m₁ (arc_at m₁ per 0) mark))

-- a search that has come so far tries the arc x, which is held or not: how far it has come then
abbrev pub Tries : Bool → ℕ → Bool → ℕ → Bool → ℕ → Type 0
Tries done arc held x done' arc' =
    ((done ≡ true) × (done' ≡ true) × (arc' ≡ arc))
    ⊎ (((done ≡ false) × (held ≡ true) × (done' ≡ false) × (arc' ≡ arc)) ⊎ ((done ≡ false) × (held ≡ false) × (done' ≡ true) × (arc' ≡ x)))
