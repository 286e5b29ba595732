-- What each edit leaves, from what its steps leave.
use Prim.Native.Nat.{ℕ, ◌≤◌}
use mathlib.Core.Path.{◌≡◌, ap, sym, ◌∙◌}
use mathlib.Core.List.{List}
use lib.ListN.{length}
use Rattle.rules.specs.Answer.{Answer}
use Rattle.rules.specs.Answer.{Done, Key, Refused}
use Rattle.rules.specs.declared.Refusal.{Refusal}
use Rattle.rules.specs.declared.Links.{Links}
use Rattle.rules.specs.Mesh.{Mesh, face_kind, next_key, links_of, list_of}
use Rattle.rules.specs.Step.{Step, step, accepted, checked}
use Rattle.rules.specs.Insert.{insert_checks}
use Rattle.rules.proofs.Places.{list_back}
use Rattle.makers.specs.Search.{arcs_on}
use Rattle.makers.specs.Makers.{searching, put_face_by, insert_work_by, insert_face_by}
use Rattle.edits.proofs.Steps.{done, refused, checked-goes, checked-stops}

-- ---- behind checks

pub checked_refused : (m : Mesh) (s : Step) (r : Refusal) (c : Answer) → Refused r ≡ c → step m (Refused r) ≡ checked m c s
checked_refused m s r c e = ap (step m) e ∙ sym (checked-stops m c s (ap accepted (sym e) ∙ refused r))

pub checked-done : (m : Mesh) (s : Step) (c : Answer) (t : Step) → Done ≡ c → t ≡ s → t ≡ checked m c s
checked-done m s c t e h = h ∙ sym (checked-goes m c s (ap accepted (sym e) ∙ done))

-- ---- a face insert with its checks

pub insert-refused : (m : Mesh) (per : List ℕ) (mark : ℕ) (r : Refusal) → Refused r ≡ insert_checks m per per → step m (Refused r) ≡ insert_face_by searching m per mark
unfolding insert_face_by
insert-refused m per mark r er = checked_refused m (insert_work_by searching m per mark) r (insert_checks m per per) er

pub insert-done : (m m' : Mesh) (per : List ℕ) (mark : ℕ) (key : ℕ) → Done ≡ insert_checks m per per → key ≡ next_key m face_kind → m' ≡ put_face_by searching m (arcs_on m per) m per mark → step m' (Key key) ≡ insert_face_by searching m per mark
unfolding insert_face_by insert_work_by
insert-done m m' per mark key er ek em =
    checked-done m (insert_work_by searching m per mark) (insert_checks m per per) (step m' (Key key)) er (λ i. step (em i) (Key (ek i)))

-- an insert by a short list that the code holds
pub insert-held : (m : Mesh) (s : Step) (per : Links) (l : List ℕ) (mark : ℕ) → length l ≤ 64 → per ≡ links_of l → s ≡ insert_face_by searching m (list_of per) mark → s ≡ insert_face_by searching m l mark
insert-held m s per l mark few e h = h ∙ ap (λ (k : List ℕ). insert_face_by searching m k mark) (ap list_of e ∙ list_back l few)
