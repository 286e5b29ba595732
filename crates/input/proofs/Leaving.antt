-- What a chunk that was fed leaves, by the bytes that were fed.
use Rattle.std.proofs.Common.{◌≡◌, refl, ap}
use Rattle.rules.specs.Mesh.{Mesh, Room}
use Rattle.rules.specs.Script.{Text}
use Rattle.script.specs.Texts.{Written}
use Rattle.runs.specs.Run.{ran}
use Rattle.runs.specs.Feed.{Feeding, handed, handed_at}

pub left-by : (w : Written) (m : Mesh) (one two : Room) (l : Written) (out : Text) (s : Feeding) → handed w m one two l ≡ handed_at out 0 s → s.done ≡ ran s.done.text m one two
unfolding handed_at
left-by w m one two l out s e = rw (ap (λ h. h.mesh) e, ap (λ h. h.one) e, ap (λ h. h.two) e) refl
