-- `mesh::call::list_near` meets its contract: what is listed by the marks of the edit. Assumes nothing.
use Prim.Native.Nat.{ℕ, ◌≤◌}
use mathlib.Core.Path.{◌≡◌}
use mathlib.Core.Bool.{Bool, true}
use mathlib.Core.List.{List}
use lib.Dec.{T}
use lib.ListN.{take}
use Rattle.std.proofs.Common.{rules, Option, Some, None, IfSome}
use Rattle.rules.specs.declared.Edit.{Edit}
use Rattle.rules.specs.Lent.{mesh_in}
use Rattle.rules.specs.Table.{has}
use Rattle.rules.specs.Mesh.{Mesh}
use Rattle.kept.specs.Local.{among}
use Rattle.pairs.specs.Near.{is_marked}
use Rattle.nearby.specs.Rows.{Listed}
use Rattle.order.specs.declared.settle.Way.TheVariants.{Near}
use Rattle.order.specs.Transaction.{way_of}
use Rattle.mesh.specs.Near.{NearListed}
use Rattle.mesh.proofs.call.list_near.Goals as goal

listed : (m : Mesh) (e : Edit) (keys list : List ℕ) (seen : List Bool) (r : Option ℕ) → way_of e ≡ Near → ((v : ℕ) → T (has (among m e keys) v) → is_marked seen v ≡ true) → IfSome r (λ n. (n ≤ 2048) × Listed m.arcs m.edges seen (take n list)) → IfSome r (λ n. (n ≤ 2048) × NearListed m e keys (take n list))
listed m e keys list seen None w k l = l
listed m e keys list seen (Some n) w k l = (l.0, record { seen = seen; near = w; marked = k; listed = l.1 })

pub returns : goal.returns
returns c =
    listed (mesh_in c.args.mesh) c.args.edit c.args.keys.now c.list_rows.new.list c.mark_edit.new.seen c.list_rows.result (search rules) c.mark_edit.ensures.marked c.list_rows.ensures
