-- The records of the links passed stand in their places, and the rest is what is left of the text. Assumes nothing.
use Prim.Native.Nat.{◌+◌, ◌-◌, ◌≤◌}
use native.Mathlib.Omega.{arith}
use mathlib.Core.Path.{◌≡◌, ◌∙◌}
use lib.ListN.{length}
use borrow.Author.Rules.{rules}
use Rattle.rules.specs.Lent.{mesh_in}
use Rattle.writes.specs.Writing.{put_text, links_text, widths_of}
use Rattle.writes.proofs.Linked.{links-next, links_end, room_next, room-end}
use Rattle.writes.proofs.bodies.put_links.Goals as goal

pub loop-x-init : goal.loop-x-init
loop-x-init c = let e : length c.args.links.now - 0 ≡ length c.args.links.now = omega arith in (search rules, (rw e, search rules))

pub put_record-requires : goal.put_record-requires
put_record-requires c =
    let room = room_next (widths_of c.args.kind) (length c.args.links.now) c.loop-x.x-index c.loop-x-test.true in
    omega (arith, room, c.loop-x.invariant.0, c.loop-x.invariant.1.0, c.requires)

pub overflow_add-place : goal.overflow_add-place
overflow_add-place c =
    let room = room_next (widths_of c.args.kind) (length c.args.links.now) c.loop-x.x-index c.loop-x-test.true in
    let fits : c.loop-x.place + c.size_of-size.result ≤ length c.args.out.now = omega (arith, room, c.size_of-size.ensures.value, c.loop-x.invariant.1.0, c.requires) in
    omega (arith, fits, c.well_formed)

pub loop-x-preserved : goal.loop-x-preserved
loop-x-preserved c =
    let a = c.args in
    let m = mesh_in a.mesh in
    let below = c.loop-x-test.true in
    let room = room_next (widths_of a.kind) (length a.links.now) c.loop-x.x-index below in
    let size = c.size_of-size.ensures.value in
    let call = c.put_record in (
      call.auto.out ∙ c.loop-x.invariant.0,
      (
        omega (arith, room, size, c.loop-x.invariant.1.0),
        links-next m a.kind a.links.now c.loop-x.x-index (put_text a.out.now a.at (links_text m a.kind a.links.now))
            c.loop-x.out call.new.out c.loop-x.place c.size_of-size.result c.from.result below size c.from.ensures
            c.loop-x.invariant.1.1 call.ensures,
      ),
    )

pub returns : goal.returns
returns c =
    let a = c.args in
    let m = mesh_in a.mesh in
    let room = room-end (widths_of a.kind) (length a.links.now) c.loop-x.x-index c.loop-x-test.false in record {
      out_after = links_end m a.kind a.links.now c.loop-x.x-index (put_text a.out.now a.at (links_text m a.kind a.links.now)) c.loop-x.out c.loop-x.place c.loop-x-test.false c.loop-x.invariant.1.1;
      next = omega (arith, room, c.loop-x.invariant.1.0);
    }
