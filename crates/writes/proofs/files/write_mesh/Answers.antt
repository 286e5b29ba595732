-- 1 by the check, 7 where the file is longer than the bytes; else the head, and then the bodies behind it. Assumes nothing.
use native.Mathlib.Omega.{arith}
use mathlib.Core.Path.{ap, sym, ◌∙◌}
use Rattle.rules.specs.Lent.{mesh_in}
use Rattle.rules.specs.Step.{number_of}
use Rattle.writes.specs.declared.Counts.{Counts}
use Rattle.writes.specs.Writing.{put_text, head_text, length_of}
use Rattle.writes.proofs.Whole.{small, refused, too_few, all-written}
use Rattle.writes.proofs.files.write_mesh.Goals as goal

pub returns-then-not-is_sound : goal.returns-then-not-is_sound
unfolding number_of
returns-then-not-is_sound c = refused (mesh_in c.args.mesh) c.args.out.now (sym c.is_sound.ensures ∙ c.if-not-is_sound.true)

pub count_all-counts-requires : goal.count_all-counts-requires
count_all-counts-requires c = small (mesh_in c.args.mesh) (sym c.is_sound.ensures ∙ c.if-not-is_sound.false)

pub returns-then-out-length : goal.returns-then-out-length
unfolding number_of length_of
returns-then-out-length c =
    too_few (mesh_in c.args.mesh) c.args.out.now (sym c.is_sound.ensures ∙ c.if-not-is_sound.false) (omega (arith, c.if-out-length.true, ap length_of c.count_all-counts.ensures.value))

pub put_bodies-requires-clause-small : goal.put_bodies-requires-clause-small
put_bodies-requires-clause-small c = small (mesh_in c.args.mesh) (sym c.is_sound.ensures ∙ c.if-not-is_sound.false)

pub put_bodies-requires-clause-faces_in_bounds : goal.put_bodies-requires-clause-faces_in_bounds
unfolding length_of
put_bodies-requires-clause-faces_in_bounds c = omega (arith, c.if-out-length.false, ap length_of c.count_all-counts.ensures.value, c.put_head.auto.out)

pub returns : goal.returns
unfolding length_of
returns c =
    let m = mesh_in c.args.mesh in
    let counted = c.count_all-counts.ensures.value in
    all-written m c.args.out.now _ c.put_head.new.out c.put_bodies.new.out (sym c.is_sound.ensures ∙ c.if-not-is_sound.false) (ap length_of counted) c.if-out-length.false
    (c.put_head.ensures ∙ ap (λ (n : Counts). put_text c.args.out.now 0 (head_text n m.counters)) counted)
    c.put_bodies.ensures
