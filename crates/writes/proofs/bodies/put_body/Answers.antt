-- The links are put in order, and then their records written. Assumes nothing.
use Prim.Native.Nat.{ℕ, ◌+◌}
use native.Mathlib.Omega.{arith}
use mathlib.Core.Path.{ap, ◌∙◌}
use mathlib.Core.List.{List}
use lib.ListN.{length}
use Rattle.rules.specs.Lent.{mesh_in}
use Rattle.file.specs.File.{body_length}
use Rattle.writes.specs.Writing.{put_text, links_text, kind_text, widths_of}
use Rattle.writes.proofs.bodies.put_body.Goals as goal

pub put_links-requires : goal.put_links-requires
put_links-requires c =
    omega (arith, c.requires.kind_in_bounds, ap (λ (l : List ℕ). body_length (widths_of c.args.kind) (length l)) c.in_order-n.ensures.links_after)

pub returns : goal.returns
unfolding kind_text
returns c =
    let a = c.args in
    let sorted = c.in_order-n.ensures.links_after in
    let done = c.put_links.ensures in record {
      out_after = done.out_after ∙ ap (λ (l : List ℕ). put_text a.out.now a.at (links_text (mesh_in a.mesh) a.kind l)) sorted;
      next = done.next ∙ ap (λ (l : List ℕ). a.at + body_length (widths_of a.kind) (length l)) sorted;
    }
