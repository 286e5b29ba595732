-- A law of Apart for each way out.
use mathlib.Core.Path.{refl, ap, sym, ◌∙◌}
use Rattle.rules.specs.Lent.{mesh_of}
use Rattle.edges.specs.declared.free.Lowest.{Lowest}
use Rattle.insert.proofs.Apart.{pair-searched, pair-there, pair_made, may-still, may-next}
use Rattle.insert.proofs.Told.{pair-told}
use Rattle.insert.proofs.perimeter.edge_in.Goals as goal

pub returns-then-met-clause-edge : goal.returns-then-met-clause-edge
returns-then-met-clause-edge c = λ per i h k.
    let a = c.args in
    let m = mesh_of a.mesh.now in
    let g = c.get_or_insert_edge in (
      pair-searched m per i refl refl h.from h.to g.ensures.edge,
      (may-still m (mesh_of g.new.mesh) a.a a.b a.from g.ensures.edge (k.arcs-used, k.edges-used), λ known. absurd (known refl)),
    )

pub returns-then-x-ne0-clause-edge : goal.returns-then-x-ne0-clause-edge
returns-then-x-ne0-clause-edge c = λ per i h k.
    let apart = sym h.before ∙ c.if-met.false in
    let x = k.tells apart in
    (pair-there (mesh_of c.args.mesh.now) per i refl refl h.from h.to x c.if-x-ne0.true, ((k.arcs-used, k.edges-used), λ known. (apart, x)))

pub returns-clause-edge : goal.returns-clause-edge
returns-clause-edge c = λ per i h k.
    let a = c.args in
    let g = c.new_edge_from-made in
    let apart = sym h.before ∙ c.if-met.false in
    let none = c.if-x-ne0.false in
    let x = k.tells apart in
    let m = mesh_of a.mesh.now in
    let made = mesh_of g.new.mesh in (
      pair_made m per i refl refl h.from h.to x none g.ensures.edge,
      (
        may-next m made a.a a.b a.from.face g.result g.ensures.edge g.ensures.rows,
        λ known. (apart, pair-told m per i refl refl h.from h.to {o = made} x none g.ensures.edge (ap (λ (w : Lowest). w.arc) g.ensures.rows) known (c.arc_known-arc.ensures known)),
      ),
    )
