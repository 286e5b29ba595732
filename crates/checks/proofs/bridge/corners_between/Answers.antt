-- `checks::bridge::corners_between` meets its contract: as the arcs are found, or by the corners. Assumes nothing.
use mathlib.Core.Path.{ap, ◌∙◌}
use Rattle.rules.specs.Mesh.{mesh, links_of, list_of}
use Rattle.pairs.proofs.Listed.{arcs-held}
use Rattle.checks.proofs.Pairs.{corners-back}
use Rattle.checks.proofs.bridge.corners_between.Goals as goal

pub returns : goal.returns
returns c =
    let a = c.args in
    let t = c.arcs_between-told in
    let per = c.corner_list-per in (
      record {
        one = t.ensures.0.one;
        other = t.ensures.0.other;
        found = arcs-held a.arcs.now (list_of per.result) c.perimeter_arcs-found.result c.known_few.ensures c.perimeter_arcs-found.ensures;
      },
      λ vs ps es fs ks. corners-back (mesh vs ps a.arcs.now es fs ks) t.result.x t.result.y per.result (per.ensures ∙ ap links_of (c.corners_of.ensures vs ps es fs ks)),
    )
