-- `checks::split::split_checks` meets its contract. A law of Splits for each way out. Assumes nothing.
use Rattle.rules.specs.Mesh.{mesh}
use Rattle.checks.proofs.Splits.{no-face, no_source, no-dest, too-near, left-held, right-held, splits}
use Rattle.checks.proofs.split.split_checks.Goals as goal

pub returns-then-f-eq0 : goal.returns-then-f-eq0
returns-then-f-eq0 c =
    let a = c.args in
    λ vs ps es ks. no-face (mesh vs ps a.arcs.now es a.faces.now ks) a.f a.s a.d c.if-f-eq0.true

pub returns-in_default : goal.returns-in_default
returns-in_default c =
    let a = c.args in
    λ vs ps es ks. no_source (mesh vs ps a.arcs.now es a.faces.now ks) a.f a.s a.d c.if-f-eq0.false (c.vertices_of-points.ensures vs ps es ks) c.in_default.ensures

pub returns-in_default-place_in : goal.returns-in_default-place_in
returns-in_default-place_in c =
    let a = c.args in
    λ vs ps es ks. no-dest (mesh vs ps a.arcs.now es a.faces.now ks) a.f a.s a.d c.if-f-eq0.false (c.vertices_of-points.ensures vs ps es ks) c.in-Some.from c.in-Some.ensures c.in_default-place_in.ensures

pub returns-then-ring_distance-lt2 : goal.returns-then-ring_distance-lt2
returns-then-ring_distance-lt2 c =
    let a = c.args in
    λ vs ps es ks. too-near (mesh vs ps a.arcs.now es a.faces.now ks) a.f a.s a.d c.if-f-eq0.false (c.vertices_of-points.ensures vs ps es ks) c.in-Some.from c.in-Some.ensures c.in-Some-place_in.to c.in-Some-place_in.ensures c.size.ensures c.ring_distance.ensures c.if-ring_distance-lt2.true

pub returns-then-held_by_other : goal.returns-then-held_by_other
returns-then-held_by_other c =
    let a = c.args in
    λ vs ps es ks. left-held (mesh vs ps a.arcs.now es a.faces.now ks) a.f a.s a.d c.if-f-eq0.false (c.vertices_of-points.ensures vs ps es ks) c.in-Some.from c.in-Some.ensures c.in-Some-place_in.to c.in-Some-place_in.ensures c.size.ensures c.ring_distance.ensures c.if-ring_distance-lt2.false (c.half.ensures vs ps es ks) (c.held_by_other.ensures vs ps es a.faces.now ks) c.if-held_by_other.true

pub returns-then-held_by_other-2 : goal.returns-then-held_by_other-2
returns-then-held_by_other-2 c =
    let a = c.args in
    λ vs ps es ks. right-held (mesh vs ps a.arcs.now es a.faces.now ks) a.f a.s a.d c.if-f-eq0.false (c.vertices_of-points.ensures vs ps es ks) c.in-Some.from c.in-Some.ensures c.in-Some-place_in.to c.in-Some-place_in.ensures c.size.ensures c.ring_distance.ensures c.if-ring_distance-lt2.false (c.half.ensures vs ps es ks) (c.held_by_other.ensures vs ps es a.faces.now ks) c.if-held_by_other.false (c.half-2.ensures vs ps es ks) (c.held_by_other-2.ensures vs ps es a.faces.now ks) c.if-held_by_other-2.true

pub returns : goal.returns
returns c =
    let a = c.args in
    λ vs ps es ks. splits (mesh vs ps a.arcs.now es a.faces.now ks) a.f a.s a.d c.if-f-eq0.false (c.vertices_of-points.ensures vs ps es ks) c.in-Some.from c.in-Some.ensures c.in-Some-place_in.to c.in-Some-place_in.ensures c.size.ensures c.ring_distance.ensures c.if-ring_distance-lt2.false (c.half.ensures vs ps es ks) (c.held_by_other.ensures vs ps es a.faces.now ks) c.if-held_by_other.false (c.half-2.ensures vs ps es ks) (c.held_by_other-2.ensures vs ps es a.faces.now ks) c.if-held_by_other-2.false
