-- Three coordinates one after the other; each says what the first field left is.
use Rattle.std.proofs.Common.{◌≡◌, ℕ, ap, sym, ◌∙◌}
use Rattle.script.specs.declared.reader.Line.{Line}
use Rattle.script.specs.Fields.{coordinate_at, next_place, Stays}
use Rattle.std.specs.Prelude.{Some, None, Float}
use Rattle.rules.specs.Script.{Text}
use Rattle.script.proofs.Left.{CoordinateIs, coordinate-is, spot-first, spot-second, spot-third, spot-more, spot_is}
use Rattle.script.proofs.reader.Line.spot.Goals as goal

-- a reader that moved on, and on again
both : (a b d : Line) → Stays a b → Stays b d → Stays a d
both a b d s t = record { same_text = t.same_text ∙ s.same_text }

-- a coordinate that was read there, or not, is one of the line that it began with
still : (a b : Line) → Stays a b → b.text.now ≡ a.text.now
still a b s = ap (λ r. r.now) s.same_text

read : (a b d : Line) (x : Float) → Stays a b → d.at ≡ next_place b.text.now b.at → Some x ≡ coordinate_at b.text.now b.at → CoordinateIs a.text.now b.at x d.at
read a b d x s p e = coordinate-is a.text.now b.at x d.at (rw (still a b s) at e) (rw (still a b s) at p)

unread : (a b : Line) → Stays a b → None ≡ coordinate_at b.text.now b.at → None ≡ coordinate_at a.text.now b.at
unread a b s e = rw (still a b s) at e

pub returns-in_err-x : goal.returns-in_err-x
returns-in_err-x c = c.from_residual.ensures ∙ spot-first _ _ c.in_err-x.ensures.value

pub returns-in_err-y : goal.returns-in_err-y
returns-in_err-y c =
    let a = c.args.self in
    let b = c.coordinate.new.self in
    let x = c.in_ok-x.ensures in
    c.from_residual-in_err-y.ensures ∙ spot-second _ _ _ _ (coordinate-is _ _ _ _ x.value x.place) (unread a b x.same c.in_err-y.ensures.value)

pub returns-in_err-z : goal.returns-in_err-z
returns-in_err-z c =
    let a = c.args.self in
    let b = c.coordinate.new.self in
    let d = c.coordinate-2.new.self in
    let x = c.in_ok-x.ensures in
    let y = c.in_ok-y.ensures in
    c.from_residual-in_err-z.ensures
    ∙ spot-third _ _ _ _ _ _ (coordinate-is _ _ _ _ x.value x.place) (read a b d _ x.same y.place y.value) (unread a d (both a b d x.same y.same) c.in_err-z.ensures.value)

pub returns-then-self : goal.returns-then-self
returns-then-self c =
    let a = c.args.self in
    let b = c.coordinate.new.self in
    let d = c.coordinate-2.new.self in
    let e = c.coordinate-3.new.self in
    let x = c.in_ok-x.ensures in
    let y = c.in_ok-y.ensures in
    let z = c.in_ok-z.ensures in
    spot-more _ _ _ _ _ _ _ _ (coordinate-is _ _ _ _ x.value x.place) (read a b d _ x.same y.place y.value) (read a d e _ (both a b d x.same y.same) z.place z.value)
    (rw (still a e (both a d e (both a b d x.same y.same) z.same)) at c.if-self.true)

pub returns : goal.returns
returns c =
    let a = c.args.self in
    let b = c.coordinate.new.self in
    let d = c.coordinate-2.new.self in
    let e = c.coordinate-3.new.self in
    let x = c.in_ok-x.ensures in
    let y = c.in_ok-y.ensures in
    let z = c.in_ok-z.ensures in
    spot_is _ _ _ _ _ _ _ _ (coordinate-is _ _ _ _ x.value x.place) (read a b d _ x.same y.place y.value) (read a d e _ (both a b d x.same y.same) z.place z.value)
    (rw (still a e (both a d e (both a b d x.same y.same) z.same)) at c.if-self.false)
