-- Tests one after the other: v is what the ones before the last came to.
use mathlib.Core.Path.{◌≡◌, refl, sym, ◌∙◌}
use mathlib.Core.Bool.{Bool, true, false, ◌&&◌, false≢true}

pub three-hold : (a b c v : Bool) → v ≡ (a && b) → v ≡ true → c ≡ (a && (b && c))
three-hold true true c v e h = refl
three-hold true false c v e h = absurd (false≢true (sym e ∙ h))
three-hold false b c v e h = absurd (false≢true (sym e ∙ h))

pub three-fail : (a b c v : Bool) → v ≡ (a && b) → v ≡ false → v ≡ (a && (b && c))
three-fail true true c v e h = absurd (false≢true (sym h ∙ e))
three-fail true false c v e h = e
three-fail false b c v e h = e

pub four-hold : (a b c d v : Bool) → v ≡ ((a && b) && c) → v ≡ true → d ≡ (a && (b && (c && d)))
four-hold true b c d v e h = three-hold b c d v e h
four-hold false b c d v e h = absurd (false≢true (sym e ∙ h))

pub four-fail : (a b c d v : Bool) → v ≡ ((a && b) && c) → v ≡ false → v ≡ (a && (b && (c && d)))
four-fail true b c d v e h = three-fail b c d v e h
four-fail false b c d v e h = e
