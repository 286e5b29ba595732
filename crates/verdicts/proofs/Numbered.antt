-- The numbers of what reading gives back.
use native.Mathlib.Omega.{arith}
use mathlib.Core.Path.{◌≡◌, refl}
use mathlib.Core.Bool.{cond}
use Rattle.std.specs.Prelude.{Option, None, Some}
use Rattle.std.specs.Option.{is_some, ok_or}
use Rattle.verdicts.specs.declared.refusals.ReadRefusal.{ReadRefusal}
use Rattle.verdicts.specs.declared.refusals.ReadRefusal.TheVariants.{Sizes, Length, Places, NoRoom, Unsound}
use Rattle.verdicts.specs.Refusals.{refusal_number, number_of}

-- no refusal is 0
pub refusal-not-none : (r : ReadRefusal) → refusal_number r ≡ 0 → ⊥
refusal-not-none Sizes e = omega arith
refusal-not-none Length e = omega arith
refusal-not-none Places e = omega arith
refusal-not-none NoRoom e = omega arith
refusal-not-none Unsound e = omega arith

pub found-or-12 : {A : Type 0} (o : Option A) → number_of (ok_or o Unsound) ≡ cond (is_some o) 0 12
found-or-12 None = refl
found-or-12 (Some x) = refl
