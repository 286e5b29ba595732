use mathlib.Core.Path.{◌≡◌}
use mathlib.Core.List.{map}
use lib.ListN.{length, get_or}
use Rattle.tables.proofs.Lists.{upto}
use Rattle.sound.proofs.keys.key_names.Given as goal

abbrev pub invariant-loop-i : goal.invariant-loop-i
invariant-loop-i g l = (length l.names ≡ length l.initial.names) × (l.names ≡ upto (map (λ r. get_or r 0 0) l.t) l.i l.initial.names)
