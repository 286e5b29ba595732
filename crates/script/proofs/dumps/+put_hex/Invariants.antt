-- The measure of `script::dumps::put_hex` is the number of places.
use Rattle.script.proofs.dumps.+put_hex.Given as goal

abbrev pub decreases-put_hex : goal.decreases-put_hex
decreases-put_hex l = l.places
