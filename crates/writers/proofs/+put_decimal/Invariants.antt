-- The measure of `writers::put_decimal`: the number, since its tenth part is below it. Assumes nothing.
use Rattle.writers.proofs.+put_decimal.Given as goal

abbrev pub decreases-put_decimal : goal.decreases-put_decimal
decreases-put_decimal l = l.n
