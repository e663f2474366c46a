-- The measure is the number itself: a call is on its tenth part. Assumes nothing.
use Rattle.text.proofs.out.Out.+number.Given as goal

abbrev pub decreases-number : goal.decreases-number
decreases-number l = l.n
