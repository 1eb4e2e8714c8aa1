-- `exhaustive::walk::walk` goes down by its digits.
use Rattle.exhaustive.proofs.walk.+walk.Given as goal

abbrev pub decreases-walk : goal.decreases-walk
decreases-walk l = l.d
