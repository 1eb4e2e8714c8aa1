use Rattle.pinned.specs.Pinned.{beside_term}
use Rattle.limits.specs.Limits.{most_wagons}
use Rattle.tables.specs.Entries.{listed}
use Rattle.tables.specs.Cost.{choice_at}
use Rattle.laws.specs.Lists.{tabulate}
use Rattle.laws.specs.Sum as S
use mathlib.Core.Path.{◌≡◌}
use Rattle.pinned.proofs.reduce.beside_sums.Given as goal

abbrev pub invariant-loop-l : goal.invariant-loop-l
invariant-loop-l l = l.sums ≡ tabulate (λ i. S.sum l.l (beside_term (listed l.table) (choice_at l.held) i)) most_wagons
