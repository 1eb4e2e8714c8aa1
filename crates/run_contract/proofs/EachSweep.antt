-- What holds of a state and itself, of one sweep and of an exchange of the rule, and joins, holds of the states before and after every list of calls
-- and of the sweeps between them. By induction on sweeps and calls. Assumes nothing.
use Prim.Native.Nat.{ℕ, zero, suc}
use mathlib.Core.Bool.{true, false, cond}
use mathlib.Core.List.{List, [], ◌∷◌, ◌++◌}
use lib.Dec.{eqb}
use Rattle.step_rules.specs.declared.StepRule.{StepRule}
use Rattle.step_rules.specs.Rule.{rule_of}
use Rattle.run_record.specs.declared.Stage.TheVariants.{Open, Stopped}
use Rattle.run_sweep.specs.Work.{Work, call_work}
use Rattle.run_contract.specs.PlainRun.{Plain, Call, sweep, finish, exchange, with_rule, plain_sweeps, if_open, acted, plain_number, plain_after}
use Rattle.run_contract.specs.Log.{Made, made_from, if_open_made, made, accepted, made_by, log, plain_end}
use Rattle.run_contract.proofs.Follows.{turned}

module _ (Has : Plain → Plain → List Made → Type 0)
    (none : (p : Plain) → Has p p [])
    (join : (p q r : Plain) (xs ys : List Made) → Has p q xs → Has q r ys → Has p r (xs ++ ys))
    (one : (w : Work) (p : Plain) → Has p (turned w p) (made_from w p ∷ []))
    (ruled : (p : Plain) (rule : StepRule) → Has p (with_rule p rule) []) where
  of_sweeps : (k : ℕ) (w : Work) (p : Plain) → Has p (plain_sweeps k w p) (made k w p)
  unfolding plain_sweeps made
  of_sweeps zero w p = none p
  of_sweeps (suc k) w p =
      let more = join p (turned w p) (plain_sweeps k w (turned w p)) (made_from w p ∷ []) (made k w (turned w p)) (one w p) (of_sweeps k w (turned w p)) in
      elim p.stage as (λ stage. Has p (if_open stage (plain_sweeps k w (turned w p)) p) (if_open_made stage (made_from w p ∷ made k w (turned w p)))) [ Open ↦ more | Stopped ↦ none p ]

  of_accepted : (p : Plain) (call : Call) → Has p (acted p call) (accepted p call)
  of_accepted p (sweep s) = of_sweeps s.k (call_work s.table) p
  of_accepted p (finish f) = none p
  of_accepted p (exchange e) = ruled p (rule_of e.rule e.number)

  of_call : (p : Plain) (call : Call) → Has p (plain_after p call) (made_by p call)
  unfolding plain_after made_by
  of_call p call =
      elim (eqb (plain_number p call) 0) as (λ ok. Has p (cond ok (acted p call) p) (cond ok (accepted p call) [])) [ true ↦ of_accepted p call | false ↦ none p ]

  pub of_list : (p : Plain) (calls : List Call) → Has p (plain_end p calls) (log p calls)
  unfolding plain_end log
  of_list p [] = none p
  of_list p (call ∷ calls) =
      join p (plain_after p call) (plain_end (plain_after p call) calls) (made_by p call) (log (plain_after p call) calls) (of_call p call) (of_list (plain_after p call) calls)
