-- `rule_table_check::told`: the first of three answers, in the definition's order.
use mathlib.Core.Path.{◌≡◌, ap, ◌∙◌}
use mathlib.Core.Option.{some}
use native.Mathlib.Omega.{arith}
use borrow.Author.Tests.{ne_eqb}
use Rattle.std.specs.Prelude.{Result, Ok, Err, IsErrAnd}
use Rattle.base.specs.Pick.{pick}
use Rattle.base.specs.Lists.{first_of}
use Rattle.definition.specs.Refusals.{refuse, when}
use Rattle.rule_row_faults.specs.declared.RuleFault.{RuleFault}
use Rattle.rule_row_faults.specs.Kinds.{fault_number}
use Rattle.rule_table_check.specs.Told.{rules_means}
use Rattle.rule_table_check.proofs.told.Goals as goal

-- the `?` returns the fault that it met
passed_on : (r : Result (Unit {0}) RuleFault) (f : RuleFault) → IsErrAnd r (λ e. e ≡ f)
    → rules_means r ≡ some (refuse (fault_number f.kind) f.at)
passed_on (Ok u) f h = absurd h
passed_on (Err e) f h = ap (λ g. some (refuse (fault_number g.kind) g.at)) h

pub returns-in_err-fields_fault : goal.returns-in_err-fields_fault
unfolding first_of when pick
returns-in_err-fields_fault c =
    passed_on _ _ c.from_residual.ensures.1
    ∙ rw (ne_eqb c.args.left 0 (λ e. omega arith), ← c.in_err-fields_fault.ensures)
