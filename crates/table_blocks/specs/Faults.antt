-- A check's answer in the definition's terms, and what it tells its caller, case by case.
use Rattle.std.specs.Prelude.{ℕ, ◌≡◌, Result, Ok, Err}
use Rattle.std.proofs.Math.Option.{Option, none, some}
use Rattle.std.proofs.Math.Path.{sym, ap}
use Rattle.std.proofs.Common.{◌∙◌}
use Rattle.table_blocks.specs.declared.TableFault.{TableFault}

-- a table's first fault
unfoldable pub table_means : Result (Unit {0}) TableFault → Option ℕ
table_means (Ok u) = none
table_means (Err f) = some f.at

-- `o` is the table's fault
module _ (r : Result (Unit {0}) TableFault) {o : Option ℕ} (h : table_means r ≡ o) where
  pub valid : (u : Unit {0}) → r ≡ Ok u → o ≡ none
  unfolding table_means
  valid u e = sym h ∙ ap table_means e

  pub faulty : (f : TableFault) → r ≡ Err f → o ≡ some f.at
  unfolding table_means
  faulty f e = sym h ∙ ap table_means e
