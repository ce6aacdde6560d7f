-- Parts of a row one after another: where one that was read ends, and what a faulty one passes on.
use mathlib.Core.Path.{◌≡◌, ap}
use Prim.Native.Nat.{ℕ, ◌≤◌}
use Rattle.std.specs.Prelude.{Result, Ok, Err, IsErrAnd}
use Rattle.definition.specs.RuleFields.{Cursor, next, wrong}
use Rattle.definition.specs.FieldsWithin.{place}
use Rattle.definition.specs.FieldsWithin.{In}
use Rattle.rule_row_faults.specs.declared.RuleFault.{RuleFault}
use Rattle.rule_row_faults.specs.Kinds.{fault_number, read_means}

-- not past the row's end
pub at_most : {c : Cursor} {z p : ℕ} → next p ≡ c → In z c → p ≤ z
unfolding place
at_most e i = rw (← e) at i

-- a `?` returns the fault that it met
pub passed_on : (r : Result ℕ RuleFault) (f : RuleFault) → IsErrAnd r (λ e. e ≡ f) → read_means r ≡ wrong (fault_number f.kind) f.at
passed_on (Ok o) f h = absurd h
passed_on (Err e) f h = ap (λ g. wrong (fault_number g.kind) g.at) h
