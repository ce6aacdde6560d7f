-- The sources of an accepted rule table have 1 to 16 characters.
use Rattle.std.specs.Prelude.{◌≡◌, List, drop}
use Rattle.std.proofs.Math.Bool.{true}
use Rattle.std.proofs.Math.Option.{none}
use Prim.Native.Nat.{ℕ}
use native.Mathlib.Omega.{arith}
use Rattle.base.specs.Rows.{counted-length}
use Rattle.base.specs.Alls.{All}
use Rattle.definition.specs.Texts.{Text}
use Rattle.definition.specs.RuleRows.{source_count, three_at, rule_source, rule_right, rule_of, rules_of}
use Rattle.definition.specs.RuleFaults.{rule_fault}
use Rattle.definition.specs.Checked.{rule-checked}
use Rattle.definition.proofs.Accepted.{rules-all}
use Rattle.definition.specs.Ranges.{Sourced}

pub rules-sourced : (b : List ℕ) → rule_fault b ≡ none → All Sourced (rules_of b)
rules-sourced b e = rules-all Sourced sourced b e
  where
    sourced : (old : Text) (s : List ℕ) → rule_right old s ≡ true → Sourced (rule_of s)
    sourced old s e = unfold rule_of rule_source in (
        let c = rule-checked old s e in
        let n = counted-length three_at 3 (source_count s) (drop 6 s) in
        record { least = let z = c.least in omega arith; most = let z = c.most in omega arith })
