-- `rule_memo::fill`: behind the index each character is put in turn; the characters themselves stay.
use mathlib.Core.Path.{◌≡◌}
use lib.ListN.{length, take, drop}
use Rattle.rule_memo.specs.Kept.{all_places, Kept}
use Rattle.rule_memo.proofs.fill.Given as goal

abbrev pub invariant-loop-i : goal.invariant-loop-i
invariant-loop-i l =
    Kept l.rules (take all_places l.all) × (drop all_places l.all ≡ drop all_places l.initial.all) × (length l.all ≡ length l.initial.all)
