-- A row with more alternatives than there may be is not right: named on `texts_right`, so that no answer there hangs on the
-- words of its condition. Where its targets begin and end is told by the row alone, so its conclusion shows each variable.
use Prim.Native.Nat.{ℕ, ◌+◌, ◌<◌, ◌≤◌}
use Rattle.std.specs.Prelude.{List, [], ◌≡◌, get_or, drop}
use Rattle.std.proofs.Math.Bool.{true, false}
use Rattle.std.proofs.Math.Path.{refl}
use Rattle.definition.specs.Limits.{most_alternatives}
use Rattle.definition.specs.RuleRows.{rule_right, rule_size, target_at, texts_size, texts_right}
use Rattle.rule_row_test.specs.Texts.{Passed}
use Rattle.rule_row_test.specs.Fields.{both, too_many}

module _ (b : List ℕ) (row : ℕ) where
  abbrev flags : ℕ
  flags = get_or (drop row b) 2 0

  abbrev target : ℕ
  target = row + target_at (drop row b)

  abbrev others : ℕ
  others = target + texts_size (both flags) (drop target b)

  pub many_alternatives : flags < 128 → texts_right (both flags) (drop target b) ≡ true → others ≤ row + rule_size (drop row b)
      → most_alternatives < get_or (drop others b) 0 0 → rule_right [] (drop row b) ≡ false
  many_alternatives low t i l =
      let w : Passed b (row + rule_size (drop row b)) (both flags) target others = record { ends = refl; inside = i; right = t } in
      (too_many b row target (row + rule_size (drop row b)) low refl refl flags refl others w _ refl l).no refl
