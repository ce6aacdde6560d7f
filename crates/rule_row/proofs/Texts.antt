-- Where the texts of a row lie, and that each is a part of the table.
use mathlib.Core.Bool.{true}
use mathlib.Core.Path.{◌≡◌, sym, ap, ◌∙◌}
use mathlib.Core.List.{List}
use Prim.Native.Nat.{ℕ, ◌+◌, ◌-◌, ◌≤◌}
use native.Mathlib.Omega.{arith}
use lib.ListN.{length, get_or, take, drop, length-drop}
use lib.Seq.{drop-drop}
use Rattle.definition.specs.RuleRows.{end_target_from, others_from}
use Rattle.definition.specs.RuleRows.{rule_flag, target_at, past_text, end_target_at, others_at, target_bit, end_target_bit, text_size, text_of}
use Rattle.definition.specs.Places.{Placed}
use Rattle.definition.specs.There.{byte_there}

module _ (s : List ℕ) (o n : ℕ) (e : n ≡ get_or s o 0) where
  pub size_is : 1 + n ≡ text_size (drop o s)
  unfolding text_size
  size_is = ap (λ i. 1 + i) (e ∙ byte_there s o)

module _ (R : List ℕ) (row o n : ℕ) (e : n ≡ get_or (drop row R) o 0) where
  pub reach : o + text_size (drop o (drop row R)) ≤ length (drop row R) → row + o + 1 + n ≤ length R
  reach h = let z = size_is (drop row R) o n e in omega (arith, length-drop row R)

  pub part : take (row + o + 1 + n - (row + o + 1)) (drop (row + o + 1) R) ≡ text_of (drop o (drop row R))
  unfolding text_of
  part =
      let z : row + o + 1 + n - (row + o + 1) ≡ n = omega arith in
      ap (λ i. take i (drop (row + o + 1) R)) (z ∙ e ∙ byte_there (drop row R) o)
      ∙ ap (λ l. take (get_or (drop o (drop row R)) 0 0) l)
      (sym (drop-drop 1 (row + o) R) ∙ ap (drop 1) (sym (drop-drop o row R)))

module _ (s : List ℕ) (p : Placed s) where
  pub target_lies : rule_flag s target_bit ≡ true → target_at s + text_size (drop (target_at s) s) ≤ length s
  unfolding end_target_from past_text
  target_lies h =
      let e : end_target_at s ≡ target_at s + text_size (drop (target_at s) s) = rw h in
      omega (arith, p.row, p.end_target, p.others)

  pub end_target_lies : rule_flag s end_target_bit ≡ true
      → end_target_at s + text_size (drop (end_target_at s) s) ≤ length s
  unfolding others_from past_text
  end_target_lies h =
      let e : others_at s ≡ end_target_at s + text_size (drop (end_target_at s) s) = rw h in
      omega (arith, p.row, p.others)
