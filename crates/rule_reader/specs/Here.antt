-- What stands at an offset and where the next row begins, case by case.
use Rattle.std.specs.Prelude.{true, ◌≡◌, List, ℕ, ◌+◌, ◌-◌, ◌≤◌, ◌<◌, min, length, drop, Ok}
use Rattle.std.proofs.Math.Path.{refl, sym, ap}
use Rattle.std.proofs.Common.{◌∙◌, arith, length-drop, le-leb}
use Rattle.std.proofs.lemmas.Bool.{lt-leb}
use Rattle.base.specs.Pick.{pick}
use Rattle.definition.specs.Texts.{Text}
use Rattle.definition.specs.Refusals.{refuse}
use Rattle.definition.specs.RuleRows.{rule_size, rule_right, source_count, target_at, end_target_at, others_at}
use Rattle.definition.specs.Checked.{rule-checked}
use Rattle.definition.specs.RuleFields.{next, wrong, read_row}
use Rattle.definition.proofs.FieldsWithin.{ends}
use Rattle.definition.specs.RuleTurns.{rule_moves}
use Rattle.rule_row_faults.specs.Kinds.{fault_number}
use Rattle.rule_row_faults.specs.Row.{Parted}
use Rattle.rule_row_faults.specs.declared.RowParts.{RowParts}
use Rattle.rule_row_faults.specs.declared.RuleFault.{RuleFault}
use Rattle.rule_reader.specs.Rows.{a_row, a_fault, the_end, parts, told, row_here, next_row}

parts_are : (s : List ℕ) (p : RowParts) → p.size ≡ rule_size s → p.source ≡ source_count s → p.target ≡ target_at s
    → p.ending ≡ end_target_at s → p.others ≡ others_at s → p ≡ parts s
unfolding parts
parts_are s p a b c d e = rw (← a, ← b, ← c, ← d, ← e) refl

module _ (t : List ℕ) (at : ℕ) where
  pub at_end : length t ≤ at → the_end ≡ row_here t at
  unfolding row_here pick
  at_end h = rw (le-leb (length t) at h) refl

  module _ (h : at < length t) where
    before-end : told at (drop at t) (read_row (drop at t)) ≡ row_here t at
    unfolding row_here pick
    before-end = rw (lt-leb (length t) at h) refl

    pub row_read : (p : RowParts) → next p.size ≡ read_row (drop at t) → Parted (drop at t) (Ok p) → a_row p ≡ row_here t at
    unfolding Parted told
    row_read p n d =
        ap a_row (parts_are (drop at t) p (ends (drop at t) p.size (sym n)) d.0 d.1 d.2 d.3)
        ∙ ap (told at (drop at t)) n ∙ before-end

    pub fault-read : (f : RuleFault) → wrong (fault_number f.kind) f.at ≡ read_row (drop at t)
        → a_fault (refuse (fault_number f.kind) (at + f.at)) ≡ row_here t at
    unfolding told
    fault-read f e = ap (told at (drop at t)) e ∙ before-end

  -- the next row: nowhere from the end on, at the end, or past this one
  pub none-next : length t ≤ at → at ≡ next_row t at
  unfolding next_row pick
  none-next h = rw (le-leb (length t) at h) refl

  inside : at < length t → min (at + rule_size (drop at t)) (length t) ≡ next_row t at
  unfolding next_row pick
  inside h = rw (lt-leb (length t) at h) refl

  pub next-by : at < length t → (z : ℕ) → z ≡ rule_size (drop at t) → at + min z (length t - at) ≡ next_row t at
  next-by h z e = let i = inside h in omega arith

  module _ (h : at < length t) (z : ℕ) (e : z ≡ rule_size (drop at t)) where
    pub last-next : length t - at ≤ z → length t ≡ next_row t at
    last-next l = let i = inside h in omega arith

    pub some_next : z < length t - at → at + z ≡ next_row t at
    some_next l = let i = inside h in omega arith

  -- a right row lies in the table, and the next begins behind it
  pub right-inside : (old : Text) → rule_right old (drop at t) ≡ true
      → (at < length t) × (at + rule_size (drop at t) ≤ length t)
  right-inside old e =
      let i = (rule-checked old (drop at t) e).inside in
      let m = rule_moves (drop at t) in
      (omega (arith, length-drop at t), omega (arith, length-drop at t))

  pub right-next : (old : Text) → rule_right old (drop at t) ≡ true → next_row t at ≡ at + rule_size (drop at t)
  right-next old e =
      let r = right-inside old e in
      let l = r.1 in
      let i = inside r.0 in
      omega arith
