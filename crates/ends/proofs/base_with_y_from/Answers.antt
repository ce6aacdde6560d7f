-- `ends::base_with_y_from`: no y, a y at the front, a y behind a letter that goes before it, or behind another.
use Prim.Native.Nat.{◌-◌}
use mathlib.Core.Path.{sym, ap, ◌∙◌}
use native.Mathlib.Omega.{arith}
use Rattle.definition.specs.Vowels.{before_y}
use Rattle.rom.specs.Sets.{in_before_y}
use Rattle.ends.specs.Ends.{no_y_zero, no_y, y_first, y_alone, y_after}
use Rattle.ends.proofs.base_with_y_from.Goals as goal
use Rattle.ends.proofs.base_with_y_from.Goals.{then-to-eq0-via-then-to-eq0, then-to-eq0-via-else-to-eq0+then-byte-ne121}

pub returns-then-to-eq0 : goal.returns-then-to-eq0
returns-then-to-eq0 c =
    let a = c.args in
    elim c.then-to-eq0.branch [
      | then-to-eq0-via-then-to-eq0 w ↦ (no_y_zero a.s.now a.to (omega arith), omega arith)
      | then-to-eq0-via-else-to-eq0+then-byte-ne121 w ↦
          (no_y a.s.now a.to (a.to - 1) (omega arith) (λ z. w.if-byte-ne121.true (omega arith)), omega arith)
    ]

pub returns-then-to-eq1 : goal.returns-then-to-eq1
returns-then-to-eq1 c =
    let a = c.args in
    (y_first a.s.now a.to (a.to - 1) (omega arith) (omega arith) (omega arith), omega arith)

pub returns-then-is_in : goal.returns-then-is_in
returns-then-is_in c =
    let a = c.args in
    let b = c.byte-2 in
    let e = ap before_y (sym b.ensures.0) ∙ sym (c.is_in.ensures ∙ in_before_y b.result) ∙ c.if-is_in.true in
    (y_after a.s.now a.to (a.to - 1) (omega arith) (omega arith) (a.to - 2) (omega arith) e, omega arith)

pub returns : goal.returns
returns c =
    let a = c.args in
    let b = c.byte-2 in
    let e = ap before_y (sym b.ensures.0) ∙ sym (c.is_in.ensures ∙ in_before_y b.result) ∙ c.if-is_in.false in
    (y_alone a.s.now a.to (a.to - 1) (omega arith) (omega arith) (a.to - 2) (omega arith) e, omega arith)
