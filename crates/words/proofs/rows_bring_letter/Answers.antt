-- `words::rows_bring_letter`: the rows still to come have a rule that brings one where all of them have.
use mathlib.Core.Bool.{true, false}
use mathlib.Core.Path.{refl, sym, ◌∙◌}
use native.Mathlib.Omega.{arith}
use Prim.Native.Nat.{◌+◌, ◌-◌}
use lib.ListN.{length-drop}
use Rattle.definition.specs.ClassRows.{classes_of}
use Rattle.words.specs.Found.{row_there, row_read}
use Rattle.words.specs.Goes.{brings}
use Rattle.words.proofs.Ends.{rows-over, rows_turn, rows_next}
use Rattle.words.proofs.rows_bring_letter.Goals as goal

pub brings_letter-requires : goal.brings_letter-requires
brings_letter-requires c = row_read c.args.dicts.now.rules.now c.loop-turn.row (c.args.count - c.loop-turn._turn) (omega arith) c.loop-turn.invariant.1

pub returns-then-brings_letter : goal.returns-then-brings_letter
returns-then-brings_letter c =
    let l = c.loop-turn in
    let left = c.args.count - l._turn in
    λ classes e. rows_turn c.args.dicts.now.rules.now l.row left (left - 1) (omega arith) l.invariant.1 _ refl (brings (classes_of classes)) true
    (sym c.if-brings_letter.true ∙ c.brings_letter.ensures classes e) ∙ l.invariant.0 classes e

pub overflow_add-row : goal.overflow_add-row
overflow_add-row c =
    let l = c.loop-turn in
    let b = c.args.dicts.now.rules.now in
    let left = c.args.count - l._turn in
    let r = (row_read b l.row left (omega arith) l.invariant.1).placed.row in
    let h = row_there b l.row left (omega arith) l.invariant.1 in
    let z = c.size-row.ensures.0 in
    omega (arith, r, h, z, length-drop l.row b)

pub loop-turn-preserved : goal.loop-turn-preserved
loop-turn-preserved c =
    let l = c.loop-turn in
    let b = c.args.dicts.now.rules.now in
    let left = c.args.count - l._turn in
    let rest = c.args.count - (l._turn + 1) in (
      λ classes e. rows_turn b l.row left rest (omega arith) l.invariant.1 _ c.size-row.ensures.0 (brings (classes_of classes)) false
          (sym c.if-brings_letter.false ∙ c.brings_letter.ensures classes e) ∙ l.invariant.0 classes e,
      rows_next b l.row left rest (omega arith) l.invariant.1 _ c.size-row.ensures.0,
    )

pub returns : goal.returns
returns c =
    let l = c.loop-turn in
    λ classes e. rows-over c.args.dicts.now.rules.now l.row (c.args.count - l._turn) (brings (classes_of classes)) (omega arith) ∙ l.invariant.0 classes e
