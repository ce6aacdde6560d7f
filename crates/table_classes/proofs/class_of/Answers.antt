-- `table_classes::class_of`: the rows below `low` stand before the character, those from `high` on after it.
use Prim.Native.Nat.{◌/◌, ◌<◌, ◌-◌, ◌+◌, ◌*◌}
use mathlib.Core.Path.{refl}
use native.Mathlib.Omega.{arith}
use lib.ListN.{length}
use Rattle.definition.specs.ClassRows.{classes_of}
use Rattle.table_classes.specs.Told.{class_means, Ranged}
use Rattle.table_classes.proofs.Search.{rows-count, row_kept, row_found, row_before, row_after, head-there, all-rows, no_row_left}
use Rattle.table_classes.proofs.class_of.Goals as goal

pub overflow_sub-high : goal.overflow_sub-high
overflow_sub-high c = omega (arith, head-there c.args.classes.now c.requires)

pub loop-low-init : goal.loop-low-init
loop-low-init c = all-rows c.args.classes.now c.requires c.args.c

pub overflow_mul-row : goal.overflow_mul-row
overflow_mul-row c = omega (arith, rows-count c.args.classes.now c.requires)

pub overflow_add-row : goal.overflow_add-row
overflow_add-row c = omega (arith, rows-count c.args.classes.now c.requires)

pub three_there-char-requires : goal.three_there-char-requires
three_there-char-requires c = let l = c in omega (arith, rows-count ((l.args.classes.now)) l.requires)

pub returns-then-char-c : goal.returns-then-char-c
unfolding class_means Ranged
returns-then-char-c c =
    let l = c in
    let n = l.args.c in
    let h : (l.loop-low.low + (l.loop-low.high - l.loop-low.low) / 2) < (length (classes_of l.args.classes.now)) = omega arith in
    let k = row_kept ((l.args.classes.now)) l.requires ((l.loop-low.low + (l.loop-low.high - l.loop-low.low) / 2)) (5 + (l.loop-low.low + (l.loop-low.high - l.loop-low.low) / 2) * 6) n h refl in
    let w = c.class_row.ensures in (
      row_found ((l.args.classes.now)) l.requires ((l.loop-low.low + (l.loop-low.high - l.loop-low.low) / 2)) (5 + (l.loop-low.low + (l.loop-low.high - l.loop-low.low) / 2) * 6) n h refl (omega arith) _ _ _ w.0 w.1 w.2,
      (omega arith, omega arith, omega arith),
    )

pub loop-low-preserved-then-char-c-2 : goal.loop-low-preserved-then-char-c-2
loop-low-preserved-then-char-c-2 c =
    let l = c in
    let h : (l.loop-low.low + (l.loop-low.high - l.loop-low.low) / 2) < (length (classes_of l.args.classes.now)) = omega arith in
    record {
      order = omega arith;
      within = omega arith;
      below = row_before ((l.args.classes.now)) l.requires ((l.loop-low.low + (l.loop-low.high - l.loop-low.low) / 2)) (5 + (l.loop-low.low + (l.loop-low.high - l.loop-low.low) / 2) * 6) l.args.c h refl
          (omega arith);
      above = l.loop-low.invariant.above;
    }

pub loop-low-preserved : goal.loop-low-preserved
loop-low-preserved c =
    let l = c in
    let h : (l.loop-low.low + (l.loop-low.high - l.loop-low.low) / 2) < (length (classes_of l.args.classes.now)) = omega arith in
    let z : l.args.c < c.three_there-char.result = omega arith in
    record {
      order = omega arith;
      within = omega arith;
      below = l.loop-low.invariant.below;
      above = row_after ((l.args.classes.now)) l.requires ((l.loop-low.low + (l.loop-low.high - l.loop-low.low) / 2)) (5 + (l.loop-low.low + (l.loop-low.high - l.loop-low.low) / 2) * 6) l.args.c h refl
          (omega arith);
    }

pub returns : goal.returns
unfolding class_means Ranged
returns c =
    let l = c in
    (no_row_left ((l.args.classes.now)) l.args.c l.loop-low.low l.loop-low.high l.loop-low.invariant (omega arith), tt)
