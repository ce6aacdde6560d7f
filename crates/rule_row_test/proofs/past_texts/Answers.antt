-- `rule_row_test::past_texts`: what is told of the texts that are left is told of all.
use Prim.Native.Nat.{◌+◌, ◌-◌}
use mathlib.Core.Path.{refl}
use native.Mathlib.Omega.{arith}
use Rattle.std.specs.Prelude.{Some, None}
use Rattle.rule_row_test.specs.Texts.{begun, none_left, past_end, too_long, past_text, unprintable, text-passed}
use Rattle.rule_row_test.proofs.past_texts.Goals as goal

pub loop-turn-init : goal.loop-turn-init
loop-turn-init c = (omega arith, λ r w. begun _ _ _ _ r w)

pub returns-then-end-at : goal.returns-then-end-at
returns-then-end-at c =
    let l = c.loop-turn in
    let left = c.args.count - l._turn in
    l.invariant.1 None (past_end c.args.s.now c.args.end l.at left (omega arith) (omega arith))

pub returns-then-n-gt-MOST_TARGET : goal.returns-then-n-gt-MOST_TARGET
returns-then-n-gt-MOST_TARGET c =
    let l = c.loop-turn in
    let left = c.args.count - l._turn in
    l.invariant.1 None (too_long c.args.s.now c.args.end l.at left (omega arith) _ c.at_there-n.ensures.0 (omega arith))

pub returns-then-end-to : goal.returns-then-end-to
returns-then-end-to c =
    let l = c.loop-turn in
    let left = c.args.count - l._turn in
    l.invariant.1 None (past_text c.args.s.now c.args.end l.at left (omega arith) _ c.at_there-n.ensures.0
    (l.at + 1 + c.at_there-n.result) refl (omega arith))

pub returns-then-not-all_printable : goal.returns-then-not-all_printable
returns-then-not-all_printable c =
    let l = c.loop-turn in
    let left = c.args.count - l._turn in
    l.invariant.1 None (unprintable c.args.s.now c.args.end l.at left (omega arith) _ c.at_there-n.ensures.0 _ (omega arith)
    (omega arith) _ c.all_printable.ensures c.if-not-all_printable.true)

pub loop-turn-preserved : goal.loop-turn-preserved
loop-turn-preserved c =
    let l = c.loop-turn in
    let left = c.args.count - l._turn in (
      omega arith,
      λ r w. l.invariant.1 r (text-passed c.args.s.now c.args.end l.at left (omega arith) _ c.at_there-n.ensures.0 _ (omega arith)
          (omega arith) _ c.all_printable.ensures c.if-not-all_printable.false _ (omega arith) r w),
    )

pub returns : goal.returns
returns c =
    let l = c.loop-turn in
    l.invariant.1 (Some l.at) (none_left c.args.s.now c.args.end l.at (c.args.count - l._turn) (omega arith) (omega arith))
