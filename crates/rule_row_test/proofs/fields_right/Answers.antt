-- `rule_row_test::fields_right`: its head, its source, and what follows.
use native.Mathlib.Omega.{arith}
use mathlib.Core.Path.{refl}
use lib.ListN.{drop, length-drop}
use Rattle.rule_row_test.specs.Fields.{short_row, cut_row, high_flag, no_source, long-source, no_codes, codes-place, wrong-source, row_told}
use Rattle.rule_row_test.proofs.fields_right.Goals as goal

pub returns-then-room-lt11 : goal.returns-then-room-lt11
returns-then-room-lt11 c =
    let q = c in
    let s = drop q.args.row q.args.s.now in
    short_row s (omega (arith, length-drop q.args.row q.args.s.now))

pub returns-then-room-size : goal.returns-then-room-size
returns-then-room-size c =
    let q = c in
    let s = drop q.args.row q.args.s.now in
    cut_row s (omega (arith, c.size_there-size.ensures.0, length-drop q.args.row q.args.s.now))

pub returns-then-at_there-gt127 : goal.returns-then-at_there-gt127
returns-then-at_there-gt127 c =
    let q = c in
    let s = drop q.args.row q.args.s.now in
    high_flag s _ c.at_there.ensures.0 (omega arith) (omega arith)

pub returns-then-count-eq0 : goal.returns-then-count-eq0
returns-then-count-eq0 c =
    let q = c in
    let s = drop q.args.row q.args.s.now in
    no_source s _ c.at_there-count.ensures.0 (omega arith)

pub returns-then-count-gt-MOST_SOURCE : goal.returns-then-count-gt-MOST_SOURCE
returns-then-count-gt-MOST_SOURCE c =
    let q = c in
    let s = drop q.args.row q.args.s.now in
    long-source s _ c.at_there-count.ensures.0 (omega arith)

pub returns-then-end-codes : goal.returns-then-end-codes
returns-then-end-codes c =
    let q = c in
    let s = drop q.args.row q.args.s.now in
    no_codes s _ c.at_there-count.ensures.0 (omega (arith, c.size_there-size.ensures.0))

pub codes_right-requires : goal.codes_right-requires
codes_right-requires c =
    let k = c in
    let h = k in
    let z = h in
    let q = z in (
      codes-place q.args.s.now q.args.row _ k.at_there-count.ensures.0 (omega arith) _ refl,
      omega (arith, z.size_there-size.ensures.0),
      omega arith,
      omega arith,
      omega (arith, h.at_there.ensures.0),
    )

pub returns-then-all_scalar : goal.returns-then-all_scalar
returns-then-all_scalar c =
    let y = c in
    let k = y in
    let h = k in
    let z = h in
    let q = z in
    row_told q.args.s.now q.args.row _ k.at_there-count.ensures.0 (omega arith) _ refl _ y.asked_from.ensures _ y.all_scalar.ensures c.if-all_scalar.true
    (omega arith) (omega (arith, z.size_there-size.ensures.0, length-drop q.args.row q.args.s.now)) (omega (arith, h.at_there.ensures.0)) _ c.codes_right.ensures

pub returns-else-all_scalar : goal.returns-else-all_scalar
returns-else-all_scalar c =
    let y = c in
    let k = y in
    let q = k in
    rw c.if-all_scalar.false
    (wrong-source q.args.s.now q.args.row _ k.at_there-count.ensures.0 (omega arith) _ refl _ y.asked_from.ensures _ y.all_scalar.ensures c.if-all_scalar.false)
