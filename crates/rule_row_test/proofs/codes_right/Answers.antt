-- `rule_row_test::codes_right`: the codes, then what follows them.
use Prim.Native.Nat.{◌+◌, ◌*◌}
use native.Mathlib.Omega.{arith}
use mathlib.Core.Path.{refl}
use Rattle.rule_row_test.specs.Fields.{target-place, many_codes, no_texts, wrong-codes, codes-told}
use Rattle.rule_row_test.proofs.codes_right.Goals as goal

pub returns-then-count-gt-MOST_CODES : goal.returns-then-count-gt-MOST_CODES
returns-then-count-gt-MOST_CODES c =
    let t = c in
    let a = t.args in
    let q = t.requires in
    many_codes a.s.now a.row a.codes a.end q.0 q.1 _ t.at_there-count.ensures.0 (omega arith)

pub returns-then-end-target : goal.returns-then-end-target
returns-then-end-target c =
    let t = c in
    let a = t.args in
    let q = t.requires in
    no_texts a.s.now a.row a.codes a.end q.0 q.1 _ t.at_there-count.ensures.0 (a.codes + 1 + 3 * t.at_there-count.result) refl (omega arith)

pub texts_right-requires : goal.texts_right-requires
texts_right-requires c =
    let t = c in
    let a = t.args in
    let q = t.requires in
    (target-place a.s.now a.row a.codes a.end q.0 q.1 _ t.at_there-count.ensures.0 _ refl, q.1, omega arith, q.3, q.4)

pub returns-then-all_codes : goal.returns-then-all_codes
returns-then-all_codes c =
    let y = c in
    let t = y in
    let a = t.args in
    let q = t.requires in
    codes-told a.s.now a.row a.codes a.end q.0 q.1 _ t.at_there-count.ensures.0
    _ refl _ refl _ y.all_codes.ensures (omega arith) c.if-all_codes.true _ c.texts_right.ensures

pub returns-else-all_codes : goal.returns-else-all_codes
returns-else-all_codes c =
    let y = c in
    let t = y in
    let a = t.args in
    let q = t.requires in
    rw c.if-all_codes.false
    (wrong-codes a.s.now a.row a.codes a.end q.0 q.1 _ t.at_there-count.ensures.0 _ refl _ refl _ y.all_codes.ensures c.if-all_codes.false)
