-- `table_vowels::vowel_row`: the rows from `at` on have the script's row, if any has.
use Prim.Native.Nat.{◌+◌}
use mathlib.Core.Path.{refl, ◌∙◌}
use native.Mathlib.Omega.{arith}
use Rattle.table_vowels.specs.Told.{vowel_means, Lettered}
use Rattle.table_vowels.proofs.VowelWalk.{all-rows, row_start, row_over, row_kept, row_inside, row_hit, row_miss}
use Rattle.table_vowels.proofs.vowel_row.Goals as goal

pub loop-at-init : goal.loop-at-init
loop-at-init c =
    let a = c.args in
    (row_start a.vowels.now a.script, all-rows a.vowels.now c.requires)

pub returns-then-at-script : goal.returns-then-at-script
unfolding vowel_means Lettered
returns-then-at-script c =
    let l = c in
    let n = c.at.result in
    let i = row_inside ((l.args.vowels.now)) ((l.args.script)) l.loop-at.at (omega arith) l.loop-at.invariant.1 in
    let k = row_kept ((l.args.vowels.now)) ((l.args.script)) l.loop-at.at (omega arith) l.loop-at.invariant.1 in (
      row_hit ((l.args.vowels.now)) ((l.args.script)) l.loop-at.at (omega arith) l.loop-at.invariant.1 (omega arith) c.at-ao.result
          (l.loop-at.at + 3) (l.loop-at.at + 3 + n)
          (omega arith) refl (omega arith) ∙ l.loop-at.invariant.0,
      (omega arith, omega arith, omega arith),
    )

pub loop-at-preserved : goal.loop-at-preserved
loop-at-preserved c =
    let l = c in
    let m = row_miss ((l.args.vowels.now)) ((l.args.script)) l.loop-at.at (omega arith) l.loop-at.invariant.1 (λ z. c.if-at-script.false (omega arith))
    (l.loop-at.at + 3 + c.at.result) (omega arith) in
    (m.0 ∙ l.loop-at.invariant.0, m.1)

pub returns : goal.returns
unfolding vowel_means Lettered
returns c = let l = c in (row_over ((l.args.vowels.now)) ((l.args.script)) l.loop-at.at (omega arith) ∙ l.loop-at.invariant.0, tt)
