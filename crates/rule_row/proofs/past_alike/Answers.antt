-- `rule_row::past_alike`: all characters before `o` are alike (`Level`).
use native.Mathlib.Omega.{arith}
use mathlib.Core.Path.{refl}
use Rattle.rule_row.specs.Rise.{begun, starts, same_word, inside, level_here}
use Rattle.rule_row.proofs.past_alike.Goals as goal

pub loop-o-init : goal.loop-o-init
loop-o-init c = (begun _ _, starts c.requires.0)

pub word-requires : goal.word-requires
word-requires c =
    let l = c in
    let i = inside l.loop-o.invariant.0 l.requires.0 (omega arith) in
    omega arith

pub word-requires-in-loop-o : goal.word-requires-in-loop-o
word-requires-in-loop-o c =
    let l = c in
    let i = inside l.loop-o.invariant.0 l.requires.0 (omega arith) in
    omega arith

pub loop-o-preserved : goal.loop-o-preserved
loop-o-preserved c =
    let l = c in
    let z = l.requires.0 in
    let i = inside l.loop-o.invariant.0 z (omega arith) in
    let f = same_word c.word.ensures c.word-in-loop-o.ensures (omega arith) in
    (level_here l.loop-o.invariant.0 z (omega arith) _ _ refl refl f, omega arith)
