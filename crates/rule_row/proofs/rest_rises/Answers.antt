-- `rule_row::rest_rises`: what is left of both sources rises where they do (`Level`), and each turn keeps that.
use native.Mathlib.Omega.{arith}
use Rattle.rule_row.specs.Rise.{inside, ended, rises-here, falls_here, level_here}
use Rattle.rule_row.proofs.rest_rises.Goals as goal

pub returns-then-x-y : goal.returns-then-x-y
returns-then-x-y c =
    let y = c in
    let l = y in
    rises-here l.loop-o.invariant.0 l.requires.0 (omega arith) _ _ y.three-x.ensures.0 y.three-y.ensures.0 (omega arith)

pub returns-then-y-x : goal.returns-then-y-x
returns-then-y-x c =
    let y = c in
    let l = y in
    falls_here l.loop-o.invariant.0 l.requires.0 (omega arith) _ _ y.three-x.ensures.0 y.three-y.ensures.0 (omega arith)

pub loop-o-preserved : goal.loop-o-preserved
loop-o-preserved c =
    let y = c in
    let l = y in
    let z = l.requires.0 in
    let i = inside l.loop-o.invariant.0 z (omega arith) in
    (level_here l.loop-o.invariant.0 z (omega arith) _ _ y.three-x.ensures.0 y.three-y.ensures.0 (omega arith), omega arith)

pub returns : goal.returns
returns c =
    let l = c in
    ended l.loop-o.invariant.0 (omega arith) (omega arith) l.requires.0
    _ _ c.source_len.ensures.0 c.source_len-2.ensures.0
