-- `ends::run_from`: the run before where the loop stands starts where the run before `to` does.
use Rattle.std.proofs.Common.{◌≡◌, true, false, ◌+◌, ◌-◌, get_or, refl, sym, ap, ◌∙◌, arith}
use Rattle.ends.specs.Back.{run-next, run-here, run_zero}
use Rattle.ends.proofs.run_from.Goals as goal

pub loop-at-init : goal.loop-at-init
loop-at-init g c q h = refl

pub returns-then-not-passes-clause-run : goal.returns-then-not-passes-clause-run
returns-then-not-passes-clause-run g c q h =
    let s = c.args.s.now in
    let i = c.loop-at.at - 1 in
    let no : q (get_or s i 0) ≡ false = ap q (sym c.byte.ensures.0) ∙ sym (h c.byte.result false c.byte.ensures.1 c.if-not-passes.ensures) in
    let here : i + 1 ≡ c.loop-at.at = omega arith in
    here ∙ run-here q s c.loop-at.at i (omega arith) no ∙ c.loop-at.invariant q h

pub loop-at-preserved : goal.loop-at-preserved
loop-at-preserved g c q h =
    let s = c.args.s.now in
    let i = c.loop-at.at - 1 in
    let yes : q (get_or s i 0) ≡ true = ap q (sym c.byte.ensures.0) ∙ sym (h c.byte.result true c.byte.ensures.1 c.if-not-passes.ensures) in
    run-next q s c.loop-at.at i (omega arith) yes ∙ c.loop-at.invariant q h

pub returns-clause-run : goal.returns-clause-run
returns-clause-run g c q h = run_zero q c.args.s.now c.loop-at.at (omega arith) ∙ c.loop-at.invariant q h
