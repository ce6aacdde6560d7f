-- `utf8_vectors::are_chars`: each place is as given, or one is not.
use mathlib.Core.Path.{sym, ◌∙◌}
use native.Mathlib.Omega.{arith}
use Rattle.utf8_vectors.proofs.Cases.{over, right-place, wrong-place}
use Rattle.utf8_vectors.proofs.are_chars.Goals as goal

pub loop-i-preserved : goal.loop-i-preserved
loop-i-preserved c =
    right-place c.args.input.now c.args.at c.args.count c.loop-i.i c.args.chars.now (omega arith)
    (sym c.if-not-is_place.false ∙ c.is_place.ensures) ∙ c.loop-i.invariant

pub returns-then-not-is_place : goal.returns-then-not-is_place
returns-then-not-is_place c =
    wrong-place c.args.input.now c.args.at c.args.count c.loop-i.i c.args.chars.now (omega arith)
    (sym c.if-not-is_place.true ∙ c.is_place.ensures) ∙ c.loop-i.invariant

pub returns : goal.returns
returns c =
    over c.args.input.now c.args.at c.args.count c.loop-i.i c.args.chars.now (omega arith) ∙ c.loop-i.invariant
