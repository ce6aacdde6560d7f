-- `jettyfig::romanize`: what is asked is refused first; a text of few characters has the smaller arrays.
use Prim.Native.Nat.{◌≤◌}
use lib.ListN.{length}
use native.Mathlib.Omega.{arith}
use Rattle.definition.specs.Utf8.{decoded}
use Rattle.jettyfig.specs.Verdicts.{choose}
use Rattle.jettyfig.specs.Steps.{few_characters}
use Rattle.jettyfig.proofs.Responded.{asked_so}
use Rattle.jettyfig.proofs.romanize.Goals as goal

pub respond-requires : goal.respond-requires
respond-requires c =
    let few : length (decoded c.args.text.now) ≤ few_characters = c.is_short.ensures c.if-is_short.true in
    record { prepared = (omega arith, omega arith, (omega arith, λ h. omega arith)); places = (omega arith, λ h. omega arith); zeros = c.requires }

pub returns-in_err-asked-clause-called : goal.returns-in_err-asked-clause-called
returns-in_err-asked-clause-called c =
    asked_so c.args.mode (choose c.args.capitals c.args.o_ang c.args.readings) _ _ _ _ _ _ c.args.memory.now.out.now c.requires _ _ _ _
    c.from_residual.ensures.1 c.in_err-asked.ensures.verdict
