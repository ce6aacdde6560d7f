-- `jettyfig::Asked::of`: the first number that is none is refused, and what has numbers passes all tests.
use mathlib.Core.Option.{some}
use mathlib.Core.Path.{◌≡◌, ap, ◌∙◌}
use Prim.Native.Nat.{ℕ, ◌≤◌}
use native.Mathlib.Omega.{arith}
use Rattle.jettyfig.specs.declared.Refusal.{Refusal}
use Rattle.jettyfig.specs.Verdicts.{refusal_means, choose, passed_on}
use Rattle.jettyfig.proofs.Tests.{mode_few, capitals_few, o_ang_few, readings_few, mode_refused, capitals_refused, o_ang_refused, readings_refused, none_refused}
use Rattle.jettyfig.proofs.Asked.of.Goals as goal

few : (m n most : ℕ) → m ≡ n → m ≤ most → n ≤ most
few m n most e h = omega arith

pub returns-in_err-mode-clause-verdict : goal.returns-in_err-mode-clause-verdict
returns-in_err-mode-clause-verdict c =
    passed_on _ _ c.from_residual.ensures.1
    ∙ ap (λ (r : Refusal). some (refusal_means r)) c.in_err-mode.ensures.0
    ∙ mode_refused c.args.mode (choose c.args.capitals c.args.o_ang c.args.readings) c.in_err-mode.ensures.1

pub returns-in_err-capitals-clause-verdict : goal.returns-in_err-capitals-clause-verdict
returns-in_err-capitals-clause-verdict c =
    passed_on _ _ c.from_residual-in_err-capitals.ensures.1
    ∙ ap (λ (r : Refusal). some (refusal_means r)) c.in_err-capitals.ensures.0
    ∙ capitals_refused c.args.mode (choose c.args.capitals c.args.o_ang c.args.readings)
    (few _ _ _ c.in_ok-mode.ensures (mode_few c.in_ok-mode.mode)) c.in_err-capitals.ensures.1

pub returns-in_err-o_ang-clause-verdict : goal.returns-in_err-o_ang-clause-verdict
returns-in_err-o_ang-clause-verdict c =
    passed_on _ _ c.from_residual-in_err-o_ang.ensures.1
    ∙ ap (λ (r : Refusal). some (refusal_means r)) c.in_err-o_ang.ensures.0
    ∙ o_ang_refused c.args.mode (choose c.args.capitals c.args.o_ang c.args.readings)
    (few _ _ _ c.in_ok-mode.ensures (mode_few c.in_ok-mode.mode))
    (few _ _ _ c.in_ok-capitals.ensures (capitals_few c.in_ok-capitals.capitals)) c.in_err-o_ang.ensures.1

pub returns-in_err-readings-clause-verdict : goal.returns-in_err-readings-clause-verdict
returns-in_err-readings-clause-verdict c =
    passed_on _ _ c.from_residual-in_err-readings.ensures.1
    ∙ ap (λ (r : Refusal). some (refusal_means r)) c.in_err-readings.ensures.0
    ∙ readings_refused c.args.mode (choose c.args.capitals c.args.o_ang c.args.readings)
    (few _ _ _ c.in_ok-mode.ensures (mode_few c.in_ok-mode.mode))
    (few _ _ _ c.in_ok-capitals.ensures (capitals_few c.in_ok-capitals.capitals))
    (few _ _ _ c.in_ok-o_ang.ensures (o_ang_few c.in_ok-o_ang.o_ang)) c.in_err-readings.ensures.1

pub returns-clause-verdict : goal.returns-clause-verdict
returns-clause-verdict c =
    none_refused c.args.mode (choose c.args.capitals c.args.o_ang c.args.readings)
    (few _ _ _ c.in_ok-mode.ensures (mode_few c.in_ok-mode.mode))
    (few _ _ _ c.in_ok-capitals.ensures (capitals_few c.in_ok-capitals.capitals))
    (few _ _ _ c.in_ok-o_ang.ensures (o_ang_few c.in_ok-o_ang.o_ang))
    (few _ _ _ c.in_ok-readings.ensures (readings_few c.in_ok-readings.readings))
