-- `decomp::beside`: a place of the line is one further than its position in the text, since a space stands before it.
use mathlib.Core.Path.{ap, ◌∙◌}
use Prim.Native.Nat.{ℕ, suc, ◌+◌}
use native.Mathlib.Omega.{arith}
use native.Mathlib.Numerals.{add-one}
use Rattle.definition.specs.Texts.{at, prev}
use Rattle.definition.specs.Decomposing.{number}
use Rattle.words.specs.Given.{kinds}
use Rattle.decomp.proofs.beside.Goals as goal

pub returns : goal.returns
unfolding at prev
returns c =
    λ w g. record {
      own = c.is_number_at-number.ensures w g ∙ ap (λ (i : ℕ). number (kinds w) (prev w.text i)) (add-one c.args.p);
      before = c.is_number_at-before.ensures w g;
      after = c.is_number_at-after.ensures w g ∙ ap (λ (i : ℕ). number (kinds w) (prev w.text i)) {x = c.args.p + 2} {y = suc (c.args.p + 1)} (omega arith);
    }
