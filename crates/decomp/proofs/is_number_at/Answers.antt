-- `decomp::is_number_at`: the class of a place has the category of its character.
use mathlib.Core.Path.{ap, ◌∙◌}
use Prim.Native.Nat.{◌%◌}
use native.Mathlib.Omega.{arith}
use lib.Dec.{eqb}
use Rattle.definition.specs.Decomposing.{number}
use Rattle.words.specs.Given.{kind_before, line-size}
use Rattle.decomp.proofs.is_number_at.Goals as goal

pub returns : goal.returns
unfolding number
returns c =
    λ w g. ap (λ k. eqb k 4) (c.category.ensures ∙ ap (λ m. m % 8) c.kind_at.ensures
    ∙ (kind_before g c.args.i (let p = c.requires.1 in omega (arith, p, line-size g))).category)
