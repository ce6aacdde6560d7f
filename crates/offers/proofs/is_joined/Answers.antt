-- `offers::is_joined`: the rest with the other, then the front with the one.
use mathlib.Core.Bool.{true, false}
use mathlib.Core.Path.{refl, sym, ◌∙◌}
use native.Mathlib.Omega.{arith}
use Rattle.lent_bytes.specs.Library.{same_texts}
use Rattle.offers.proofs.Seeking.{joined_short, joined_parts}
use Rattle.offers.proofs.is_joined.Goals as goal

pub returns-then-w-n : goal.returns-then-w-n
returns-then-w-n c = let a = c.args in joined_short a.w.now a.u.now a.v.now (omega arith)

pub returns-then-eq : goal.returns-then-eq
returns-then-eq c =
    let a = c.args in
    joined_parts a.w.now a.u.now a.v.now (omega arith) true _ (sym c.if-eq.true ∙ c.eq.ensures ∙ same_texts _ _) (c.eq-then-eq.ensures ∙ same_texts _ _)

pub returns-else-eq : goal.returns-else-eq
returns-else-eq c =
    let a = c.args in
    c.if-eq.false ∙ joined_parts a.w.now a.u.now a.v.now (omega arith) false _ (sym c.if-eq.false ∙ c.eq.ensures ∙ same_texts _ _) refl
