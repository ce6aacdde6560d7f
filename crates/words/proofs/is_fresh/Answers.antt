-- `words::is_fresh`: by the text, and then by the edges.
use mathlib.Core.Bool.{not}
use mathlib.Core.Path.{sym, ap, ◌∙◌}
use native.Mathlib.Omega.{arith}
use Rattle.edge_places.specs.Shows.{letter-shown}
use Rattle.words.specs.Given.{kinds, seen, line-size, alpha-before}
use Rattle.words.proofs.Starts.{by_text, by-edge}
use Rattle.words.proofs.is_fresh.Goals as goal

pub returns-then-not-is_alpha_at : goal.returns-then-not-is_alpha_at
returns-then-not-is_alpha_at c =
    let a = c.args in
    λ w g. let z = line-size g.text in
    by-edge (kinds w) w.text (seen w) a.p (sym (alpha-before g.text a.p (omega arith)) ∙ sym c.is_alpha_at.ensures ∙ c.if-not-is_alpha_at.true) _
    (c.has_letter.ensures ∙ letter-shown g.edges a.p (omega arith))

pub returns-else-not-is_alpha_at : goal.returns-else-not-is_alpha_at
returns-else-not-is_alpha_at c =
    let a = c.args in
    λ w g. let z = line-size g.text in
    ap not c.if-not-is_alpha_at.false
    ∙ by_text (kinds w) w.text (seen w) a.p (sym (alpha-before g.text a.p (omega arith)) ∙ sym c.is_alpha_at.ensures ∙ c.if-not-is_alpha_at.false)
