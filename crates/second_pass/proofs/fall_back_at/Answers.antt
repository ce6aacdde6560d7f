-- `second_pass::fall_back_at`: nothing is added where an edge covers the character, and the fallback else.
use mathlib.Core.List.{List}
use mathlib.Core.Path.{sym, ap, ◌∙◌}
use Prim.Native.Nat.{◌+◌}
use native.Mathlib.Omega.{arith}
use Rattle.definition.specs.Limits.{most_bytes}
use Rattle.definition.specs.Edges.{Edge, covered}
use Rattle.definition.specs.Call.{tables_of}
use Rattle.passes.specs.Reached.{state_of, over_keeps, reached-here, reached_as}
use Rattle.second_pass.specs.Falls.{fall-covered, fall-bare}
use Rattle.second_pass.proofs.Falls.{at-inside, told_over}
use Rattle.second_pass.proofs.fall_back_at.Goals as goal

pub returns-then-is_covered : goal.returns-then-is_covered
returns-then-is_covered c =
    λ vowels w o.
    let D = tables_of w.choices c.args.dicts.now.rules.now w.classes vowels c.args.dicts.now.code.now in
    let h = told_over o c.args.here.p (at-inside c.requires.0 o.lent.text) c.is_covered.result c.is_covered.ensures ∙ c.if-is_covered.true in
    reached_as _ (sym (fall-covered D w.text c.args.here.p (state_of w c.args.places.now) h)) _
    (reached-here (c.args.filled.used + most_bytes) (over_keeps o) (omega arith))

pub add_fallback-requires : goal.add_fallback-requires
add_fallback-requires c =
    let o = c.requires.2.over in
    let h = told_over o c.args.here.p (at-inside c.requires.0 o.lent.text) c.is_covered.result c.is_covered.ensures ∙ c.if-is_covered.false in
    (c.requires.0, c.requires.1, c.requires.2, record { all = c.requires.3; uncovered = ap (λ (es : List Edge). covered es c.args.here.p) o.edges ∙ h })

pub returns : goal.returns
returns c =
    λ vowels w o.
    let D = tables_of w.choices c.args.dicts.now.rules.now w.classes vowels c.args.dicts.now.code.now in
    let h = told_over o c.args.here.p (at-inside c.requires.0 o.lent.text) c.is_covered.result c.is_covered.ensures ∙ c.if-is_covered.false in
    reached_as _ (sym (fall-bare D w.text c.args.here.p (state_of w c.args.places.now) h)) c.add_fallback.result (c.add_fallback.ensures vowels w o)
