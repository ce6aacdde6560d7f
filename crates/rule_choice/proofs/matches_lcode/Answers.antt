-- `rule_choice::matches_lcode`: the codes still to come have the language where all of the row have.
use mathlib.Core.Path.{sym, ap, ◌∙◌}
use Prim.Native.Nat.{◌+◌, ◌-◌}
use native.Mathlib.Omega.{arith}
use lib.ListN.{drop}
use Rattle.std.proofs.Math.Nat.{sub-zero}
use Rattle.base.specs.Lists.{any, same}
use Rattle.definition.specs.RuleRows.{code_of}
use Rattle.edge.specs.Asked.{any-over, any_here, any_next}
use Rattle.lent_bytes.specs.Library.{same_texts}
use Rattle.base.specs.Rows.{counted}
use Rattle.rule_choice.proofs.Codes.{codes-end, codes_stand, one-is, none_is}
use Rattle.rule_choice.proofs.matches_lcode.Goals as goal

pub loop-turn-init : goal.loop-turn-init
loop-turn-init c =
    let z = c.codes_count-codes.ensures.0 in
    let o = c.codes_at.ensures.0 in
    let p = c.requires.placed.codes in (
      simp sub-zero (ap (any (same c.args.code.now)) (codes_stand c.args.rules.now c.args.row c.codes_count-codes.result
          (c.args.row + c.codes_at.result + 1) z (omega (arith, o)))),
      omega (arith, z, o, p),
    )

pub returns-then-eq : goal.returns-then-eq
unfolding code_of
returns-then-eq c =
    one-is (drop c.args.row c.args.rules.now) c.args.code.now (any_here code_of 3 c.args.rules.now (c.codes_count-codes.result - c.loop-turn._turn) c.loop-turn.at (same c.args.code.now) (omega arith)
    (ap (same c.args.code.now) (sym c.part.ensures) ∙ sym (c.eq.ensures ∙ same_texts _ _) ∙ c.if-eq.true) ∙ c.loop-turn.invariant.0)

pub loop-turn-preserved : goal.loop-turn-preserved
unfolding code_of
loop-turn-preserved c = (
  ap (λ n. any (same c.args.code.now) (counted code_of 3 n (drop (c.loop-turn.at + 3) c.args.rules.now)))
      {x = c.codes_count-codes.result - (c.loop-turn._turn + 1)} {y = c.codes_count-codes.result - c.loop-turn._turn - 1} (omega arith)
      ∙ any_next code_of 3 c.args.rules.now (c.codes_count-codes.result - c.loop-turn._turn) c.loop-turn.at (same c.args.code.now) (omega arith)
      (ap (same c.args.code.now) (sym c.part.ensures) ∙ sym (c.eq.ensures ∙ same_texts _ _) ∙ c.if-eq.false) ∙ c.loop-turn.invariant.0,
  omega (arith, c.loop-turn.invariant.1),
)

pub returns : goal.returns
returns c =
    none_is (drop c.args.row c.args.rules.now) c.args.code.now _ c.codes_count-codes.ensures.0
    (any-over code_of 3 c.args.rules.now (c.codes_count-codes.result - c.loop-turn._turn) c.loop-turn.at (same c.args.code.now) (omega arith) ∙ c.loop-turn.invariant.0)

pub overflow_add-at : goal.overflow_add-at
overflow_add-at c =
    omega (arith, c.codes_at.ensures.0, c.requires.placed.codes, codes-end c.args.rules.now c.args.row c.requires.placed)

pub part-requires : goal.part-requires
part-requires c = omega (arith, c.loop-turn.invariant.1, codes-end c.args.rules.now c.args.row c.requires.placed)

pub overflow_add-at-2 : goal.overflow_add-at-2
overflow_add-at-2 c =
    omega (arith, c.codes_at.ensures.0, c.requires.placed.codes, codes-end c.args.rules.now c.args.row c.requires.placed)
