-- `rule_row::other_at`: what is left of the walk leads to the place.
use Rattle.std.proofs.Common.{◌≡◌, ◌+◌, ◌-◌, drop, sym, ap, ◌∙◌, arith, length-drop}
use Rattle.definition.specs.RuleRows.{texts_size}
use Rattle.rule_row.specs.Others.{other_at, other_lies, texts-step, texts-none}
use Rattle.rule_row.proofs.Texts.{size_is}
use Rattle.rule_row.proofs.other_at.Goals as goal

pub loop-turn-init : goal.loop-turn-init
unfolding other_at
loop-turn-init c =
    let s = drop c.args.row c.args.rules.now in
    let e : c.args.k - 0 ≡ c.args.k = omega arith in
    ap (λ n. c.others_at-o.result + 1 + texts_size n (drop (c.others_at-o.result + 1) s)) e
    ∙ ap (λ o. o + 1 + texts_size c.args.k (drop (o + 1) s)) c.others_at-o.ensures.0

pub overflow_add-o-in-loop-turn-2 : goal.overflow_add-o-in-loop-turn-2
overflow_add-o-in-loop-turn-2 c =
    let s = drop c.args.row c.args.rules.now in
    let l = c.loop-turn in
    let z = size_is s l.o _ c.at.ensures.0 in
    let step = texts-step (c.args.k - l._turn) l.o s (omega arith) in
    omega (arith, z, step, l.invariant, other_lies c.requires, length-drop c.args.row c.args.rules.now)

pub loop-turn-preserved : goal.loop-turn-preserved
loop-turn-preserved c =
    let s = drop c.args.row c.args.rules.now in
    let l = c.loop-turn in
    let z = size_is s l.o _ c.at.ensures.0 in
    let left = c.args.k - l._turn in
    let e : c.args.k - (l._turn + 1) ≡ c.args.k - l._turn - 1 = omega arith in
    let p = l.o + (1 + c.at.result) in
    ap (λ n. p + texts_size n (drop p s)) e
    ∙ ap (λ z. l.o + z + texts_size (left - 1) (drop (l.o + z) s)) z
    ∙ sym (texts-step left l.o s (omega arith)) ∙ l.invariant

pub returns : goal.returns
returns c =
    let s = drop c.args.row c.args.rules.now in
    texts-none (c.args.k - c.loop-turn._turn) c.loop-turn.o s (omega arith) ∙ c.loop-turn.invariant
