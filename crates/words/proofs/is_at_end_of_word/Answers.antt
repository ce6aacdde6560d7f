-- `words::is_at_end_of_word`: what a source that ends at `end` or later brings is what any brings.
use mathlib.Core.Bool.{true, false}
use mathlib.Core.Path.{refl, sym, ◌∙◌}
use Prim.Native.Nat.{◌+◌}
use native.Mathlib.Omega.{arith}
use Rattle.definition.specs.RuleRows.{rules_of}
use Rattle.definition.proofs.Ranges.{rules-sourced}
use Rattle.words.specs.Given.{kinds, line-size, alpha-at}
use Rattle.words.specs.Looks.{looked_rows}
use Rattle.words.specs.Goes.{goes-start}
use Rattle.words.proofs.Ends.{by_both, ends_over, ends_here, ends_turn}
use Rattle.words.proofs.is_at_end_of_word.Goals as goal

pub returns-then-is_alpha_at : goal.returns-then-is_alpha_at
returns-then-is_alpha_at c =
    let a = c.args in
    λ w e g. let z = line-size g in
    by_both (rules_of a.dicts.now.rules.now) (kinds w) w.text a.p true _
    (sym (alpha-at g a.p (omega arith)) ∙ sym c.is_alpha_at.ensures ∙ c.if-is_alpha_at.true) refl

pub loop-end-init : goal.loop-end-init
loop-end-init c =
    λ w e g. goes-start (kinds w) w.text c.args.p (rules_of c.args.dicts.now.rules.now) (rules-sourced c.args.dicts.now.rules.now c.args.dicts.now.prepared.table.accepted)

pub rows_bring_letter-requires : goal.rows_bring_letter-requires
rows_bring_letter-requires c = looked_rows c.args.dicts.now.prepared.table.accepted c.look_up.ensures.0

pub returns-then-rows_bring_letter : goal.returns-then-rows_bring_letter
returns-then-rows_bring_letter c =
    let L = c.look_up.ensures in
    λ w e g. by_both (rules_of c.args.dicts.now.rules.now) (kinds w) w.text c.args.p false true (let z = line-size g in sym (alpha-at g c.args.p (omega arith)) ∙ sym c.is_alpha_at.ensures ∙ c.if-is_alpha_at.false)
    (sym (c.loop-end.invariant w e g) ∙ sym (ends_turn c.args.dicts.now.prepared.table.accepted L.0 L.1 g true
    (sym c.if-rows_bring_letter.true ∙ c.rows_bring_letter.ensures w.classes e.letters)))

pub loop-end-preserved : goal.loop-end-preserved
loop-end-preserved c =
    let L = c.look_up.ensures in
    λ w e g. ends_turn c.args.dicts.now.prepared.table.accepted L.0 L.1 g false
    (sym c.if-rows_bring_letter.false ∙ c.rows_bring_letter.ensures w.classes e.letters) ∙ c.loop-end.invariant w e g

pub returns-then-not-found : goal.returns-then-not-found
returns-then-not-found c =
    let L = c.look_up.ensures in
    λ w e g. by_both (rules_of c.args.dicts.now.rules.now) (kinds w) w.text c.args.p false false (let z = line-size g in sym (alpha-at g c.args.p (omega arith)) ∙ sym c.is_alpha_at.ensures ∙ c.if-is_alpha_at.false)
    (sym (c.loop-end.invariant w e g) ∙ sym (ends_turn c.args.dicts.now.prepared.table.accepted L.0 L.1 g false
    (sym c.if-rows_bring_letter.false ∙ c.rows_bring_letter.ensures w.classes e.letters))
    ∙ ends_here c.args.dicts.now.prepared.table.accepted L.0 L.1 g c.if-not-found.true)

pub returns-else-not-found : goal.returns-else-not-found
returns-else-not-found c =
    let L = c.look_up.ensures in
    λ w e g. let z = line-size g in
    by_both (rules_of c.args.dicts.now.rules.now) (kinds w) w.text c.args.p false false (sym (alpha-at g c.args.p (omega arith)) ∙ sym c.is_alpha_at.ensures ∙ c.if-is_alpha_at.false)
    (sym (c.loop-end.invariant w e g) ∙ sym (ends_turn c.args.dicts.now.prepared.table.accepted L.0 L.1 g false
    (sym c.if-rows_bring_letter.false ∙ c.rows_bring_letter.ensures w.classes e.letters))
    ∙ ends_over g (rules_of c.args.dicts.now.rules.now) c.args.p (c.loop-end.end + 1) (omega arith) (omega arith))

pub returns-else-is_alpha_at : goal.returns-else-is_alpha_at
returns-else-is_alpha_at c =
    λ w e g. let z = line-size g in
    by_both (rules_of c.args.dicts.now.rules.now) (kinds w) w.text c.args.p false false (sym (alpha-at g c.args.p (omega arith)) ∙ sym c.is_alpha_at.ensures ∙ c.if-is_alpha_at.false)
    (sym (c.loop-end.invariant w e g) ∙ ends_over g (rules_of c.args.dicts.now.rules.now) c.args.p c.loop-end.end (omega arith) (omega arith))
