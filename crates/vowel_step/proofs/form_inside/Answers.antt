-- `vowel_step::form_inside`: script before, vocalic, script next.
use mathlib.Core.Path.{refl, sym, ◌∙◌}
use native.Mathlib.Omega.{arith}
use Rattle.words.specs.Given.{kinds, line-size}
use Rattle.vowel_step.specs.Ways.{other-before, vocalic-last, same_next, other-next}
use Rattle.words.specs.Characters.{flag_prev, script-prev, script-here}
use Rattle.vowel_step.proofs.form_inside.Goals as goal

pub returns-then-script_at-script : goal.returns-then-script_at-script
returns-then-script_at-script c =
    λ w g. let n = line-size g in
    let x = script-here g c.args.span.from (omega (arith, c.args.span.forward, c.requires, n)) refl c.script_at-script.ensures in
    let y = script-prev g c.args.span.from (omega (arith, c.args.span.forward, c.requires, n)) refl c.script_at.ensures in
    other-before (kinds w) w.text c.args.span.from c.args.span.to (λ z. c.if-script_at-script.true (y ∙ z ∙ sym x))

pub returns-then-class_flag : goal.returns-then-class_flag
returns-then-class_flag c =
    λ w g. let n = line-size g in
    let x = script-here g c.args.span.from (omega (arith, c.args.span.forward, c.requires, n)) refl c.script_at-script.ensures in
    let y = script-prev g c.args.span.from (omega (arith, c.args.span.forward, c.requires, n)) refl c.script_at.ensures in
    let f = sym (flag_prev g c.args.span.to (omega (arith, c.requires, n)) c.kind_at.ensures 4 (λ l. l.vocalic) (λ m l z. z.vocalic)
    c.class_flag.ensures) ∙ c.if-class_flag.true in
    vocalic-last (kinds w) w.text c.args.span.from c.args.span.to (sym y ∙ c.if-script_at-script.false ∙ x) f

pub returns-then-script_at-script-2 : goal.returns-then-script_at-script-2
returns-then-script_at-script-2 c =
    λ w g. let n = line-size g in
    let x = script-here g c.args.span.from (omega (arith, c.args.span.forward, c.requires, n)) refl c.script_at-script.ensures in
    let y = script-prev g c.args.span.from (omega (arith, c.args.span.forward, c.requires, n)) refl c.script_at.ensures in
    let f = sym (flag_prev g c.args.span.to (omega (arith, c.requires, n)) c.kind_at.ensures 4 (λ l. l.vocalic) (λ m l z. z.vocalic)
    c.class_flag.ensures) ∙ c.if-class_flag.false in
    let z = script-here g c.args.span.to (omega (arith, c.requires, n)) refl c.script_at-2.ensures in
    same_next (kinds w) w.text c.args.span.from c.args.span.to (sym y ∙ c.if-script_at-script.false ∙ x) f (sym z ∙ c.if-script_at-script-2.true ∙ x)

pub returns : goal.returns
returns c =
    λ w g. let n = line-size g in
    let x = script-here g c.args.span.from (omega (arith, c.args.span.forward, c.requires, n)) refl c.script_at-script.ensures in
    let y = script-prev g c.args.span.from (omega (arith, c.args.span.forward, c.requires, n)) refl c.script_at.ensures in
    let f = sym (flag_prev g c.args.span.to (omega (arith, c.requires, n)) c.kind_at.ensures 4 (λ l. l.vocalic) (λ m l z. z.vocalic)
    c.class_flag.ensures) ∙ c.if-class_flag.false in
    let z = script-here g c.args.span.to (omega (arith, c.requires, n)) refl c.script_at-2.ensures in
    other-next (kinds w) w.text c.args.span.from c.args.span.to (sym y ∙ c.if-script_at-script.false ∙ x) f (λ d. c.if-script_at-script-2.false (z ∙ d ∙ sym x))
