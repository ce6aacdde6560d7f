-- `o_ang::is_in_thai`
use mathlib.Core.Path.{◌≡◌, sym, ap, ◌∙◌}
use Prim.Native.Nat.{ℕ}
use native.Mathlib.Omega.{arith}
use lib.Dec.{eqb}
use borrow.Author.Tests.{eq-eqb, ne_eqb}
use Rattle.definition.specs.Texts.{prev}
use Rattle.definition.specs.Tables.{script_thai}
use Rattle.definition.specs.Classes.{script}
use Rattle.words.specs.Given.{kinds, line-size}
use Rattle.words.specs.Characters.{script-prev, script-here}
use Rattle.o_ang.proofs.is_in_thai.Goals as goal

pub returns-then-script-eq-THAI : goal.returns-then-script-eq-THAI
returns-then-script-eq-THAI c =
    λ x h. let z = line-size h in
    let d = script-prev h c.args.g.from (omega arith) c.kind_at.ensures c.script.ensures in
    let before : script (kinds x) (prev x.text c.args.g.from) ≡ script_thai = omega (arith, d) in
    ap (λ (k : ℕ). eqb k script_thai) (script-here h c.args.g.to (omega arith) c.kind_at-then-script-eq-THAI.ensures c.script-then-script-eq-THAI.ensures)
    ∙ sym (rw (eq-eqb (script (kinds x) (prev x.text c.args.g.from)) script_thai before))

pub returns-else-script-eq-THAI : goal.returns-else-script-eq-THAI
returns-else-script-eq-THAI c =
    λ x h. let z = line-size h in
    let d = script-prev h c.args.g.from (omega arith) c.kind_at.ensures c.script.ensures in
    ne_eqb _ _ c.if-script-eq-THAI.false ∙ sym (rw (ne_eqb (script (kinds x) (prev x.text c.args.g.from)) script_thai (λ e. omega (arith, e, d))))
