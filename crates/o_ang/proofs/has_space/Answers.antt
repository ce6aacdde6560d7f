-- `o_ang::has_space`: from the right, the first space is where the stretch begins.
use mathlib.Core.Path.{◌≡◌, sym, ap, ◌∙◌}
use Prim.Native.Nat.{ℕ, ◌+◌, ◌-◌, ◌<◌, ◌≤◌}
use mathlib.Core.List.{List}
use native.Mathlib.Omega.{arith}
use lib.Dec.{ltb}
use lib.ListN.{get_or}
use borrow.Author.Tests.{lt-ltb, le-ltb}
use Rattle.definition.specs.Texts.{prev}
use Rattle.definition.specs.Expansion.{stretch_start}
use Rattle.words.specs.Given.{World, Lined, size, line-size, char_before}
use Rattle.definition.specs.OAng.{starts-here, past-other, start_bound}
use Rattle.o_ang.proofs.has_space.Goals as goal

-- what was read at the place before `i`, which is counted from 0
read_before : {x : World} {line : List ℕ} (h : Lined x line) (i n : ℕ) → 0 < i → i ≤ size x → n ≡ get_or line (i - 1 + 1) 0 → n ≡ prev x.text i
read_before {x} {line} h i n p q e = e ∙ ap (λ k. get_or line k 0) {x = i - 1 + 1} {y = i} (omega arith) ∙ char_before h i (omega arith)

pub returns-then-number_at-eq-SPACE : goal.returns-then-number_at-eq-SPACE
returns-then-number_at-eq-SPACE c =
    let i = c.loop-i.i in
    λ x h.
    let z = line-size h in
    let r = read_before h i _ (omega arith) (omega arith) c.number_at.ensures in
    sym (ap (ltb c.args.from) (sym (c.loop-i.invariant x h) ∙ starts-here x.text i (omega (arith, r))) ∙ lt-ltb c.args.from i (omega arith))

pub loop-i-preserved : goal.loop-i-preserved
loop-i-preserved c =
    let i = c.loop-i.i in
    λ x h.
    let z = line-size h in
    let r = read_before h i _ (omega arith) (omega arith) c.number_at.ensures in
    past-other x.text i (omega arith) (λ e. omega (arith, e, r)) ∙ c.loop-i.invariant x h

pub returns : goal.returns
returns c =
    λ x h. sym (le-ltb c.args.from (stretch_start x.text c.args.to) (omega (arith, c.loop-i.invariant x h, start_bound x.text c.loop-i.i)))
