-- `plain::is_spaced`: the first byte, and the one at the length less one.
use Rattle.std.proofs.Common.{sym, ap, ◌∙◌, ℕ, ◌-◌, arith, take, get_or}
use Rattle.std.proofs.Math.Seq.{length-take-le, get_or-take}
use borrow.Author.Tests.{eqb-false}
use Rattle.plain.specs.Ways.{nothing_spaced, no_spaces}
use Rattle.plain.proofs.is_spaced.Goals as goal

pub returns-else-n-gt0 : goal.returns-else-n-gt0
returns-else-n-gt0 c =
    λ e. nothing_spaced (take c.args.n c.args.bytes.now) (omega (arith, length-take-le c.args.n c.args.bytes.now c.requires))

pub returns-else-byte-eq-SPACE : goal.returns-else-byte-eq-SPACE
returns-else-byte-eq-SPACE c =
    let n = c.args.n in
    let b = c.args.bytes.now in
    let l = length-take-le n b c.requires in
    let last = c.byte-else-byte-eq-SPACE in
    λ e. no_spaces (take n b) (omega (arith, l)) (λ z. c.if-byte-eq-SPACE.false (c.byte.ensures.0 ∙ sym (get_or-take n b 0 0 (omega arith)) ∙ z))
    (λ z. eqb-false last.result 32 e (last.ensures.0 ∙ sym (get_or-take n b (n - 1) 0 (omega arith)) ∙ ap (λ (k : ℕ). get_or (take n b) (k - 1) 0) (sym l) ∙ z))
