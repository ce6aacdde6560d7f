-- `table_classes::classify_ascii`: the first `i` are written, the rest is as it was.
use Prim.Native.Nat.{ℕ}
use mathlib.Core.Path.{◌≡◌, sym, ap, ◌∙◌}
use native.Mathlib.Omega.{arith}
use lib.ListN.{get_or, length-set}
use Rattle.base.specs.Bits.{bit}
use Rattle.definition.specs.ClassRows.{classes_of}
use Rattle.definition.specs.Classes.{alpha}
use Rattle.table_classes.specs.Told.{from, alphas_of}
use Rattle.table_classes.specs.Packing.{from-length, from_at}
use Rattle.table_classes.proofs.Answers.{written, all-written}
use Rattle.table_classes.proofs.classify_ascii.Goals as goal

pub loop-i-preserved : goal.loop-i-preserved
unfolding alphas_of
loop-i-preserved c =
    let l = c in
    let b = l.args.classes.now in
    let n = from-length 0 128 in
    let f : ℕ → ℕ = λ k. bit (alpha (classes_of b) k) in
    let g = from_at 0 128 l.loop-i.i (omega arith) in
    let e : get_or (from 0 128) l.loop-i.i 0 ≡ l.loop-i.i = omega arith in (
      omega arith,
      written f (from 0 128) l.args.alphas.now l.loop-i.alphas l.loop-i.i
          c.alpha_bit.result (l.requires.1 ∙ sym n)
          (omega arith) l.loop-i.invariant.1 (c.alpha_bit.ensures ∙ sym (ap f e)),
      length-set l.loop-i.alphas l.loop-i.i c.alpha_bit.result ∙ l.loop-i.invariant.2,
    )

pub returns : goal.returns
unfolding alphas_of
returns c =
    let l = c in
    let b = l.args.classes.now in
    let n = from-length 0 128 in
    all-written (λ k. bit (alpha (classes_of b) k)) (from 0 128) l.args.alphas.now
    l.loop-i.alphas l.loop-i.i
    (l.requires.1 ∙ sym n) (omega arith) l.loop-i.invariant.1
