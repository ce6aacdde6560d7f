-- `table_classes::classify`: the first `i` places of the second half are written, and `kind` is the class of `known`.
use Prim.Native.Nat.{◌/◌}
use mathlib.Core.Path.{refl, ◌∙◌}
use native.Mathlib.Omega.{arith}
use lib.ListN.{length-set, length}
use Rattle.definition.specs.ClassRows.{classes_of}
use Rattle.definition.specs.Classes.{class}
use Rattle.table_classes.specs.Told.{packed, kinds_of}
use Rattle.table_classes.proofs.Halves.{written_next, written-whole}
use Rattle.table_classes.proofs.classify.Goals as goal

pub loop-i-preserved : goal.loop-i-preserved
loop-i-preserved c =
    let l = c.loop-i in
    let a = c.args in
    let w = l.invariant in (
      omega arith,
      w.1,
      length-set l.line _ c.next_kind-kind.result ∙ w.2,
      written_next (λ k. packed (class (classes_of a.classes.now) k)) a.line.now (length a.line.now / 2) w.1 l.i l.line w.3 (omega arith)
          c.next_kind-kind.result _ c.next_kind-kind.ensures refl,
      c.next_kind-kind.ensures,
    )

pub returns : goal.returns
unfolding kinds_of
returns c =
    let l = c.loop-i in
    let a = c.args in
    let w = l.invariant in
    let e = w.1 in
    written-whole (λ k. packed (class (classes_of a.classes.now) k)) a.line.now (length a.line.now / 2) e l.i l.line w.3 (omega arith)
