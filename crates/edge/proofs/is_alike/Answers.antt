-- `edge::is_alike`: start, end and annotation, then the bytes of the texts.
use mathlib.Core.Path.{ap, ◌∙◌}
use native.Mathlib.Omega.{arith}
use lib.ListN.{drop}
use Rattle.base.specs.Lists.{same}
use Rattle.edge.proofs.Alikes.{other-start, other-end, other-note, by_text}
use Rattle.edge.proofs.is_alike.Goals as goal

pub returns-then-other-e : goal.returns-then-other-e
returns-then-other-e c =
    let a = c.args in
    other-start a.room.now (drop a.slot a.slots.now) a.e a.text.now _ c.numbers_at-other.ensures (λ e. omega arith)

pub returns-then-e-other : goal.returns-then-e-other
returns-then-e-other c =
    let a = c.args in
    other-end a.room.now (drop a.slot a.slots.now) a.e a.text.now _ c.numbers_at-other.ensures (omega arith) (λ e. omega arith)

pub returns-then-e-other-2 : goal.returns-then-e-other-2
returns-then-e-other-2 c =
    let k = c in
    let a = k.args in
    other-note a.room.now (drop a.slot a.slots.now) a.e a.text.now _ k.numbers_at-other.ensures
    (omega arith) (omega arith) (λ e. omega arith)

pub returns : goal.returns
returns c =
    let k = c in
    let a = k.args in
    let p = k.requires in
    let f = c.if-other-e.false in
    let t = c.if-e-other.false in
    let n = c.if-e-other-2.false in
    c.same.ensures ∙ ap (same a.text.now) c.edge_text.ensures
    ∙ by_text a.room.now (drop a.slot a.slots.now) a.e a.text.now _ k.numbers_at-other.ensures
    (omega (arith, f)) (omega (arith, t)) (omega (arith, n)) p.1 p.0.text
