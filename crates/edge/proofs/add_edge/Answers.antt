-- `edge::add_edge`: all is decided before anything is written.
use mathlib.Core.Path.{sym, ◌∙◌}
use native.Mathlib.Omega.{arith}
use Rattle.edge.specs.Adding.{kept, roomless, entered}
use Rattle.edge.specs.Asked.{stored_readable}
use Rattle.edge.proofs.add_edge.Goals as goal

pub is_there-requires : goal.is_there-requires
is_there-requires c =
    let a = c.args in
    let S = a.slots.now in
    let R = a.room.now in
    let t = a.text.now in
    let p = c.requires in
    (stored_readable S R a.filled.count a.filled.used p.0, p.1.utf8, p.2, p.3)

pub returns-then-is_there : goal.returns-then-is_there
returns-then-is_there c =
    let a = c.args in
    let S = a.slots.now in
    let R = a.room.now in
    let t = a.text.now in
    kept S R a.filled.count a.filled.used a.e t (sym c.is_there.ensures ∙ c.if-is_there.true)

pub returns-then-room-used : goal.returns-then-room-used
returns-then-room-used c =
    let a = c.args in
    let S = a.slots.now in
    let R = a.room.now in
    let t = a.text.now in
    roomless S R a.filled.count a.filled.used a.e t (sym c.is_there.ensures ∙ c.if-is_there.false) (omega arith) (omega arith)

pub returns : goal.returns
returns c =
    let l = c in
    let a = l.args in
    let S = a.slots.now in
    let R = a.room.now in
    let t = a.text.now in
    let r = entered S R a.filled.count a.filled.used a.e t (sym l.is_there.ensures ∙ l.if-is_there.false) (omega arith) (omega arith) in
    (r.0, c.put_slot.ensures ∙ r.1, c.put_at.ensures ∙ r.2)
