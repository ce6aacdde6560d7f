-- `offers::rows_offer`: the rows still to come offer it where all do.
use mathlib.Core.Bool.{true, false}
use mathlib.Core.Path.{◌≡◌, refl, sym, ap, subst, ◌∙◌}
use Prim.Native.Nat.{◌+◌, ◌-◌}
use native.Mathlib.Omega.{arith}
use lib.ListN.{length-drop}
use Rattle.edge.specs.Slots.{edge_by}
use Rattle.offers.specs.Texts.{holding}
use Rattle.words.specs.Found.{Rows, row_there, row_read}
use Rattle.words.proofs.Ends.{rows_next}
use Rattle.offers.proofs.Seeking.{among_all, rows-over, rows_turn}
use Rattle.offers.proofs.rows_offer.Goals as goal

pub loop-init : goal.loop-init
loop-init c =
    let a = c.args in
    let e : a.rows - 0 ≡ a.rows = omega arith in (
      ap (λ n. among_all a.w.now a.asked.readings (edge_by a.e a.text.now) (holding a.code.now a.asked.start a.asked.end a.rules.now a.asked.first n)) e,
      subst (Rows a.rules.now a.asked.first) (sym e) c.requires.0,
    )

pub holding_row_offers-requires : goal.holding_row_offers-requires
holding_row_offers-requires c =
    (row_read c.args.rules.now c.loop.row (c.args.rows - c.loop.counter) (omega arith) c.loop.invariant.1, c.requires.1)

pub returns-then-holding_row_offers : goal.returns-then-holding_row_offers
returns-then-holding_row_offers c =
    let a = c.args in
    rows_turn a.w.now a.asked.readings (edge_by a.e a.text.now) a.code.now a.asked.start a.asked.end a.rules.now c.loop.row (a.rows - c.loop.counter) (omega arith)
    c.loop.invariant.1 _ refl true (sym c.if-holding_row_offers.true ∙ c.holding_row_offers.ensures) _ refl ∙ c.loop.invariant.0

pub overflow_add-row : goal.overflow_add-row
overflow_add-row c =
    let R = c.args.rules.now in
    let left = c.args.rows - c.loop.counter in
    let r = (row_read R c.loop.row left (omega arith) c.loop.invariant.1).placed.row in
    let h = row_there R c.loop.row left (omega arith) c.loop.invariant.1 in
    let z = c.size-row.ensures.0 in
    omega (arith, r, h, z, length-drop c.loop.row R)

pub loop-preserved : goal.loop-preserved
loop-preserved c =
    let a = c.args in
    let left = a.rows - c.loop.counter in
    let z = c.size-row.ensures.0 in (
      rows_turn a.w.now a.asked.readings (edge_by a.e a.text.now) a.code.now a.asked.start a.asked.end a.rules.now c.loop.row left (omega arith)
          c.loop.invariant.1 _ z false (sym c.if-holding_row_offers.false ∙ c.holding_row_offers.ensures) _ (omega arith) ∙ c.loop.invariant.0,
      rows_next a.rules.now c.loop.row left (a.rows - (c.loop.counter + 1)) (omega arith) c.loop.invariant.1 _ z,
    )

pub returns : goal.returns
returns c =
    let a = c.args in
    rows-over a.w.now a.asked.readings (edge_by a.e a.text.now) a.code.now a.asked.start a.asked.end a.rules.now c.loop.row (a.rows - c.loop.counter) (omega arith) ∙ c.loop.invariant.0
