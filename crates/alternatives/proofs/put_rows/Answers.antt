-- `alternatives::put_rows`: what was written and what is left of the rows leave what all leave.
use mathlib.Core.Bool.{true}
use mathlib.Core.Path.{◌≡◌, refl, sym, ap, ◌∙◌, subst}
use Prim.Native.Nat.{◌+◌, ◌-◌, ◌<◌}
use native.Mathlib.Omega.{arith}
use lib.ListN.{length-drop}
use Rattle.base.specs.Lists.{keep}
use Rattle.definition.specs.Offers.{all_offers}
use Rattle.edge.specs.Slots.{edge_by}
use Rattle.listing.specs.Items.{put_items}
use Rattle.words.specs.Found.{Rows, row_there, row_read}
use Rattle.words.proofs.Ends.{rows_next}
use Rattle.alternatives.proofs.Turns.{left_news, rows-begun, rows-over, from_next, marked_on, rows_on}
use Rattle.alternatives.proofs.put_rows.Goals as goal

pub loop-before-init : goal.loop-before-init
unfolding all_offers keep
loop-before-init c =
    let a = c.args in
    let x = edge_by a.e a.text.now in
    let e : a.rows - 0 ≡ a.rows = omega arith in record {
      written = ap (λ n. put_items true (left_news x a.dicts.now.code.now a.asked a.dicts.now.rules.now 0 a.asked.first n) (a.at, a.out.now)) e
          ∙ ap (λ l. put_items true l (a.at, a.out.now)) (rows-begun x a.dicts.now.code.now a.asked a.dicts.now.rules.now a.rows);
      here = refl;
      rest = subst (Rows a.dicts.now.rules.now a.asked.first) (sym e) c.requires.0;
      small = omega arith;
      marked = tt;
    }

pub put_holding-to-requires : goal.put_holding-to-requires
put_holding-to-requires c =
    let i = c.loop-before.invariant in (
      record { sorted = c.requires.0.sorted; enough = let z = c.requires.0.enough in omega (arith, z) },
      row_read c.args.dicts.now.rules.now c.loop-before.row (c.args.rows - c.loop-before.before) (omega arith) i.rest,
      c.requires.2,
      omega (arith, c.requires.1, c.requires.3, i.small),
      i.marked,
    )

pub overflow_add-row : goal.overflow_add-row
overflow_add-row c =
    let left = c.args.rows - c.loop-before.before in
    let k = c.loop-before.invariant.rest in
    let r = (row_read c.args.dicts.now.rules.now c.loop-before.row left (omega arith) k).placed.row in
    let h = row_there c.args.dicts.now.rules.now c.loop-before.row left (omega arith) k in
    let z = c.size-row.ensures.0 in
    omega (arith, r, h, z, length-drop c.loop-before.row c.args.dicts.now.rules.now)

pub loop-before-preserved : goal.loop-before-preserved
loop-before-preserved c =
    let a = c.args in
    let R = a.dicts.now.rules.now in
    let x = edge_by a.e a.text.now in
    let n = c.loop-before.before in
    let row = c.loop-before.row in
    let left = a.rows - n in
    let i = c.loop-before.invariant in
    let p = c.put_holding-to in
    let z = c.size-row in
    let h : 0 < left = omega arith in
    let e : left - 1 ≡ a.rows - (n + 1) = omega arith in record {
      written = ap (λ m. put_items true (left_news x a.dicts.now.code.now a.asked R (n + 1) (row + z.result) m) (p.result, p.new.out)) (sym e)
          ∙ rows_on x a.dicts.now.code.now a.asked R n row left h i.rest i.here z.result z.ensures.0
          (p.result, p.new.out) (c.loop-before.to, c.loop-before.out) p.ensures.0 ∙ i.written;
      here = from_next x a.dicts.now.code.now a.asked R n row left h i.rest i.here z.result z.ensures.0;
      rest = rows_next R row left (a.rows - (n + 1)) (omega arith) i.rest z.result z.ensures.0;
      small = omega (arith, i.small, p.ensures.1);
      marked = marked_on x a.dicts.now.code.now a.asked R n row left h i.rest i.here z.result z.ensures.0 _ p.ensures.2;
    }

pub returns : goal.returns
unfolding put_items
returns c =
    let a = c.args in
    let i = c.loop-before.invariant in (
      sym (ap (λ es. put_items true es (c.loop-before.to, c.loop-before.out))
          (rows-over (edge_by a.e a.text.now) a.dicts.now.code.now a.asked a.dicts.now.rules.now c.loop-before.before c.loop-before.row (a.rows - c.loop-before.before) (omega arith))) ∙ i.written,
      omega (arith, c.requires.1, i.small),
    )
