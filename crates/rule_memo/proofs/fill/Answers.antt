-- `rule_memo::fill`: behind the index each character is put in turn; the characters themselves stay.
use native.Mathlib.Omega.{arith}
use Prim.Native.Nat.{ℕ, ◌+◌, ◌-◌, ◌≤◌}
use mathlib.Core.Path.{◌≡◌, refl, sym, ap, ◌∙◌, subst}
use mathlib.Core.List.{List, ◌++◌}
use lib.ListN.{length, take, drop, length-append, length-drop}
use lib.Seq.{length-take-le, take-take, take-append-add, take_at, drop_at, drop-append-add, drop-drop}
use Rattle.base.specs.ListLaws.{drop-take}
use Rattle.rule_table.specs.Index.{index_entries, row_offsets, indexed}
use Rattle.rule_memo.specs.Kept.{all_places, Kept, kept-begun}
use Rattle.rule_memo.proofs.fill.Goals as goal

-- the index came back in front of all
module _ (l back : List ℕ) (e : length back ≡ index_entries) (h : all_places ≤ length l) where
  abbrev kept-behind : ℕ
  kept-behind = all_places - index_entries

  index-front : take all_places (back ++ drop index_entries l) ≡ back ++ drop index_entries (take all_places l)
  index-front =
      ap (λ (k : ℕ). take k (back ++ drop index_entries l)) {x = all_places} {y = length back + kept-behind} (omega (arith, e))
      ∙ take-append-add back (drop index_entries l) kept-behind ∙ ap (◌++◌ back) (sym (drop-take index_entries kept-behind l))

  index-rest : drop all_places (back ++ drop index_entries l) ≡ drop all_places l
  index-rest =
      ap (λ (k : ℕ). drop k (back ++ drop index_entries l)) {x = all_places} {y = length back + kept-behind} (omega (arith, e))
      ∙ drop-append-add back (drop index_entries l) kept-behind ∙ drop-drop kept-behind index_entries l

pub slice_bounds-fill_index-end-2 : goal.slice_bounds-fill_index-end-2
slice_bounds-fill_index-end-2 c =
    let p = c.requires.2 in sym (length-take-le index_entries c.args.all.now (omega arith))

pub fill_index-requires : goal.fill_index-requires
fill_index-requires c =
    let p = c.requires.2 in omega (arith, length-take-le index_entries c.args.all.now (omega arith))

pub loop-i-init : goal.loop-i-init
loop-i-init c =
    let l = c.args.all.now in
    let b = c.fill_index.new.index in
    let p = c.requires.2 in
    let long : all_places ≤ length l = omega arith in
    let filled : length b ≡ index_entries = omega (arith, c.fill_index.auto.index, length-take-le index_entries l (omega arith)) in (
      subst (Kept c.args.rules.now) (sym (index-front l b filled long))
          (kept-begun c.args.rules.now (take all_places l) b c.requires.1
          (c.fill_index.ensures ∙ ap (indexed 0 (row_offsets c.args.rules.now)) (sym (take-take index_entries all_places l (omega arith)))) c.requires.0),
      refl,
      refl,
    )

pub loop-i-preserved : goal.loop-i-preserved
loop-i-preserved c =
    let l = c.loop-i in
    let b = c.learn.new.index in
    let k = c.learn.ensures in (
      subst (Kept _) (sym (take_at b (drop all_places l.all) all_places k.long)) k,
      drop_at b (drop all_places l.all) all_places k.long ∙ l.invariant.1,
      omega (arith, k.long, l.invariant.0.long, length-append b (drop all_places l.all), length-drop all_places l.all, l.invariant.2),
    )

pub returns : goal.returns
returns c =
    let l = c.args.all.now in
    let b = c.fill_index.new.index in
    let p = c.requires.2 in
    let long : all_places ≤ length l = omega arith in
    let filled : length b ≡ index_entries = omega (arith, c.fill_index.auto.index, length-take-le index_entries l (omega arith)) in
    (c.loop-i.invariant.0, c.loop-i.invariant.1 ∙ index-rest l b filled long)
