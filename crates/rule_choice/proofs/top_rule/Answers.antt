-- `rule_choice::top_rule`: what is left of the rows, from the best so far on, leads where the definition does.
use mathlib.Core.Path.{refl, sym, ◌∙◌}
use Prim.Native.Nat.{◌+◌, ◌-◌}
use native.Mathlib.Omega.{arith}
use lib.ListN.{length-drop}
use Rattle.edge_places.specs.Shows.{memory}
use Rattle.words.specs.Did.{did}
use Rattle.words.specs.Given.{seen, size, lent-after}
use Rattle.words.specs.Found.{row_there, row_read}
use Rattle.words.specs.Looks.{looked_rows, looked_are}
use Rattle.words.proofs.Ends.{rows_next}
use Rattle.rule_choice.specs.Lent.{lexicon_of}
use Rattle.rule_choice.specs.Chosen.{choice_means}
use Rattle.rule_choice.proofs.Walking.{begun, over, next}
use Rattle.std.proofs.Common.{rules}
use Rattle.std.proofs.Math.Nat.{sub-zero}
use Rattle.rule_choice.proofs.top_rule.Goals as goal

pub loop-turn-init : goal.loop-turn-init
loop-turn-init c =
    let a = c.args in
    let A = c.args.dicts.now.prepared.table.accepted in simp sub-zero (
      λ w e g. record {
        same = begun (lexicon_of a.dicts.now.rules.now w a.dicts.now.code.now) w.text (seen w) a.look.span.from a.look.span.to (memory (size w) a.places.now) _
            (looked_are A c.requires g.text);
        kept = refl;
      },
      looked_rows A c.requires,
      tt,
      refl,
    )

pub cand_is_valid-valid-requires : goal.cand_is_valid-valid-requires
cand_is_valid-valid-requires c =
    let l = c.loop-turn in
    let left = c.args.look.found.count - l._turn in
    (row_read c.args.dicts.now.rules.now l.row left (omega arith) l.invariant.1, c.requires.inside)

pub improve-best-requires : goal.improve-best-requires
improve-best-requires c =
    let l = c.loop-turn in
    let left = c.args.look.found.count - l._turn in
    (row_read c.args.dicts.now.rules.now l.row left (omega arith) l.invariant.1, l.invariant.2)

pub overflow_add-row : goal.overflow_add-row
overflow_add-row c =
    let l = c.loop-turn in
    let left = c.args.look.found.count - l._turn in
    let b = c.args.dicts.now.rules.now in
    let r = (row_read b l.row left (omega arith) l.invariant.1).placed.row in
    let h = row_there b l.row left (omega arith) l.invariant.1 in
    let z = c.size-row.ensures.0 in
    omega (arith, r, h, z, length-drop l.row b)

pub loop-turn-preserved : goal.loop-turn-preserved
loop-turn-preserved c =
    let l = c.loop-turn in
    let left = c.args.look.found.count - l._turn in
    let a = c.args in
    let b = a.dicts.now.rules.now in
    let z = c.size-row.ensures.0 in
    let rest = c.args.look.found.count - (l._turn + 1) in (
      λ w e g. let i = l.invariant.0 w e g in
          let A = c.cand_is_valid-valid.ensures w e (lent-after _ g i.kept) in record {
            same = next (lexicon_of b w a.dicts.now.code.now) w.text (seen w) a.look.span.from a.look.span.to (memory (size w) l.places) b l.row left rest
                (choice_means b l.best) (omega arith) l.invariant.1 _ _ A.did _ c.improve-best.ensures.0 _ z ∙ i.same;
            kept = A.kept ∙ i.kept;
          },
      rows_next b l.row left rest (omega arith) l.invariant.1 _ z,
      c.improve-best.ensures.1,
      search rules,
    )

pub returns : goal.returns
returns c =
    let l = c.loop-turn in
    let left = c.args.look.found.count - l._turn in
    let a = c.args in (
      λ w e g. let i = l.invariant.0 w e g in
          let L = lexicon_of a.dicts.now.rules.now w a.dicts.now.code.now in record {
            did = did (sym i.same ∙ over L w.text (seen w) a.look.span.from a.look.span.to (memory (size w) l.places) a.dicts.now.rules.now l.row left
                (choice_means a.dicts.now.rules.now l.best) (omega arith));
            kept = i.kept;
          },
      l.invariant.2,
    )
