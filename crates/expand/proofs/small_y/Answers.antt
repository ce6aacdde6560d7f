-- `expand::small_y`: one law for each way out; a small ya stands within the text, after a letter.
use mathlib.Core.Bool.{not}
use mathlib.Core.Path.{refl, sym, ap, ◌∙◌}
use Prim.Native.Nat.{◌+◌}
use native.Mathlib.Omega.{arith}
use Rattle.edge_places.specs.Shows.{memory}
use Rattle.words.specs.Did.{did_by, asked-none}
use Rattle.words.specs.Given.{seen, size, lent-after}
use Rattle.rule_choice.specs.Lent.{lexicon_of}
use Rattle.rule_choice.specs.Chosen.{chosen_means, or_nothing, has-chosen}
use Rattle.steps.specs.Works.{work_in}
use Rattle.expand.specs.Tests.{ruled-by, ruled-has, no_small, small-ruled, small-ruled-here, small_put}
use Rattle.expand.proofs.Ways.{told, absent}
use Rattle.expand.proofs.small_y.Goals as goal

pub returns-then-is_none : goal.returns-then-is_none
returns-then-is_none c =
    let R = c.args.dicts.now.rules.now in
    let o = chosen_means R c.small_target-target.result in
    let q = sym (has-chosen R c.small_target-target.result) ∙ c.is_none.ensures ∙ ap not c.if-is_none.true in (
      λ u e h. let L = lexicon_of R u c.args.dicts.now.code.now in
          let m = memory (size u) c.args.places.now in
          asked-none (no_small L u.text (seen u) c.args.o (work_in c.args.bytes.now c.args.g) m (sym (c.small_target-target.ensures.0 u h.text) ∙ absent o q)),
      c.requires.1,
      omega (arith, c.requires.2),
      refl,
      omega arith,
      c.requires.5,
    )

pub returns-then-is_ruled : goal.returns-then-is_ruled
returns-then-is_ruled c =
    let R = c.args.dicts.now.rules.now in
    let t = c.args.g.to + 1 in
    let o = chosen_means R c.small_target-target.result in
    let q = sym (has-chosen R c.small_target-target.result) ∙ c.is_none.ensures ∙ ap not c.if-is_none.false in (
      λ u e h.
          let L = lexicon_of c.args.dicts.now.rules.now u c.args.dicts.now.code.now in
          let m = memory (size u) c.args.places.now in
          let w = work_in c.args.bytes.now c.args.g in
          let some = sym (c.small_target-target.ensures.0 u h.text) ∙ told o q in
          let A = c.is_ruled.ensures u e h in
          let a = ruled-by L u.text (seen u) c.args.o t m A.did in
          let b = ruled-has L u.text (seen u) c.args.o t m A.did in
          record {
            did = small-ruled L u.text (seen u) c.args.o w m (or_nothing o) some a (b ∙ c.if-is_ruled.true);
            kept = A.kept;
          },
      c.requires.1,
      omega (arith, c.requires.2),
      refl,
      omega arith,
      c.requires.5,
    )

pub returns-then-is_ruled-2 : goal.returns-then-is_ruled-2
returns-then-is_ruled-2 c =
    let R = c.args.dicts.now.rules.now in
    let t = c.args.g.to + 1 in
    let o = chosen_means R c.small_target-target.result in
    let q = sym (has-chosen R c.small_target-target.result) ∙ c.is_none.ensures ∙ ap not c.if-is_none.false in (
      λ u e h.
          let L = lexicon_of c.args.dicts.now.rules.now u c.args.dicts.now.code.now in
          let m = memory (size u) c.args.places.now in
          let w = work_in c.args.bytes.now c.args.g in
          let some = sym (c.small_target-target.ensures.0 u h.text) ∙ told o q in
          let A = c.is_ruled.ensures u e h in
          let a = ruled-by L u.text (seen u) c.args.o t m A.did in
          let b = ruled-has L u.text (seen u) c.args.o t m A.did in
          let m₁ = memory (size u) c.is_ruled.new.places in
          let B = c.is_ruled-2.ensures u e (lent-after _ h A.kept) in
          let x = ruled-by L u.text (seen u) c.args.g.from t m₁ B.did in
          let y = ruled-has L u.text (seen u) c.args.g.from t m₁ B.did in
          record {
            did = small-ruled-here L u.text (seen u) c.args.o w m (or_nothing o) some a (b ∙ c.if-is_ruled.false) x (y ∙ c.if-is_ruled-2.true);
            kept = B.kept ∙ A.kept;
          },
      c.requires.1,
      omega (arith, c.requires.2),
      refl,
      omega arith,
      c.requires.5,
    )

pub returns : goal.returns
returns c =
    let R = c.args.dicts.now.rules.now in
    let t = c.args.g.to + 1 in
    let o = chosen_means R c.small_target-target.result in
    let q = sym (has-chosen R c.small_target-target.result) ∙ c.is_none.ensures ∙ ap not c.if-is_none.false in (
      λ u e h.
          let L = lexicon_of c.args.dicts.now.rules.now u c.args.dicts.now.code.now in
          let m = memory (size u) c.args.places.now in
          let w = work_in c.args.bytes.now c.args.g in
          let some = sym (c.small_target-target.ensures.0 u h.text) ∙ told o q in
          let A = c.is_ruled.ensures u e h in
          let a = ruled-by L u.text (seen u) c.args.o t m A.did in
          let b = ruled-has L u.text (seen u) c.args.o t m A.did in
          let m₁ = memory (size u) c.is_ruled.new.places in
          let B = c.is_ruled-2.ensures u e (lent-after _ h A.kept) in
          let x = ruled-by L u.text (seen u) c.args.g.from t m₁ B.did in
          let y = ruled-has L u.text (seen u) c.args.g.from t m₁ B.did in
          record {
            did = did_by c.put_small.ensures.0
                (small_put L u.text (seen u) c.args.o w m (or_nothing o) some a (b ∙ c.if-is_ruled.false) x (y ∙ c.if-is_ruled-2.false));
            kept = B.kept ∙ A.kept;
          },
      c.put_small.ensures.1,
      c.put_small.ensures.2,
      c.put_small.ensures.3,
      omega (arith, c.put_small.ensures.4),
      omega (arith, c.put_small.ensures.4, (c.small_target-target.ensures.2 q).0),
    )
