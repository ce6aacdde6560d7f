-- `expand::grave`: one law for each way out; a grave stands within the text.
use mathlib.Core.Path.{refl, sym, ◌∙◌}
use Prim.Native.Nat.{◌+◌}
use native.Mathlib.Omega.{arith}
use Rattle.edge_places.specs.Shows.{memory}
use Rattle.words.specs.Did.{did_by, asked-none}
use Rattle.words.specs.Given.{seen, size}
use Rattle.rule_choice.specs.Lent.{lexicon_of}
use Rattle.steps.specs.Works.{work_in}
use Rattle.expand.specs.Tests.{ruled-by, ruled-has, no_grave, grave-ruled, grave-put}
use Rattle.expand.proofs.grave.Goals as goal

pub returns-then-not-has_grave : goal.returns-then-not-has_grave
returns-then-not-has_grave c = (
  λ u e h. let L = lexicon_of c.args.dicts.now.rules.now u c.args.dicts.now.code.now in
      let m = memory (size u) c.args.places.now in
      asked-none (no_grave L u.text (seen u) c.args.o (work_in c.args.bytes.now c.args.g) m (sym (c.has_grave.ensures.0 u h.text) ∙ c.if-not-has_grave.true)),
  c.requires.0,
  omega arith,
  refl,
  omega arith,
  c.requires.4,
)

pub returns-then-is_ruled : goal.returns-then-is_ruled
returns-then-is_ruled c = (
  λ u e h. let L = lexicon_of c.args.dicts.now.rules.now u c.args.dicts.now.code.now in
      let m = memory (size u) c.args.places.now in
      let s = c.args.o in
      let t = c.args.g.to + 1 in
      let A = c.is_ruled.ensures u e h in record {
        did = grave-ruled L u.text (seen u) c.args.o (work_in c.args.bytes.now c.args.g) m
            (sym (c.has_grave.ensures.0 u h.text) ∙ c.if-not-has_grave.false)
            (ruled-by L u.text (seen u) s t m A.did) (ruled-has L u.text (seen u) s t m A.did ∙ c.if-is_ruled.true);
        kept = A.kept;
      },
  c.requires.0,
  omega arith,
  refl,
  omega arith,
  c.requires.4,
)

pub returns : goal.returns
returns c =
    let I = c.if-not-has_grave.false in (
      λ u e h. let L = lexicon_of c.args.dicts.now.rules.now u c.args.dicts.now.code.now in
          let m = memory (size u) c.args.places.now in
          let s = c.args.o in
          let t = c.args.g.to + 1 in
          let A = c.is_ruled.ensures u e h in record {
            did = did_by c.put_grave.ensures.0 (grave-put L u.text (seen u) c.args.o (work_in c.args.bytes.now c.args.g) m
                (sym (c.has_grave.ensures.0 u h.text) ∙ I)
                (ruled-by L u.text (seen u) s t m A.did) (ruled-has L u.text (seen u) s t m A.did ∙ c.if-is_ruled.false));
            kept = A.kept;
          },
      c.put_grave.ensures.1,
      omega (arith, c.put_grave.ensures.2),
      c.put_grave.ensures.3,
      omega (arith, c.put_grave.ensures.4),
      omega (arith, c.put_grave.ensures.4, c.has_grave.ensures.1 I),
    )
