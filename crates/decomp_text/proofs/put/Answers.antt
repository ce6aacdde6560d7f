-- `decomp_text::put`: nothing more, or too much already, or too much now, or some bytes more.
use native.Mathlib.Omega.{arith}
use Rattle.decomp_text.specs.Spelling.{spells_none, spells_full, spells_over, spells_more}
use Rattle.decomp_text.proofs.put.Goals as goal

pub returns-then-text-eq0 : goal.returns-then-text-eq0
returns-then-text-eq0 c =
    (λ ks t w h e ok q. spells_none ks c.args.bytes.now c.args.s t w h c.args.text.now e ok (omega arith), c.requires)

pub returns-then-s : goal.returns-then-s
returns-then-s c =
    (λ ks t w h e ok q. spells_full ks c.args.bytes.now c.args.s t w h c.args.text.now e ok c.if-s.true, c.requires)

pub returns-then-len-text : goal.returns-then-len-text
returns-then-len-text c = (
  λ ks t w h e ok q. spells_over ks c.args.bytes.now c.args.s t w h c.args.text.now e ok c.requires c.if-s.false (omega arith),
  record { long = c.requires.long; fits = c.requires.fits },
)

pub returns : goal.returns
returns c = (
  λ ks t w h e ok q.
      spells_more ks c.args.bytes.now c.args.s t w h c.args.text.now e ok c.requires c.if-s.false c.args.letter q (omega arith) c.put_at.new.room c.put_at.ensures,
  record { long = omega (arith, c.requires.long, c.put_at.auto.room); fits = omega (arith, c.requires.fits) },
)
