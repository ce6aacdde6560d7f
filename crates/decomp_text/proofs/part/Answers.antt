-- `decomp_text::part`
use native.Mathlib.Omega.{arith}
use Rattle.decomp_text.specs.Reading.{part_space, part_none, part-other}
use Rattle.decomp_text.proofs.part.Goals as goal
use Rattle.decomp_text.proofs.part.Goals.{else-number-via-then-number+else-beside, else-number-via-else-number}

pub returns-then-beside : goal.returns-then-beside
returns-then-beside c = (
  λ w t told h. part_space c.args.number c.args.beside c.if-number.true c.if-beside.true t (c.put_ascii.ensures.0 w t told (omega arith, tt) h),
  c.put_ascii.ensures.1,
)

pub returns : goal.returns
returns c = (
  λ w t told h. elim c.else-number.branch [
    | else-number-via-then-number+else-beside v ↦ part_none c.args.number c.args.beside v.if-beside.false t h
    | else-number-via-else-number v ↦ part-other c.args.number c.args.beside v.if-number.false t h
  ],
  c.requires,
)
