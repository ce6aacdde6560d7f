-- `ends::kept`: a hyphen, a span of one character, a letter first; only all three cut.
use mathlib.Core.Bool.{true, false}
use mathlib.Core.Path.{sym, ap, ◌∙◌}
use native.Mathlib.Omega.{arith}
use Rattle.base.specs.Pick.{pick}
use Rattle.definition.specs.Texts.{latin}
use Rattle.ends.specs.Ends.{kept-plain, kept_many, kept-one}
use Rattle.ends.proofs.kept.Goals as goal
use Rattle.ends.proofs.kept.Goals.{else-end-n-via-then-end-n+then-one+else-latin, else-end-n-via-then-end-n+else-one, else-end-n-via-else-end-n}

pub returns-then-latin : goal.returns-then-latin
unfolding pick
returns-then-latin c =
    let s = c in
    let e = ap latin (sym c.byte.ensures.0) ∙ sym c.latin.ensures ∙ c.if-latin.true in
    (s.requires ∙ kept-one s.args.one s.args.s.now (omega arith) c.if-one.true true e, omega arith)

pub returns : goal.returns
unfolding pick
returns c =
    let a = c.args in
    elim c.else-end-n.branch [
      | else-end-n-via-then-end-n+then-one+else-latin w ↦
          let e = ap latin (sym w.byte.ensures.0) ∙ sym w.latin.ensures ∙ w.if-latin.false in
          (kept-one a.one a.s.now (omega arith) w.if-one.true false e, omega arith)
      | else-end-n-via-then-end-n+else-one w ↦ (kept_many a.one a.s.now (omega arith) w.if-one.false, omega arith)
      | else-end-n-via-else-end-n w ↦ (kept-plain a.one a.s.now (omega arith), omega arith)
    ]
