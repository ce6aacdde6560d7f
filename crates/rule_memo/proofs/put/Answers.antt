-- `rule_memo::put`: both numbers go into the character's place, or nothing does.
use mathlib.Core.Path.{sym, ap, ◌∙◌}
use native.Mathlib.Omega.{arith}
use Prim.Native.Nat.{◌+◌, ◌%◌}
use lib.ListN.{set}
use Rattle.rule_memo.specs.Kept.{kept_characters, place, fit, put-there, put-none}
use Rattle.rule_memo.proofs.put.Goals as goal

pub note_of-requires : goal.note_of-requires
note_of-requires c = let f = fit _ _ (sym c.fits.ensures ∙ c.if-fits.true) in (f.0, f.1)

pub overflow_cast-index : goal.overflow_cast-index
overflow_cast-index c = let f = fit _ _ (sym c.fits.ensures ∙ c.if-fits.true) in omega (arith, f.2)

pub returns-then-fits : goal.returns-then-fits
returns-then-fits c =
    let a = c.args in
    let f = sym c.fits.ensures ∙ c.if-fits.true in
    let at = c.place_of-at.ensures.0 in
    let k = place (a.c % kept_characters) in
    ap (λ i. set (set a.index.now i c.note_of.result) (i + 1) a.found.first) at
    ∙ ap (λ n. set (set a.index.now k n) (k + 1) a.found.first) c.note_of.ensures
    ∙ put-there a.c a.found f a.index.now

pub returns-else-fits : goal.returns-else-fits
returns-else-fits c = let a = c.args in put-none a.c a.found (sym c.fits.ensures ∙ c.if-fits.false) a.index.now
