-- `edge_places::lettered`
use native.Mathlib.Omega.{arith}
use mathlib.Core.Path.{refl, sym, ap}
use Rattle.base.specs.Pick.{pick}
use Rattle.edge_places.specs.Entry.{with_letter, lettered}
use Rattle.edge_places.proofs.lettered.Goals as goal

pub returns-then-letter : goal.returns-then-letter
unfolding lettered with_letter pick
returns-then-letter c = let a = c.args in (sym (ap (lettered a.x) c.if-letter.true), omega arith)

pub returns : goal.returns
unfolding lettered pick
returns c = let a = c.args in (sym (ap (lettered a.x) c.if-letter.false), refl)
