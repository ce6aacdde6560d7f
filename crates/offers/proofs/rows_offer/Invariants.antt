-- `offers::rows_offer`: the rows still to come offer it where all do.
use mathlib.Core.Path.{◌≡◌}
use Prim.Native.Nat.{◌-◌}
use Rattle.edge.specs.Slots.{edge_by}
use Rattle.words.specs.Found.{Rows}
use Rattle.offers.specs.Texts.{holding}
use Rattle.offers.proofs.Seeking.{among_all}
use Rattle.offers.proofs.rows_offer.Given as goal

abbrev pub invariant-loop : goal.invariant-loop
invariant-loop l =
    let x = edge_by l.e l.text in
    (among_all l.w l.asked.readings x (holding l.code l.asked.start l.asked.end l.rules l.row (l.rows - l.counter)) ≡ among_all l.w l.asked.readings x (holding l.code l.asked.start l.asked.end l.rules l.asked.first l.rows)) × Rows l.rules l.row (l.rows - l.counter)
