-- `decomp_text::put_best`
use mathlib.Core.Path.{sym, ap, subst}
use mathlib.Core.List.{◌++◌}
use Rattle.base.specs.Alls.{Opt}
use Rattle.definition.specs.Bounds.{Ruled}
use Rattle.edge.specs.Best.{BestEdge, best_means}
use Rattle.words.specs.Given.{kinds}
use Rattle.decomp_text.specs.Spelling.{Spells, shaped}
use Rattle.decomp_text.specs.Walking.{text_of, spells_not}
use Rattle.decomp_text.proofs.put_best.Goals as goal

pub returns-in-Some : goal.returns-in-Some
returns-in-Some c = (
  λ w t told g h r.
      subst (λ (b : BestEdge). Spells (kinds w) c.put_edge.new.bytes c.put_edge.result (t ++ shaped c.args.number (text_of (best_means c.args.room.now c.args.slots.now b)))) (sym c.in-Some.is)
      (unfold text_of in (c.put_edge.ensures.0 w t told g h
      (subst (λ (b : BestEdge). Opt (Ruled w.text) (best_means c.args.room.now c.args.slots.now b)) c.in-Some.is r))),
  c.put_edge.ensures.1,
)

pub returns-in-None : goal.returns-in-None
returns-in-None c = (
  λ w t told g h r. spells_not c.args.number (best_means c.args.room.now c.args.slots.now c.args.best)
      (ap (best_means c.args.room.now c.args.slots.now) c.in-None.is) t h,
  c.requires.0,
)
