-- `table_classes::plain_classes`: past each plain row the first fault is that from the first on.
use mathlib.Core.Path.{refl, ◌∙◌}
use native.Mathlib.Omega.{arith}
use Rattle.table_classes.specs.Plain.{walk_inside, walk_on}
use Rattle.table_classes.proofs.plain_classes.Goals as goal

pub loop-turn-preserved : goal.loop-turn-preserved
loop-turn-preserved c =
    let w = c.loop-turn in
    let p = c.in-Some.ensures in
    let b = c.args.classes.now in
    record {
      same = walk_on b w.walk.at w.walk.left _ _ p (omega arith) _ _ refl refl ∙ w.invariant.same;
      on = omega (arith, w.invariant.on);
      within = omega (arith, walk_inside b w.walk.at w.walk.left _ _ p);
      left = omega arith;
    }
