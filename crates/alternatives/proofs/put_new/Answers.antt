-- `alternatives::put_new`: its row, where it is new.
use mathlib.Core.Bool.{true}
use mathlib.Core.Path.{◌≡◌}
use Rattle.alternatives.proofs.Turns.{put_one}
use Rattle.alternatives.proofs.put_new.Goals as goal

pub returns : goal.returns
returns c =
    let t : c.args.new ≡ true = cc in
    put_one c.args.at c.args.out.now c.args.new c.args.e c.args.note c.args.w.now t c.requires.1 (c.put_other.result, c.put_other.new.out) c.put_other.ensures
