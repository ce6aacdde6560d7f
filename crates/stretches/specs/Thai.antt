-- What the Thai steps of the expansion do to their work, moved: one character more to the left, and some to the right.
-- (proofs/Thai: the steps inside a stretch.)
use Rattle.std.specs.Prelude.{◌≡◌, ℕ, ◌+◌, ◌-◌, ◌<◌}
use Rattle.std.proofs.Math.Path.{refl}
use Rattle.std.proofs.Math.Option.{Option, none, some, map}
use native.Mathlib.Omega.{arith}
use Rattle.definition.specs.Texts.{Text}
use Rattle.definition.specs.Expansion.{Work, widen}
use Rattle.stretches.specs.Works.{move}

pub widen-move : (a k : ℕ) (w : Work) (o : Option Text) → 0 < w.from
    → widen k (move a w) o ≡ map (move a) (widen k w o)
unfolding widen move
widen-move a k w none z = refl
widen-move a k w (some y) z =
    let e : a + w.from - 1 ≡ a + (w.from - 1) = omega arith in
    let f : a + w.to + k ≡ a + (w.to + k) = omega arith in rw (e, f)
