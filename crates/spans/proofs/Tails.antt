-- A target's plus sign, what is left without it, and the bytes of a fallback.
use mathlib.Core.Bool.{true, false, true≢false}
use mathlib.Core.List.{[], ◌∷◌}
use mathlib.Core.Option.{Option, none, some}
use mathlib.Core.Path.{◌≡◌, refl, sym, ap}
use Prim.Native.Nat.{ℕ, ◌<◌}
use native.Mathlib.Omega.{arith}
use lib.Dec.{eqb}
use lib.ListN.{length, drop}
use Rattle.base.specs.Bools.{and_left}
use Rattle.base.specs.Lists.{head, tail, has, is, maybe}
use Rattle.definition.specs.Texts.{Text, plus_sign, among}
use Rattle.definition.specs.Building.{is_tail, fallback_plus}
use Rattle.rom.specs.Sets.{member, plus_before_set, in_plus-before}
use Rattle.rule_choice.specs.Chosen.{or_nothing}
use Rattle.spans.specs.Spans.{plus_dropped, fallback_bytes}

-- A text that starts with a plus has a byte to cut off
plus_there : (w : Text) → is (eqb plus_sign) (head w) ≡ true → 0 < length w
unfolding head
plus_there [] e = absurd (true≢false (sym e))
plus_there (x ∷ w) e = omega arith

pub tail_not_empty : (w : Text) → is_tail w ≡ true → 0 < length w
unfolding is_tail
tail_not_empty w e = plus_there w (and_left _ _ e)

pub fallback_not_empty : (w : Text) → fallback_plus w ≡ true → 0 < length w
unfolding fallback_plus
fallback_not_empty w e = plus_there w (and_left _ _ e)

-- A plus is dropped before a letter of the set: the law of `rom`, under a name that an attribute can have
pub in_plus_before : (c : ℕ) → member plus_before_set c ≡ among "mngr" c
in_plus_before = in_plus-before

-- all but its first byte
pub behind_first : (w : Text) → drop 1 w ≡ tail w
behind_first [] = refl
behind_first (x ∷ w) = refl

-- The bytes of a fallback
pub by_rule : (o : Option Text) (own w : Text) → has o ≡ true → w ≡ or_nothing o → plus_dropped w ≡ fallback_bytes o own
unfolding fallback_bytes maybe
by_rule none own w e f = absurd (true≢false (sym e))
by_rule (some u) own w e f = ap plus_dropped f

pub by_itself : (o : Option Text) (own : Text) → has o ≡ false → own ≡ fallback_bytes o own
unfolding fallback_bytes maybe
by_itself none own e = refl
by_itself (some u) own e = absurd (true≢false e)
