-- The first sequence from a place on, by the bytes there.
use mathlib.Core.List.{List}
use mathlib.Core.Path.{◌≡◌, refl, ◌∙◌}
use Prim.Native.Nat.{ℕ, ◌+◌, ◌<◌}
use native.Mathlib.Nat.{add-zero}
use lib.ListN.{get_or, drop}
use lib.Seq.{get_or-drop}
use borrow.Author.Tests.{lt-ltb}
use Rattle.base.specs.Pick.{pick}
use Rattle.definition.specs.Utf8.{char, six, sequence, read}

pub one : (b x y z : ℕ) → b < 128 → char b 1 ≡ sequence b x y z
unfolding sequence pick
one b x y z h = rw (lt-ltb b 128 h)

module _ (s : List ℕ) (at : ℕ) where
  -- from a place on, by its byte and the bits of the three after it
  pub joined : (b x y z : ℕ) → b ≡ get_or s at 0 → x ≡ six (get_or s (at + 1) 0) → y ≡ six (get_or s (at + 2) 0)
      → z ≡ six (get_or s (at + 3) 0) → sequence b x y z ≡ read (drop at s)
  unfolding read
  joined b x y z e f g h = rw (e, f, g, h) (simp (get_or-drop, add-zero))

  -- a byte below 128, whatever follows
  pub ascii : (b : ℕ) → b ≡ get_or s at 0 → b < 128 → char b 1 ≡ read (drop at s)
  ascii b e h = one b _ _ _ h ∙ joined b _ _ _ e refl refl refl
