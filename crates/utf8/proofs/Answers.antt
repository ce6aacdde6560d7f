-- What a call's text is refused for, from what `decode` and `first_left_out` answer.
use Rattle.std.specs.Prelude.{Option, Some, None, Ok, Err}
use mathlib.Core.List.{List}
use mathlib.Core.Option.{none}
use mathlib.Core.Path.{◌≡◌, sym, ap, ◌∙◌}
use Prim.Native.Nat.{ℕ, ◌<◌, ◌≤◌}
use native.Mathlib.Omega.{arith}
use lib.ListN.{length, take}
use borrow.Author.Tests.{lt-ltb, le-ltb}
use Rattle.base.specs.Pick.{pick}
use Rattle.base.specs.Lists.{first_of}
use Rattle.definition.specs.Limits.{most_characters}
use Rattle.definition.specs.Utf8.{bad_sequence, decoded}
use Rattle.definition.specs.Refusals.{when, placed}
use Rattle.definition.specs.Call.{first_left_out, text_refusal}
use Rattle.utf8.specs.Read.{answered, answered-bad, answered_good, found_means, text_means}
use Rattle.utf8.specs.Puts.{puts, puts-front}
use Rattle.utf8.specs.declared.NotUtf8.{NotUtf8}
use Rattle.utf8.specs.declared.TextFault.TheVariants.{NotUtf8 as BadSequence, TooLong, LeftOut}

module _ (s : List ℕ) where
  pub not_utf8 : (f : NotUtf8) → answered s ≡ Err f → text_means (Err (BadSequence f.at)) ≡ text_refusal s
  unfolding text_means text_refusal first_of placed
  not_utf8 f e = rw (answered-bad s f e)

  module _ (n : ℕ) (e : answered s ≡ Ok n) where
    right : bad_sequence s ≡ none
    right = (answered_good s n e).0

    pub counted : n ≡ length (decoded s)
    counted = (answered_good s n e).1

    pub too_long : most_characters < n → text_means (Err TooLong) ≡ text_refusal s
    unfolding text_means text_refusal first_of placed when pick
    too_long h = rw (right, ← counted, lt-ltb most_characters n h)

    -- the characters that were put in front are those that were asked
    module _ (l w : List ℕ) (long : n ≤ length l) (own : w ≡ puts 0 (decoded s) l)
        (h : n ≤ most_characters) (f : Option ℕ) (asked : found_means f ≡ first_left_out 0 (take n w)) where
      found : first_left_out 0 (decoded s) ≡ found_means f
      found =
          let k = counted in
          let e : take n w ≡ decoded s = rw (own, counted) (puts-front (decoded s) l (omega arith)) in
          sym (asked ∙ ap (first_left_out 0) e)

      pub left : (p : ℕ) → f ≡ Some p → text_means (Err (LeftOut p)) ≡ text_refusal s
      unfolding text_means text_refusal first_of placed when found_means pick
      left p q = rw (right, ← counted, le-ltb most_characters n h, found, q)

      pub taken : f ≡ None → text_means (Ok n) ≡ text_refusal s
      unfolding text_means text_refusal first_of placed when found_means pick
      taken q = rw (right, ← counted, le-ltb most_characters n h, found, q)
