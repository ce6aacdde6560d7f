-- What word flags ask of a start and of an end of word, one apart from the other.
use mathlib.Core.Bool.{Bool, true, false, not, ◌&&◌, ◌||◌, true≢false, or-true, or-false, and-true, and-false, and_assoc}
use mathlib.Core.Path.{◌≡◌, refl}
use Rattle.definition.specs.Texts.{Text}
use Rattle.definition.specs.Tables.{Rule}
use Rattle.definition.specs.Rules.{lang, holds_at}
use Rattle.rule_choice.specs.Chosen.{allowed, start_holds, end_holds}

-- where none asks, anything is allowed
pub unasked : (a b c x : Bool) → (a || b || c) ≡ false → true ≡ allowed a b c x
unfolding allowed
unasked false false false x e = refl
unasked true b c x e = absurd (true≢false e)
unasked false true c x e = absurd (true≢false e)
unasked false false true x e = absurd (true≢false e)

-- what is asked of a start, what of an end
apart : (l f n a e h b w : Bool)
    → (l && (not f || b) && (not n || not b) && (not a || w) && (not e || not w) && (not h || (b && w))) ≡ (l && (allowed f n h b && allowed a e h w))
unfolding allowed
apart l f n a e true true true = simp (or-true, or-false, and-true, and-false, and_assoc)
apart l f n a e true true false = simp (or-true, or-false, and-true, and-false, and_assoc)
apart l f n a e true false true = simp (or-true, or-false, and-true, and-false, and_assoc)
apart l f n a e true false false = simp (or-true, or-false, and-true, and-false, and_assoc)
apart l f n a e false b w = simp (and-true, and_assoc)

module _ (code : Text) (b w : Bool) (r : Rule) where
  pub holds_is : holds_at code b w r ≡ (lang code r && (start_holds r b && end_holds r w))
  unfolding holds_at start_holds end_holds
  holds_is = apart (lang code r) r.start_only r.not_start r.end_only r.not_end r.whole_word b w
