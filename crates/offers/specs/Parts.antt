-- An offer in parts: the text that stands in the row, and what an edge adds behind it.
use Rattle.std.specs.Prelude.{ℕ, List, [], ◌≡◌, true, get_or, drop}
use Rattle.base.specs.Pick.{pick}
use Rattle.definition.specs.Texts.{Text}
use Rattle.definition.specs.RuleRows.{rule_flag, target_bit, end_target_bit, target_at, end_target_at, text_of}
use Rattle.definition.specs.Places.{Placed}
use Rattle.rule_row.specs.Others.{others, Other}
use Rattle.offers.specs.declared.Offer.{Offer}
use Rattle.offers.specs.declared.Offer.TheVariants.{Alternative, EndTarget, Target}
use Rattle.offers.specs.declared.Offers.{Offers}

-- a row has the text of an offer
abbrev pub Has : List ℕ → Offer → Type 0
Has s (Alternative k) = Other s k
Has s EndTarget = Placed s × (rule_flag s end_target_bit ≡ true)
Has s Target = Placed s × (rule_flag s target_bit ≡ true)

abbrev pub text_in : List ℕ → Offer → Text
text_in s (Alternative k) = get_or (others s) k []
text_in s EndTarget = text_of (drop (end_target_at s) s)
text_in s Target = text_of (drop (target_at s) s)

-- the bytes from its core on, behind an alternative of a row whose target is the edge's core
abbrev pub vowel_behind : Offers → Offer → ℕ → List ℕ → List ℕ
vowel_behind o (Alternative k) core text = pick o.cored (drop core text) []
vowel_behind o EndTarget core text = []
vowel_behind o Target core text = []
