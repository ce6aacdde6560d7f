-- Classes of characters: "A character with no row counts as category 0, script 0, no flags".
use Rattle.std.specs.Prelude.{Bool, true, false, ◌&&◌, List, [], ◌∷◌, ℕ, eqb, leb}
use Rattle.base.specs.Pick.{pick}
use Rattle.definition.specs.Texts.{latin}
use Rattle.definition.specs.Tables.{Class, category_other, category_letter, category_Mn, category_mark, script_none}

-- a character with no row; A-Z and a-z are letters
unfoldable pub plain : ℕ → Class
plain c = record {
  char = c;
  category = pick (latin c) category_letter category_other;
  script = script_none;
  sign = false;
  medial = false;
  subjoined = false;
  virama = false;
  vocalic = false;
  tone = false;
  pre = false;
  lowercase = false;
}

-- its row, or what counts where it has none
unfoldable pub class : List Class → ℕ → Class
class [] c = plain c
class (k ∷ ks) c = elim (eqb k.char c) [ true ↦ k | false ↦ class ks c ]

module _ (ks : List Class) where
  -- a letter or a mark, category 1 to 3
  unfoldable pub alpha : ℕ → Bool
  alpha c = leb category_letter (class ks c).category && leb (class ks c).category category_mark

  -- a nonspacing mark (`char_is_nonspacing_mark`)
  unfoldable pub mark : ℕ → Bool
  mark c = eqb (class ks c).category category_Mn

  -- its script (`chr_script_name`); 0 and 0 are equal scripts
  unfoldable pub script : ℕ → ℕ
  script c = (class ks c).script
