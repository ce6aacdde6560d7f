-- Ranges of characters, and sets of small letters as masks: each is the definition's set, at every number.
use Rattle.std.specs.Prelude.{ℕ, zero, suc, ◌-◌, ◌<◌, ◌≤◌, Bool, true, false, not, ◌&&◌, ◌≡◌, refl, eqb, ltb}
use Rattle.std.proofs.Common.{sym, ◌∙◌, arith}
use Rattle.std.proofs.Math.Path.{ap, fun_ext}
use Rattle.std.proofs.Math.Decide.{dec_le}
use Rattle.std.proofs.Math.Dec.{leb}
use Prim.Native.String.{String}
use borrow.Author.Tests.{eqb-true, eqb-false, le-leb, lt-leb, ltb-true}
use Rattle.base.specs.Bools.{and_left, and_right}
use Rattle.base.specs.Lists.{all}
use Rattle.base.specs.Alls.{all-all}
use Rattle.base.specs.Bits.{flagged}
use Rattle.definition.specs.Texts.{Text, chars, among, last_is, consonants, vowels}
use Rattle.definition.specs.Letters.{among_all}
use Rattle.definition.specs.Edges.{closing}
use Rattle.definition.specs.Vowels.{before_y}
use Rattle.definition.specs.Expansion.{doubling, o_ang_side}

-- in a range of characters
unfoldable pub between : ℕ → ℕ → ℕ → Bool
between first last c = leb first c && leb c last

-- bit k is the letter k places after a
unfoldable pub member : ℕ → ℕ → Bool
member set c = leb 97 c && leb c 122 && flagged set (c - 97)

module _ (set c : ℕ) where
  pub member-before : c < 97 → member set c ≡ false
  unfolding member
  member-before h = ap (λ (b : Bool). b && leb c 122 && flagged set (c - 97)) (lt-leb 97 c h)

  pub member-past : 122 < c → member set c ≡ false
  unfolding member
  member-past h = simp (le-leb 97 c (omega arith), lt-leb c 122 h)

  pub member-letter : 97 ≤ c → c ≤ 122 → member set c ≡ flagged set (c - 97)
  unfolding member
  member-letter g h = simp (le-leb 97 c g, le-leb c 122 h)

  -- no number past ASCII is in a set
  pub member-low : 128 ≤ c → member set c ≡ false
  member-low h = member-past (omega arith)

abbrev agree : Bool → Bool → Bool
agree true b = b
agree false b = not b

-- do two tests agree on every number below `n`?
abbrev agrees : (ℕ → Bool) → (ℕ → Bool) → ℕ → Bool
agrees f g zero = true
agrees f g (suc n) = agree (f n) (g n) && agrees f g n

agree_eq : (a b : Bool) → agree a b ≡ true → a ≡ b
agree_eq true true e = refl
agree_eq true false e = sym e
agree_eq false true e = e
agree_eq false false e = refl

by_table : (f g : ℕ → Bool) (n : ℕ) → agrees f g n ≡ true → (c : ℕ) → c < n → f c ≡ g c
by_table f g zero e c h = absurd (omega arith)
by_table f g (suc n) e c h = go (eqb c n) refl (λ z. by_table f g n (and_right (agree (f n) (g n)) (agrees f g n) e) c z)
  where
    go : (b : Bool) → eqb c n ≡ b → (c < n → f c ≡ g c) → f c ≡ g c
    go true z k = let w = eqb-true c n z in ap f w ∙ agree_eq (f n) (g n) (and_left (agree (f n) (g n)) (agrees f g n) e) ∙ sym (ap g w)
    go false z k = k (let w = eqb-false c n z in omega arith)

-- a quoted text of ASCII has no number past it
among-past : (s : String) → all (λ c. ltb c 128) (chars s) ≡ true → (c : ℕ) → 128 ≤ c → among s c ≡ false
among-past s e c h = go (among s c) refl
  where
    go : (b : Bool) → among s c ≡ b → b ≡ false
    go false q = refl
    go true q = absurd (let z = among_all s (λ c. c < 128) (all-all (λ c. c < 128) (λ c. ltb c 128) (λ x. ltb-true x 128) (chars s) e) c q in omega arith)

-- so a mask and a quoted text that agree on ASCII are one set
as_quoted : (set : ℕ) (s : String) → agrees (member set) (among s) 128 ≡ true → all (λ c. ltb c 128) (chars s) ≡ true
    → (c : ℕ) → member set c ≡ among s c
as_quoted set s e a c = go (dec_le 128 c)
  where
    go : Dec (128 ≤ c) → member set c ≡ among s c
    go (yes h) = member-low set c h ∙ sym (among-past s a c h)
    go (no h) = by_table (member set) (among s) 128 e c (omega arith)

-- The sets, each with its law
abbrev pub vowels_set : ℕ
vowels_set = 0x104111

pub in_vowels : (c : ℕ) → member vowels_set c ≡ vowels c
unfolding member flagged all among vowels
in_vowels = as_quoted vowels_set "aeiou" refl refl

abbrev pub consonants_set : ℕ
consonants_set = 0x3efbeee

pub in_consonants : (c : ℕ) → member consonants_set c ≡ consonants c
unfolding member flagged all among consonants
in_consonants = as_quoted consonants_set "bcdfghjklmnpqrstvwxyz" refl refl

abbrev pub closing_set : ℕ
closing_set = 0x2afbeee

pub in_closing : (c : ℕ) → member closing_set c ≡ closing c
unfolding member flagged all among closing
in_closing = as_quoted closing_set "bcdfghjklmnpqrstvxz" refl refl

abbrev pub before_y_set : ℕ
before_y_set = 0x18f34e4

pub in_before_y : (c : ℕ) → member before_y_set c ≡ before_y c
unfolding member flagged all among before_y
in_before_y = as_quoted before_y_set "cfghkmnqrstxy" refl refl

abbrev pub doubling_set : ℕ
doubling_set = 0x24fbeee

pub in_doubling : (c : ℕ) → member doubling_set c ≡ doubling c
unfolding member flagged all among doubling
in_doubling = as_quoted doubling_set "bcdfghjklmnpqrstwz" refl refl

abbrev pub o_ang_side_set : ℕ
o_ang_side_set = 0x2efbeee

pub in_o_ang_side : (c : ℕ) → member o_ang_side_set c ≡ o_ang_side c
unfolding member flagged all among o_ang_side
in_o_ang_side = as_quoted o_ang_side_set "bcdfghjklmnpqrstvwxz" refl refl

-- of `fallback_plus`
abbrev pub plus_before_set : ℕ
plus_before_set = 0x23040

pub in_plus-before : (c : ℕ) → member plus_before_set c ≡ among "mngr" c
unfolding member flagged all among
in_plus-before = as_quoted plus_before_set "mngr" refl refl

-- What such a law says of texts: no number past ASCII is in the set, and a text's last and all of it are asked alike
module _ (set : ℕ) (q : ℕ → Bool) (law : (c : ℕ) → member set c ≡ q c) where
  pub none-past : (c : ℕ) → 128 ≤ c → q c ≡ false
  none-past c h = sym (law c) ∙ member-low set c h

  pub last_as : (w : Text) → last_is (member set) w ≡ last_is q w
  last_as w = ap (λ (f : ℕ → Bool). last_is f w) (fun_ext law)

  pub all_as : (w : Text) → all (member set) w ≡ all q w
  all_as w = ap (λ (f : ℕ → Bool). all f w) (fun_ext law)
