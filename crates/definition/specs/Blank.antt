-- The class of U+0020 under an accepted class table: no letter, no mark, no script, no flag.
-- So wherever the definition reads a character outside the text, it reads what the Rust takes for none (Outside).
-- (proofs/Blank: an accepted table says so.)
use Rattle.std.specs.Prelude.{Bool, true, ◌&&◌, ◌≡◌, refl, List, [], ◌∷◌, ◌⊎◌, leb}
use Rattle.std.proofs.Math.Bool.{false}
use Rattle.std.proofs.Common.{inl, inr, eqb-true}
use Prim.Native.Nat.{ℕ}
use Rattle.std.proofs.Math.Dec.{eqb}
use Rattle.base.specs.Pick.{pick}
use Rattle.base.specs.Alls.{All}
use Rattle.definition.specs.Texts.{the_space, latin}
use Rattle.definition.specs.Tables.{Class, category_other, category_letter, category_Mn, category_mark, category_Zs, script_none}
use Rattle.definition.specs.Classes.{plain, class, alpha, mark, script}

pub record Blank (k : Class) : Type 0 where
  pub category : (k.category ≡ category_Zs) ⊎ (k.category ≡ category_other)
  pub script : k.script ≡ script_none
  pub sign : k.sign ≡ false
  pub medial : k.medial ≡ false
  pub subjoined : k.subjoined ≡ false
  pub virama : k.virama ≡ false
  pub vocalic : k.vocalic ≡ false
  pub tone : k.tone ≡ false
  pub pre : k.pre ≡ false
  pub lowercase : k.lowercase ≡ false

pub blank_in : (ks : List Class) → All (λ k. k.char ≡ the_space → Blank k) ks → Blank (class ks the_space)
unfolding class plain latin pick
blank_in [] h = record {
  category = inr refl;
  script = refl;
  sign = refl;
  medial = refl;
  subjoined = refl;
  virama = refl;
  vocalic = refl;
  tone = refl;
  pre = refl;
  lowercase = refl;
}
blank_in (k ∷ ks) h = go (eqb k.char the_space) refl (blank_in ks h.1)
  where
    go : (b : Bool) → eqb k.char the_space ≡ b → Blank (class ks the_space)
        → Blank (elim b [ true ↦ k | false ↦ class ks the_space ])
    go true e r = h.0 (eqb-true k.char the_space e)
    go false e r = r

-- in the words of the questions that are asked
module _ (ks : List Class) (w : Blank (class ks the_space)) where
  pub blank_alpha : alpha ks the_space ≡ false
  unfolding alpha
  blank_alpha = go w.category
    where
      c : ℕ
      c = (class ks the_space).category

      go : (c ≡ category_Zs) ⊎ (c ≡ category_other) → (leb category_letter c && leb c category_mark) ≡ false
      go (inl e) = rw e
      go (inr e) = rw e

  pub blank_mark : mark ks the_space ≡ false
  unfolding mark
  blank_mark = go w.category
    where
      go : ((class ks the_space).category ≡ category_Zs) ⊎ ((class ks the_space).category ≡ category_other)
          → eqb (class ks the_space).category category_Mn ≡ false
      go (inl e) = rw e
      go (inr e) = rw e

  pub blank_script : script ks the_space ≡ script_none
  unfolding script
  blank_script = w.script
