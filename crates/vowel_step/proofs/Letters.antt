-- The vowel row that was found: what it stands for, and its letters.
use mathlib.Core.Bool.{Bool, true, false}
use mathlib.Core.List.{List, [], ◌∷◌}
use mathlib.Core.Option.{none, some}
use mathlib.Core.Path.{◌≡◌, refl, sym, ap, ◌∙◌, subst}
use Prim.Native.Nat.{ℕ, ◌+◌, ◌-◌, ◌≤◌, ◌<◌}
use native.Mathlib.Omega.{arith}
use lib.Dec.{eqb}
use lib.ListN.{length, take, drop, length-drop}
use lib.Seq.{length-take-le, take-length}
use Rattle.base.specs.Alls.{Opt, All-keep, All-head}
use Rattle.base.specs.Lists.{keep}
use Rattle.definition.specs.Limits.{most_vowel}
use Rattle.definition.specs.Texts.{Text}
use Rattle.definition.specs.Tables.{Vowel}
use Rattle.definition.specs.VowelRows.{vowel_length, vowel_size, vowel_letters, vowel_of, vowel_right, vowels_of}
use Rattle.definition.specs.Vowels.{vowel_row}
use Rattle.definition.specs.Building.{grown}
use Rattle.definition.specs.Checked.{vowel-checked}
use Rattle.definition.specs.Accepted.{vowels-all}
use Rattle.table_vowels.specs.Told.{FineVowels, vowel_means, Lettered}
use Rattle.table_vowels.specs.declared.VowelRow.{VowelRow}
use Rattle.std.specs.Prelude as rust
use Rattle.ends.specs.Shown.{unmatched, shown, form_means}
use Rattle.ends.specs.Grew.{grew, grown_as}
use Rattle.ends.specs.declared.Which.{Which}

-- a row of a right table has a letter
a_letter : (low : ℕ) (s : List ℕ) → vowel_right low s ≡ true → 0 < length (vowel_of s).letters
unfolding vowel_of vowel_letters vowel_size
a_letter low s e =
    let c = vowel-checked low s e in
    omega (arith, c.least, length-take-le (vowel_length s) (drop 3 s) (omega (arith, c.inside, length-drop 3 s)))

-- what was answered, of the script `k`
module _ (b : List ℕ) (k : ℕ) (o : rust.Option VowelRow) (e : vowel_means b k o ≡ vowel_row (vowels_of b) k) where
  pub none_told : (j : ℕ) → k ≡ j → o ≡ rust.None → vowel_row (vowels_of b) j ≡ none
  unfolding vowel_means
  none_told j i d = ap (vowel_row (vowels_of b)) (sym i) ∙ sym e ∙ ap (vowel_means b k) d

  -- a row, and its letters `w`
  module _ (r : VowelRow) (d : o ≡ rust.Some r) where
    pub placed : Lettered b o → (r.from ≤ r.to) × (r.to ≤ r.from + 4) × (r.to ≤ length b)
    unfolding Lettered
    placed l = subst (Lettered b) d l

    module _ (w : Text) (z : w ≡ take (r.to - r.from) (drop r.from b)) where
      pub row_told : (j : ℕ) → k ≡ j → vowel_row (vowels_of b) j ≡ some (record { script = k; ao = r.ao; letters = w })
      unfolding vowel_means
      row_told j i =
          ap (vowel_row (vowels_of b)) (sym i) ∙ sym e ∙ ap (vowel_means b k) d
          ∙ ap (λ (l : Text). some (record { script = k; ao = r.ao; letters = l })) (sym z)

      pub some_letter : FineVowels b → 0 < length w
      unfolding vowel_row
      some_letter f =
          let P : Vowel → Type 0 = λ y. 0 < length y.letters in
          let q : Vowel → Bool = λ y. eqb y.script k in
          subst (Opt P) (row_told k refl) (All-head P (keep q (vowels_of b)) (All-keep P q (vowels_of b) (vowels-all P a_letter b f)))

      pub few_letters : Lettered b o → length w ≤ most_vowel
      few_letters l =
          let p = placed l in
          omega (arith, ap length z, length-take-le (r.to - r.from) (drop r.from b) (omega (arith, length-drop r.from b, p.2)), p.1)

-- what stays has not grown
pub stays : (s : Text) → grown s s ≡ false
unfolding form_means shown grew
stays s =
    ap (grown s) (sym (take-length s))
    ∙ grown_as s (97 ∷ []) (unmatched (length s)) (omega arith, omega arith, omega arith, omega arith, λ e. (omega arith, omega arith)) (omega arith) Which.Rom
