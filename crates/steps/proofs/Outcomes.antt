-- What each step makes of its work: one law for each way out.
use mathlib.Core.Bool.{Bool, true, false}
use mathlib.Core.List.{List, ◌∷◌, ◌++◌, reverse}
use mathlib.Core.Path.{◌≡◌, refl, sym, ap, ◌∙◌}
use Prim.Native.Nat.{ℕ, ◌+◌, ◌-◌, ◌≤◌}
use native.Mathlib.Omega.{arith}
use lib.ListN.{length, take}
use borrow.Author.Tests.{eq-eqb, ne_eqb}
use Rattle.base.specs.Pick.{pick}
use Rattle.std.specs.Prelude.{Some, None}
use Rattle.base.specs.Lists.{same}
use Rattle.definition.specs.Limits.{most_bytes}
use Rattle.definition.specs.Texts.{Text, the_space, among, at, prev, stands}
use Rattle.definition.specs.Tables.{Class}
use Rattle.definition.specs.Notes.{note_exp}
use Rattle.definition.specs.Classes.{class, script}
use Rattle.definition.specs.Expansion.{work, small_tsu, doubled, double, lengthens, trim_front, trim_back, trim, finish}
use Rattle.definition.specs.Expansion as expansion
use Rattle.rom.specs.declared.Rom.{Rom}
use Rattle.rom.specs.Rom.{text, rom, Clean, text-length, text-by, len_by, clean_by}
use Rattle.steps.specs.Works.{letter_of, kana, long_by, front_of, back_of}
use Rattle.steps.proofs.Letters.{front-short, back-short}

-- Doubling
pub space_not_tsu : small_tsu the_space ≡ false
unfolding small_tsu among
space_not_tsu = refl

module _ (ks : List Class) (t : Text) (o : ℕ) (w : expansion.Work) where
  pub no_tsu : small_tsu (prev t o) ≡ false → w ≡ double ks t o w
  unfolding double pick
  no_tsu e = sym (rw e)

  pub at_front : o ≡ 0 → w ≡ double ks t o w
  unfolding prev
  at_front e = no_tsu (ap (λ (p : ℕ). small_tsu (prev t p)) e ∙ space_not_tsu)

  module _ (e : small_tsu (prev t o) ≡ true) where
    pub other-script : (script ks (prev t o) ≡ script ks (at t o) → ⊥) → w ≡ double ks t o w
    unfolding double pick
    other-script f = sym (rw (e, ne_eqb (script ks (prev t o)) (script ks (at t o)) f))

    module _ (f : script ks (prev t o) ≡ script ks (at t o)) where
      pub no_letter : letter_of None ≡ doubled (prev t o) w.rom → w ≡ double ks t o w
      unfolding double letter_of same pick
      no_letter d = sym (rw (e, eq-eqb (script ks (prev t o)) (script ks (at t o)) f, sym d))

      pub a_letter : (b : ℕ) → letter_of (Some b) ≡ doubled (prev t o) w.rom → work (b ∷ w.rom) (w.from - 1) w.to note_exp ≡ double ks t o w
      unfolding double letter_of same pick
      a_letter b d = sym (rw (e, eq-eqb (script ks (prev t o)) (script ks (at t o)) f, sym d))

-- Trimming: `f` is the romanization `r` trimmed in front, `b` then behind
module _ {r f : Rom} (h : Clean r) (c : ℕ) (p : f ≡ rom (front_of c (text r))) where
  front_fits : length (front_of c (text r)) ≤ r.len
  front_fits = omega (arith, front-short c (text r), text-length h)

  front_bound : length (front_of c (text r)) ≤ most_bytes
  front_bound = omega (arith, front_fits, h.fits)

  pub front_clean : Clean f
  front_clean = clean_by (front_of c (text r)) p front_bound

  module _ {b : Rom} (there : Bool) (q : b ≡ rom (back_of there (text f))) where
    back_fits : length (back_of there (text f)) ≤ r.len
    back_fits = omega (arith, back-short there (text f), text-length front_clean, len_by (front_of c (text r)) p, front_fits)

    back_bound : length (back_of there (text f)) ≤ most_bytes
    back_bound = omega (arith, back_fits, h.fits)

    pub trimmed_clean : Clean b
    trimmed_clean = clean_by (back_of there (text f)) q back_bound

    pub trimmed_short : b.len ≤ r.len
    trimmed_short = omega (arith, len_by (back_of there (text f)) q, back_fits)

    pub trimmed : (t : Text) (s e n : ℕ) → c ≡ prev t s → there ≡ stands t e the_space
        → work (text b) s e n ≡ trim t (work (text r) s e n)
    unfolding trim trim_front trim_back front_of back_of
    trimmed t s e n k l = ap (λ (x : Text). work x s e n) (
        text-by (back_of there (text f)) q back_bound
        ∙ ap (back_of there) (text-by (front_of c (text r)) p front_bound)
        ∙ ap (λ (x : Bool). back_of x (front_of c (text r))) l
        ∙ ap (λ (x : ℕ). back_of (stands t e the_space) (front_of x (text r))) k)

-- The long mark, a virama, or neither
module _ (ks : List Class) (t : Text) (w : expansion.Work) where
  pub long-told : {c k : ℕ} {b : Bool} → c ≡ at t w.to → k ≡ script ks (prev t w.to) → b ≡ long_by c k w.rom
      → b ≡ lengthens ks t w
  unfolding lengthens long_by kana
  long-told {c} {k} d e f =
      f ∙ ap (λ (x : ℕ). long_by x k w.rom) d ∙ ap (λ (x : ℕ). long_by (at t w.to) x w.rom) e

  pub lengthened : lengthens ks t w ≡ true → work (w.rom ++ take 1 (reverse w.rom)) w.from (w.to + 1) note_exp ≡ finish ks t w
  unfolding finish pick
  lengthened e = sym (rw e)

  module _ (e : lengthens ks t w ≡ false) where
    pub absorbed : (class ks (at t w.to)).virama ≡ true → work w.rom w.from (w.to + 1) note_exp ≡ finish ks t w
    unfolding finish pick
    absorbed f = sym (rw (e, f))

    pub neither : (class ks (at t w.to)).virama ≡ false → trim t w ≡ finish ks t w
    unfolding finish pick
    neither f = sym (rw (e, f))
