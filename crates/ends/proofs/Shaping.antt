-- Each form by its positions: a romanization of what stands there is one of the form.
use mathlib.Core.List.{[], ◌++◌, append-nil}
use mathlib.Core.Bool.{Bool, true, false}
use mathlib.Core.Path.{◌≡◌, sym, ap, ◌∙◌}
use lib.Seq.{slice}
use Rattle.base.specs.Pick.{pick}
use Rattle.definition.specs.Texts.{Text}
use Rattle.rom.specs.declared.Rom.{Rom}
use Rattle.rom.specs.Rom.{rom}
use Rattle.ends.specs.Shown.{shown, form_means}
use Rattle.ends.specs.declared.Forms.{Forms}
use Rattle.ends.specs.declared.Which.{Which}

module _ (s vowel : Text) (f : Forms) (w : Which) where
  abbrev form : Which → Text
  form x = form_means x (shown s vowel f)

  pub the_rom : w ≡ Which.Rom → {q : Rom} → q ≡ rom (slice 0 f.rom s) → q ≡ rom (form w)
  unfolding form_means shown
  the_rom e m = m ∙ sym (ap (λ (x : Which). rom (form x)) e)

  pub the_base : w ≡ Which.Base → {q : Rom} → q ≡ rom (slice f.from f.to s) → q ≡ rom (form w)
  unfolding form_means shown
  the_base e m = m ∙ sym (ap (λ (x : Which). rom (form x)) e)

  module _ (e : w ≡ Which.Plus) where
    abbrev with_vowel : Bool → Text
    with_vowel b = slice f.from f.end s ++ pick b vowel []

    by : (b : Bool) → f.add ≡ b → with_vowel b ≡ form w
    unfolding form_means shown
    by b g = ap with_vowel (sym g) ∙ sym (ap form e)

    pub the_plus : f.add ≡ false → {q : Rom} → q ≡ rom (slice f.from f.end s) → q ≡ rom (form w)
    unfolding pick
    the_plus g m = m ∙ ap rom (sym (append-nil (slice f.from f.end s)) ∙ by false g)

    -- the vowel is put behind a text that is the base with its own
    pub the_added : f.add ≡ true → {t : Text} {q : Rom} → t ≡ slice f.from f.end s → q ≡ rom (t ++ vowel) → q ≡ rom (form w)
    unfolding pick
    the_added g h m = m ∙ ap (λ (x : Text). rom (x ++ vowel)) h ∙ ap rom (by true g)
