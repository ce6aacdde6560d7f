-- The chosen form beside the romanization: how long it is, and whether only vowels were added, which needs no comparison.
use Rattle.std.specs.Prelude.{ℕ, ◌+◌, ◌<◌, ◌≤◌, Bool, not, ◌&&◌, ◌≡◌, take}
use mathlib.Core.List.{[], ◌++◌, append-nil}
use Rattle.std.proofs.Math.Bool.{true, false, and-false}
use Rattle.std.proofs.Math.Path.{refl, ap}
use Rattle.std.proofs.Common.{◌∙◌, arith, drop_of_length-le}
use Rattle.std.proofs.Math.ListN.{length, length-append}
use Rattle.std.proofs.Math.Seq.{slice, length-slice, length-take-le, take-length, drop-append_seam}
use Rattle.base.specs.Pick.{pick}
use Rattle.base.specs.Lists.{all, same, starts}
use Rattle.base.specs.ListLaws.{starts-append, same_some}
use Rattle.definition.specs.Texts.{Text, vowels}
use Rattle.definition.specs.Building.{grown}
use Rattle.ends.specs.Shown.{Within, shown, form_means}
use Rattle.ends.specs.declared.Forms.{Forms}
use Rattle.ends.specs.declared.Which.{Which}

-- `grown`, of what is behind
abbrev G : Bool → Text → Bool
G b more = b && not (same more []) && all vowels more

-- what is not longer has not grown; what a vowel was put behind has, where it is vowels only
grown-short : (s new : Text) → length new ≤ length s → grown s new ≡ false
unfolding grown same
grown-short s new h = ap (G (starts s new)) (drop_of_length-le new h) ∙ ap (λ (b : Bool). b && all vowels []) (and-false (starts s new))

grown-added : (s vowel : Text) → 0 < length vowel → grown s (s ++ vowel) ≡ all vowels vowel
unfolding grown
grown-added s vowel h =
    ap (G (starts s (s ++ vowel))) (drop-append_seam s vowel)
    ∙ ap (λ (b : Bool). G b vowel) (starts-append s vowel)
    ∙ ap (λ (b : Bool). not b && all vowels vowel) (same_some vowel h)

-- did the step only add vowels?
unfoldable pub grew : Which → Forms → Text → Bool
grew Which.Rom f vowel = false
grew Which.Base f vowel = false
grew Which.Plus f vowel = f.add && all vowels vowel

module _ (s vowel : Text) (f : Forms) (h : Within (length s) f) where
  part_length : (a e : ℕ) → e ≤ length s → length (slice a e s) ≤ length s
  part_length a e k = omega (arith, length-slice a e s k)

  abbrev plus : Text
  plus = slice f.from f.end s

  -- a vowel is added to the whole
  whole : f.add ≡ true → plus ≡ s
  whole e =
      let z = h.4 e in
      ap (λ (i : ℕ). slice i f.end s) z.0 ∙ ap (λ (i : ℕ). take i s) z.1 ∙ take-length s

  pub grown_as : 0 < length vowel → (w : Which) → grown s (form_means w (shown s vowel f)) ≡ grew w f vowel
  unfolding form_means shown grew pick
  grown_as k Which.Rom = grown-short s (take f.rom s) (omega (arith, length-take-le f.rom s h.0, h.0))
  grown_as k Which.Base = grown-short s (slice f.from f.to s) (part_length f.from f.to (omega (arith, h.2, h.3)))
  grown_as k Which.Plus = go f.add refl
    where
      go : (b : Bool) → f.add ≡ b → grown s (plus ++ pick b vowel []) ≡ (b && all vowels vowel)
      go true e = ap (λ (x : Text). grown s (x ++ vowel)) (whole e) ∙ grown-added s vowel k
      go false e = ap (grown s) (append-nil plus) ∙ grown-short s plus (part_length f.from f.end h.3)

  pub chosen-length : (w : Which) → length (form_means w (shown s vowel f)) ≤ length s + length vowel
  unfolding form_means shown pick
  chosen-length Which.Rom = omega (arith, length-take-le f.rom s h.0, h.0)
  chosen-length Which.Base = omega (arith, part_length f.from f.to (omega (arith, h.2, h.3)))
  chosen-length Which.Plus = go f.add
    where
      go : (b : Bool) → length (plus ++ pick b vowel []) ≤ length s + length vowel
      go true = omega (arith, length-append plus vowel, part_length f.from f.end h.3)
      go false = omega (arith, length-append plus [], part_length f.from f.end h.3)
