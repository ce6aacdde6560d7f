-- `decomp_text::put_ascii`: an ASCII text is its own bytes.
use mathlib.Core.Path.{sym, ap, ◌∙◌, subst}
use native.Mathlib.Omega.{arith}
use lib.ListN.{length}
use Rattle.definition.specs.Shorts.{encoded-low}
use Rattle.definition.specs.Texts.{Text, last_is}
use Rattle.definition.specs.Classes.{alpha}
use Rattle.utf8.specs.Encodings.{Scalars, low-decoded, low_bytes}
use Rattle.words.specs.Given.{kinds}
use Rattle.passes.specs.Endings.{letter-told}
use Rattle.decomp_text.proofs.put_ascii.Goals as goal

pub returns : goal.returns
returns c =
    let s = c.args.text.now in (
      λ w t told low h.
          c.put.ensures.0 (kinds w) t s h (sym (encoded-low s low)) (subst Scalars (low-decoded s low) (low_bytes s low).scalars)
          (c.ends_in_letter.ensures ∙ letter-told w c.args.ready.now told {k = length s} s (record { long = omega arith; low = low })
          ∙ ap (λ (u : Text). last_is (alpha (kinds w)) u) (low-decoded s low)),
      c.put.ensures.1,
    )
