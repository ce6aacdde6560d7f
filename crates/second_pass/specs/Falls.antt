-- One start of the second pass: a fallback where no edge covers the character.
use Rattle.std.specs.Prelude.{ℕ, true, false, ◌≡◌}
use Rattle.base.specs.Pick.{pick}
use Rattle.definition.specs.Texts.{Text}
use Rattle.definition.specs.Tables.{Tables, lexicon}
use Rattle.definition.specs.Edges.{State, covered, view}
use Rattle.definition.specs.Building.{put_in, fallback_edge, fall}

module _ (D : Tables) (t : Text) where
  -- what a fallback adds
  abbrev pub put_fallback : ℕ → State → State
  put_fallback p st = put_in (λ es. fallback_edge (lexicon D) t (view D.classes es) p) st

  module _ (p : ℕ) (st : State) where
    pub fall-covered : covered st.0 p ≡ true → fall D t p st ≡ st
    unfolding fall pick
    fall-covered h = rw h

    pub fall-bare : covered st.0 p ≡ false → fall D t p st ≡ put_fallback p st
    unfolding fall pick
    fall-bare h = rw h
