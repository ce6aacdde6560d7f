-- Every edge that a rule or a fallback gives goes forward, lies within the text, has a text of 606 bytes at most, and a
-- core as its text has it.
-- (Proved in proofs/Bounds.)
use Rattle.std.specs.Prelude.{◌≡◌, ◌⊎◌, length}
use Rattle.std.proofs.Math.Bool.{false}
use mathlib.Core.List.{[], ◌∷◌}
use Prim.Native.Nat.{ℕ, ◌≤◌, ◌<◌}
use Rattle.base.specs.Alls.{All}
use Rattle.definition.specs.Limits.{most_vowel, most_bytes}
use Rattle.definition.specs.Notes.{note_orig, note_decomp}
use Rattle.definition.specs.Texts.{Text, at, the_space}
use Rattle.definition.specs.Tables.{Tables}
use Rattle.definition.specs.Classes.{class}
use Rattle.definition.specs.Edges.{Edge}
use Rattle.definition.specs.Capacity.{bytes}
use Rattle.definition.specs.Shorts.{Low, Short}
use Rattle.definition.specs.ExpandBounds.{Spoken}
use Rattle.definition.specs.Cores.{Cored}

-- What the tables bound: a rule's texts, a vowel's letters, and a space that is no virama
pub record Bounded (D : Tables) : Type 0 where
  pub rules : All Spoken D.rules
  pub vowels : All (λ y. Short most_vowel y.letters) D.vowels
  pub virama : (class D.classes the_space).virama ≡ false

-- An edge within a text of `n`: whatever its text, and with one of 606 bytes at most
abbrev pub Known : ℕ → Type 0
Known k = (k ≤ note_orig) ⊎ (k ≡ note_decomp)

pub record Formed (n : ℕ) (x : Edge) : Type 0 where
  pub forward : x.from < x.to
  pub inside : x.to ≤ n
  pub known : Known x.note
  pub core : Cored x

pub record Sound (n : ℕ) (x : Edge) : Type 0 where
  pub forward : x.from < x.to
  pub inside : x.to ≤ n
  pub short : bytes x ≤ most_bytes
  pub known : Known x.note
  pub core : Cored x

pub sound_formed : {n : ℕ} (x : Edge) → Sound n x → Formed n x
sound_formed x s = record { forward = s.forward; inside = s.inside; known = s.known; core = s.core }

-- one that a rule or a fallback gives: its text is the character itself where it is so annotated, and else ASCII
pub record Ruled (t : Text) (x : Edge) : Type 0 where
  pub sound : Sound (length t) x
  pub note : x.note ≤ note_orig
  pub own : x.note ≡ note_orig → x.text ≡ at t x.from ∷ []
  pub low : (x.note ≡ note_orig → ⊥) → All Low x.text

module _ (D : Tables) (ok : Bounded D) (t : Text) where
  -- it is sound, its text ASCII, and a rule gives it
  abbrev pub Spelt : Edge → Type 0
  Spelt x = Sound (length t) x × Short most_bytes x.text × (x.note < note_orig)
