-- The text of an edge that a rule or a fallback gives: ASCII, or the character itself.
use Prim.Native.Nat.{ℕ, ◌+◌, ◌<◌}
use mathlib.Core.Bool.{Bool, true, false}
use mathlib.Core.List.{List, [], ◌∷◌}
use mathlib.Core.Path.{◌≡◌, sym, ap, ◌∙◌, subst}
use native.Mathlib.Omega.{arith}
use lib.ListN.{length, get_or}
use Rattle.base.specs.Lists.{head}
use Rattle.base.specs.Alls.{All}
use Rattle.definition.specs.Notes.{note_orig}
use Rattle.definition.specs.Texts.{Text, at, last_is, slash, fraction_slash}
use Rattle.definition.specs.Utf8.{encoded}
use Rattle.definition.specs.Shorts.{Low, encoded-low}
use Rattle.definition.specs.Classes.{alpha}
use Rattle.definition.specs.Bounds.{Ruled}
use Rattle.utf8.specs.Encodings.{Scalars}
use Rattle.edge.specs.declared.Numbers.{Numbers}
use Rattle.edge.specs.Slots.{bytes_of, edge_by, numbers_of, edge_of}
use Rattle.edge.specs.Stored.{Slot, slot-encoded}
use Rattle.words.specs.Given.{World, kinds, size_in, kind_in, alpha_kind, Lined, line-size, char_at, alpha-at}
use Rattle.decomp_text.specs.Spelling.{shaped, shaped-low, shaped-slash, shaped-other, shaped_not}

module _ {room s : List ℕ} (k : Slot room (length room) s) (b : List ℕ) (e : b ≡ bytes_of room s) (n : Numbers) (m : n ≡ numbers_of s) where
  pub text-bytes : b ≡ encoded (edge_of room s).text
  text-bytes = e ∙ sym (slot-encoded room s (length room) k (omega arith))

  pub text-scalars : Scalars (edge_of room s).text
  unfolding edge_by
  text-scalars = k.text.scalars

  note-is : (edge_of room s).note ≡ n.note
  unfolding edge_by
  note-is = sym (ap (λ (u : Numbers). u.note) m)

  from_is : (edge_of room s).from ≡ n.from
  unfolding edge_by
  from_is = sym (ap (λ (u : Numbers). u.from) m)

  module _ (w : World) (r : Ruled w.text (edge_of room s)) where
    -- by a rule
    module _ (h : n.note ≡ note_orig → ⊥) where
      low : All Low (edge_of room s).text
      low = r.low (λ z. h (sym note-is ∙ z))

      own-bytes : (edge_of room s).text ≡ b
      own-bytes = sym (encoded-low (edge_of room s).text low) ∙ sym text-bytes

      pub bytes_low : All Low b
      bytes_low = subst (All Low) own-bytes low

      pub bytes-shaped : (number : Bool) → b ≡ shaped number (edge_of room s).text
      bytes-shaped number = sym own-bytes ∙ sym (shaped-low number (edge_of room s).text low)

    -- or itself
    module _ (h : n.note ≡ note_orig) {line : List ℕ} (g : Lined w line) (l : n.from < size_in line) where
      abbrev own : ℕ
      own = at w.text n.from

      itself : (edge_of room s).text ≡ own ∷ []
      itself = r.own (note-is ∙ h) ∙ ap (λ (p : ℕ). at w.text p ∷ []) from_is

      stands : get_or line (n.from + 1) 0 ≡ own
      stands = char_at g n.from (omega (arith, line-size g, l))

      pub own-letter : alpha_kind (kind_in line (n.from + 1)) ≡ last_is (alpha (kinds w)) (edge_of room s).text
      unfolding last_is head
      own-letter = alpha-at g n.from (omega (arith, line-size g, l)) ∙ ap (λ (u : Text). last_is (alpha (kinds w)) u) (sym itself)

      pub own-slash : (number : Bool) → number ≡ true → get_or line (n.from + 1) 0 ≡ fraction_slash → slash ∷ [] ≡ shaped number (edge_of room s).text
      own-slash number a q =
          sym (shaped-slash own (sym stands ∙ q)) ∙ ap (shaped true) (sym itself) ∙ ap (λ (c : Bool). shaped c (edge_of room s).text) (sym a)

      pub own-other : (number : Bool) → number ≡ true → (get_or line (n.from + 1) 0 ≡ fraction_slash → ⊥)
          → (edge_of room s).text ≡ shaped number (edge_of room s).text
      own-other number a q =
          itself ∙ sym (shaped-other own (λ z. q (stands ∙ z))) ∙ ap (shaped true) (sym itself) ∙ ap (λ (c : Bool). shaped c (edge_of room s).text) (sym a)

      pub own-plain : (number : Bool) → number ≡ false → (edge_of room s).text ≡ shaped number (edge_of room s).text
      own-plain number a = itself ∙ sym (shaped_not own) ∙ ap (shaped false) (sym itself) ∙ ap (λ (c : Bool). shaped c (edge_of room s).text) (sym a)
