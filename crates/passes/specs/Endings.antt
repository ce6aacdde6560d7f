-- How a text ends: of an ASCII text the letters were told once.
use Rattle.std.specs.Prelude.{ℕ, Bool, ◌≡◌, get_or}
use mathlib.Core.List.{List, reverse}
use Rattle.std.proofs.Math.Option.{Option, none, some}
use Rattle.std.proofs.Math.Path.{refl, ap}
use Rattle.std.proofs.Common.{sym, ◌∙◌, get_or-take}
use Rattle.std.proofs.Math.Dec.{eqb}
use Rattle.base.specs.Lists.{head, is}
use Rattle.base.specs.Alls.{All-head, Opt}
use Rattle.base.specs.Bits.{is_set}
use Rattle.definition.specs.Limits.{ascii_characters}
use Rattle.definition.specs.Texts.{Text, last_is}
use Rattle.definition.specs.Utf8.{decoded}
use Rattle.definition.specs.Classes.{alpha}
use Rattle.definition.specs.Shorts.{Low, Short, short-reverse}
use Rattle.utf8.specs.Encodings.{low-decoded}
use Rattle.table_classes.specs.Packing.{alphas_at}
use Rattle.words.specs.Given.{World, kinds, Told}
use Rattle.words.specs.Goes.{letter_byte}

-- does a text end in a letter, as it was told of its last byte?
unfoldable pub last_letter : List ℕ → Text → Bool
last_letter ready text = last_is (letter_byte ready) text

module _ (w : World) (ready : List ℕ) (e : Told w ready) where
  byte_told : (c : ℕ) → Low c → letter_byte ready c ≡ alpha (kinds w) c
  unfolding letter_byte
  byte_told c l =
      ap (λ n. eqb n 1) (sym (get_or-take ascii_characters ready c 0 l)) ∙ ap (λ (a : List ℕ). eqb (get_or a c 0) 1) e.letters ∙ ap (λ n. eqb n 1) (alphas_at w.classes c l)
      ∙ is_set (alpha (kinds w) c)

  pub letter-told : {k : ℕ} (text : Text) → Short k text → last_letter ready text ≡ last_is (alpha (kinds w)) (decoded text)
  unfolding last_letter last_is
  letter-told {k} text h =
      go (head (reverse text)) (All-head Low (reverse text) (short-reverse h).low) ∙ ap (λ (t : Text). is (alpha (kinds w)) (head (reverse t))) (sym (low-decoded text h.low))
    where
      go : (o : Option ℕ) → Opt Low o → is (letter_byte ready) o ≡ is (alpha (kinds w)) o
      go none q = refl
      go (some c) q = byte_told c q
