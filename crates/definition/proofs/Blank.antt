-- An accepted class table says of U+0020 that it is blank: no letter, no mark, no script, no flag.
use Rattle.std.specs.Prelude.{true, ◌≡◌, List}
use Rattle.std.proofs.Math.Bool.{false}
use Rattle.std.proofs.Common.{inl}
use Rattle.std.proofs.Math.Option.{none}
use Prim.Native.Nat.{ℕ}
use Rattle.base.specs.Bits.{flagged, unflagged}
use Rattle.definition.specs.Texts.{the_space}
use Rattle.definition.specs.ClassRows.{class_flags, class_right, class_by, class_of, class_fault, classes_of}
use Rattle.definition.specs.Classes.{class}
use Rattle.definition.specs.Checked.{class-checked}
use Rattle.definition.specs.Accepted.{classes-all}
use Rattle.definition.specs.Blank.{Blank, blank_in}

blank_row : (low : ℕ) (s : List ℕ) → class_right low s ≡ true → (class_of s).char ≡ the_space → Blank (class_of s)
unfolding class_of class_by
blank_row low s e q =
    let r = (class-checked low s e).space q in
    let unset : (k : ℕ) → flagged (class_flags s) k ≡ false = λ k. rw r.2 (unflagged k) in
    record {
      category = inl r.0;
      script = r.1;
      sign = unset 0;
      medial = unset 1;
      subjoined = unset 2;
      virama = unset 3;
      vocalic = unset 4;
      tone = unset 5;
      pre = unset 6;
      lowercase = unset 7;
    }

pub blank : (b : List ℕ) → class_fault b ≡ none → Blank (class (classes_of b) the_space)
blank b e = blank_in (classes_of b) (classes-all (λ k. k.char ≡ the_space → Blank k) blank_row b e)
