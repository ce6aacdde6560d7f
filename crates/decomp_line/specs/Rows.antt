-- A row's characters put one after another, and their bytes.
use Rattle.std.specs.Prelude.{true, not, ◌&&◌, ◌≡◌, refl, ℕ, ◌+◌, ◌*◌, ◌/◌, ◌≤◌, ◌<◌, set, drop, ltb}
use mathlib.Core.List.{List, [], ◌∷◌, ◌++◌}
use Rattle.std.proofs.Math.Path.{sym, ap}
use Rattle.std.proofs.Common.{◌∙◌, arith, add-one, drop-cons, drop_of_length-le}
use Rattle.std.proofs.Math.ListN.{length, get_or, take, length-append, length-set}
use Rattle.std.proofs.Math.Dec.{leb}
use borrow.Rule.Slice.PartMut.{put_mid, mid_of}
use borrow.Author.Tests.{ltb-true, leb-true}
use Rattle.base.specs.Bools.{and_left, and_right, or_cases}
use Rattle.base.specs.Alls.{All-at, all-all}
use Rattle.definition.specs.Limits.{most_into}
use Rattle.definition.specs.Texts.{Text, the_space, left_out}
use Rattle.definition.specs.Utf8.{scalar, encode, encoded}
use Rattle.definition.specs.DecompositionRows.{decomposition_count, decomposition_into}
use Rattle.definition.specs.DecompositionLaws.{decomposition_checked, into-length}
use Rattle.definition.specs.Shorts.{encode-length}
use Rattle.utf8.specs.Encodings.{Scalars}
use Rattle.utf8.specs.Puts.{puts}
use Rattle.utf8.specs.Lines.{spaced, spaced-is, lent_length}
use Rattle.table_classes.specs.Told.{kinds_of}
use Rattle.table_decompositions.specs.Told.{Placed}
use Rattle.lent_bytes.specs.Puts.{put_at, put-none, put_next, put-there, put-length}

-- what is left from a place on begins with what stands there
left : (w : Text) (i : ℕ) → i < length w → drop i w ≡ get_or w i 0 ∷ drop (i + 1) w
left w i h = drop-cons w i 0 h ∙ ap (λ (k : ℕ). get_or w i 0 ∷ drop k w) (sym (add-one i))

-- Characters: what is left to put leads where all lead
pub record Putting (w before now : List ℕ) (i : ℕ) : Type 0 where
  pub rest : puts i (drop i w) now ≡ puts 0 w before
  pub long : length now ≡ length before

pub putting_first : (w l : List ℕ) → Putting w l l 0
putting_first w l = record { rest = refl; long = refl }

module _ {w before now : List ℕ} {i : ℕ} (h : Putting w before now i) where
  pub putting_next : i < length w → (c : ℕ) → c ≡ get_or w i 0 → Putting w before (set now i c) (i + 1)
  unfolding puts
  putting_next l c e = record {
    rest = ap (λ (d : ℕ). puts (i + 1) (drop (i + 1) w) (set now i d)) e ∙ sym (ap (λ (v : List ℕ). puts i v now) (left w i l)) ∙ h.rest;
    long = length-set now i c ∙ h.long;
  }

  pub putting_over : length w ≤ i → now ≡ puts 0 w before
  unfolding puts
  putting_over l = sym (ap (λ (v : List ℕ). puts i v now) (drop_of_length-le w {i = i} l)) ∙ h.rest

-- Bytes likewise
pub record Writing (w : Text) (before now : List ℕ) (at i : ℕ) : Type 0 where
  pub rest : put_at at (encoded (drop i w)) now ≡ put_at 0 (encoded w) before
  pub size : at + length (encoded (drop i w)) ≡ length (encoded w)
  pub long : length now ≡ length before
  pub most : at ≤ i * 4

pub writing_first : (w : Text) (l : List ℕ) → Writing w l l 0 0
writing_first w l = record { rest = refl; size = omega arith; long = refl; most = omega arith }

module _ {w : Text} {before now : List ℕ} {at i : ℕ} (h : Writing w before now at i) where
  pub writing_next : i < length w → (c : ℕ) → c ≡ get_or w i 0 → at + 4 ≤ length now → (new : List ℕ) (end : ℕ) → new ≡ put_at at (encode c) now
      → end ≡ at + length (encode c) → Writing w before new end (i + 1)
  unfolding encoded
  writing_next l c e r new end p q =
      let now-left = left w i l in
      let parts : encoded (drop i w) ≡ encode c ++ encoded (drop (i + 1) w) =
      ap encoded now-left ∙ ap (λ (d : ℕ). encode d ++ encoded (drop (i + 1) w)) (sym e) in
      let k = encode-length c in
      record {
        rest = put_next at end (encode c) (encoded (drop (i + 1) w)) now new q (omega arith) p ∙ ap (λ (b : List ℕ). put_at at b now) (sym parts) ∙ h.rest;
        size = omega (arith, h.size, ap length parts, length-append (encode c) (encoded (drop (i + 1) w)), q);
        long = ap length p ∙ put-length at (encode c) now (omega arith) ∙ h.long;
        most = omega (arith, h.most, q, k);
      }

  pub writing_over : length w ≤ i → (take at now ≡ encoded w) × (at ≡ length (encoded w))
  unfolding encoded
  writing_over l =
      let none : encoded (drop i w) ≡ [] = ap encoded (drop_of_length-le w {i = i} l) in
      let size : at ≡ length (encoded w) = omega (arith, h.size, ap length none) in
      let is : now ≡ put_at 0 (encoded w) before = sym (put-none at now) ∙ ap (λ (b : List ℕ). put_at at b now) (sym none) ∙ h.rest in
      (ap (λ (k : ℕ). take k now) size ∙ ap (take (length (encoded w))) is ∙ put-there 0 (encoded w) before (omega arith), size)

-- A line whose middle was lent and has come back with the characters: with spaces around them, and classes behind
module _ (line t back : List ℕ) (n m : ℕ) (long : n ≡ length t) (same : m ≡ n) (full : length line ≡ 2 * (n + 3))
    (b : back ≡ puts 0 t (mid_of 1 m line)) where
  abbrev came : List ℕ
  came = put_mid 1 m line back

  abbrev framed : List ℕ
  framed = set (set (set came 0 the_space) (n + 1) the_space) (n + 2) the_space

  pub came-length : length came ≡ 2 * (n + 3)
  came-length = lent_length t line back m b ∙ full

  framed-length : length framed ≡ 2 * (n + 3)
  framed-length =
      length-set (set (set came 0 the_space) (n + 1) the_space) (n + 2) the_space
      ∙ length-set (set came 0 the_space) (n + 1) the_space ∙ length-set came 0 the_space ∙ came-length

  abbrev half : List ℕ
  half = take (length framed / 2) framed

  half_is : half ≡ spaced t
  half_is =
      ap (λ (k : ℕ). take k framed) {x = length framed / 2} {y = n + 3} (omega (arith, framed-length))
      ∙ spaced-is t line back n m long (omega arith) (omega (arith, full, same)) b

  pub laid_out : (classes out : List ℕ) → out ≡ half ++ kinds_of classes half → out ≡ spaced t ++ kinds_of classes (spaced t)
  laid_out classes out o = o ∙ ap (λ (w : List ℕ). w ++ kinds_of classes w) half_is

-- The characters of a row that was checked
module _ {b : List ℕ} {r : ℕ} (p : Placed b r) where
  pub into-scalars : Scalars (decomposition_into (drop r b))
  into-scalars = all-all (λ c. scalar c ≡ true) (λ c. scalar c && not (left_out c)) (λ c e. and_left (scalar c) (not (left_out c)) e)
      (decomposition_into (drop r b)) (decomposition_checked p.low (drop r b) p.right).into

  pub into_few : decomposition_count (drop r b) ≤ most_into
  into_few = (decomposition_checked p.low (drop r b) p.right).most

  pub into-low : (i : ℕ) → i < decomposition_count (drop r b) → get_or (decomposition_into (drop r b)) i 0 < 0x110000
  unfolding scalar
  into-low i h =
      let w = decomposition_into (drop r b) in
      let c = get_or w i 0 in
      let e = All-at (λ c. scalar c ≡ true) w i 0 into-scalars (omega (arith, into-length (drop r b))) in
      or_cases (ltb c 0xD800) (leb 0xE000 c && leb c 0x10FFFF) (λ q. let k = ltb-true c 0xD800 q in omega arith)
      (λ q. let k = leb-true c 0x10FFFF (and_right (leb 0xE000 c) (leb c 0x10FFFF) q) in omega arith) e
