-- A romanization with its later letters made small in their places.
use Rattle.std.proofs.Common.{◌≡◌, ℕ, zero, suc, ◌-◌, ◌<◌, ◌≤◌, List, [], ◌∷◌, ◌++◌, length, take, drop, map, sym, ap, ◌∙◌, arith, add-zero, le-leb}
use Rattle.std.proofs.Math.Path.{fun_ext}
use Rattle.std.proofs.Math.Decide.{dec_le}
use Rattle.std.proofs.lemmas.Bool.{lt-leb, lt-ltb, le-ltb}
use Rattle.std.specs.Char.{to_ascii_lowercase}
use borrow.Rule.Slice.PartMut.{put_mid, mid_of}
use Rattle.base.specs.Pick.{pick}
use Rattle.definition.specs.Limits.{most_bytes}
use Rattle.definition.specs.Texts.{Text, capital, lower}
use Rattle.definition.specs.Expansion.{capitalized}
use Rattle.definition.specs.Capitals.{capitalized-length}
use Rattle.rom.specs.Rom.{zeros, rom, held, Clean, text-length, bytes-length}
use Rattle.rom.proofs.Writes.{as_rom, behind}

-- the library's small letter of an ASCII letter is the definition's
pub lower_is : (c : ℕ) → to_ascii_lowercase c ≡ lower c
unfolding lower capital pick
lower_is c = go (dec_le 65 c) (dec_le c 90)
  where
    go : Dec (65 ≤ c) → Dec (c ≤ 90) → to_ascii_lowercase c ≡ lower c
    go (no k) h = rw (lt-ltb c 65 (omega arith), lt-leb 65 c (omega arith))
    go (yes g) (yes h) = rw (le-ltb c 65 g, lt-ltb c 91 (omega arith), le-leb 65 c g, le-leb c 90 h)
    go (yes g) (no k) = rw (le-ltb c 65 g, le-ltb c 91 (omega arith), le-leb 65 c g, lt-leb c 90 (omega arith))

all_lower : (w : Text) → map to_ascii_lowercase w ≡ map lower w
all_lower w = ap (λ (f : ℕ → ℕ). map f w) (fun_ext lower_is)

-- all behind the first made small
later : (d : List ℕ) (n : ℕ) → 0 < n → n ≤ length d
    → put_mid 1 (n - 1) d (map to_ascii_lowercase (mid_of 1 (n - 1) d)) ≡ capitalized (take n d) ++ drop n d
unfolding capitalized
later d zero h l = absurd (omega arith)
later [] (suc n) h l = absurd (omega arith)
later (y ∷ d) (suc n) h l =
    let e : suc n - 1 ≡ n = omega arith in
    ap (λ (k : ℕ). y ∷ (map to_ascii_lowercase (take k d) ++ drop k d)) e ∙ ap (λ (w : List ℕ). y ∷ (w ++ drop n d)) (all_lower (take n d))

module _ (d : List ℕ) (n : ℕ) (c : Clean (held d n)) where
  pub made_small : 0 < n → (z : List ℕ) → z ≡ map to_ascii_lowercase (mid_of 1 (n - 1) d)
      → held (put_mid 1 (n - 1) d z) n ≡ rom (capitalized (take n d))
  made_small h z e =
      as_rom _ (capitalized (take n d)) n (capitalized-length (take n d) ∙ text-length c)
      (ap (put_mid 1 (n - 1) d) e ∙ later d n h (omega (arith, bytes-length c, c.fits))
      ∙ ap (λ (k : ℕ). capitalized (take n d) ++ drop k d) (sym (add-zero n))
      ∙ ap (λ (w : List ℕ). capitalized (take n d) ++ w) (behind c 0)
      ∙ ap (λ (k : ℕ). capitalized (take n d) ++ zeros (most_bytes - k)) (add-zero n))
