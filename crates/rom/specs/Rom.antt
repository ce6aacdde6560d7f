-- The text of a romanization, and the romanization of a text: zeros stand behind it, so that equal texts are equal values.
use Rattle.std.specs.Prelude.{ℕ, ◌-◌, ◌≤◌, List, ◌++◌, ◌≡◌, length, take, replicate}
use Rattle.std.proofs.Common.{sym, ◌∙◌, arith, length-append}
use Rattle.std.proofs.Math.Path.{ap}
use Rattle.std.proofs.lemmas.List.{length-replicate}
use Rattle.std.proofs.Math.Seq.{take-append_seam}
use Rattle.definition.specs.Limits.{most_bytes}
use Rattle.rom.specs.declared.Rom.{Rom}

abbrev pub text : Rom → List ℕ
text r = take r.len r.bytes

abbrev pub zeros : ℕ → List ℕ
zeros n = replicate n 0

-- the first `n` bytes of an array as a romanization
abbrev pub held : List ℕ → ℕ → Rom
held b n = record { bytes = b; len = n }

unfoldable pub rom : List ℕ → Rom
rom w = record { bytes = w ++ zeros (most_bytes - length w); len = length w }

-- a value that is the romanization of its text
pub record Clean (r : Rom) : Type 0 where
  pub fits : r.len ≤ most_bytes
  pub whole : r ≡ rom (text r)

pub text-rom : (w : List ℕ) → length w ≤ most_bytes → text (rom w) ≡ w
unfolding rom
text-rom w h = take-append_seam w (zeros (most_bytes - length w))

pub rom_clean : (w : List ℕ) → length w ≤ most_bytes → Clean (rom w)
unfolding rom
rom_clean w h = record { fits = h; whole = sym (ap rom (text-rom w h)) }

pub text-length : {r : Rom} → Clean r → length (text r) ≡ r.len
unfolding rom
text-length {r} c = sym (ap (λ (q : Rom). q.len) c.whole)

pub bytes-length : {r : Rom} → Clean r → length r.bytes ≡ most_bytes
unfolding rom
bytes-length {r} c =
    let z = most_bytes - length (text r) in
    ap (λ (q : Rom). length q.bytes) c.whole
    ∙ length-append (text r) (zeros z)
    ∙ omega (arith, length-replicate {A = ℕ} z 0, text-length c, c.fits)

-- What a contract `q ≡ rom w` tells a caller of the value that he has
module _ {q : Rom} (w : List ℕ) (e : q ≡ rom w) where
  pub len_by : q.len ≡ length w
  unfolding rom
  len_by = ap (λ (r : Rom). r.len) e

  module _ (h : length w ≤ most_bytes) where
    pub text-by : text q ≡ w
    text-by = ap text e ∙ text-rom w h

    pub clean_by : Clean q
    clean_by = rw e (rom_clean w h)
