-- A romanization whose text was copied to the front of zeros: the array holds it.
use mathlib.Core.List.{List, ◌++◌}
use mathlib.Core.Path.{◌≡◌, sym, ap, ◌∙◌}
use Prim.Native.Nat.{ℕ, ◌≤◌}
use native.Mathlib.Omega.{arith}
use lib.ListN.{length, take, drop, replicate}
use Rattle.definition.specs.Limits.{most_bytes}
use Rattle.rom.specs.declared.Rom.{Rom}
use Rattle.rom.specs.Rom.{text, rom, held, Clean, text-length, text-by, clean_by}
use Rattle.rom.proofs.Writes.{over_zeros}

module _ {r : Rom} (k : Clean r) (s t : List ℕ) (z : s ≡ replicate most_bytes 0) (e : t ≡ text r ++ drop r.len s) where
  is-rom : held t r.len ≡ rom (text r)
  is-rom =
      ap (held t) (sym (text-length k))
      ∙ over_zeros t (text r) (e ∙ ap (λ (l : List ℕ). text r ++ drop r.len l) z ∙ ap (λ (n : ℕ). text r ++ drop n (replicate most_bytes 0)) (sym (text-length k)))

  few : length (text r) ≤ most_bytes
  few = omega (arith, text-length k, k.fits)

  pub held-text : take r.len t ≡ text r
  held-text = text-by (text r) is-rom few

  pub held_clean : Clean (held t r.len)
  held_clean = clean_by (text r) is-rom few
