-- Past the end a byte is 0; before it, numbers are made of bytes that lie one beside the other.
use Prim.Native.Nat.{ℕ, ◌+◌, ◌*◌, ◌≤◌, ◌<◌}
use mathlib.Core.Path.{◌≡◌, sym, ◌∙◌, ap}
use mathlib.Core.List.{List}
use native.Mathlib.Omega.{arith}
use lib.ListN.{length, get_or, drop, get_or-eq_default}
use lib.Seq.{get_or-drop}
use Rattle.base.specs.Big.{be2, be3, be4}

pub past : (s : List ℕ) (at : ℕ) → length s ≤ at → (0 ≡ get_or s at 0) × (0 < 256)
past s at h = (sym (get_or-eq_default s 0 h), omega arith)

pub past_row : (s : List ℕ) (row i : ℕ) → length s ≤ row + i → (0 ≡ get_or (drop row s) i 0) × (0 < 256)
past_row s row i h = (sym (get_or-drop row s i 0 ∙ get_or-eq_default s 0 h), omega arith)

-- Bytes that lie one beside the other in the whole are those of the rest, and make its numbers
beside : (s : List ℕ) (row i k : ℕ) → get_or s (row + i + k) 0 ≡ get_or (drop row s) (i + k) 0
beside s row i k = sym (get_or-drop row s (i + k) 0 ∙ ap (λ n. get_or s n 0) (omega arith))

module _ (s : List ℕ) (row i x y : ℕ) (p : (x ≡ get_or s (row + i) 0) × (x < 256)) (q : (y ≡ get_or s (row + i + 1) 0) × (y < 256)) where
  pub two-beside : (x * 256 + y ≡ be2 (drop row s) i) × (x * 256 + y < 65536)
  two-beside = (rw (p.0 ∙ sym (get_or-drop row s i 0), q.0 ∙ beside s row i 1), omega arith)

  module _ (z : ℕ) (r : (z ≡ get_or s (row + i + 2) 0) × (z < 256)) where
    pub three-beside : (x * 65536 + y * 256 + z ≡ be3 (drop row s) i) × (x * 65536 + y * 256 + z < 16777216)
    three-beside = (omega (arith, two-beside.0, r.0 ∙ beside s row i 2), omega arith)

    pub four-beside : (w : ℕ) → (w ≡ get_or s (row + i + 3) 0) × (w < 256)
        → (x * 16777216 + y * 65536 + z * 256 + w ≡ be4 (drop row s) i) × (x * 16777216 + y * 65536 + z * 256 + w < 4294967296)
    four-beside w h = (omega (arith, three-beside.0, h.0 ∙ beside s row i 3), omega arith)
