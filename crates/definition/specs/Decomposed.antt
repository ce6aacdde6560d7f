-- Characters that stand for others: each brings an edge over itself, and saves a fallback. So 17 edges for each character
-- still hold; and where nothing overflows, every edge's text has 606 bytes at most.
-- (Proved in proofs/Decomposed.)
use Rattle.std.specs.Prelude.{Bool}
use Rattle.std.proofs.Math.Path.{◌≡◌}
use mathlib.Core.List.{List}
use Prim.Native.Nat.{ℕ, zero, suc, ◌+◌, ◌≤◌}
use Rattle.std.proofs.Math.ListN.{length}
use Rattle.base.specs.Bits.{bit}
use Rattle.base.specs.Lists.{has}
use Rattle.definition.specs.Limits.{most_bytes}
use Rattle.definition.specs.Notes.{note_orig, note_decomp}
use Rattle.definition.specs.Texts.{Text}
use Rattle.definition.specs.Tables.{Decomposition, Tables}
use Rattle.definition.specs.Edges.{Edge}
use Rattle.definition.specs.Decomposing.{decomp_edge}
use Rattle.definition.specs.Capacity.{bytes}
use Rattle.definition.specs.Bounds.{Formed}

module _ (D : Tables) (ds : List Decomposition) (t : Text) where
  -- has the character at `p` such an edge?
  abbrev pub stood : ℕ → Bool
  stood p = has (decomp_edge D ds t p)

  -- the edge goes over its character, with an annotation of its own
  pub record Own (p : ℕ) (x : Edge) : Type 0 where
    pub from : x.from ≡ p
    pub to : x.to ≡ p + 1
    pub note : x.note ≡ note_decomp
    pub core : x.core ≡ 0

  -- how many of `k` positions from `p` on have one
  unfoldable pub tally : ℕ → ℕ → ℕ
  tally zero p = 0
  tally (suc k) p = bit (stood p) + tally k (p + 1)

  -- Every edge goes forward within the text, and is short unless it is one of these
  abbrev pub Tall : Edge → Type 0
  Tall x = Formed (length t) x × (x.note ≤ note_orig → bytes x ≤ most_bytes)
