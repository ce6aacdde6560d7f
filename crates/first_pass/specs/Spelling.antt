-- The edge of a span can be written: it lies within the text, and its text is ASCII.
use Rattle.std.specs.Prelude.{ℕ, ◌≤◌, ◌<◌, List, ◌≡◌, refl, length, take, None}
use Rattle.std.proofs.Math.Option.{none, some}
use Rattle.std.proofs.Common.{sym, subst, arith}
use Rattle.std.proofs.Math.Path.{ap}
use Rattle.base.specs.Alls.{Opt}
use Rattle.definition.specs.Limits.{most_characters, most_bytes}
use Rattle.definition.specs.Texts.{Text}
use Rattle.definition.specs.Edges.{View, Mem}
use Rattle.definition.specs.Shorts.{Short}
use Rattle.definition.specs.Bounds.{Bounded, Sound}
use Rattle.definition.specs.Bounds.{Spelt}
use Rattle.definition.proofs.Bounds as bounds
use Rattle.definition.specs.Near.{Near}
use Rattle.definition.specs.Near as nearness
use Rattle.definition.specs.Building.{span_edge}
use Rattle.words.specs.Did.{Did}
use Rattle.definition.specs.Tables.{Tables}
use Rattle.utf8.specs.Encodings.{low_bytes, low-decoded}
use Rattle.edge.specs.Slots.{four_bytes, edge_by}
use Rattle.edge.specs.Adding.{Writable}
use Rattle.spans.specs.declared.Spanned.{Spanned}
use Rattle.spans.specs.Spans.{edge_with, found}

-- what was answered, where nothing is there
pub found_not : (b : List ℕ) → found b None ≡ none
found_not b = refl

module _ (b : List ℕ) (r : Spanned) where
  abbrev w : List ℕ
  w = take r.len b

  module _ (n used : ℕ) (few : n ≤ most_characters) (room : used < four_bytes) (h : Sound n (edge_with r.numbers w) × Short most_bytes w) where
    pub spelt_writable : Writable used r.numbers w
    spelt_writable =
        let f = h.0.forward in
        let i = h.0.inside in
        let l = h.1.long in
        record { from = omega arith; to = omega arith; offset = room; long = omega arith; utf8 = low_bytes w h.1.low }

    pub spelt-edge : edge_by r.numbers w ≡ edge_with r.numbers w
    unfolding edge_by
    spelt-edge = ap (edge_with r.numbers) (low-decoded w h.1.low)

  -- it is what the definition finds
  pub span_spelt : (D : Tables) → Bounded D → (t : Text) (v : View) (s e : ℕ) (m : Mem) {m₁ : Mem} → s < e → e ≤ length t
      → Did (span_edge D t v s e m) (some (edge_with r.numbers w)) m₁ → Sound (length t) (edge_with r.numbers w) × Short most_bytes w
  span_spelt D ok t v s e m l k d =
      let y = subst (Opt (Spelt D ok t)) (sym d.value) ((bounds.span_spelt D ok t v s e l k).gives m) in (y.0, y.1)

  -- and starts near
  pub span_near : (D : Tables) (t : Text) (v : View) (s e : ℕ) (m : Mem) {m₁ : Mem}
      → Did (span_edge D t v s e m) (some (edge_with r.numbers w)) m₁ → Near s (edge_with r.numbers w)
  span_near D t v s e m d = subst (Opt (Near s)) (sym d.value) ((nearness.span_near D t v s e).gives m)
