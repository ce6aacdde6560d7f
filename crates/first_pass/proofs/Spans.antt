-- The edge of a span as it is added: it can be written, it equals none of the first edges, and building has then come as far
-- as the definition.
use Prim.Native.Nat.{ℕ, ◌+◌, ◌≤◌, ◌<◌}
use mathlib.Core.Bool.{false}
use mathlib.Core.List.{List}
use mathlib.Core.Option.{Option, none, some}
use mathlib.Core.Path.{◌≡◌, refl, sym, ap, ◌∙◌}
use native.Mathlib.Omega.{arith}
use lib.ListN.{take}
use Rattle.definition.specs.Limits.{most_bytes}
use Rattle.definition.specs.Texts.{Text, last_is}
use Rattle.definition.specs.Tables.{Tables}
use Rattle.definition.specs.Classes.{alpha}
use Rattle.definition.specs.Edges.{Edge, add, view}
use Rattle.definition.specs.Utf8.{decoded}
use Rattle.definition.specs.Shorts.{Short}
use Rattle.definition.specs.Building.{span_edge}
use Rattle.definition.specs.Bounds.{Bounded, Sound}
use Rattle.definition.specs.Near.{Near}
use Rattle.definition.proofs.Promises.{tables-bounded}
use Rattle.definition.specs.Call.{tables_of}
use Rattle.table_vowels.specs.Told.{FineVowels}
use Rattle.edge.specs.declared.Filled.{Filled}
use Rattle.edge.specs.Answers.{Answer, fits}
use Rattle.edge.specs.Slots.{edge_by, edges_of}
use Rattle.edge.specs.Adding.{there, added, slots_after, room_after, Writable}
use Rattle.edge_places.specs.declared.Ending.{Ending}
use Rattle.edge_places.specs.Shows.{Ends, memory}
use Rattle.noting.specs.Noting.{places_after}
use Rattle.noting.specs.Keeps.{Keeps, keeps_asked}
use Rattle.words.specs.declared.Look.{Look}
use Rattle.words.specs.Did.{Asked, did_by}
use Rattle.words.specs.Given.{World, kinds, seen, size, Prepared, line-size}
use Rattle.words.specs.Looks.{Looked}
use Rattle.spans.specs.declared.Spanned.{Spanned}
use Rattle.spans.specs.Spans.{edge_with}
use Rattle.passes.specs.Reached.{addressable, Over, state_of, over_keeps, Reached, reached-here, reached-add, reached-wide, reached_as}
use Rattle.passes.specs.Turns.{put_in_did}
use Rattle.passes.specs.Endings.{last_letter, letter-told}
use Rattle.first_pass.specs.Rises.{put_span}
use Rattle.first_pass.specs.Spelling.{spelt_writable, spelt-edge, span_spelt, span_near}
use Rattle.first_pass.specs.Fresh.{Fresh}

module _ (rules vowels code : List ℕ) {ready line S R P P₁ : List ℕ} {w : World} {filled : Filled} (o : Over w ready line S R P filled)
    (table : Prepared rules ready) (fine : FineVowels vowels) {look : Look} (d : Looked rules line look) (x : Option Edge)
    (asked : Asked w (span_edge (tables_of w.choices rules w.classes vowels code) w.text (seen w) look.span.from look.span.to) P P₁ x) where
  abbrev D : Tables
  D = tables_of w.choices rules w.classes vowels code

  inside : look.span.to ≤ size w
  inside = omega (arith, line-size o.lent.text, d.inside)

  keeps : Keeps (kinds w) (size w) S R P₁ filled.count filled.used (w.edges, memory (size w) P₁)
  keeps = keeps_asked (over_keeps o) P₁ (memory (size w) P₁) asked.kept refl

  -- none was found
  pub span_none : x ≡ none → Reached (kinds w) (size w) S R S R P₁ (filled.used + most_bytes) (put_span D w.text look.span.from look.span.to (state_of w P))
      (fits filled.count filled.used)
  unfolding tables_of add
  span_none h =
      reached_as _ (put_in_did (λ es. span_edge D w.text (view D.classes es) look.span.from look.span.to) w.edges (memory (size w) P)
      (did_by (sym h) asked.did)) _
      (reached-here (filled.used + most_bytes) keeps (omega arith))

  module _ (b : List ℕ) (r : Spanned) (h : x ≡ some (edge_with r.numbers (take r.len b))) (u : filled.used < addressable) where
    abbrev bytes : Text
    bytes = take r.len b

    ok : Bounded D
    ok = tables-bounded w.choices rules w.classes vowels code table.table.accepted o.lent.text.fine fine

    pub spelt : Sound (size w) (edge_with r.numbers bytes) × Short most_bytes bytes
    spelt = span_spelt b r D ok w.text (seen w) look.span.from look.span.to (memory (size w) P) d.forward inside (did_by (sym h) asked.did)

    near : Near look.span.from (edge_with r.numbers bytes)
    near = span_near b r D w.text (seen w) look.span.from look.span.to (memory (size w) P) (did_by (sym h) asked.did)

    pub span_writable : Writable filled.used r.numbers bytes
    span_writable = spelt_writable b r (size w) filled.used o.lent.text.few u spelt

    spelt_is : edge_by r.numbers bytes ≡ edge_with r.numbers bytes
    spelt_is = spelt-edge b r (size w) filled.used o.lent.text.few u spelt

    pub span_new : Fresh look.span.from S R filled → there (edges_of R filled.since S) (edge_by r.numbers bytes) ≡ false
    unfolding edge_by
    span_new f = f.new (edge_by r.numbers bytes) near.near

    -- it was added
    pub span_added : (end : Ending)
        → ((x : Edge) → x.text ≡ decoded bytes → last_letter ready bytes ≡ last_is (alpha (kinds w)) x.text → Ends (kinds w) x end)
        → (S' R' P' : List ℕ) (a : Answer) → a ≡ added S R filled.count filled.used r.numbers bytes
        → S' ≡ slots_after S R filled.count filled.used r.numbers bytes → R' ≡ room_after S R filled.count filled.used r.numbers bytes
        → P' ≡ places_after a filled.count r.numbers end P₁
        → Reached (kinds w) (size w) S R S' R' P' (filled.used + most_bytes) (put_span D w.text look.span.from look.span.to (state_of w P)) a
    unfolding tables_of edge_by
    span_added end ends S' R' P' a q s t p =
        let long = spelt.1.long in
        let written = reached-add keeps r.numbers bytes span_writable end (ends (edge_by r.numbers bytes) refl (letter-told w ready o.told bytes spelt.1))
        spelt.0.forward spelt.0.inside S' R' P' a q s t p in
        reached_as _
        (ap (λ (x : Edge). (add w.edges (some x), memory (size w) P₁)) spelt_is
        ∙ ap (λ (o : Option Edge). (add w.edges o, memory (size w) P₁)) (sym h)
        ∙ put_in_did (λ es. span_edge D w.text (view D.classes es) look.span.from look.span.to) w.edges (memory (size w) P) asked.did) a
        (reached-wide (filled.used + most_bytes) (omega arith) a written)
