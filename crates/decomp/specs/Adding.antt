-- The edge of a text that was read: what adding it needs, and how far building has come then.
use Rattle.std.specs.Prelude.{Err, ℕ, ◌+◌, ◌≤◌, ◌<◌, true, false, List, ◌≡◌, length, take}
use Rattle.std.proofs.Math.Option.{some}
use Rattle.std.proofs.Math.Path.{refl, ap}
use Rattle.std.proofs.Common.{sym, ◌∙◌, subst, arith}
use Rattle.definition.specs.Limits.{most_characters, most_bytes}
use Rattle.definition.specs.Notes.{note_decomp}
use Rattle.definition.specs.Texts.{Text, last_is}
use Rattle.definition.specs.Tables.{Class}
use Rattle.definition.specs.Classes.{alpha}
use Rattle.definition.specs.Utf8.{decoded}
use Rattle.definition.proofs.Roundtrip.{decoded-encoded}
use Rattle.definition.specs.Edges.{Edge, State, add}
use Rattle.definition.specs.Building.{single}
use Rattle.utf8.specs.Encodings.{TextBytes, encoded-bytes}
use Rattle.edge.specs.declared.Filled.{Filled}
use Rattle.edge.specs.declared.Numbers.{Numbers}
use Rattle.edge.specs.Answers.{Answer}
use Rattle.edge.specs.Slots.{edge_by, edges_of}
use Rattle.edge.specs.Stored.{Stored}
use Rattle.edge.specs.Adding.{added as answered, there, slots_after, room_after, Writable}
use Rattle.edge_places.specs.declared.Ending.{Ending}
use Rattle.edge_places.specs.Shows.{Ends}
use Rattle.noting.specs.Noting.{places_after}
use Rattle.noting.specs.Keeps.{Keeps}
use Rattle.passes.specs.Reached.{addressable, Rooms, Reached, reached_as, reached-wide, reached-add}
use Rattle.first_pass.specs.Fresh.{Fresh}
use Rattle.decomp_text.specs.declared.Spelling.{Spelling}
use Rattle.decomp_text.specs.Spelling.{Spells, Held, held-length}
use Rattle.decomp.specs.declared.Unfit.TheVariants.{TooLong}
use Rattle.decomp.specs.Answers.{Grew, as_grew}

pub record TextReady (slots room places : List ℕ) (filled : Filled) (text : List ℕ) (spelling : Spelling) (p : ℕ) : Type 0 where
  pub stored : Stored slots room filled.count filled.used
  pub fresh : Fresh p slots room filled
  pub held : Held text spelling
  pub bytes : spelling.full ≡ false → TextBytes (take spelling.len text)
  pub inside : p + 1 < length places
  pub few : p < most_characters
  pub offset : filled.used + most_bytes < addressable

-- A text that is too long is told, and one that is not is added
abbrev pub TextAdded : Rooms → Rooms → Filled → List ℕ → Spelling → ℕ → Grew → Type 0
TextAdded before after filled text spelling p r =
    (ks : List Class) (n : ℕ) (st : State) (t : Text) → Keeps ks n before.0 before.1 before.2 filled.count filled.used st → p + 1 ≤ n
    → Spells ks text spelling t
    → (spelling.full ≡ true → r ≡ Err (TooLong p))
    × (spelling.full ≡ false → (a : Answer)
    × Reached ks n before.0 before.1 after.0 after.1 after.2 (filled.used + most_bytes) (add st.0 (some (single p note_decomp t)), st.1) a
    × (r ≡ as_grew a))

-- The numbers of its edge
unfoldable pub numbers_at : ℕ → Numbers
numbers_at p = record { from = p; to = p + 1; note = note_decomp; core = 0 }

-- A text that is not too long
module _ (p used : ℕ) (text : List ℕ) (s : Spelling) (held : Held text s) (few : p < most_characters) (offset : used + most_bytes < addressable) where
  pub text_writable : TextBytes (take s.len text) → Writable used (numbers_at p) (take s.len text)
  unfolding numbers_at
  text_writable b = record {
    from = omega arith;
    to = omega arith;
    offset = omega arith;
    long = omega (arith, held-length held, held.fits);
    utf8 = b;
  }

  pub text-new : (slots room : List ℕ) (filled : Filled) → Fresh p slots room filled → there (edges_of room filled.since slots) (edge_by (numbers_at p) (take s.len text)) ≡ false
  unfolding edge_by numbers_at
  text-new slots room filled f = f.new (edge_by (numbers_at p) (take s.len text)) (omega arith)

  module _ {ks : List Class} (t : Text) (h : Spells ks text s t) (f : s.full ≡ false) where
    spelled : decoded (take s.len text) ≡ t
    spelled = ap decoded (h.bytes f) ∙ decoded-encoded t h.scalars

    bytes_are : TextBytes (take s.len text)
    bytes_are = subst TextBytes (sym (h.bytes f)) (encoded-bytes t h.scalars)

    edge-is : edge_by (numbers_at p) (take s.len text) ≡ single p note_decomp t
    unfolding edge_by numbers_at single
    edge-is = ap (single p note_decomp) spelled

    pub text-reached : {n : ℕ} {S R P : List ℕ} {count : ℕ} {st : State} → Keeps ks n S R P count used st → p + 1 ≤ n → (end : Ending)
        → ((x : Edge) → x.text ≡ decoded (take s.len text) → s.letter ≡ last_is (alpha ks) x.text → Ends ks x end)
        → (S' R' P' : List ℕ) (a : Answer) → a ≡ answered S R count used (numbers_at p) (take s.len text)
        → S' ≡ slots_after S R count used (numbers_at p) (take s.len text) → R' ≡ room_after S R count used (numbers_at p) (take s.len text)
        → P' ≡ places_after a count (numbers_at p) end P
        → Reached ks n S R S' R' P' (used + most_bytes) (add st.0 (some (single p note_decomp t)), st.1) a
    unfolding edge_by numbers_at
    text-reached {st = st} k l end ends S' R' P' a q u v w =
        reached_as _ (ap (λ (x : Edge). (add st.0 (some x), st.1)) edge-is) a
        (reached-wide (used + most_bytes) (omega (arith, held-length held, held.fits)) a
        (reached-add k (numbers_at p) (take s.len text) (text_writable bytes_are) end
        (ends (edge_by (numbers_at p) (take s.len text)) refl (h.letter f ∙ ap (λ (x : Text). last_is (alpha ks) x) (sym spelled)))
        (omega arith) l S' R' P' a q u v w))
