-- A fallback's edge: by category, by simple search, or the character's own bytes in the text.
use Rattle.std.specs.Prelude.{ℕ, ◌+◌, ◌-◌, ◌/◌, ◌%◌, ◌≤◌, ◌<◌, Bool, ◌≡◌, eqb, ltb, length, take}
use Rattle.std.proofs.Math.Bool.{true, false}
use Rattle.std.proofs.Common.{true≢false, sym, ◌∙◌, add-one, length-append, length-drop, take_all, drop-cons, drop-drop, eq-eqb, ne_eqb}
use mathlib.Core.List.{List, [], ◌∷◌, ◌++◌, append-nil}
use Rattle.std.proofs.Math.Option.{Option, none, some}
use Rattle.std.proofs.Math.Path.{refl, ap, subst}
use native.Mathlib.Omega.{arith}
use Rattle.std.proofs.Math.ListN.{get_or, drop}
use Rattle.std.proofs.Math.Seq.{take-append_seam, drop-append_seam}
use Rattle.base.specs.Pick.{pick, pick_all}
use Rattle.base.specs.Lists.{has, maybe}
use Rattle.base.specs.Alls.{All, All-at, Opt}
use Rattle.definition.specs.Limits.{most_characters, most_target}
use Rattle.definition.specs.Notes.{note_none, note_single, note_Mn, note_Cf, note_Co, note_Zs, note_orig}
use Rattle.definition.specs.Texts.{Text, the_space, at}
use Rattle.definition.specs.Utf8.{encode, encoded, decoded, scalar}
use Rattle.definition.proofs.Roundtrip.{decoded-encoded}
use Rattle.definition.specs.Tables.{Lexicon, category_Mn, category_Cf, category_Co, category_Zs}
use Rattle.definition.specs.Classes.{class}
use Rattle.definition.specs.Shorts.{Low, Short, short-wide, short-tail, encode-length}
use Rattle.definition.specs.Edges.{Edge, View, Mem, M, covered, ret, ◌>>=◌}
use Rattle.definition.specs.Rules.{simple}
use Rattle.definition.specs.Building.{single, fallback_plus, fallback_by, fallback_edge}
use Rattle.utf8.specs.Encodings.{Scalars, TextBytes, encoded-bytes, low_bytes, low-decoded}
use Rattle.edge.specs.declared.Numbers.{Numbers}
use Rattle.edge.specs.Slots.{four_bytes, edge_by, edges_of}
use Rattle.edge.specs.declared.Filled.{Filled}
use Rattle.edge.specs.Adding.{there, Writable}
use Rattle.standing.specs.Fallen.{fallback_fresh}
use Rattle.words.specs.Did.{Did, did, outcome}
use Rattle.words.specs.Given.{World, size_in, Lined, line-size, part_at}
use Rattle.spans.specs.Spans.{plus_dropped, fallback_bytes, category_note}
use Rattle.second_pass.specs.declared.Here.{Here}

-- the numbers of an edge over one character
unfoldable pub single_numbers : ℕ → ℕ → Numbers
single_numbers p k = record { from = p; to = p + 1; note = k; core = 0 }

-- the text of a category that has no letters: a space has one, the others none
unfoldable pub category_text : ℕ → Text
category_text k = pick (eqb k note_Zs) (the_space ∷ []) []

-- and the annotation of the two other ways
unfoldable pub search_note : Option Text → ℕ
search_note o = maybe o note_orig (λ w. note_single)

pub told-note : (o : Option Text) → has o ≡ true → note_single ≡ search_note o
unfolding search_note maybe
told-note none e = absurd (true≢false (sym e))
told-note (some w) e = refl

pub untold_note : (o : Option Text) → has o ≡ false → note_orig ≡ search_note o
unfolding search_note maybe
untold_note none e = refl
untold_note (some w) e = absurd (true≢false e)

-- A category's annotation and text, as a number's five cases
module _ {A : Type 0} (f : ℕ → A) (other : A) where
  unfoldable by_note : ℕ → A
  by_note k =
      pick (eqb k category_Mn) (f note_Mn)
      (pick (eqb k category_Cf) (f note_Cf)
      (pick (eqb k category_Co) (f note_Co)
      (pick (eqb k category_Zs) (f note_Zs) other)))

  lettered : (k : ℕ) → category_note k ≡ note_none → by_note k ≡ other
  unfolding by_note category_note
  lettered k h = go (eqb k category_Mn) (eqb k category_Cf) (eqb k category_Co) (eqb k category_Zs) h
    where
      go : (a b c d : Bool) → pick a note_Mn (pick b note_Cf (pick c note_Co (pick d note_Zs note_none))) ≡ note_none
          → pick a (f note_Mn) (pick b (f note_Cf) (pick c (f note_Co) (pick d (f note_Zs) other))) ≡ other
      go true b c d h = absurd (unfold pick in omega (arith, h))
      go false true c d h = absurd (unfold pick in omega (arith, h))
      go false false true d h = absurd (unfold pick in omega (arith, h))
      go false false false true h = absurd (unfold pick in omega (arith, h))
      go false false false false h = unfold pick in refl

  letterless : (k : ℕ) → (category_note k ≡ note_none → ⊥) → by_note k ≡ f (category_note k)
  unfolding by_note category_note
  letterless k h = go (eqb k category_Mn) (eqb k category_Cf) (eqb k category_Co) (eqb k category_Zs) h
    where
      go : (a b c d : Bool) → (pick a note_Mn (pick b note_Cf (pick c note_Co (pick d note_Zs note_none))) ≡ note_none → ⊥)
          → pick a (f note_Mn) (pick b (f note_Cf) (pick c (f note_Co) (pick d (f note_Zs) other)))
          ≡ f (pick a note_Mn (pick b note_Cf (pick c note_Co (pick d note_Zs note_none))))
      go true b c d h = unfold pick in refl
      go false true c d h = unfold pick in refl
      go false false true d h = unfold pick in refl
      go false false false true h = unfold pick in refl
      go false false false false h = absurd (h (unfold pick in refl))

module _ (L : Lexicon) (t : Text) (v : View) (p : ℕ) (m : Mem) where
  abbrev k : ℕ
  k = (class L.classes (at t p)).category

  searched : M (Option Edge)
  searched = do
    o ← simple L t v p (p + 1)
    ret (some (fallback_by t p o))

  as_notes : fallback_edge L t v p ≡ by_note (λ c. ret (some (single p c (category_text c)))) searched k
  unfolding fallback_edge by_note category_text pick searched
  as_notes = refl

  pub by-category : (category_note k ≡ note_none → ⊥) → Did (fallback_edge L t v p m) (some (single p (category_note k) (category_text (category_note k)))) m
  unfolding ret
  by-category h = did (ap (λ (f : M (Option Edge)). f m) (as_notes ∙ letterless (λ c. ret (some (single p c (category_text c)))) searched k h))

  pub by_search : category_note k ≡ note_none → {o : Option Text} {m₁ : Mem} → Did (simple L t v p (p + 1) m) o m₁
      → Did (fallback_edge L t v p m) (some (fallback_by t p o)) m₁
  unfolding ret ◌>>=◌ searched
  by_search h d = did (ap (λ (f : M (Option Edge)). f m) (as_notes ∙ lettered (λ c. ret (some (single p c (category_text c)))) searched k h) ∙ rw (outcome d))

-- An edge of one character with a text in ASCII
module _ (p c used : ℕ) (h : p < most_characters) (u : used < four_bytes) where
  low-single : (w : List ℕ) → All Low w → edge_by (single_numbers p c) w ≡ single p c w
  unfolding edge_by single single_numbers
  low-single w l = ap (single p c) (low-decoded w l)

  single_writable : (w : List ℕ) → length w ≤ most_target → TextBytes w → Writable used (single_numbers p c) w
  unfolding single_numbers
  single_writable w l b = record { from = omega arith; to = omega arith; offset = u; long = omega arith; utf8 = b }

  -- of a category
  pub category-edge : edge_by (single_numbers p c) (category_text c) ≡ single p c (category_text c)
  unfolding category_text
  category-edge = pick_all (λ w. edge_by (single_numbers p c) w ≡ single p c w) (eqb c note_Zs)
      (low-single (the_space ∷ []) (omega arith, tt)) (low-single [] tt)

  pub category_writable : Writable used (single_numbers p c) (category_text c)
  unfolding category_text
  category_writable = pick_all (Writable used (single_numbers p c)) (eqb c note_Zs)
      (single_writable (the_space ∷ []) (omega arith) (low_bytes (the_space ∷ []) (omega arith, tt)))
      (single_writable [] (omega arith) (low_bytes [] tt))

pub spaced : (c : ℕ) → c ≡ note_Zs → the_space ∷ [] ≡ category_text c
unfolding category_text pick
spaced c h = sym (rw (eq-eqb c note_Zs h))

pub unspaced : (c : ℕ) → (c ≡ note_Zs → ⊥) → [] ≡ category_text c
unfolding category_text pick
unspaced c h = sym (rw (ne_eqb c note_Zs h))

-- The text's own bytes
pub record Own (text : List ℕ) (t : Text) : Type 0 where
  pub bytes : text ≡ encoded t
  pub scalars : Scalars t

-- the characters in a line
abbrev pub chars_in : List ℕ → Text
chars_in line = take (size_in line) (drop 1 line)

pub chars_are : {w : World} {line : List ℕ} → Lined w line → chars_in line ≡ w.text
chars_are {w} {line} g =
    part_at g 0 (length w.text) 1 (size_in line) (omega arith) (omega arith) refl (omega (arith, line-size g))
    ∙ ap (λ (k : ℕ). take k w.text) {x = length w.text - 0} {y = length w.text} (omega arith) ∙ take_all (length w.text) w.text (omega arith)

-- a position of the text, and the offset of its bytes
pub record At (text line : List ℕ) (here : Here) : Type 0 where
  pub own : Own text (chars_in line)
  pub inside : here.p < size_in line
  pub bytes : drop here.at text ≡ encoded (drop here.p (chars_in line))

-- no edge goes over the one character at `p`, so that a fallback there needs no comparison
pub record Bare (slots room : List ℕ) (filled : Filled) (p : ℕ) : Type 0 where
  pub all : filled.since ≡ filled.count
  pub uncovered : covered (edges_of room filled.count slots) p ≡ false

pub bare-new : {slots room : List ℕ} {filled : Filled} {p : ℕ} → Bare slots room filled p → (x : Edge) → x.from ≡ p → x.to ≡ p + 1
    → there (edges_of room filled.since slots) x ≡ false
bare-new {slots} {room} {filled} {p} b x f h =
    ap (λ (c : ℕ). there (edges_of room c slots) x) b.all ∙ fallback_fresh (edges_of room filled.count slots) p x b.uncovered f h

encode_some : (c : ℕ) → 1 ≤ length (encode c)
unfolding encode pick
encode_some c = go (ltb c 0x80) (ltb c 0x800) (ltb c 0x10000)
  where
    go : (a b d : Bool) → 1 ≤ length (pick a (c ∷ []) (pick b ((192 + c / 64) ∷ (128 + c % 64) ∷ [])
        (pick d ((224 + c / 4096) ∷ (128 + c / 64 % 64) ∷ (128 + c % 64) ∷ [])
        ((240 + c / 262144) ∷ (128 + c / 4096 % 64) ∷ (128 + c / 64 % 64) ∷ (128 + c % 64) ∷ []))))
    go true b d = omega arith
    go false true d = omega arith
    go false false true = omega arith
    go false false false = omega arith

-- a character's stand from `from` on
module _ (text : List ℕ) (t : Text) (p from : ℕ) (h : p < length t) (e : drop from text ≡ encoded (drop p t)) where
  abbrev own : List ℕ
  own = encode (at t p)

  here : drop from text ≡ own ++ encoded (drop (p + 1) t)
  unfolding encoded at
  here = e ∙ ap encoded (drop-cons t p the_space h ∙ ap (λ k. get_or t p the_space ∷ drop k t) (sym (add-one p)))

  pub own-bytes : take (length own) (drop from text) ≡ own
  own-bytes = ap (take (length own)) here ∙ take-append_seam own (encoded (drop (p + 1) t))

  pub own-next : drop (from + length own) text ≡ encoded (drop (p + 1) t)
  own-next =
      sym (drop-drop (length own) from text)
      ∙ ap (drop (length own)) here ∙ drop-append_seam own (encoded (drop (p + 1) t))

  pub own-inside : from + length own ≤ length text
  own-inside =
      let l = ap length here in
      let s = encode_some (at t p) in
      omega (arith, l, s, length-append own (encoded (drop (p + 1) t)), length-drop from text)

  module _ (o : Own text t) where
    scalar-here : Scalars (at t p ∷ [])
    unfolding at
    scalar-here = (All-at (λ c. scalar c ≡ true) t p the_space o.scalars h, tt)

    own_text : TextBytes own
    unfolding encoded
    own_text = subst TextBytes (append-nil own) (encoded-bytes (at t p ∷ []) scalar-here)

    pub own-decoded : decoded own ≡ at t p ∷ []
    unfolding encoded
    own-decoded = ap decoded (sym (append-nil own)) ∙ decoded-encoded (at t p ∷ []) scalar-here

    module _ (used : ℕ) (few : p < most_characters) (u : used < four_bytes) where
      pub dropped_short : (w : Text) → Short most_target w → Short most_target (plus_dropped w)
      unfolding plus_dropped
      dropped_short w s = pick_all (Short most_target) (fallback_plus w) (short-wide (most_target - 1) (omega arith) (short-tail most_target s)) s

      pub search_edge : (a : Option Text) → Opt (Short most_target) a
          → edge_by (single_numbers p (search_note a)) (fallback_bytes a own) ≡ fallback_by t p a
      unfolding search_note fallback_bytes fallback_by maybe plus_dropped edge_by single single_numbers
      search_edge none s = ap (single p note_orig) own-decoded
      search_edge (some w) s = ap (single p note_single) (low-decoded (plus_dropped w) (dropped_short w s).low)

      pub search_writable : (a : Option Text) → Opt (Short most_target) a → Writable used (single_numbers p (search_note a)) (fallback_bytes a own)
      unfolding fallback_bytes maybe
      search_writable none s = single_writable p (search_note none) used few u own (let l = encode-length (at t p) in omega arith) own_text
      search_writable (some w) s = single_writable p (search_note (some w)) used few u (plus_dropped w) (dropped_short w s).long (low_bytes (plus_dropped w) (dropped_short w s).low)

      pub search_length : (a : Option Text) → Opt (Short most_target) a → length (fallback_bytes a own) ≤ most_target
      unfolding fallback_bytes maybe
      search_length none s = let l = encode-length (at t p) in omega arith
      search_length (some w) s = (dropped_short w s).long
