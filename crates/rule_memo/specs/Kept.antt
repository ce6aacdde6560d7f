-- What a look-up tells of a text, and of single characters kept behind the index: of each two numbers, a note and where its
-- first row is. The note's lowest 14 bits are the character's bits above its place, then comes whether a longer source
-- starts with it, then how many rows it has.
use Rattle.std.specs.Prelude.{Bool, ◌&&◌, ◌≡◌, ℕ, zero, suc, ◌+◌, ◌*◌, ◌/◌, ◌%◌, ◌≤◌, ◌<◌, eqb, length, get_or, set, take, drop, replicate}
use Rattle.std.proofs.Math.Bool.{true, false}
use mathlib.Core.List.{List, [], ◌∷◌, ◌++◌}
use Rattle.std.proofs.Math.Option.{none}
use Rattle.std.proofs.Math.Path.{refl, sym, ap}
use Rattle.std.proofs.Common.{◌∙◌, subst, length-set, length-append, get_or-set_same, get_or-set_other, get_or-append-add, take_at}
use native.Mathlib.Omega.{arith}
use Rattle.std.proofs.Math.Decide.{ℕ_discrete}
use Rattle.std.proofs.Math.Dec.{ltb}
use Rattle.std.proofs.lemmas.List.{length-replicate, take-set-le}
use borrow.Author.Tests.{eq-eqb, ne_eqb, lt-ltb, le-ltb, ltb-true}
use Rattle.base.specs.Pick.{pick}
use Rattle.base.specs.Bools.{and_left, and_right}
use Rattle.definition.specs.Texts.{Text}
use Rattle.definition.specs.RuleRows.{rules_of}
use Rattle.definition.specs.RuleFaults.{rule_fault}
use Rattle.rule_table.specs.Index.{index_entries, row_offsets, entered, indexed, index_of, entered-length}
use Rattle.rule_table.specs.Seek.{first_at, equal_rows}
use Rattle.rule_table.specs.Longer.{has_longer}
use Rattle.rule_table.specs.declared.Found.{Found}

-- characters that are kept, and all numbers with those of the index
abbrev pub kept_characters : ℕ
kept_characters = 256

abbrev pub all_places : ℕ
all_places = index_entries + 2 * kept_characters

abbrev pub place : ℕ → ℕ
place k = index_entries + k * 2

-- in a note the character's bits above its place are below the first unit; whether there is a longer source is counted in
-- the first, and rows in the second. So far up characters, counts and offsets have room
abbrev pub more_unit : ℕ
more_unit = 16384

abbrev pub rows_unit : ℕ
rows_unit = 2 * more_unit

abbrev pub character_limit : ℕ
character_limit = more_unit * kept_characters

abbrev pub count_limit : ℕ
count_limit = 65536

abbrev pub offset_limit : ℕ
offset_limit = 4294967296

-- what a look-up tells
pub record Tells (b : List ℕ) (w : Text) (found : Found) : Type 0 where
  pub first : found.first ≡ first_at b w
  pub count : found.count ≡ equal_rows b w
  pub more : found.more ≡ has_longer w (rules_of b)

-- the character of a note at a place, and what it tells of it
abbrev pub noted_character : ℕ → ℕ → ℕ
noted_character k note = note % more_unit * kept_characters + k

abbrev pub noted_found : ℕ → ℕ → Found
noted_found note first = record { first = first; count = note / rows_unit; more = eqb (note / more_unit % 2) 1 }

-- What was made ready of an accepted table: its index, and in each place nothing or what a look-up tells of a character
pub record Kept (b x : List ℕ) : Type 0 where
  pub accepted : rule_fault b ≡ none
  pub long : length x ≡ all_places
  pub index : take index_entries x ≡ index_of b
  pub tells : (k : ℕ) → k < kept_characters → 0 < get_or x (place k + 1) 0
      → Tells b (noted_character k (get_or x (place k) 0) ∷ []) (noted_found (get_or x (place k) 0) (get_or x (place k + 1) 0))

-- a text of one character
only : (w : Text) → length w ≡ 1 → w ≡ get_or w 0 0 ∷ []
only [] h = absurd (omega arith)
only (c ∷ []) h = refl
only (c ∷ d ∷ w) h = absurd (omega arith)

-- a note with the character's own bits is the character's
kept_tells : {b x : List ℕ} (h : Kept b x) (c at note first : ℕ) → at ≡ place (c % kept_characters)
    → note ≡ get_or x at 0 → first ≡ get_or x (at + 1) 0 → 0 < first → note % more_unit ≡ c / kept_characters
    → Tells b (c ∷ []) (noted_found note first)
kept_tells {b} {x} h c at note first p n f l e =
    let k = c % kept_characters in
    let same : note ≡ get_or x (place k) 0 = n ∙ ap (λ i. get_or x i 0) p in
    let from : first ≡ get_or x (place k + 1) 0 = f ∙ ap (λ i. get_or x (i + 1) 0) p in
    let told = h.tells k (omega arith) (omega (arith, from)) in
    let own : noted_character k note ≡ c = omega (arith, e) in
    subst (λ i. Tells b (i ∷ []) (noted_found note first)) own
    (subst (λ i. Tells b (noted_character k i ∷ []) (noted_found i first)) (sym same)
    (subst (λ i. Tells b (noted_character k (get_or x (place k) 0) ∷ []) (noted_found (get_or x (place k) 0) i)) (sym from) told))

pub kept-text : {b x : List ℕ} → Kept b x → (w : Text) → length w ≡ 1 → (at : ℕ) → at ≡ place (get_or w 0 0 % kept_characters)
    → 0 < get_or x (at + 1) 0 → get_or x at 0 % more_unit ≡ get_or w 0 0 / kept_characters → Tells b w (noted_found (get_or x at 0) (get_or x (at + 1) 0))
kept-text {b} {x} h w l at p f e =
    subst (λ v. Tells b v (noted_found (get_or x at 0) (get_or x (at + 1) 0))) (sym (only w l))
    (kept_tells h (get_or w 0 0) at (get_or x at 0) (get_or x (at + 1) 0) p refl refl f e)

-- what is put of a character, where there is room for it
unfoldable pub fits : ℕ → Found → Bool
fits c f = ltb c character_limit && (ltb f.count count_limit && ltb f.first offset_limit)

unfoldable pub note_of : ℕ → Found → ℕ
note_of c f = c / kept_characters + f.count * rows_unit + pick f.more more_unit 0

unfoldable pub noted : ℕ → Found → List ℕ → List ℕ
noted c f x = pick (fits c f) (set (set x (place (c % kept_characters)) (note_of c f)) (place (c % kept_characters) + 1) f.first) x

module _ (c : ℕ) (f : Found) where
  pub fit : fits c f ≡ true → (c < character_limit) × (f.count < count_limit) × (f.first < offset_limit)
  unfolding fits
  fit e =
      let rest = and_right (ltb c character_limit) (ltb f.count count_limit && ltb f.first offset_limit) e in (
        ltb-true c character_limit (and_left (ltb c character_limit) (ltb f.count count_limit && ltb f.first offset_limit) e),
        ltb-true f.count count_limit (and_left (ltb f.count count_limit) (ltb f.first offset_limit) rest),
        ltb-true f.first offset_limit (and_right (ltb f.count count_limit) (ltb f.first offset_limit) rest),
      )

  pub high_character : character_limit ≤ c → false ≡ fits c f
  unfolding fits
  high_character h = sym (rw (le-ltb c character_limit h))

  pub many_rows : c < character_limit → count_limit ≤ f.count → false ≡ fits c f
  unfolding fits
  many_rows h k = sym (rw (lt-ltb c character_limit h, le-ltb f.count count_limit k))

  pub near-rows : c < character_limit → f.count < count_limit → ltb f.first offset_limit ≡ fits c f
  unfolding fits
  near-rows h k = sym (rw (lt-ltb c character_limit h, lt-ltb f.count count_limit k))

  pub note-longer : f.more ≡ true → c / kept_characters + f.count * rows_unit + more_unit ≡ note_of c f
  unfolding note_of pick
  note-longer e = rw e

  pub note-last : f.more ≡ false → c / kept_characters + f.count * rows_unit ≡ note_of c f
  unfolding note_of pick
  note-last e = rw e (omega arith)

  pub put-there : fits c f ≡ true → (x : List ℕ)
      → set (set x (place (c % kept_characters)) (note_of c f)) (place (c % kept_characters) + 1) f.first ≡ noted c f x
  unfolding noted pick
  put-there e x = rw e

  pub put-none : fits c f ≡ false → (x : List ℕ) → x ≡ noted c f x
  unfolding noted pick
  put-none e x = rw e

-- What is put keeps it: the character's own place has what was found, the others have what they had
module _ {b x : List ℕ} (h : Kept b x) (c : ℕ) {f : Found} (t : Tells b (c ∷ []) f) where
  abbrev k : ℕ
  k = c % kept_characters

  abbrev after : List ℕ
  after = set (set x (place k) (note_of c f)) (place k + 1) f.first

  first-after : get_or after (place k + 1) 0 ≡ f.first
  first-after = get_or-set_same (set x (place k) (note_of c f)) (place k + 1) f.first 0
      (omega (arith, length-set x (place k) (note_of c f), h.long))

  note-after : get_or after (place k) 0 ≡ note_of c f
  note-after =
      get_or-set_other (set x (place k) (note_of c f)) (place k + 1) (place k) f.first 0 (λ e. omega arith)
      ∙ get_or-set_same x (place k) (note_of c f) 0 (omega (arith, h.long))

  -- the other places are as they were
  other_after : (i : ℕ) → (i ≡ place k → ⊥) → (i ≡ place k + 1 → ⊥) → get_or after i 0 ≡ get_or x i 0
  other_after i p q =
      get_or-set_other (set x (place k) (note_of c f)) (place k + 1) i f.first 0 q ∙ get_or-set_other x (place k) i (note_of c f) 0 p

  module _ (few : c < character_limit) where
    -- the note has the character and all that was found
    note-more : (m : Bool) → f.more ≡ m → (note_of c f % more_unit ≡ c / kept_characters) × (note_of c f / rows_unit ≡ f.count)
        × (eqb (note_of c f / more_unit % 2) 1 ≡ f.more)
    unfolding note_of pick
    note-more true e =
        let n = c / kept_characters + f.count * rows_unit + more_unit in
        rw e (omega arith, omega arith, eq-eqb (n / more_unit % 2) 1 (omega arith))
    note-more false e =
        let n = c / kept_characters + f.count * rows_unit + 0 in
        rw e (omega arith, omega arith, ne_eqb (n / more_unit % 2) 1 (λ z. omega arith))

    own-after : Tells b (noted_character k (note_of c f) ∷ []) (noted_found (note_of c f) f.first)
    own-after =
        let n = note-more f.more refl in
        let own : noted_character k (note_of c f) ≡ c = omega (arith, n.0) in
        subst (λ i. Tells b (i ∷ []) (noted_found (note_of c f) f.first)) (sym own)
        (record { first = t.first; count = n.1 ∙ t.count; more = n.2 ∙ t.more })

    tells_after : (i : ℕ) → i < kept_characters → Dec (i ≡ k) → 0 < get_or after (place i + 1) 0
        → Tells b (noted_character i (get_or after (place i) 0) ∷ []) (noted_found (get_or after (place i) 0) (get_or after (place i + 1) 0))
    tells_after i l (yes e) z = rw (e, note-after, first-after) own-after
    tells_after i l (no n) z =
        let p = other_after (place i) (λ e. n (omega arith)) (λ e. omega arith) in
        let q = other_after (place i + 1) (λ e. omega arith) (λ e. n (omega arith)) in
        rw (p, q) (h.tells i l (subst (λ j. 0 < j) q z))

    kept-after : Kept b after
    kept-after = record {
      accepted = h.accepted;
      long = length-set (set x (place k) (note_of c f)) (place k + 1) f.first ∙ length-set x (place k) (note_of c f) ∙ h.long;
      index = take-set-le index_entries (set x (place k) (note_of c f)) (place k + 1) f.first (omega arith)
          ∙ take-set-le index_entries x (place k) (note_of c f) (omega arith) ∙ h.index;
      tells = λ i l. tells_after i l (ℕ_discrete i k);
    }

  pub kept-noted : Kept b (noted c f x)
  unfolding noted pick
  kept-noted = go (fits c f) refl
    where
      go : (m : Bool) → fits c f ≡ m → Kept b (pick m after x)
      go true e = kept-after (fit c f e).0
      go false e = h

-- At first there is the index, put into the first of zeros, and nothing is kept
zeros : (n i : ℕ) → get_or {A = ℕ} (replicate n 0) i 0 ≡ 0
zeros zero i = refl
zeros (suc n) zero = refl
zeros (suc n) (suc i) = zeros n i

indexed-length : (n : ℕ) (os l : List ℕ) → length (indexed n os l) ≡ length l
unfolding indexed
indexed-length n [] l = refl
indexed-length n (o ∷ os) l = indexed-length (n + 1) os (entered n o l) ∙ entered-length n o l

module _ (b old front : List ℕ) (z : old ≡ replicate all_places 0) (f : front ≡ indexed 0 (row_offsets b) (take index_entries old)) where
  abbrev behind : List ℕ
  behind = replicate (2 * kept_characters) 0

  front-is : front ≡ index_of b
  unfolding index_of
  front-is = f ∙ ap (λ (l : List ℕ). indexed 0 (row_offsets b) (take index_entries l)) z

  front_long : length front ≡ index_entries
  front_long = ap length f ∙ indexed-length 0 (row_offsets b) (take index_entries old) ∙ ap (λ (l : List ℕ). length (take index_entries l)) z

  begun-is : front ++ drop index_entries old ≡ front ++ behind
  begun-is = ap (λ (l : List ℕ). front ++ drop index_entries l) z

  nothing : (k : ℕ) → get_or (front ++ behind) (place k + 1) 0 ≡ 0
  nothing k =
      let e : place k + 1 ≡ length front + (k * 2 + 1) = omega (arith, front_long) in
      ap (λ i. get_or (front ++ behind) i 0) e ∙ get_or-append-add front behind (k * 2 + 1) 0 ∙ zeros (2 * kept_characters) (k * 2 + 1)

  pub kept-begun : rule_fault b ≡ none → Kept b (front ++ drop index_entries old)
  kept-begun a = subst (Kept b) (sym begun-is) (record {
    accepted = a;
    long = omega (arith, length-append front behind, front_long, length-replicate {A = ℕ} (2 * kept_characters) 0);
    index = take_at front behind index_entries front_long ∙ front-is;
    tells = λ k h n. absurd (omega (arith, nothing k));
  })
