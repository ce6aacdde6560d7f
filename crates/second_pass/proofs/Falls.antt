-- A fallback as it is added: its edge can be written and equals none that is there, and building has then come as far as
-- the definition.
use Prim.Native.Nat.{ℕ, ◌+◌, ◌%◌, ◌≤◌, ◌<◌}
use mathlib.Core.Bool.{Bool, false}
use mathlib.Core.List.{List, [], ◌∷◌}
use mathlib.Core.Option.{Option, none, some}
use mathlib.Core.Path.{◌≡◌, refl, sym, ap, ◌∙◌, subst}
use native.Mathlib.Omega.{arith}
use lib.Dec.{eqb}
use lib.ListN.{length, get_or, take, drop}
use Rattle.base.specs.Pick.{pick, pick_all}
use Rattle.base.specs.Lists.{head, has, maybe}
use Rattle.base.specs.Alls.{Opt}
use Rattle.definition.specs.Limits.{most_characters, most_target, most_bytes}
use Rattle.definition.specs.Notes.{note_none, note_Zs}
use Rattle.definition.specs.Texts.{Text, the_space, at, last_is}
use Rattle.definition.specs.Utf8.{encode, encoded, decoded}
use Rattle.definition.specs.Tables.{Tables, Lexicon, Class}
use Rattle.definition.specs.RuleRows.{rules_of}
use Rattle.definition.proofs.Accepted.{rules-all}
use Rattle.definition.specs.ExpandBounds.{Spoken}
use Rattle.definition.specs.Promises.{rule_spoken}
use Rattle.definition.specs.Blank.{blank_alpha}
use Rattle.definition.proofs.Blank.{blank}
use Rattle.definition.specs.Classes.{class, alpha}
use Rattle.definition.specs.Shorts.{Short}
use Rattle.definition.specs.Bounds.{Bounded}
use Rattle.definition.proofs.Bounds.{simple-short}
use Rattle.definition.specs.Edges.{Edge, covered, add, view}
use Rattle.definition.specs.Rules.{simple}
use Rattle.definition.specs.Building.{single, fallback_edge, fallback_by}
use Rattle.definition.specs.Call.{tables_of}
use Rattle.utf8.specs.Encodings.{low-decoded}
use Rattle.edge.specs.declared.Filled.{Filled}
use Rattle.edge.specs.declared.Numbers.{Numbers}
use Rattle.edge.specs.Answers.{Answer}
use Rattle.edge.specs.Slots.{edge_by}
use Rattle.edge.specs.Stored.{Stored}
use Rattle.edge.specs.Adding.{added, slots_after, room_after, Writable, Addable}
use Rattle.edge_places.specs.declared.Ending.{Ending}
use Rattle.edge_places.specs.Entry.{over_in}
use Rattle.edge_places.specs.Shows.{Ends, memory, told, over-shown}
use Rattle.noting.specs.Noting.{places_after}
use Rattle.noting.specs.Keeps.{keeps_asked}
use Rattle.words.specs.Did.{Did, Asked}
use Rattle.words.specs.Given.{World, kinds, seen, size, Prepared, Lined, kind_in, alpha_kind, char_at, kind_at, alpha-at, line-size, lent-after}
use Rattle.rule_choice.specs.Lent.{lexicon_of}
use Rattle.spans.specs.Spans.{fallback_bytes, plus_dropped, category_note}
use Rattle.passes.specs.Reached.{addressable, Over, state_of, over_keeps, Reached, reached-add, reached-wide, reached_as}
use Rattle.passes.specs.Turns.{put_in_did}
use Rattle.passes.specs.Endings.{last_letter, letter-told}
use Rattle.second_pass.specs.declared.Here.{Here}
use Rattle.second_pass.specs.Falls.{put_fallback}
use Rattle.second_pass.specs.Fallback.{single_numbers, category_text, search_note, by-category, by_search, category-edge, category_writable, Own, chars_in, chars_are}
use Rattle.second_pass.specs.Fallback.{At, Bare, bare-new, own-bytes, own-next, own-decoded, dropped_short, search_edge, search_writable, search_length}

-- a position of the line is one of the world's text
module _ {text line : List ℕ} {here : Here} {w : World} (a : At text line here) (g : Lined w line) where
  pub at-inside : here.p < size w
  at-inside = let i = a.inside in omega (arith, line-size g)

  pub at_few : here.p < most_characters
  at_few = let i = at-inside in let f = g.few in omega arith

  pub at_own : Own text w.text
  at_own = subst (Own text) (chars_are g) a.own

  pub at-bytes : drop here.at text ≡ encoded (drop here.p w.text)
  at-bytes = a.bytes ∙ ap (λ (t : Text). encoded (drop here.p t)) (chars_are g)

  -- how many bytes its character has
  pub at_size : (len char : ℕ) → len ≡ length (encode char) → char ≡ get_or line (here.p + 1) 0 → len ≡ length (encode (at w.text here.p))
  at_size len char e q = e ∙ ap (λ (c : ℕ). length (encode c)) (q ∙ char_at g here.p (let i = at-inside in omega arith))

  -- the next character's bytes stand behind them
  pub at_next : (len char : ℕ) → len ≡ length (encode char) → char ≡ get_or line (here.p + 1) 0
      → drop (here.at + len) text ≡ encoded (drop (here.p + 1) (chars_in line))
  at_next len char e q =
      ap (λ (k : ℕ). drop (here.at + k) text) (at_size len char e q)
      ∙ own-next text w.text here.p here.at at-inside at-bytes
      ∙ ap (λ (t : Text). encoded (drop (here.p + 1) t)) (sym (chars_are g))

-- what places tell of a character: whether an edge goes over it alone
pub told_over : {ready line S R P : List ℕ} {w : World} {filled : Filled} → Over w ready line S R P filled → (p : ℕ) → p < size w
    → (b : Bool) → b ≡ over_in (get_or P p 0) → covered w.edges p ≡ b
told_over o p h b e = sym (over-shown o.lent.edges p (omega arith)) ∙ sym e

-- the annotation that is asked of a packed class
pub note_at : {w : World} {line : List ℕ} → Lined w line → (p kind k c : ℕ) → p < size w → kind ≡ kind_in line (p + 1) → k ≡ kind % 8 → c ≡ category_note k
    → c ≡ category_note (class (kinds w) (at w.text p)).category
note_at g p kind k c h a b e = e ∙ ap category_note (b ∙ ap (λ (x : ℕ). x % 8) a ∙ (kind_at g p (omega arith)).category)

category-short : (c : ℕ) → length (category_text c) ≤ 1
unfolding category_text
category-short c = pick_all (λ (w : Text). length w ≤ 1) (eqb c note_Zs) {x = the_space ∷ []} {y = []} (omega arith) (omega arith)

-- neither a space nor nothing ends in a letter
category_letter : (ks : List Class) → alpha ks the_space ≡ false → (c : ℕ) → false ≡ last_is (alpha ks) (decoded (category_text c))
unfolding category_text last_is head
category_letter ks e c =
    pick_all (λ (w : Text). false ≡ last_is (alpha ks) (decoded w)) (eqb c note_Zs) {x = the_space ∷ []} {y = []}
    (sym (ap (last_is (alpha ks)) (low-decoded (the_space ∷ []) (omega arith, tt)) ∙ e))
    (sym (ap (last_is (alpha ks)) (low-decoded [] tt)))

-- What `add_edge` asks of an edge
abbrev pub Ready : List ℕ → List ℕ → Filled → List ℕ → Numbers → List ℕ → Type 0
Ready S R filled P x b = Addable S R filled x b × (x.from < x.to) × (x.to < length P)

-- and the one over a single character has
module _ {S R : List ℕ} {filled : Filled} {p : ℕ} (bare : Bare S R filled p) where
  pub fall_ready : Stored S R filled.count filled.used → (P : List ℕ) → p + 1 < length P → (x : Numbers) (c : ℕ) (b : List ℕ) → x ≡ single_numbers p c
      → Writable filled.used x b → Ready S R filled P x b
  unfolding edge_by single_numbers
  fall_ready s P l x c b y ok =
      let f = ap (λ (x : Numbers). x.from) y in
      let t = ap (λ (x : Numbers). x.to) y in
      let a = bare.all in
      ((s, ok, omega arith, bare-new bare (edge_by x b) f t), omega (arith, f, t), omega (arith, t))

-- A category's edge can be written
pub category-fits : (p used : ℕ) → p < most_characters → used < addressable → (c : ℕ) (b : List ℕ) → b ≡ category_text c → (x : Numbers) → x ≡ single_numbers p c
    → Writable used x b
category-fits p used few u c b z x y =
    subst (λ x. Writable used x b) (sym y) (subst (Writable used (single_numbers p c)) (sym z) (category_writable p c used few u))

module _ (rules code : List ℕ) {ready line S R P : List ℕ} {w : World} {filled : Filled} (o : Over w ready line S R P filled) (p : ℕ) (inside : p < size w)
    (u : filled.used < addressable) where
  abbrev L : Lexicon
  L = lexicon_of rules w code

  few : p < most_characters
  few = let f = o.lent.text.few in omega arith

  -- what was added, from the numbers `x` and the bytes `b`, with places `P₁` before
  abbrev pub Puts : Numbers → List ℕ → List ℕ → Ending → Type 0
  Puts x b P₁ end =
      (vowels S' R' P' : List ℕ) (a : Answer) → a ≡ added S R filled.count filled.used x b
      → S' ≡ slots_after S R filled.count filled.used x b → R' ≡ room_after S R filled.count filled.used x b
      → P' ≡ places_after a filled.count x end P₁
      → Reached (kinds w) (size w) S R S' R' P' (filled.used + most_bytes)
      (put_fallback (tables_of w.choices rules w.classes vowels code) w.text p (state_of w P)) a

  -- how its text ends, as it was told with `letter`
  abbrev pub Ended : List ℕ → Bool → Ending → Type 0
  Ended b letter end = (x : Edge) → x.text ≡ decoded b → letter ≡ last_is (alpha (kinds w)) x.text → Ends (kinds w) x end

  module _ (x : Numbers) (c : ℕ) (y : x ≡ single_numbers p c) (b : List ℕ) (ok : Writable filled.used x b) (l : length b ≤ most_bytes) (letter : Bool)
      (last : letter ≡ last_is (alpha (kinds w)) (decoded b)) (end : Ending) (ends : Ended b letter end) where
    puts : (e : Edge) → edge_by x b ≡ e → (P₁ : List ℕ) → told P₁ ≡ told P
        → Did (fallback_edge L w.text (seen w) p (memory (size w) P)) (some e) (memory (size w) P₁) → Puts x b P₁ end
    unfolding tables_of edge_by single_numbers
    puts e i P₁ k d = λ vowels S' R' P' a q s t z.
        let f = ap (λ (x : Numbers). x.from) y in
        let g = ap (λ (x : Numbers). x.to) y in
        let keeps = keeps_asked (over_keeps o) P₁ (memory (size w) P₁) k refl in
        reached_as (put_fallback (tables_of w.choices rules w.classes vowels code) w.text p (state_of w P))
        (ap (λ (y : Edge). (add w.edges (some y), memory (size w) P₁)) i
        ∙ put_in_did (λ es. fallback_edge L w.text (view (kinds w) es) p) w.edges (memory (size w) P) d) a
        (reached-wide (filled.used + most_bytes) (omega arith) a
        (reached-add keeps x b ok end (ends (edge_by x b) refl last) (omega (arith, f, g)) (omega (arith, g)) S' R' P' a q s t z))

  abbrev k : ℕ
  k = (class (kinds w) (at w.text p)).category

  -- By category, with the annotation `c`
  pub category-puts : (c : ℕ) (b : List ℕ) → b ≡ category_text c → (x : Numbers) → x ≡ single_numbers p c
      → c ≡ category_note k → (c ≡ note_none → ⊥) → (end : Ending) → Ended b false end → Puts x b P end
  category-puts c b z x y e h end ends =
      let l = ap length z in
      let s = category-short c in
      let last = category_letter (kinds w) (blank_alpha (kinds w) (blank w.classes o.lent.text.fine)) c in
      puts x c y b (category-fits p filled.used few u c b z x y) (omega arith) false
      (last ∙ ap (λ (b : List ℕ). last_is (alpha (kinds w)) (decoded b)) (sym z)) end ends
      (single p (category_note k) (category_text (category_note k)))
      (ap (λ x. edge_by x b) y ∙ ap (edge_by (single_numbers p c)) z ∙ category-edge p c filled.used few u ∙ ap (λ c. single p c (category_text c)) e)
      P refl (by-category L w.text (seen w) p (memory (size w) P) (λ i. h (e ∙ i)))

  -- By simple search, which answered `a`, or by the character's own bytes from `from` on
  module _ (table : Prepared rules ready) (text : List ℕ) (from : ℕ) (e : drop from text ≡ encoded (drop p w.text)) (own : Own text w.text)
      (a : Option Text) (P₁ : List ℕ) (asked : Asked w (simple L w.text (seen w) p (p + 1)) P P₁ a) where
    -- tables with no vowels: simple search reads none
    D : Tables
    D = record { choices = w.choices; rules = rules_of rules; classes = kinds w; vowels = []; code = code }

    bounded : Bounded D
    unfolding D
    bounded = record { rules = rules-all Spoken rule_spoken rules table.table.accepted; vowels = tt; virama = (blank w.classes o.lent.text.fine).virama }

    answered : Opt (Short most_target) a
    unfolding D
    answered = subst (Opt (Short most_target)) (sym asked.did.value) ((simple-short D bounded w.text (seen w) p (p + 1)).gives (memory (size w) P))

    -- places are as long as before
    pub search_places : p + 1 < length P₁
    search_places = let l = (lent-after P₁ o.lent asked.kept).edges.long in omega arith

    module _ (len : ℕ) (q : len ≡ length (encode (at w.text p))) (b : List ℕ) (z : b ≡ fallback_bytes a (take len (drop from text)))
        (x : Numbers) (y : x ≡ single_numbers p (search_note a)) where
      bytes : b ≡ fallback_bytes a (encode (at w.text p))
      bytes = z ∙ ap (λ n. fallback_bytes a (take n (drop from text))) q ∙ ap (fallback_bytes a) (own-bytes text w.text p from inside e)

      pub search_fits : Writable filled.used x b
      search_fits = subst (λ x. Writable filled.used x b) (sym y)
          (subst (Writable filled.used (single_numbers p (search_note a))) (sym bytes)
          (search_writable text w.text p from inside e own filled.used few u a answered))

      -- it ends in a letter as a target does, or as the character
      search_letter : pick (has a) (last_letter ready b) (alpha_kind (kind_in line (p + 1))) ≡ last_is (alpha (kinds w)) (decoded b)
      search_letter =
          ap (λ (b : List ℕ). pick (has a) (last_letter ready b) (alpha_kind (kind_in line (p + 1)))) bytes
          ∙ go a answered ∙ ap (λ (b : List ℕ). last_is (alpha (kinds w)) (decoded b)) (sym bytes)
        where
          go : (a : Option Text) → Opt (Short most_target) a
              → pick (has a) (last_letter ready (fallback_bytes a (encode (at w.text p)))) (alpha_kind (kind_in line (p + 1)))
              ≡ last_is (alpha (kinds w)) (decoded (fallback_bytes a (encode (at w.text p))))
          go none s = unfold pick fallback_bytes maybe last_is head in
              (alpha-at o.lent.text p (omega arith)
              ∙ ap (last_is (alpha (kinds w))) (sym (own-decoded text w.text p from inside e own)))
          go (some t) s = unfold pick fallback_bytes maybe in
              letter-told w ready o.told (plus_dropped t) (dropped_short text w.text p from inside e own filled.used few u t s)

      pub search_puts : category_note k ≡ note_none → (letter : Bool) → letter ≡ pick (has a) (last_letter ready b) (alpha_kind (kind_in line (p + 1)))
          → (end : Ending) → Ended b letter end → Puts x b P₁ end
      search_puts i letter j end ends =
          let l = ap length bytes in
          let s = search_length text w.text p from inside e own filled.used few u a answered in
          puts x (search_note a) y b search_fits (omega arith) letter (j ∙ search_letter) end ends (fallback_by w.text p a)
          (ap (λ x. edge_by x b) y ∙ ap (edge_by (single_numbers p (search_note a))) bytes
          ∙ search_edge text w.text p from inside e own filled.used few u a answered)
          P₁ asked.kept (by_search L w.text (seen w) p (memory (size w) P) i asked.did)
