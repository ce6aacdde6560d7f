-- The edge in a slot: its text as it is asked for, the rules of its span, and what is found for it along the path.
use mathlib.Core.Bool.{Bool, true, false}
use mathlib.Core.List.{List, [], ◌∷◌, ◌++◌, append-nil}
use mathlib.Core.Option.{Option, none, some}
use mathlib.Core.Path.{◌≡◌, refl, sym, ap, ◌∙◌, subst}
use Prim.Native.Nat.{ℕ, zero, suc, ◌+◌, ◌-◌, ◌≤◌, ◌<◌}
use native.Mathlib.Omega.{arith}
use native.Mathlib.Decide.{dec_lt}
use lib.ListN.{length, take, drop, length-append}
use lib.Seq.{length-take-le, take-take, take-append-le}
use borrow.Rule.Slice.PartMut.{put_mid}
use Rattle.std.specs.Prelude.{Some, None}
use Rattle.base.specs.Loans.{back_end}
use Rattle.base.specs.Lists.{put, keep, same}
use Rattle.base.specs.Alls.{All, All-append, Opt, Opt-map, all-all}
use Rattle.definition.specs.Limits.{slot_bytes, most_bytes, most_rows}
use Rattle.definition.specs.Texts.{Text, vowels, consonants}
use Rattle.definition.specs.Letters.{among_all}
use Rattle.definition.specs.Tables.{Rule, Lexicon}
use Rattle.definition.specs.Utf8.{decoded}
use Rattle.definition.specs.Shorts.{Low, encoded-low}
use Rattle.definition.specs.Edges.{Edge, View, Mem, right_best}
use Rattle.definition.specs.RuleRows.{rules_of}
use Rattle.definition.specs.RuleFaults.{rule_fault}
use Rattle.definition.proofs.Accepted.{rules_few}
use Rattle.definition.specs.Boundaries.{word_start, word_end}
use Rattle.definition.specs.Rules.{spans, holds_at}
use Rattle.definition.specs.Cores.{Syllable}
use Rattle.definition.specs.Bounds.{Sound}
use Rattle.definition.specs.Growth.{all_bytes}
use Rattle.definition.specs.Cover.{right-all}
use Rattle.definition.specs.Paths.{join, next, path_from}
use Rattle.definition.specs.Recalled.{told_start, Recalls, asked_recalls, valid_rules}
use Rattle.definition.specs.Offers.{found_by}
use Rattle.definition.specs.Offers.{found_all}
use Rattle.definition.proofs.Offers.{found_alike}
use Rattle.utf8.specs.Encodings.{TextBytes}
use Rattle.edge.specs.declared.Numbers.{Numbers}
use Rattle.edge.specs.Slots.{bytes_of, edge_by, numbers_of, edge_of, edges_of}
use Rattle.edge.specs.Best.{BestEdge, best_means, Found}
use Rattle.edge.specs.Counted.{counted-agree, all-agree, all-at}
use Rattle.edge.specs.Stored.{Slot, Stored, slot-length, slot-size, edge-agree, slot-agree}
use Rattle.listing.specs.Items.{Written, put_items, put_items-append}
use Rattle.rule_table.specs.Doors.{with_source}
use Rattle.rule_table.specs.Sorted.{rules_from}
use Rattle.words.specs.Did.{Did}
use Rattle.definition.specs.Alternatives.{vowels_low}
use Rattle.words.specs.declared.Look.{Look}
use Rattle.words.specs.Found.{Rows, rules_in, found_at}
use Rattle.words.specs.Looks.{Looked, source_in}
use Rattle.offers.specs.Texts.{Spoken}

-- A syllable's letters are ASCII
consonants_low : (c : ℕ) → consonants c ≡ true → Low c
unfolding consonants
consonants_low = among_all "bcdfghjklmnpqrstvwxyz" Low (search arith)

syllable_low : {text : Text} {core : ℕ} → Syllable text core → All Low text
syllable_low y = subst (All Low) (sym y.whole)
    (All-append Low y.first y.then (all-all Low consonants consonants_low y.first y.consonants) (all-all Low vowels vowels_low y.then y.vowels))

-- so a text with a core is its own bytes
core-bytes : (b : List ℕ) (core : ℕ) → TextBytes b → Syllable (decoded b) core → All Low b × (core ≤ length b) × (length b ≤ core + 4)
core-bytes b core t y =
    let l = syllable_low y in
    let own : decoded b ≡ b = sym (encoded-low (decoded b) l) ∙ t.whole in
    let z = ap length (sym own ∙ y.whole) ∙ length-append y.first y.then in
    (subst (All Low) own l, omega (arith, z, y.size), omega (arith, z, y.size, y.few))

-- The edge in a slot: its numbers and its text as they were read, the text copied
module _ (room s : List ℕ) (n used : ℕ) (h : Sound n (edge_of room s)) (t : Slot room used s) (l : used ≤ length room) where
  pub slot-short : length (bytes_of room s) ≤ most_bytes
  slot-short = let k = h.short in omega (arith, k, slot-size room s used t l, slot-length room s used t l)

  module _ (e : Numbers) (q : e ≡ numbers_of s) where
    pub span_inside : (e.from < e.to) × (e.to ≤ n)
    unfolding edge_by
    span_inside = subst (λ (m : Numbers). (m.from < m.to) × (m.to ≤ n)) (sym q) (h.forward, h.inside)

    module _ (b : List ℕ) (p : b ≡ bytes_of room s) where
      pub spoken_at : Spoken e b
      unfolding edge_by
      spoken_at = subst (λ (m : Numbers). Spoken m b) (sym q) (subst (Spoken (numbers_of s)) (sym p) (record {
        text = t.text;
        core = λ z. core-bytes (bytes_of room s) (numbers_of s).core t.text (h.core.there z);
      }))

      pub edge-at-slot : edge_by e b ≡ edge_of room s
      edge-at-slot = ap (λ m. edge_by m b) q ∙ ap (edge_by (numbers_of s)) p

-- The rows with a source are no more than the table has
keep-most : {A : Type 0} (f : A → Bool) (l : List A) → length (keep f l) ≤ length l
unfolding keep
keep-most f [] = omega arith
keep-most f (x ∷ l) = go (f x) (keep-most f l)
  where
    go : (b : Bool) → length (keep f l) ≤ length l → length (put b x (keep f l)) ≤ suc (length l)
    go true h = omega arith
    go false h = omega arith

pub rows_few : (b : List ℕ) (w : Text) (at n : ℕ) → rule_fault b ≡ none → rules_in b at n ≡ with_source w (rules_of b) → Rows b at n
    → n ≤ most_rows
unfolding with_source
rows_few b w at n e f r =
    let z = ap length f in
    let k = length-take-le n (rules_from b at) r.enough in
    omega (arith, z, k, keep-most (λ r. same r.source w) (rules_of b), rules_few b e)

pub looked-rows : (rules line : List ℕ) (look : Look) → rule_fault rules ≡ none → Looked rules line look
    → Rows rules look.found.first look.found.count × (look.found.count ≤ most_rows)
looked-rows rules line look z d =
    let w = source_in line look.span.from look.span.to in
    let f = found_at rules w z look.found.first look.found.count d.first d.count in
    (f.1, rows_few rules w look.found.first look.found.count z f.0 f.1)

module _ (y : Bool) (L : Lexicon) (t : Text) (v : View) where
  -- One edge's alternatives, or none
  found-one : (m : Mem) (x : Edge) → found_by y x (valid_rules L t v m x.from x.to) ≡ found_all y L t v m (x ∷ [])
  unfolding found_all
  found-one m x = sym (append-nil (found_by y x (valid_rules L t v m x.from x.to)))

  -- The rules of a span that hold, as they were found and asked
  pub valid-found : (m : Mem) (s e : ℕ) (rs : List Rule) → rs ≡ keep (spans t s e) L.rules
      → (a b : Bool) → a ≡ told_start L t v m s → b ≡ word_end L.rules L.classes t e
      → keep (holds_at L.code a b) rs ≡ valid_rules L t v m s e
  unfolding valid_rules
  valid-found m s e rs q a b f g =
      ap (keep (holds_at L.code a b)) q
      ∙ ap (λ a. keep (holds_at L.code a b) (keep (spans t s e) L.rules)) f
      ∙ ap (λ b. keep (holds_at L.code (told_start L t v m s) b) (keep (spans t s e) L.rules)) g

  -- and what is found by them for an edge with that span
  pub found-edge : (m : Mem) (e : Numbers) (b : List ℕ) (rs : List Rule) → rs ≡ valid_rules L t v m e.from e.to
      → found_by y (edge_by e b) rs ≡ found_all y L t v m (edge_by e b ∷ [])
  unfolding edge_by
  found-edge m e b rs p = ap (found_by y (edge_by e b)) p ∙ found-one m (edge_by e b)

  -- what asking the start leaves is remembered as asking would answer
  module _ (m k : Mem) (p : ℕ) (a : Bool) (d : Did (word_start L.classes t v p m) a k) where
    pub start-told : a ≡ told_start L t v m p
    unfolding told_start
    start-told = d.value

    pub start_recalls : Recalls L t v k m
    start_recalls = subst (λ k. Recalls L t v k m) (sym d.memory) (asked_recalls L t v p m)

  -- none
  pub found_nothing : (m : Mem) → [] ≡ found_all y L t v m []
  unfolding found_all
  found_nothing m = refl

  found-join : (m : Mem) (o : Option Edge) (l : List Edge) → found_all y L t v m (join o l) ≡ found_all y L t v m (join o []) ++ found_all y L t v m l
  unfolding found_all
  found-join m none l = refl
  found-join m (some x) l = ap (λ k. k ++ found_all y L t v m l) (found-one m x)

  -- those of the best edge at `p` written, the rest of the path goes on behind them
  pub found_on : (es : List Edge) (o : Option Edge) (k p q : ℕ) (m m₀ : Mem) (w u : Written) → o ≡ right_best es p → q ≡ next o p
      → Recalls L t v m m₀ → w ≡ put_items true (found_all y L t v m (join o [])) u
      → put_items true (found_all y L t v m₀ (path_from k q es)) w ≡ put_items true (found_all y L t v m₀ (path_from (suc k) p es)) u
  unfolding path_from
  found_on es o k p q m m₀ w u b n h e =
      let rest = found_all y L t v m₀ (path_from k q es) in
      ap (put_items true rest) (e ∙ ap (λ l. put_items true l u) (found_alike y L t v m m₀ h (join o [])))
      ∙ sym (put_items-append true (found_all y L t v m₀ (join o [])) rest u)
      ∙ ap (λ l. put_items true l u) (sym (found-join m₀ o (path_from k q es)))
      ∙ ap (λ l. put_items true (found_all y L t v m₀ l) u)
      (ap (λ q. join o (path_from k q es)) n ∙ ap (λ o. join o (path_from k (next o p) es)) b)

-- the best edge at a position is one of all
pub best_sound : (n p : ℕ) (es : List Edge) (o : Option Edge) → All (Sound n) es → o ≡ right_best es p → Opt (Sound n) o
best_sound n p es o h e = subst (Opt (Sound n)) (sym e) (Opt-map (λ x z. z.0) (right_best es p) (right-all (Sound n) p es h))

-- where the path goes on from there
pub next-inside : (n p : ℕ) (es : List Edge) (o : Option Edge) → All (Sound n) es → o ≡ right_best es p → p < n → (p < next o p) × (next o p ≤ n)
next-inside n p es o h e l = go o (subst (Opt (λ x. Sound n x × (x.from ≡ p))) (sym e) (right-all (Sound n) p es h))
  where
    go : (o : Option Edge) → Opt (λ x. Sound n x × (x.from ≡ p)) o → (p < next o p) × (next o p ≤ n)
    go none z = (omega arith, omega arith)
    go (some x) z = let a = z.0.forward in let b = z.0.inside in let c = z.1 in (omega arith, omega arith)

-- A path through a text of `n` is the same with any number of turns that is enough
module _ (n : ℕ) (es : List Edge) (h : All (Sound n) es) where
  path-over : (k p : ℕ) → n ≤ p → path_from k p es ≡ []
  unfolding path_from
  path-over zero p l = refl
  path-over (suc k) p l = go (right_best es p) (right-all (Sound n) p es h) (path-over k (p + 1) (omega arith))
    where
      go : (o : Option Edge) → Opt (λ x. Sound n x × (x.from ≡ p)) o → path_from k (p + 1) es ≡ [] → join o (path_from k (next o p) es) ≡ []
      go none s z = z
      go (some x) s z = let a = s.0.forward in let b = s.0.inside in let c = s.1 in absurd (omega arith)

  pub path_enough : (k m p : ℕ) → n ≤ p + k → n ≤ p + m → path_from k p es ≡ path_from m p es
  unfolding path_from
  path_enough zero m p a b = sym (path-over m p (omega arith))
  path_enough (suc k) zero p a b = path-over (suc k) p (omega arith)
  path_enough (suc k) (suc m) p a b = go (dec_lt p n) (path_enough k m (next o p))
    where
      o : Option Edge
      o = right_best es p

      go : Dec (p < n) → (n ≤ next o p + k → n ≤ next o p + m → path_from k (next o p) es ≡ path_from m (next o p) es)
          → join o (path_from k (next o p) es) ≡ join o (path_from m (next o p) es)
      go (yes l) f = let z = (next-inside n p es o h refl l).0 in ap (join o) (f (omega arith) (omega arith))
      go (no l) f = path-over (suc k) p (omega arith) ∙ sym (path-over (suc m) p (omega arith))

-- Edges don't see what stands in the room behind their texts
module _ (slots room room' : List ℕ) (count used : ℕ) (h : Stored slots room count used) (e : take used room ≡ take used room') (l : length room ≡ length room') where
  pub edges_stay : edges_of room count slots ≡ edges_of room' count slots
  edges_stay = counted-agree slot_bytes (edge_of room) (edge_of room') (Slot room used)
      (λ s s' f. edge-agree room room' used e s s' f) count slots slots refl h.rows

  -- so the best of them, as it was answered for any room, is the best of those at first
  module _ (best : BestEdge) (p : ℕ) (b : (room : List ℕ) → best_means room slots best ≡ right_best (edges_of room count slots) p) where
    pub best_stays : best_means room' slots best ≡ right_best (edges_of room count slots) p
    best_stays = b room' ∙ ap (λ es. right_best es p) (sym edges_stay)

    -- and the path goes on within the text
    pub goes_on : (n q : ℕ) → All (Sound n) (edges_of room count slots) → p < n → ((room : List ℕ) → q ≡ next (best_means room slots best) p)
        → (p < q) × (q ≤ n)
    goes_on n q s l f =
        let z = next-inside n p (edges_of room count slots) (best_means room' slots best) s best_stays l in
        let y = f room' in
        (omega (arith, z.0, y), omega (arith, z.1, y))

  pub stored_stays : Stored slots room' count used
  stored_stays = record {
    rows = all-agree slot_bytes (Slot room used) (Slot room' used)
        (λ s s' f. slot-agree room room' used e s s' f used (omega arith)) count slots slots refl h.rows;
    slot = h.slot;
    within = omega (arith, h.within, l);
    sum = h.sum ∙ ap all_bytes edges_stay;
  }

-- the slot that was answered is one of them
pub slot-found : (slots room : List ℕ) (count used o : ℕ) → Stored slots room count used → Found count (Some o) → Slot room used (drop o slots)
slot-found slots room count used o h f =
    subst (λ k. Slot room used (drop k slots)) (sym f.2) (all-at slot_bytes (Slot room used) count f.0 slots f.1 h.rows)

pub slot-wide : (room s : List ℕ) (used : ℕ) → used ≤ length room → Slot room used s → Slot room (length room) s
slot-wide room s used l h = slot-agree room room used refl s s refl (length room) l h

-- The room behind the texts was lent, and came back
pub front_stays : (room : List ℕ) (used : ℕ) (ys : List ℕ) → used ≤ length room → take used (put_mid used (length room - used) room ys) ≡ take used room
front_stays room used ys l =
    ap (take used) (back_end room used ys) ∙ take-append-le used (take used room) ys (omega (arith, length-take-le used room l))
    ∙ take-take used used room (omega arith)

-- Where an edge was found its slot can be read, and what was read of it is that edge; else nothing was found
pub not-there : (best : BestEdge) → ((o : ℕ) → best ≡ Some o → ⊥) → best ≡ None
not-there (Some o) h = absurd (h o refl)
not-there None h = refl

module _ (slots room : List ℕ) (count used n : ℕ) {best : BestEdge} {o : ℕ} (is : best ≡ Some o)
    (h : Stored slots room count used) (f : Found count best) (y : Opt (Sound n) (best_means room slots best)) where
  abbrev s : List ℕ
  s = drop o slots

  there : Slot room used s
  there = slot-found slots room count used o h (subst (Found count) is f)

  sound : Sound n (edge_of room s)
  sound = subst (λ b. Opt (Sound n) (best_means room slots b)) is y

  pub best-slot : Slot room (length room) s
  best-slot = slot-wide room s used h.within there

  pub best-short : length (bytes_of room s) ≤ most_bytes
  best-short = slot-short room s n used sound there h.within

  module _ (e : Numbers) (q : e ≡ numbers_of s) where
    pub best-inside : (e.from < e.to) × (e.to ≤ n)
    best-inside = span_inside room s n used sound there h.within e q

    pub best-spoken : (b : List ℕ) → b ≡ bytes_of room s → Spoken e b
    best-spoken b p = spoken_at room s n used sound there h.within e q b p

    pub best-edge : (b : List ℕ) → b ≡ bytes_of room s → edge_by e b ≡ edge_of room s
    best-edge b p = edge-at-slot room s n used sound there h.within e q b p
