-- Whether a text is new, and one turn of each loop: what was written, and what is left, leave what the whole leaves.
use mathlib.Core.Bool.{Bool, true, false, not, ◌||◌}
use mathlib.Core.List.{List, [], ◌∷◌, ◌++◌, map-append, append-nil, append_assoc}
use mathlib.Core.Path.{◌≡◌, refl, sym, ap, ◌∙◌, subst}
use Prim.Native.Nat.{ℕ, zero, suc, ◌+◌, ◌-◌, ◌≤◌, ◌<◌}
use native.Mathlib.Omega.{arith}
use native.Mathlib.Numerals.{add-one}
use lib.ListN.{length, get_or, take, drop, drop_of_length-le}
use lib.Seq.{take_all, drop-cons, drop-drop}
use Rattle.base.specs.Pick.{pick}
use Rattle.base.specs.Lists.{put, keep, any, same}
use Rattle.base.specs.ListLaws.{keep_append}
use Rattle.base.specs.Alls.{All}
use Rattle.definition.specs.Limits.{most_alternative}
use Rattle.definition.specs.Texts.{Text}
use Rattle.definition.specs.Tables.{Rule}
use Rattle.definition.specs.Capacity.{bytes}
use Rattle.definition.specs.Edges.{Edge}
use Rattle.definition.specs.RuleRows.{rule_size, rule_of}
use Rattle.definition.specs.Rules.{holds_at}
use Rattle.definition.specs.Paths.{other}
use Rattle.definition.specs.Shorts.{Low, Short, encoded-low}
use Rattle.definition.specs.Offers.{offers, all_offers, all_offers-append, news, news-append, found_by}
use Rattle.utf8.specs.Encodings.{low-decoded}
use Rattle.edge.specs.declared.Numbers.{Numbers}
use Rattle.edge.specs.Slots.{edge_by}
use Rattle.listing.specs.Rows.{row_of, row_size, row_length}
use Rattle.listing.specs.Items.{Written, item, put_bytes, put_items, Puts, put_items-append}
use Rattle.rule_table.specs.Sorted.{rules_from, rules-next}
use Rattle.words.specs.Found.{Rows, rules_in, none_in, one_in, row_there}
use Rattle.marks.specs.Marked.{Marked}
use Rattle.offers.specs.declared.Asked.{Asked}
use Rattle.offers.specs.declared.Offers.{Offers}
use Rattle.offers.specs.Texts.{texts, Spoken, Tells, count_of, holding, count-is, texts-count, text_at, note_at, noted}
use Rattle.offers.proofs.Telling.{same_bytes}
use Rattle.alternatives.specs.News.{offered, earlier, holding_offers, offer_bytes}

-- It is new where it is not the edge's own, and was not offered
module _ (e : Numbers) (b w : List ℕ) (h : Spoken e b) (l : All Low w) (ws : List Text) where
  abbrev own : Text
  own = (edge_by e b).text

  own_same : same w own ≡ same w b
  unfolding edge_by
  own_same = same_bytes w b l h.text

  pub own_again : same w b ≡ true → false ≡ not (any (same w) (own ∷ ws))
  unfolding any
  own_again q = sym (ap (λ (y : Bool). not (y || any (same w) ws)) (own_same ∙ q))

  pub other_again : same w b ≡ false → (t : Bool) → t ≡ any (same w) ws → not t ≡ not (any (same w) (own ∷ ws))
  unfolding any
  other_again q t p = ap not (p ∙ sym (ap (λ (y : Bool). y || any (same w) ws) (own_same ∙ q)))

-- One edge, where it is new: it takes so many bytes at most
module _ (at : ℕ) (out : List ℕ) (new : Bool) (e : Numbers) (note : ℕ) (w : Text) where
  abbrev Y : Edge
  Y = other (edge_by e []) note w

  abbrev N : Numbers
  N = record { from = e.from; to = e.to; note = note; core = 0 }

  abbrev Put : Written → Type 0
  Put o = Puts true (put new Y []) offer_bytes (at, out) o

  pub put_one : new ≡ true → Short most_alternative w → (o : Written) → o ≡ put_bytes (row_of (edge_by N w)) (at, out) → Put o
  put_one n s o q = (q ∙ ap (λ x. put_bytes (row_of x) (at, out)) is-other ∙ written, small)
    where
      is-other : edge_by N w ≡ Y
      is-other = unfold edge_by other in
          ap (λ t. record { from = e.from; to = e.to; note = note; core = 0; text = t }) (low-decoded w s.low)

      written : put_bytes (row_of Y) (at, out) ≡ put_items true (put new Y []) (at, out)
      written = unfold put_items item pick in sym (ap (λ b. put_items true (put b Y []) (at, out)) n)

      size : row_size Y ≤ offer_bytes
      size = unfold row_size bytes other in
          (let k = s.long in let z = ap length (encoded-low w s.low) in omega (arith, k, z))

      small : o.0 ≤ at + offer_bytes
      small = unfold put_bytes in
          (let z = ap (λ (v : Written). v.0) (q ∙ ap (λ x. put_bytes (row_of x) (at, out)) is-other) in omega (arith, z, size, row_length Y))

  pub put_not : new ≡ false → Put (at, out)
  unfolding put_items
  put_not n = (sym (ap (λ b. put_items true (put b Y []) (at, out)) n), omega arith)

-- what is put in front of others
put-before : (b : Bool) (x : Edge) (l : List Edge) (w v : Written) → w ≡ put_items true (put b x []) v
    → put_items true l w ≡ put_items true (put b x l) v
put-before b x l w v e = ap (put_items true l) e ∙ sym (put_items-append true (put b x []) l v) ∙ ap (λ m. put_items true m v) (go b)
  where
    go : (b : Bool) → put b x [] ++ l ≡ put b x l
    go true = refl
    go false = refl

-- one more of a list
take_more : {A : Type 0} (l m : List A) (k : ℕ) (a : A) → drop k l ≡ a ∷ m → take (k + 1) l ≡ take k l ++ a ∷ []
take_more {A} l m k a e = ap (λ n. take n l) (add-one k) ∙ go l k e
  where
    go : (l : List A) (k : ℕ) → drop k l ≡ a ∷ m → take (suc k) l ≡ take k l ++ a ∷ []
    go [] zero e = absurd (let z : ◌≡◌ {A = ℕ} 0 1 = cc in omega arith)
    go [] (suc k) e = absurd (let z : ◌≡◌ {A = ℕ} 0 1 = cc in omega arith)
    go (b ∷ l) zero e = let z : b ≡ a = cc in ap (λ c. c ∷ []) z
    go (b ∷ l) (suc k) e = ap (λ r. b ∷ r) (go l k e)

drop_more : {A : Type 0} (l m : List A) (k : ℕ) (a : A) → drop k l ≡ a ∷ m → drop (k + 1) l ≡ m
drop_more l m k a e = sym (drop-drop 1 k l) ∙ ap (drop 1) e

-- A row's offers, from number `k` on
module _ (y : Bool) (e : Numbers) (b : List ℕ) (r : Rule) (o : Offers) (h : Tells y (edge_by e b) r o) (ws : List Text) (k : ℕ) where
  abbrev O : List Edge
  O = offers y (edge_by e b) r

  abbrev T : List Text
  T = texts O

  abbrev U : Text
  U = get_or T k []

  abbrev d : Edge
  d = other (edge_by e b) 0 []

  -- those still to come
  pub offers-over : count_of o ≤ k → news (ws ++ take k T) (drop k O) ≡ []
  unfolding news
  offers-over l = ap (news (ws ++ take k T)) (drop_of_length-le O {i = k} (omega (arith, l, count-is h)))

  pub texts-over : count_of o ≤ k → take k T ≡ T
  texts-over l = take_all k T (omega (arith, l, texts-count h))

  module _ (l : k < count_of o) where
    abbrev there : drop k O ≡ get_or O k d ∷ drop (suc k) O
    there = drop-cons O k d (omega (arith, l, count-is h))

    -- the one with this number
    numbered : (n : ℕ) → n ≡ note_at o k → get_or O k d ≡ other (edge_by e []) n U
    unfolding other edge_by
    numbered n q = noted h k d l ∙ ap (λ m. other (edge_by e b) m U) (sym q)

    -- one text more
    pub texts_on : (w : Text) → w ≡ U → (us : List Text) → (us ++ take k T) ++ w ∷ [] ≡ us ++ take (k + 1) T
    texts_on w u us = append_assoc us (take k T) (w ∷ [])
        ∙ ap (λ l. us ++ l) (ap (λ t. take k T ++ t ∷ []) u
        ∙ sym (take_more T (drop (suc k) T) k U (drop-cons T k [] (omega (arith, l, texts-count h)))))

    pub offers_on : (new : Bool) (n : ℕ) (w : Text) (p v : Written) → n ≡ note_at o k → w ≡ U
        → new ≡ not (any (same w) (ws ++ take k T)) → p ≡ put_items true (put new (other (edge_by e []) n w) []) v
        → put_items true (news (ws ++ take (k + 1) T) (drop (k + 1) O)) p ≡ put_items true (news (ws ++ take k T) (drop k O)) v
    unfolding news
    offers_on new n w p v q u z f =
        put-before new (other (edge_by e []) n w) (news (ws ++ take (k + 1) T) (drop (k + 1) O)) p v f
        ∙ ap (λ l. put_items true l v) (sym one)
      where
        c : Edge
        c = get_or O k d

        is_c : c ≡ other (edge_by e []) n w
        is_c = numbered n q ∙ ap (other (edge_by e []) n) (sym u)

        text-c : c.text ≡ w
        text-c = sym (text_at h k d l) ∙ sym u

        more : (ws ++ take k T) ++ c.text ∷ [] ≡ ws ++ take (k + 1) T
        more = texts_on c.text (text-c ∙ u) ws

        rest : drop (suc k) O ≡ drop (k + 1) O
        rest = ap (λ i. drop i O) (sym (add-one k))

        one : news (ws ++ take k T) (drop k O)
            ≡ put new (other (edge_by e []) n w) (news (ws ++ take (k + 1) T) (drop (k + 1) O))
        one = unfold news in
            (ap (news (ws ++ take k T)) there
            ∙ ap (λ t. put (not (any (same t) (ws ++ take k T))) c (news ((ws ++ take k T) ++ c.text ∷ []) (drop (suc k) O))) text-c
            ∙ ap (λ y. put y c (news ((ws ++ take k T) ++ c.text ∷ []) (drop (suc k) O))) (sym z)
            ∙ ap (λ x. put new x (news ((ws ++ take k T) ++ c.text ∷ []) (drop (suc k) O))) is_c
            ∙ ap (λ l. put new (other (edge_by e []) n w) (news l (drop (suc k) O))) more
            ∙ ap (λ l. put new (other (edge_by e []) n w) (news (ws ++ take (k + 1) T) l)) rest)

-- A row whose rule holds
module _ (y : Bool) (x : Edge) (r : Rule) (ws : List Text) (hold : Bool) where
  pub one_holds : hold ≡ true → news ws (offers y x r) ≡ news ws (all_offers y x (put hold r []))
  unfolding all_offers
  one_holds h = ap (news ws) (sym (append-nil (offers y x r)) ∙ ap (λ b. all_offers y x (put b r [])) (sym h))

  -- what is marked then
  pub marked_holds : (cells : List ℕ) → hold ≡ true → Marked (ws ++ texts (offers y x r)) cells → Marked (ws ++ texts (all_offers y x (put hold r []))) cells
  unfolding all_offers
  marked_holds cells h m = subst (λ l. Marked (ws ++ texts l) cells) (sym (append-nil (offers y x r)) ∙ ap (λ b. all_offers y x (put b r [])) (sym h)) m

  -- a row whose rule does not hold gives nothing, and one that offers nothing
  pub none-holds : hold ≡ false → all_offers y x (put hold r []) ≡ []
  unfolding all_offers
  none-holds h = ap (λ b. all_offers y x (put b r [])) h

  pub none-offered : offers y x r ≡ [] → all_offers y x (put hold r []) ≡ []
  none-offered n = go hold
    where
      go : (b : Bool) → all_offers y x (put b r []) ≡ []
      go true = unfold all_offers in (append-nil (offers y x r) ∙ n)
      go false = unfold all_offers in refl

  -- then nothing is new, or marked
  module _ (n : all_offers y x (put hold r []) ≡ []) where
    pub none-new : [] ≡ news ws (all_offers y x (put hold r []))
    unfolding news
    none-new = sym (ap (news ws) n)

    pub none_marked : (cells : List ℕ) → Marked ws cells → Marked (ws ++ texts (all_offers y x (put hold r []))) cells
    none_marked cells m = subst (λ l. Marked l cells) (sym (append-nil ws) ∙ ap (λ l. ws ++ texts l) (sym n)) m

-- Some rows, `before` of them done
module _ (x : Edge) (code : Text) (a : Asked) (rules : List ℕ) where
  abbrev hold : Rule → Bool
  hold = holds_at code a.start a.end

  -- what is left of them, from `row` on
  abbrev pub left_news : ℕ → ℕ → ℕ → List Edge
  left_news before row left = news (earlier x code a rules before) (all_offers a.readings x (holding code a.start a.end rules row left))

  pub rows-begun : (n : ℕ) → left_news 0 a.first n ≡ found_by a.readings x (holding code a.start a.end rules a.first n)
  unfolding found_by keep all_offers
  rows-begun n = refl

  pub rows-over : (before row left : ℕ) → left ≡ 0 → left_news before row left ≡ []
  unfolding news all_offers keep
  rows-over before row left h =
      ap (λ l. news (earlier x code a rules before) (all_offers a.readings x (keep hold l))) (none_in rules row left h)

  module _ (before row left : ℕ) (h : 0 < left) (k : Rows rules row left) (s : rules_from rules row ≡ drop before (rules_from rules a.first))
      (z : ℕ) (q : z ≡ rule_size (drop row rules)) where
    abbrev r : Rule
    r = rule_of (drop row rules)

    here : drop before (rules_from rules a.first) ≡ r ∷ rules_from rules (row + z)
    here = sym s ∙ rules-next rules row (row_there rules row left h k) ∙ ap (λ n. r ∷ rules_from rules (row + n)) (sym q)

    pub from_next : rules_from rules (row + z) ≡ drop (before + 1) (rules_from rules a.first)
    from_next = sym (drop_more (rules_from rules a.first) (rules_from rules (row + z)) before r here)

    -- one row more is done
    done : holding code a.start a.end rules a.first (before + 1) ≡ holding code a.start a.end rules a.first before ++ put (hold r) r []
    unfolding keep
    done = ap (keep hold) (take_more (rules_from rules a.first) (rules_from rules (row + z)) before r here)
        ∙ keep_append hold (rules_in rules a.first before) (r ∷ [])

    offered_on : offered x code a rules (before + 1) ≡ offered x code a rules before ++ texts (holding_offers x code a r)
    offered_on =
        ap (λ l. texts (all_offers a.readings x l)) done
        ∙ ap texts (all_offers-append a.readings x (holding code a.start a.end rules a.first before) (put (hold r) r []))
        ∙ map-append (λ (c : Edge). c.text) (all_offers a.readings x (holding code a.start a.end rules a.first before)) (holding_offers x code a r)

    pub marked_on : (cells : List ℕ) → Marked (offered x code a rules before ++ texts (holding_offers x code a r)) cells
        → Marked (offered x code a rules (before + 1)) cells
    marked_on cells m = subst (λ us. Marked us cells) (sym offered_on) m

    earlier_on : earlier x code a rules (before + 1) ≡ earlier x code a rules before ++ texts (holding_offers x code a r)
    earlier_on = ap (λ l. x.text ∷ l) offered_on

    to_come : holding code a.start a.end rules row left ≡ put (hold r) r [] ++ holding code a.start a.end rules (row + z) (left - 1)
    unfolding keep
    to_come = ap (keep hold) (one_in rules row left h k ∙ ap (λ n. r ∷ rules_in rules (row + n) (left - 1)) (sym q))
        ∙ keep_append hold (r ∷ []) (rules_in rules (row + z) (left - 1))

    pub rows_on : (w v : Written)
        → w ≡ put_items true (news (earlier x code a rules before) (holding_offers x code a r)) v
        → put_items true (left_news (before + 1) (row + z) (left - 1)) w ≡ put_items true (left_news before row left) v
    rows_on w v e =
        ap (put_items true (left_news (before + 1) (row + z) (left - 1))) e
        ∙ sym (put_items-append true A (left_news (before + 1) (row + z) (left - 1)) v)
        ∙ ap (λ l. put_items true l v) (sym split)
      where
        ws : List Text
        ws = earlier x code a rules before

        A : List Edge
        A = news ws (holding_offers x code a r)

        rest : List Edge
        rest = all_offers a.readings x (holding code a.start a.end rules (row + z) (left - 1))

        split : left_news before row left ≡ A ++ left_news (before + 1) (row + z) (left - 1)
        split =
            ap (λ l. news ws (all_offers a.readings x l)) to_come
            ∙ ap (news ws) (all_offers-append a.readings x (put (hold r) r []) (holding code a.start a.end rules (row + z) (left - 1)))
            ∙ news-append ws (holding_offers x code a r) rest
            ∙ ap (λ l. A ++ news l rest) (sym earlier_on)
