-- The texts that a row offers for an edge, by number.
use Rattle.std.specs.Prelude.{ℕ, zero, suc, ◌+◌, ◌≤◌, ◌<◌, Bool, ◌&&◌, ◌||◌, drop, ltb}
use Rattle.std.proofs.Math.Bool.{true, false}
use Rattle.std.proofs.Common.{true≢false, ◌∙◌, arith}
use mathlib.Core.List.{List, [], ◌∷◌, ◌++◌, map, append_assoc}
use Rattle.std.proofs.Math.Option.{Option, none, some}
use Rattle.std.proofs.Math.Path.{◌≡◌, refl, sym, ap, subst}
use Rattle.std.proofs.Math.Decide.{dec_lt}
use Rattle.std.proofs.Math.ListN.{length, get_or, length-append, length-drop, get_or-append}
use Rattle.std.proofs.lemmas.List.{length-map}
use Rattle.std.proofs.Math.Seq.{get_or_at}
use Rattle.std.proofs.Math.Dec.{eqb}
use borrow.Author.Tests.{eqb-true, eqb-false, ltb-false, lt-ltb, le-ltb}
use Rattle.base.specs.Pick.{pick, pick_ind, pick_all}
use Rattle.base.specs.Bools.{and_left, and_right, or_left, or_right}
use Rattle.base.specs.Lists.{keep, has, is, maybe, same}
use Rattle.base.specs.Alls.{All, All-append, All_getD, All-drop, maybe-all}
use Rattle.definition.specs.Limits.{most_target, most_vowel, most_alternative}
use Rattle.definition.specs.Notes.{note_core, note_alt, note_alt2, note_alt3}
use Rattle.definition.specs.Texts.{Text}
use Rattle.definition.specs.Tables.{Rule}
use Rattle.definition.specs.Utf8.{decoded}
use Rattle.definition.specs.Edges.{Edge}
use Rattle.definition.specs.Paths.{cored, other}
use Rattle.definition.specs.Shorts.{Low, Short, short_none, short-wide, short-append}
use Rattle.definition.specs.ExpandBounds.{Spoken as Worded}
use Rattle.definition.specs.Alternatives.{edge_vowel}
use Rattle.definition.specs.Offers.{target_offers, reading_offers, end_offers, offers}
use Rattle.definition.specs.Rules.{holds_at}
use Rattle.utf8.specs.Encodings.{TextBytes, low-decoded}
use Rattle.edge.specs.declared.Numbers.{Numbers}
use Rattle.edge.specs.Slots.{edge_by}
use Rattle.words.specs.Found.{rules_in}
use Rattle.offers.specs.declared.Offer.{Offer}
use Rattle.offers.specs.declared.Offer.TheVariants.{Alternative, EndTarget, Target}
use Rattle.offers.specs.declared.Offers.{Offers}

-- the texts of some edges
abbrev pub texts : List Edge → List Text
texts l = map (λ c. c.text) l

-- text number `k` of what a rule offers for an edge
abbrev pub offer_at : Bool → Edge → Rule → ℕ → Text
offer_at b x r k = get_or (texts (offers b x r)) k []

-- A text that an edge has: UTF-8, and ASCII with a core within it where its annotation says so
pub record Spoken (e : Numbers) (b : List ℕ) : Type 0 where
  pub text : TextBytes b
  pub core : e.note ≡ note_core → All Low b × (e.core ≤ length b) × (length b ≤ e.core + 4)

-- What a row offers: so many alternatives, with the edge's vowel or not, its end target or not, and its target or not
pub record Tells (b : Bool) (x : Edge) (r : Rule) (o : Offers) : Type 0 where
  pub others : o.others ≡ maybe r.target 0 (λ w. length (target_offers x r w))
  pub cored : o.cored ≡ is (cored x) r.target
  pub reading : o.reading ≡ (is (λ w. b && same w x.text) r.target && has r.end_target)
  pub target : o.target ≡ (has r.target && is (λ u. same u x.text) r.end_target)

-- whether readings were chosen or not
abbrev pub TellsEither : Edge → Rule → Offers → Type 0
TellsEither x r o = (b : Bool) × Tells b x r o

-- so many alternatives at most, since their number is a byte; with both targets, so many offers
abbrev pub most_others : ℕ
most_others = 255

abbrev pub most_offers : ℕ
most_offers = most_others + 2

unfoldable pub count_of : Offers → ℕ
count_of o = o.others + (pick o.reading 1 0 + pick o.target 1 0)

-- text number `k` is the end target, where that is offered, right behind the alternatives; and the annotation by the number
abbrev pub is_reading : Offers → ℕ → Bool
is_reading o k = o.reading && eqb k o.others

unfoldable pub note_at : Offers → ℕ → ℕ
note_at o k = pick (ltb k o.others) note_alt (pick (is_reading o k) note_alt2 note_alt3)

-- text number `k` is an alternative, the end target or the target; and the annotation by that
abbrev pub Numbered : Offers → ℕ → Offer → Type 0
Numbered o k (Alternative j) = (j ≡ k) × (k < o.others)
Numbered o k EndTarget = (o.others ≤ k) × (is_reading o k ≡ true)
Numbered o k Target = (o.others ≤ k) × (is_reading o k ≡ false)

abbrev pub note_of : Offer → ℕ
note_of (Alternative j) = note_alt
note_of EndTarget = note_alt2
note_of Target = note_alt3

pub note-is : (o : Offers) (k : ℕ) (f : Offer) → Numbered o k f → note_of f ≡ note_at o k
unfolding note_at pick
note-is o k (Alternative j) h = sym (rw (lt-ltb k o.others h.1))
note-is o k EndTarget h = sym (rw (le-ltb k o.others h.0, h.1))
note-is o k Target h = sym (rw (le-ltb k o.others h.0, h.1))

-- and so of each
pub alt-note : (o : Offers) (k : ℕ) → k < o.others → note_alt ≡ note_at o k
alt-note o k h = note-is o k (Alternative k) (refl, h)

pub alt2_note : (o : Offers) (k : ℕ) → o.others ≤ k → is_reading o k ≡ true → note_alt2 ≡ note_at o k
alt2_note o k h e = note-is o k EndTarget (h, e)

pub alt3-note : (o : Offers) (k : ℕ) → o.others ≤ k → is_reading o k ≡ false → note_alt3 ≡ note_at o k
alt3-note o k h e = note-is o k Target (h, e)

pub at-reading : (o : Offers) (k : ℕ) → is_reading o k ≡ true → (k ≡ o.others) × (o.reading ≡ true)
at-reading o k z = (eqb-true k o.others (and_right o.reading _ z), and_left o.reading _ z)

-- each target counts once at most
pub one-most : (c : Bool) → pick {A = ℕ} c 1 0 ≤ 1
one-most c = pick_all (λ n. n ≤ 1) c {x = 1} {y = 0} (omega arith) (omega arith)

-- behind both is the target
pub at_target : (o : Offers) (k : ℕ) → o.others ≤ k → is_reading o k ≡ false → k < count_of o → k ≡ o.others + pick o.reading 1 0
unfolding count_of
at_target o k h z l = go o.reading refl
  where
    few : pick {A = ℕ} o.target 1 0 ≤ 1
    few = one-most o.target

    go : (c : Bool) → o.reading ≡ c → k ≡ o.others + pick o.reading 1 0
    go true e = unfold pick in
        (let w = ap (λ c. pick {A = ℕ} c 1 0) e in let v = eqb-false k o.others (sym (ap (λ (c : Bool). c && eqb k o.others) e) ∙ z) in omega (arith, w, v, h, l, few))
    go false e = unfold pick in (let w = ap (λ c. pick {A = ℕ} c 1 0) e in omega (arith, w, h, l, few))

-- a rule without an end target and without alternatives offers nothing to any edge
unfoldable pub offering : Rule → Bool
offering r = has r.end_target || ltb 0 (length r.others)

picked : (c : Bool) → pick {A = List Edge} c [] [] ≡ []
unfolding pick
picked true = refl
picked false = refl

pub offers-none : (b : Bool) (x : Edge) (r : Rule) → offering r ≡ false → offers b x r ≡ []
unfolding offering
offers-none b x r e = go r.target refl
  where
    bare : r.end_target ≡ none
    bare = not_has r.end_target (or_left (has r.end_target) (ltb 0 (length r.others)) e)
      where
        not_has : (o : Option Text) → has o ≡ false → o ≡ none
        not_has none h = refl
        not_has (some u) h = absurd (true≢false h)

    plain : r.others ≡ []
    plain = not_some r.others (ltb-false 0 (length r.others) (or_right (has r.end_target) (ltb 0 (length r.others)) e))
      where
        not_some : (l : List Text) → length l ≤ 0 → l ≡ []
        not_some [] h = refl
        not_some (u ∷ l) h = absurd (omega arith)

    by_target : (w : Text) → target_offers x r w ≡ []
    by_target w = unfold target_offers in
        (ap (λ l. pick (same w x.text || cored x w) (map (λ u. other x note_alt (u ++ edge_vowel x w)) l) []) plain ∙ picked (same w x.text || cored x w))

    by_reading : (w : Text) → reading_offers b x r w ≡ []
    by_reading w = unfold reading_offers maybe in
        (ap (λ o. pick (b && same w x.text) (maybe o [] (λ u. other x note_alt2 u ∷ [])) []) bare ∙ picked (b && same w x.text))

    by_end : (w : Text) → end_offers x r w ≡ []
    by_end w = unfold end_offers pick in ap (λ o. pick (is (λ u. same u x.text) o) (other x note_alt3 w ∷ []) []) bare

    all : (w : Text) → target_offers x r w ++ (reading_offers b x r w ++ end_offers x r w) ≡ []
    all w = ap (λ l. l ++ (reading_offers b x r w ++ end_offers x r w)) (by_target w) ∙ ap (λ l. l ++ end_offers x r w) (by_reading w) ∙ by_end w

    go : (o : Option Text) → r.target ≡ o → offers b x r ≡ []
    go none t = unfold offers maybe in ap (λ o. maybe o [] (λ w. target_offers x r w ++ (reading_offers b x r w ++ end_offers x r w))) t
    go (some w) t = unfold offers maybe in
        (ap (λ o. maybe o [] (λ w. target_offers x r w ++ (reading_offers b x r w ++ end_offers x r w))) t ∙ all w)

-- the rules that hold among those of some rows
abbrev pub holding : Text → Bool → Bool → List ℕ → ℕ → ℕ → List Rule
holding code start end rules row n = keep (holds_at code start end) (rules_in rules row n)

-- one of a list that was made of another
map_at : {A B : Type 0} (f : A → B) (l : List A) (k : ℕ) (d : A) (e : B) → k < length l → get_or (map f l) k e ≡ f (get_or l k d)
map_at f [] k d e h = absurd (omega arith)
map_at f (a ∷ l) zero d e h = refl
map_at f (a ∷ l) (suc k) d e h = map_at f l k d e (omega arith)

picked_at : {A B : Type 0} (b : Bool) (f : A → B) (l : List A) (k : ℕ) (d : A) (e : B) → k < length (pick b (map f l) [])
    → (k < length l) × (get_or (pick b (map f l) []) k e ≡ f (get_or l k d))
unfolding pick
picked_at true f l k d e h = let z : k < length l = omega (arith, h, length-map l f) in (z, map_at f l k d e z)
picked_at false f l k d e h = absurd (omega arith)

picked_one : {A : Type 0} (b : Bool) (a : A) → length (pick b (a ∷ []) []) ≡ pick b 1 0
unfolding pick
picked_one true a = refl
picked_one false a = refl

-- the end target, where it is there and asked for
read_one : (b : Bool) (x : Edge) (t : Option Text) → length (pick b (maybe t [] (λ u. other x note_alt2 u ∷ [])) []) ≡ pick (b && has t) 1 0
unfolding pick maybe
read_one true x none = refl
read_one true x (some u) = refl
read_one false x t = refl

read-there : (b : Bool) (x : Edge) (t : Option Text) → (b && has t) ≡ true
    → (u : Text) × (t ≡ some u) × (pick b (maybe t [] (λ u. other x note_alt2 u ∷ [])) [] ≡ other x note_alt2 u ∷ [])
unfolding pick maybe
read-there true x none e = absurd (true≢false (sym e))
read-there true x (some u) e = (u, refl, refl)
read-there false x t e = absurd (true≢false (sym e))

module _ {b : Bool} {x : Edge} {r : Rule} {o : Offers} (h : Tells b x r o) where
  abbrev at_end : Bool
  at_end = is (λ u. same u x.text) r.end_target

  -- where there is no target nothing is offered
  untargeted : r.target ≡ none → count_of o ≡ 0
  unfolding count_of maybe pick
  untargeted e =
      let z : o.others ≡ 0 = h.others ∙ ap (λ t. maybe t 0 (λ w. length (target_offers x r w))) e in
      let v : o.reading ≡ false = h.reading ∙ ap (λ t. is (λ w. b && same w x.text) t && has r.end_target) e in
      let y : o.target ≡ false = h.target ∙ ap (λ t. has t && at_end) e in
      let q : ◌≡◌ {A = ℕ} (pick o.reading 1 0) 0 = ap (λ c. pick {A = ℕ} c 1 0) v in
      let p : ◌≡◌ {A = ℕ} (pick o.target 1 0) 0 = ap (λ c. pick {A = ℕ} c 1 0) y in
      omega (arith, z, p, q)

  pub target-there : 0 < count_of o → (w : Text) × (r.target ≡ some w)
  target-there l = go r.target refl
    where
      go : (t : Option Text) → r.target ≡ t → (w : Text) × (r.target ≡ some w)
      go none e = absurd (omega (arith, l, untargeted e))
      go (some w) e = (w, e)

  -- By its target: an alternative, with the vowel, behind them the end target, and then the target
  module _ {w : Text} (t : r.target ≡ some w) where
    abbrev A : List Edge
    A = target_offers x r w

    abbrev Q : List Edge
    Q = reading_offers b x r w

    abbrev E : List Edge
    E = end_offers x r w

    others-is : o.others ≡ length A
    unfolding maybe
    others-is = h.others ∙ ap (λ t. maybe t 0 (λ w. length (target_offers x r w))) t

    reading-is : o.reading ≡ ((b && same w x.text) && has r.end_target)
    reading-is = h.reading ∙ ap (λ t. is (λ w. b && same w x.text) t && has r.end_target) t

    target_is : o.target ≡ at_end
    target_is = h.target ∙ ap (λ t. has t && at_end) t

    pub cored-is : o.cored ≡ cored x w
    cored-is = h.cored ∙ ap (is (cored x)) t

    offers_are : offers b x r ≡ A ++ (Q ++ E)
    unfolding offers maybe
    offers_are = ap (λ t. maybe t [] (λ w. target_offers x r w ++ (reading_offers b x r w ++ end_offers x r w))) t

    reading-one : length Q ≡ pick o.reading 1 0
    unfolding reading_offers
    reading-one = read_one (b && same w x.text) x r.end_target ∙ ap (λ c. pick {A = ℕ} c 1 0) (sym reading-is)

    end-one : length E ≡ pick o.target 1 0
    unfolding end_offers
    end-one = picked_one at_end (other x note_alt3 w) ∙ ap (λ c. pick {A = ℕ} c 1 0) (sym target_is)

    offered-count : count_of o ≡ length (offers b x r)
    unfolding count_of
    offered-count = sym (ap length offers_are ∙ length-append A (Q ++ E) ∙ omega (arith, others-is, reading-one, end-one, length-append Q E))

    pub by-other : (k : ℕ) (d : Edge) → k < o.others
        → (k < length r.others) × (get_or (offers b x r) k d ≡ other x note_alt (get_or r.others k [] ++ edge_vowel x w))
    unfolding target_offers
    by-other k d l =
        let z : k < length A = omega (arith, l, others-is) in
        let p = picked_at (same w x.text || cored x w) (λ u. other x note_alt (u ++ edge_vowel x w)) r.others k [] d z in
        (p.0, ap (λ l. get_or l k d) offers_are ∙ get_or-append A (Q ++ E) d k z ∙ p.1)

    pub by_reading : (k : ℕ) (d : Edge) → k ≡ o.others → o.reading ≡ true
        → (u : Text) × (r.end_target ≡ some u) × (get_or (offers b x r) k d ≡ other x note_alt2 u)
    unfolding reading_offers
    by_reading k d e z =
        let q = read-there (b && same w x.text) x r.end_target (sym reading-is ∙ z) in
        (q.0, q.1, ap (λ l. get_or l k d) (offers_are ∙ ap (λ l. A ++ (l ++ E)) q.2) ∙ get_or_at A (other x note_alt2 q.0) E d k (sym (e ∙ others-is)))

    -- the last of them
    pub by_target : (k : ℕ) (d : Edge) → k ≡ o.others + pick o.reading 1 0 → k < count_of o → get_or (offers b x r) k d ≡ other x note_alt3 w
    unfolding count_of end_offers
    by_target k d e l =
        ap (λ l. get_or l k d) (offers_are ∙ ap (λ l. A ++ (Q ++ l)) one ∙ sym (append_assoc A Q (other x note_alt3 w ∷ [])))
        ∙ get_or_at (A ++ Q) (other x note_alt3 w) [] d k (omega (arith, e, others-is, reading-one, length-append A Q))
      where
        one : E ≡ other x note_alt3 w ∷ []
        one = go at_end target_is
          where
            go : (c : Bool) → o.target ≡ c → pick c (other x note_alt3 w ∷ []) [] ≡ other x note_alt3 w ∷ []
            go true z = unfold pick in refl
            go false z = unfold pick in absurd (let p = ap (λ c. pick {A = ℕ} c 1 0) z in omega (arith, l, e, p))

  -- How many they are, and that this is few
  pub count-is : count_of o ≡ length (offers b x r)
  unfolding offers maybe
  count-is = go r.target refl
    where
      go : (t : Option Text) → r.target ≡ t → count_of o ≡ length (offers b x r)
      go none e = untargeted e
          ∙ sym (ap (λ t. length (maybe t [] (λ w. target_offers x r w ++ (reading_offers b x r w ++ end_offers x r w)))) e)
      go (some w) e = offered-count e

  pub texts-count : length (texts (offers b x r)) ≡ count_of o
  texts-count = length-map (offers b x r) (λ (c : Edge). c.text) ∙ sym count-is

  pub texts_few : o.others ≤ most_others → length (texts (offers b x r)) ≤ most_offers
  unfolding count_of
  texts_few l = omega (arith, l, texts-count, one-most o.reading, one-most o.target)

  -- the text of each
  pub text_at : (k : ℕ) (d : Edge) → k < count_of o → offer_at b x r k ≡ (get_or (offers b x r) k d).text
  text_at k d l = map_at (λ (c : Edge). c.text) (offers b x r) k d [] (omega (arith, l, count-is))

  -- Each has the edge's span, and the annotation of its number
  pub noted : (k : ℕ) (d : Edge) → k < count_of o → get_or (offers b x r) k d ≡ other x (note_at o k) (offer_at b x r k)
  noted k d l = go (dec_lt k o.others) (is_reading o k) refl
    where
      there : (w : Text) × (r.target ≡ some w)
      there = target-there (omega arith)

      by : (n : ℕ) (w : Text) → get_or (offers b x r) k d ≡ other x n w → n ≡ note_at o k
          → get_or (offers b x r) k d ≡ other x (note_at o k) (offer_at b x r k)
      by n w p q = unfold other in
          (p ∙ ap (other x n) (sym (text_at k d l ∙ ap (λ (c : Edge). c.text) p)) ∙ ap (λ m. other x m (offer_at b x r k)) q)

      go : Dec (k < o.others) → (c : Bool) → is_reading o k ≡ c → get_or (offers b x r) k d ≡ other x (note_at o k) (offer_at b x r k)
      go (yes z) c e = by note_alt _ (by-other there.1 k d z).1 (note-is o k (Alternative k) (refl, z))
      go (no z) true e =
          let q = at-reading o k e in
          let p = by_reading there.1 k d q.0 q.1 in
          by note_alt2 p.0 p.2 (note-is o k EndTarget (omega arith, e))
      go (no z) false e = by note_alt3 there.0 (by_target there.1 k d (at_target o k (omega arith) e l) l) (note-is o k Target (omega arith, e))

-- Each has 204 bytes at most
abbrev pub Brief : Edge → Type 0
Brief c = Short most_alternative c.text

module _ {e : Numbers} {b : List ℕ} (h : Spoken e b) where
  abbrev X : Edge
  X = edge_by e b

  -- an edge with a core is its own bytes
  pub core-own : e.note ≡ note_core → decoded b ≡ b
  core-own n = low-decoded b (h.core n).0

  pub core-note : (w : Text) → cored X w ≡ true → e.note ≡ note_core
  unfolding cored edge_by
  core-note w z = eqb-true e.note note_core (and_left _ _ z)

  vowel-short : (w : Text) → Short most_vowel (edge_vowel X w)
  unfolding edge_by
  vowel-short w = pick_ind (Short most_vowel) (cored X w) (drop e.core (decoded b)) [] there (λ z. short_none most_vowel)
    where
      there : cored X w ≡ true → Short most_vowel (drop e.core (decoded b))
      there z =
          let n = core-note w z in
          let c = h.core n in
          subst (λ l. Short most_vowel (drop e.core l)) (sym (core-own n))
          (record { long = omega (arith, c.2, length-drop e.core b); low = All-drop Low e.core b c.0 })

  module _ {r : Rule} (q : Worded r) where
    target_brief : (w : Text) → All Brief (target_offers X r w)
    unfolding target_offers other
    target_brief w = pick_all (All Brief) _ (go r.others q.others) tt
      where
        go : (l : List Text) → All (Short most_target) l → All Brief (map (λ u. other X note_alt (u ++ edge_vowel X w)) l)
        go [] a = tt
        go (u ∷ l) a = (short-append most_target most_vowel a.0 (vowel-short w), go l a.1)

    reading_brief : (b : Bool) (w : Text) → All Brief (reading_offers b X r w)
    unfolding reading_offers other
    reading_brief b w = pick_all (All Brief) _
        (maybe-all (All Brief) (Short most_target) r.end_target {y = []} q.end_target tt
        (λ u s. (short-wide most_target (omega arith) s, tt))) tt

    end_brief : (w : Text) → Short most_target w → All Brief (end_offers X r w)
    unfolding end_offers other
    end_brief w s = pick_all (All Brief) _ {x = other X note_alt3 w ∷ []} {y = []} (short-wide most_target (omega arith) s, tt) tt

    pub offers-short : (b : Bool) → All Brief (offers b X r)
    unfolding offers
    offers-short b = maybe-all (All Brief) (Short most_target) r.target {y = []} q.target tt
        (λ w s.
        let read = reading_offers b X r w in
        let last = end_offers X r w in
        All-append Brief (target_offers X r w) (read ++ last) (target_brief w) (All-append Brief read last (reading_brief b w) (end_brief w s)))

    pub texts-short : (b : Bool) → All (Short most_alternative) (texts (offers b X r))
    texts-short b = go (offers b X r) (offers-short b)
      where
        go : (l : List Edge) → All Brief l → All (Short most_alternative) (texts l)
        go [] a = tt
        go (c ∷ l) a = (a.0, go l a.1)

    pub text-short : (b : Bool) (k : ℕ) → Short most_alternative (offer_at b X r k)
    text-short b k = All_getD (Short most_alternative) (texts (offers b X r)) k [] (texts-short b) (short_none most_alternative)
