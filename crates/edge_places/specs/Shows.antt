-- Places show edges: the entry of each position answers what the definition asks of the edges there (`view`, `covered`).
-- No edges are shown by zeros, and one edge more by what is noted of it at its end and, over one character, at its start.
use Rattle.std.specs.Prelude.{ℕ, zero, suc, ◌+◌, ◌-◌, ◌/◌, ◌<◌, ◌≤◌, ◌&&◌, ◌||◌, ◌≡◌, length, set, take, replicate}
use Rattle.std.proofs.Math.Bool.{Bool, true, false, or-true, or-false}
use mathlib.Core.List.{List, [], ◌∷◌, ◌++◌, map, append-nil}
use Rattle.std.proofs.Math.Option.{Option, none, some}
use Rattle.std.proofs.Math.Path.{refl, sym, ap, subst}
use Rattle.std.proofs.Common.{◌∙◌, arith, length-set, get_or-take}
use Rattle.std.proofs.Math.Decide.{ℕ_discrete, dec_lt}
use Rattle.std.proofs.Math.Dec.{eqb, ltb}
use Rattle.std.proofs.Math.ListN.{get_or, get_or-map}
use Rattle.std.proofs.lemmas.List.{length-map, length-replicate, get_or-replicate}
use Rattle.std.proofs.Math.Seq.{get_or-set_same, get_or-set_other, map-set_same, take-set-lt}
use borrow.Author.Tests.{eq-eqb, ne_eqb, lt-ltb, le-ltb}
use Rattle.base.specs.Pick.{pick, pick_all}
use Rattle.base.specs.Lists.{put, keep, any, best_of, best, empty, is}
use Rattle.base.specs.ListLaws.{any_append, keep_append, take-replicate}
use Rattle.definition.specs.Texts.{last_is}
use Rattle.definition.specs.Tables.{Class}
use Rattle.definition.specs.Classes.{alpha}
use Rattle.definition.specs.Expansion.{o_ang_side}
use Rattle.definition.specs.Edges.{Edge, ending, starting, left_best, covered, closing, view, Mem}
use Rattle.edge_places.specs.declared.Ending.{Ending}
use Rattle.edge_places.specs.Entry.{start_in, letter_in, over_in, closed_in, side_in, empty_in, back_in, told_in, told-letter, told_over, with_start, start_is}
use Rattle.edge_places.specs.Entry.{start_keeps, with_over, over-is, over-start, over-letter, over-rest, low-letter, low-over, rest_over, rest-closed, rest_side, rest-empty}
use Rattle.edge_places.specs.Entry.{rest_back, lettered, lengthened, noted, noted-start, lettered-letter, lettered-rest, lengthened-low, longer-noted, shorter_left}

-- how the text of an edge ends
pub record Ends (ks : List Class) (x : Edge) (e : Ending) : Type 0 where
  pub letter : e.letter ≡ last_is (alpha ks) x.text
  pub closed : e.closed ≡ last_is closing x.text
  pub side : e.side ≡ last_is o_ang_side x.text
  pub empty : e.empty ≡ empty x.text

-- the longest edge that ends at `p`, by the entry there
pub record Longest (p x : ℕ) (e : Edge) : Type 0 where
  pub far : back_in x + e.from ≡ p
  pub there : 0 < back_in x
  pub closed : closed_in x ≡ last_is closing e.text
  pub side : side_in x ≡ last_is o_ang_side e.text
  pub empty : empty_in x ≡ empty e.text

abbrev pub Best : ℕ → ℕ → Option Edge → Type 0
Best p x none = (back_in x ≡ 0) × (closed_in x ≡ false)
Best p x (some e) = Longest p x e

-- the entry of one position
pub record Shown (ks : List Class) (es : List Edge) (p x : ℕ) : Type 0 where
  pub letter : letter_in x ≡ (view ks es).letter p
  pub over : over_in x ≡ covered es p
  pub longest : Best p x (left_best es p)

pub record Shows (ks : List Class) (es : List Edge) (n : ℕ) (places : List ℕ) : Type 0 where
  pub long : n < length places
  pub each : (p : ℕ) → p ≤ n → Shown ks es p (get_or places p 0)

-- what is remembered, of `n` positions, is the definition's memory
abbrev pub memory : ℕ → List ℕ → Mem
memory n places = take n (map start_in places)

-- what the edges tell, of all positions
abbrev pub told : List ℕ → List ℕ
told places = map told_in places

-- Two entries that tell the same of the longest edge, or of all
best-rest : (p x y : ℕ) → x / 16 ≡ y / 16 → (o : Option Edge) → Best p x o → Best p y o
best-rest p x y e none b = (sym (rest_back x y e) ∙ b.0, sym (rest-closed x y e) ∙ b.1)
best-rest p x y e (some z) b = record {
  far = ap (λ (k : ℕ). k + z.from) (sym (rest_back x y e)) ∙ b.far;
  there = subst (λ (k : ℕ). 0 < k) (rest_back x y e) b.there;
  closed = sym (rest-closed x y e) ∙ b.closed;
  side = sym (rest_side x y e) ∙ b.side;
  empty = sym (rest-empty x y e) ∙ b.empty;
}

shown-told : (ks : List Class) (es : List Edge) (p x y : ℕ) → told_in x ≡ told_in y → Shown ks es p x → Shown ks es p y
shown-told ks es p x y e s = record {
  letter = sym (told-letter x y e) ∙ s.letter;
  over = sym (told_over x y e) ∙ s.over;
  longest = best-rest p x y (omega arith) (left_best es p) s.longest;
}

-- No edges
pub shows_none : (ks : List Class) (n k : ℕ) → n < k → Shows ks [] n (replicate k 0)
unfolding view covered left_best ending starting keep any best
shows_none ks n k h = record {
  long = omega (arith, length-replicate {A = ℕ} k 0);
  each = λ p l. subst (Shown ks [] p) (sym (get_or-replicate k p 0 0 (omega arith))) record { letter = refl; over = refl; longest = (refl, refl) };
}

-- and nothing is remembered: the definition's first memory
pub memory-none : (n k : ℕ) → n ≤ k → memory n (replicate k 0) ≡ replicate n 0
memory-none n k h = ap (take n) (zeros k) ∙ take-replicate 0 n k h
  where
    zeros : (k : ℕ) → map start_in (replicate k 0) ≡ replicate k 0
    zeros zero = refl
    zeros (suc k) = ap (λ (l : List ℕ). 0 ∷ l) (zeros k)

-- One more at the end of a list
module _ {A : Type 0} (beats : A → A → Bool) where
  best_of-more : (y : A) (l : List A) (x : A) → best_of beats y (l ++ x ∷ []) ≡ pick (beats x (best_of beats y l)) x (best_of beats y l)
  unfolding best_of
  best_of-more y [] x = refl
  best_of-more y (z ∷ l) x = best_of-more (pick (beats z y) z y) l x

  abbrev better : Option A → A → Option A
  better none x = some x
  better (some y) x = some (pick (beats x y) x y)

  best-more : (l : List A) (x : A) → best beats (l ++ x ∷ []) ≡ better (best beats l) x
  unfolding best best_of
  best-more [] x = refl
  best-more (y ∷ l) x = ap some (best_of-more y l x)

module _ (es : List Edge) (x : Edge) (p : ℕ) where
  ending_here : x.to ≡ p → ending (es ++ x ∷ []) p ≡ ending es p ++ x ∷ []
  unfolding ending keep
  ending_here h = keep_append (λ (y : Edge). eqb y.to p) es (x ∷ []) ∙ ap (λ (b : Bool). keep (λ (y : Edge). eqb y.to p) es ++ put b x []) (eq-eqb x.to p h)

  ending-other : (x.to ≡ p → ⊥) → ending (es ++ x ∷ []) p ≡ ending es p
  unfolding ending keep
  ending-other h =
      keep_append (λ (y : Edge). eqb y.to p) es (x ∷ [])
      ∙ ap (λ (b : Bool). keep (λ (y : Edge). eqb y.to p) es ++ put b x []) (ne_eqb x.to p h)
      ∙ append-nil (keep (λ (y : Edge). eqb y.to p) es)

  -- an edge over the one character here
  covered_more : covered (es ++ x ∷ []) p ≡ (covered es p || (eqb x.from p && eqb x.to (p + 1)))
  unfolding covered starting keep any
  covered_more =
      let q : Edge → Bool = λ y. eqb y.from p in
      let f : Edge → Bool = λ y. eqb y.to (p + 1) in
      ap (any f) (keep_append q es (x ∷ [])) ∙ any_append f (keep q es) (put (q x) x []) ∙ ap (λ (b : Bool). any f (keep q es) || b) (go (q x))
    where
      go : (b : Bool) → any (λ (y : Edge). eqb y.to (p + 1)) (put b x []) ≡ (b && eqb x.to (p + 1))
      go true = or-false (eqb x.to (p + 1))
      go false = refl

-- What is noted of an edge, in an entry and in all
unfoldable pub noted_at : ℕ → ℕ → Ending → ℕ → ℕ → ℕ
noted_at from to e p y = pick (eqb to p) (noted y (to - from) e) y

unfoldable pub over_at : ℕ → ℕ → ℕ → ℕ → ℕ
over_at from to p y = pick (eqb from p && eqb to (p + 1)) (with_over y) y

unfoldable pub noted_end : ℕ → ℕ → Ending → List ℕ → List ℕ
noted_end from to e places = set places to (noted (get_or places to 0) (to - from) e)

unfoldable pub noted_over : ℕ → ℕ → List ℕ → List ℕ
noted_over from to places = pick (eqb to (from + 1)) (set places from (with_over (get_or places from 0))) places

abbrev pub noted_edge : ℕ → ℕ → Ending → List ℕ → List ℕ
noted_edge from to e places = noted_over from to (noted_end from to e places)

module _ (ks : List Class) (es : List Edge) (x : Edge) (e : Ending) (ends : Ends ks x e) (h : x.from < x.to) (p y : ℕ) (s : Shown ks es p y) where
  abbrev more : List Edge
  more = es ++ x ∷ []

  abbrev back : ℕ
  back = x.to - x.from

  -- the entry with the edge's letter, then with the edge where it is longer
  abbrev y₁ : ℕ
  y₁ = lettered y e.letter

  abbrev y₂ : ℕ
  y₂ = lengthened y₁ back e

  module _ (here : x.to ≡ p) where
    longest-new : (o : Option Edge) → Best p y o → Best p y₂ (better (λ (a b : Edge). ltb a.from b.from) o x)
    unfolding pick
    longest-new none b =
        let q : y₁ / 16 ≡ y / 16 = omega (arith, lettered-rest y e.letter) in
        let l = longer-noted y₁ back e (omega (arith, rest_back y₁ y q, b.0, h)) in
        record {
          far = omega (arith, l.far, h);
          there = omega (arith, l.far, h);
          closed = l.closed ∙ ends.closed;
          side = l.side ∙ ends.side;
          empty = l.empty ∙ ends.empty;
        }
    longest-new (some z) b = go (dec_lt x.from z.from)
      where
        q : y₁ / 16 ≡ y / 16
        q = omega (arith, lettered-rest y e.letter)

        go : Dec (x.from < z.from) → Best p y₂ (some (pick (ltb x.from z.from) x z))
        go (yes k) =
            let l = longer-noted y₁ back e (omega (arith, rest_back y₁ y q, b.far, h)) in
            rw (lt-ltb x.from z.from k) record {
              far = omega (arith, l.far, h);
              there = omega (arith, l.far, h);
              closed = l.closed ∙ ends.closed;
              side = l.side ∙ ends.side;
              empty = l.empty ∙ ends.empty;
            }
        go (no k) =
            let w = shorter_left y₁ back e (omega (arith, rest_back y₁ y q, b.far, h)) in
            rw (le-ltb x.from z.from (omega arith)) (subst (λ (u : ℕ). Longest p u z) (sym w) (best-rest p y y₁ (sym q) (some z) b))

    letter-new : letter_in y₂ ≡ (view ks more).letter p
    unfolding view any
    letter-new =
        let f : Edge → Bool = λ z. last_is (alpha ks) z.text in
        low-letter y₂ y₁ (lengthened-low y₁ back e) ∙ lettered-letter y e.letter
        ∙ ap (λ (b : Bool). b || e.letter) s.letter ∙ ap (λ (b : Bool). any f (ending es p) || b) (ends.letter ∙ sym (or-false (f x)))
        ∙ sym (any_append f (ending es p) (x ∷ [])) ∙ ap (any f) (sym (ending_here es x p here))

    best-here : Best p y₂ (left_best more p)
    unfolding left_best
    best-here =
        let beats : Edge → Edge → Bool = λ a b. ltb a.from b.from in
        subst (Best p y₂) (sym (ap (best beats) (ending_here es x p here) ∙ best-more beats (ending es p) x))
        (longest-new (left_best es p) s.longest)

    -- an edge that ends here starts before it, and so is over no character here
    over-here : over_in y₂ ≡ covered more p
    over-here =
        low-over y₂ y₁ (lengthened-low y₁ back e) ∙ rest_over y₁ y (lettered-rest y e.letter) ∙ s.over
        ∙ sym (covered_more es x p ∙ ap (λ (b : Bool). covered es p || (b && eqb x.to (p + 1))) (ne_eqb x.from p (λ k. omega arith))
        ∙ or-false (covered es p))

    shown-end : Shown ks more p y₂
    shown-end = record { letter = letter-new; over = over-here; longest = best-here }

  module _ (there : x.to ≡ p → ⊥) where
    letter_old : (view ks more).letter p ≡ (view ks es).letter p
    unfolding view
    letter_old = ap (any (λ (z : Edge). last_is (alpha ks) z.text)) (ending-other es x p there)

    best_old : left_best more p ≡ left_best es p
    unfolding left_best
    best_old = ap (best (λ (a b : Edge). ltb a.from b.from)) (ending-other es x p there)

    -- the entry, where the edge goes over the one character here or not
    over-new : (b : Bool) → (eqb x.from p && eqb x.to (p + 1)) ≡ b → Shown ks more p (pick b (with_over y) y)
    unfolding pick
    over-new true q = record {
      letter = over-letter y ∙ s.letter ∙ sym letter_old;
      over = over-is y ∙ sym (covered_more es x p ∙ ap (λ (b : Bool). covered es p || b) q ∙ or-true (covered es p));
      longest = subst (Best p (with_over y)) (sym best_old) (best-rest p y (with_over y) (sym (over-rest y)) (left_best es p) s.longest);
    }
    over-new false q = record {
      letter = s.letter ∙ sym letter_old;
      over = s.over ∙ sym (covered_more es x p ∙ ap (λ (b : Bool). covered es p || b) q ∙ or-false (covered es p));
      longest = subst (Best p y) (sym best_old) s.longest;
    }

    shown-over : Shown ks more p (over_at x.from x.to p y)
    unfolding over_at
    shown-over = over-new (eqb x.from p && eqb x.to (p + 1)) refl

  -- one edge more, at any position
  pub shown-more : Shown ks more p (over_at x.from x.to p (noted_at x.from x.to e p y))
  unfolding over_at noted_at pick
  shown-more = go (ℕ_discrete x.to p)
    where
      go : Dec (x.to ≡ p) → Shown ks more p (over_at x.from x.to p (noted_at x.from x.to e p y))
      go (yes k) = rw (eq-eqb x.to p k, ne_eqb x.from p (λ z. omega arith)) (shown-end k)
      go (no k) = rw (ne_eqb x.to p k) (shown-over k)

-- In all places
module _ (from to : ℕ) (e : Ending) (places : List ℕ) (h : from < to) (k : to < length places) (p : ℕ) where
  getD_end : get_or (noted_end from to e places) p 0 ≡ noted_at from to e p (get_or places p 0)
  unfolding noted_end noted_at pick
  getD_end = go (ℕ_discrete to p)
    where
      go : Dec (to ≡ p) → get_or (noted_end from to e places) p 0 ≡ noted_at from to e p (get_or places p 0)
      go (yes q) = rw (eq-eqb to p q) (ap (λ (i : ℕ). get_or (noted_end from to e places) i 0) (sym q) ∙ get_or-set_same places to _ 0 k ∙ ap (λ (i : ℕ). noted (get_or places i 0) (to - from) e) q)
      go (no q) = rw (ne_eqb to p q) (get_or-set_other places to p _ 0 (λ z. q (sym z)))

-- over one character, and over more
module _ (from to : ℕ) (places : List ℕ) where
  pub over-one : to ≡ from + 1 → set places from (with_over (get_or places from 0)) ≡ noted_over from to places
  unfolding noted_over pick
  over-one e = sym (ap (λ (b : Bool). pick b (set places from (with_over (get_or places from 0))) places) (eq-eqb to (from + 1) e))

  pub over-more : (to ≡ from + 1 → ⊥) → places ≡ noted_over from to places
  unfolding noted_over pick
  over-more e = sym (ap (λ (b : Bool). pick b (set places from (with_over (get_or places from 0))) places) (ne_eqb to (from + 1) e))

module _ (from to : ℕ) (places : List ℕ) (h : from < length places) (p : ℕ) where
  -- at the edge's start, and elsewhere
  over-start-at : from ≡ p → (b : Bool)
      → get_or (pick b (set places from (with_over (get_or places from 0))) places) p 0 ≡ pick b (with_over (get_or places p 0)) (get_or places p 0)
  unfolding pick
  over-start-at q true = ap (λ (i : ℕ). get_or (set places from (with_over (get_or places from 0))) i 0) (sym q) ∙ get_or-set_same places from _ 0 h ∙ ap (λ (i : ℕ). with_over (get_or places i 0)) q
  over-start-at q false = refl

  over_else : (from ≡ p → ⊥) → (b : Bool) → get_or (pick b (set places from (with_over (get_or places from 0))) places) p 0 ≡ get_or places p 0
  unfolding pick
  over_else q true = get_or-set_other places from p _ 0 (λ z. q (sym z))
  over_else q false = refl

  get_d_over : get_or (noted_over from to places) p 0 ≡ over_at from to p (get_or places p 0)
  unfolding noted_over over_at pick
  get_d_over = go (ℕ_discrete from p)
    where
      go : Dec (from ≡ p) → get_or (noted_over from to places) p 0 ≡ over_at from to p (get_or places p 0)
      go (yes q) = rw (eq-eqb from p q) (over-start-at q (eqb to (from + 1)) ∙ ap (λ (i : ℕ). pick (eqb to (i + 1)) (with_over (get_or places p 0)) (get_or places p 0)) q)
      go (no q) = rw (ne_eqb from p q) (over_else q (eqb to (from + 1)))

-- as many as before, and the same remembered
end-length : (from to : ℕ) (e : Ending) (places : List ℕ) → length (noted_end from to e places) ≡ length places
unfolding noted_end
end-length from to e places = length-set places to _

over-length : (from to : ℕ) (places : List ℕ) → length (noted_over from to places) ≡ length places
unfolding noted_over
over-length from to places = go (eqb to (from + 1))
  where
    go : (b : Bool) → length (pick b (set places from (with_over (get_or places from 0))) places) ≡ length places
    go b = pick_all (λ (l : List ℕ). length l ≡ length places) b (length-set places from _) refl

pub noted-length : (from to : ℕ) (e : Ending) (places : List ℕ) → length (noted_edge from to e places) ≡ length places
noted-length from to e places = over-length from to (noted_end from to e places) ∙ end-length from to e places

pub noted-memory : (from to : ℕ) (e : Ending) (places : List ℕ) (n : ℕ) → memory n (noted_edge from to e places) ≡ memory n places
unfolding noted_over noted_end
noted-memory from to e places n = ap (take n) (go (eqb to (from + 1)) ∙ map-set_same start_in places to _ 0 (noted-start (get_or places to 0) (to - from) e))
  where
    l : List ℕ
    l = noted_end from to e places

    go : (b : Bool) → map start_in (pick b (set l from (with_over (get_or l from 0))) l) ≡ map start_in l
    go b = pick_all (λ (k : List ℕ). map start_in k ≡ map start_in l) b (map-set_same start_in l from _ 0 (over-start (get_or l from 0))) refl

-- One edge more
module _ {ks : List Class} {es : List Edge} {n : ℕ} {places : List ℕ} (s : Shows ks es n places) where
  pub shows_more : (x : Edge) (e : Ending) → Ends ks x e → x.from < x.to → x.to ≤ n
      → Shows ks (es ++ x ∷ []) n (noted_edge x.from x.to e places)
  shows_more x e ends h k =
      let l = s.long in
      let m = noted_end x.from x.to e places in
      record {
        long = omega (arith, noted-length x.from x.to e places);
        each = λ p q. subst (Shown ks (es ++ x ∷ []) p)
            (sym (get_d_over x.from x.to m (omega (arith, end-length x.from x.to e places)) p
            ∙ ap (over_at x.from x.to p) (getD_end x.from x.to e places h (omega arith) p)))
            (shown-more ks es x e ends h p (get_or places p 0) (s.each p q));
      }

  -- places that tell the same show the same
  pub shows_told : (places' : List ℕ) → told places' ≡ told places → Shows ks es n places'
  shows_told places' q =
      let l = s.long in record {
        long = omega (arith, sym (length-map places' told_in) ∙ ap length q ∙ length-map places told_in);
        each = λ p h. shown-told ks es p (get_or places p 0) (get_or places' p 0)
            (sym (get_or-map told_in places p 0) ∙ ap (λ (l : List ℕ). get_or l p 0) (sym q) ∙ get_or-map told_in places' p 0) (s.each p h);
      }

  -- What is asked of the edges is what the entry answers
  module _ (p : ℕ) (h : p ≤ n) where
    pub letter-shown : letter_in (get_or places p 0) ≡ (view ks es).letter p
    letter-shown = (s.each p h).letter

    pub over-shown : over_in (get_or places p 0) ≡ covered es p
    over-shown = (s.each p h).over

    pub closed-shown : closed_in (get_or places p 0) ≡ (view ks es).closed p
    unfolding view
    closed-shown = go (left_best es p) (s.each p h).longest
      where
        go : (o : Option Edge) → Best p (get_or places p 0) o → closed_in (get_or places p 0) ≡ is (λ (x : Edge). last_is closing x.text) o
        go none b = b.1
        go (some x) b = b.closed

-- Something remembered: the definition's memory changes so, and what the edges tell does not
abbrev pub remembered : List ℕ → ℕ → ℕ → List ℕ
remembered places p v = set places p (with_start (get_or places p 0) v)

map-set : (f : ℕ → ℕ) (l : List ℕ) (i a : ℕ) → map f (set l i a) ≡ set (map f l) i (f a)
map-set f [] i a = refl
map-set f (x ∷ l) zero a = refl
map-set f (x ∷ l) (suc i) a = ap (λ (r : List ℕ). f x ∷ r) (map-set f l i a)

module _ (places : List ℕ) (p v : ℕ) (h : v < 4) where
  pub remembered-told : told (remembered places p v) ≡ told places
  remembered-told = map-set_same told_in places p _ 0 (start_keeps (get_or places p 0) v h)

  pub remembered-memory : (n : ℕ) → p < n → memory n (remembered places p v) ≡ set (memory n places) p v
  remembered-memory n k =
      ap (take n) (map-set start_in places p _ ∙ ap (set (map start_in places) p) (start_is (get_or places p 0) v h))
      ∙ take-set-lt n (map start_in places) p v k

pub recalled : (places : List ℕ) (n p : ℕ) → p < n → get_or (memory n places) p 0 ≡ start_in (get_or places p 0)
recalled places n p h = get_or-take n (map start_in places) p 0 h ∙ get_or-map start_in places p 0
