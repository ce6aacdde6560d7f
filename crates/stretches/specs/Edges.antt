-- The edges of the whole text and those of the stretch: inside the stretch they are the same, moved.
use Rattle.std.specs.Prelude.{Bool, true, ◌≡◌, refl, List, [], ◌∷◌, ◌++◌, map, ◌⊎◌, leb}
use Rattle.std.proofs.Math.Bool.{false, and-false}
use Rattle.std.proofs.Math.Path.{sym, ap}
use Rattle.std.proofs.Common.{◌∙◌, subst, append-nil, inl, inr}
use Rattle.std.proofs.lemmas.List.{map-append}
use Rattle.std.proofs.Math.Option
use Rattle.std.proofs.Math.Option.{Option, none, some}
use Prim.Native.Nat.{ℕ, zero, suc, ◌+◌, ◌≤◌, ◌<◌}
use native.Mathlib.Omega.{arith}
use Rattle.std.proofs.Math.Dec.{eqb, ltb}
use borrow.Author.Tests.{eqb-true, le-leb, lt-leb, ne_eqb}
use Rattle.base.specs.Pick.{pick}
use Rattle.base.specs.Lists.{keep, any, head}
use Rattle.base.specs.ListLaws.{keep_append, any_none, keep-none, any-map, keep-map, best-map, is-map, keep-keep}
use Rattle.base.specs.Alls.{All, All-map, All-append, Opt, All-kept}
use Rattle.base.specs.Bools.{eqb_alike, leb_alike}
use Rattle.definition.specs.Texts.{the_space, last_is}
use Rattle.definition.specs.Tables.{Class}
use Rattle.definition.specs.Classes.{alpha}
use Rattle.definition.specs.Edges.{Edge, ending, starting, left_best, right_best, covered, new_in, alike, add, closing, view}
use Rattle.definition.specs.Growth.{Added}
use Rattle.stretches.specs.Demand.{within, shift}
use Rattle.stretches.specs.Building.{Inside, shift-inside}

-- An edge outside the stretch: left of it, where one that ends at its start is a space, or right of it
pub data Outside (a n : ℕ) (x : Edge) : Type 0 where
  left : x.from < x.to → x.to ≤ a → (x.to ≡ a → x.text ≡ the_space ∷ []) → Outside a n x
  right : x.from < x.to → a + n ≤ x.from → Outside a n x

-- one inside it or outside: none reaches over its ends
pub data Clear (a n : ℕ) (x : Edge) : Type 0 where
  inside : Inside a n x → Clear a n x
  outside : Outside a n x → Clear a n x

pub clear_goes : {a n : ℕ} {x : Edge} → Clear a n x → x.from < x.to
clear_goes (inside i) = i.goes
clear_goes (outside (left c i j)) = c
clear_goes (outside (right c i)) = c

pub within-inside : (a n : ℕ) (x : Edge) → Inside a n x → within a n x ≡ true
unfolding within
within-inside a n x i = rw (le-leb a x.from i.starts, le-leb x.to (a + n) i.ends)

pub within_outside : (a n : ℕ) (x : Edge) → Outside a n x → within a n x ≡ false
unfolding within
within_outside a n x (left c i j) = rw (lt-leb a x.from (omega arith))
within_outside a n x (right c i) = rw (lt-leb x.to (a + n) (omega arith)) (and-false (leb a x.from))

-- The edges of the whole (`ES`) and of the stretch (`es`)
pub record Same (a n : ℕ) (ES es : List Edge) : Type 0 where
  pub cut : keep (within a n) ES ≡ map (shift a) es
  pub clear : All (Clear a n) ES
  pub full : All (Inside 0 n) es

module _ {a n : ℕ} {ES es : List Edge} (h : Same a n ES es) where
  -- what a test finds, where no edge outside passes it
  found_inside : (q r : Edge → Bool) → ((x : Edge) → Outside a n x → q x ≡ false)
      → ((x : Edge) → Inside 0 n x → q (shift a x) ≡ r x) → keep q ES ≡ map (shift a) (keep r es)
  found_inside q r far moved =
      keep-keep q (within a n) ES (All-map kept ES h.clear)
      ∙ ap (keep q) h.cut
      ∙ keep-map q r (shift a) es (All-map moved es h.full)
    where
      kept : (x : Edge) → Clear a n x → (q x ≡ false) ⊎ (within a n x ≡ true)
      kept x (inside i) = inr (within-inside a n x i)
      kept x (outside o) = inl (far x o)

  ending-inside : (P p : ℕ) → P ≡ a + p → 0 < p → p ≤ n → ending ES P ≡ map (shift a) (ending es p)
  unfolding ending shift
  ending-inside P p e z l = found_inside (λ x. eqb x.to P) (λ x. eqb x.to p) far
      (λ x c. eqb_alike (a + x.to) P x.to p (λ k. omega arith) (λ k. omega arith))
    where
      far : (x : Edge) → Outside a n x → eqb x.to P ≡ false
      far x (left c i j) = ne_eqb x.to P (λ k. omega arith)
      far x (right c i) = ne_eqb x.to P (λ k. omega arith)

  starting-inside : (P p : ℕ) → P ≡ a + p → p < n → starting ES P ≡ map (shift a) (starting es p)
  unfolding starting shift
  starting-inside P p e l = found_inside (λ x. eqb x.from P) (λ x. eqb x.from p) far
      (λ x c. eqb_alike (a + x.from) P x.from p (λ k. omega arith) (λ k. omega arith))
    where
      far : (x : Edge) → Outside a n x → eqb x.from P ≡ false
      far x (left c i j) = ne_eqb x.from P (λ k. omega arith)
      far x (right c i) = ne_eqb x.from P (λ k. omega arith)

  -- the longest that ends or starts there
  pub left_best-inside : (P p : ℕ) → P ≡ a + p → 0 < p → p ≤ n → left_best ES P ≡ Option.map (shift a) (left_best es p)
  unfolding left_best
  left_best-inside P p e z l = rw (ending-inside P p e z l)
      (best-map (λ x y. ltb x.from y.from) (shift a) from-shift (ending es p))
    where
      from-shift : (x y : Edge) → ltb (shift a x).from (shift a y).from ≡ ltb x.from y.from
      from-shift x y = unfold shift in
          leb_alike (suc (a + x.from)) (a + y.from) (suc x.from) y.from (λ e. omega arith) (λ e. omega arith)

  pub right_best-inside : (P p : ℕ) → P ≡ a + p → p < n → right_best ES P ≡ Option.map (shift a) (right_best es p)
  unfolding right_best
  right_best-inside P p e l = rw (starting-inside P p e l)
      (best-map (λ x y. ltb y.to x.to) (shift a) to-shift (starting es p))
    where
      to-shift : (x y : Edge) → ltb (shift a y).to (shift a x).to ≡ ltb y.to x.to
      to-shift x y = unfold shift in
          leb_alike (suc (a + y.to)) (a + x.to) (suc y.to) x.to (λ e. omega arith) (λ e. omega arith)

  pub covered-inside : (P p : ℕ) → P ≡ a + p → p < n → covered ES P ≡ covered es p
  unfolding covered
  covered-inside P p e l = rw (starting-inside P p e l)
      (any-map (λ x. eqb x.to (P + 1)) (λ x. eqb x.to (p + 1)) (shift a) one (starting es p))
    where
      one : (y : Edge) → eqb (shift a y).to (P + 1) ≡ eqb y.to (p + 1)
      one y = unfold shift in eqb_alike (a + y.to) (P + 1) y.to (p + 1) (λ q. omega arith) (λ q. omega arith)

  -- At the stretch's start no edge of the stretch ends, and what ends there in the whole is a space
  module _ (ks : List Class) (blank : alpha ks the_space ≡ false) where
    quiet : any (λ x. last_is (alpha ks) x.text) (ending ES a) ≡ false
    unfolding ending last_is head
    quiet = any_none (λ x. Clear a n x × (eqb x.to a ≡ true)) _ (ending ES a)
        (All-kept (Clear a n) (λ x. eqb x.to a) ES h.clear) (λ x c. one x c.0 (eqb-true x.to a c.1))
      where
        one : (x : Edge) → Clear a n x → x.to ≡ a → last_is (alpha ks) x.text ≡ false
        one x (inside i) e = absurd (omega arith)
        one x (outside (left c i j)) e = rw (j e) blank
        one x (outside (right c i)) e = absurd (omega arith)

    none_yet : any (λ x. last_is (alpha ks) x.text) (ending es 0) ≡ false
    unfolding ending any
    none_yet = ap (any (λ x. last_is (alpha ks) x.text))
        (keep-none (Inside 0 n) (λ x. eqb x.to 0) es h.full (λ x f. ne_eqb x.to 0 (λ e. omega arith)))

    pub letter-inside : (P p : ℕ) → P ≡ a + p → p < n → (view ks ES).letter P ≡ (view ks es).letter p
    unfolding view
    letter-inside P zero i l = let q : P ≡ a = omega arith in rw q (quiet ∙ sym none_yet)
    letter-inside P (suc p) i l = rw (ending-inside P (suc p) i (omega arith) (omega arith))
        (any-map (λ x. last_is (alpha ks) x.text) (λ x. last_is (alpha ks) x.text) (shift a)
        (λ x. unfold shift in refl) (ending es (suc p)))

    pub closed-inside : (P p : ℕ) → P ≡ a + p → 0 < p → p ≤ n → (view ks ES).closed P ≡ (view ks es).closed p
    unfolding view
    closed-inside P p i z l = rw (left_best-inside P p i z l)
        (is-map (λ x. last_is closing x.text) (shift a) (λ x. unfold shift in refl) (left_best es p))

-- An edge added inside: to both; edges added outside: only to the whole
pub new-inside : {a n : ℕ} (like : Edge → Edge → Bool) → ((x y : Edge) → like (shift a x) (shift a y) ≡ like x y)
    → {ES es : List Edge} (x : Edge) → Same a n ES es → Inside 0 n x
    → Same a n (new_in like ES (shift a x)) (new_in like es x)
unfolding new_in shift pick
new-inside {a} {n} like moved {ES} {es} x h b = rw twice (go (any (like x) (starting es x.from)))
  where
    twice : any (like (shift a x)) (starting ES (shift a x).from) ≡ any (like x) (starting es x.from)
    twice = rw (starting-inside h (a + x.from) x.from refl (omega arith))
        (any-map (like (shift a x)) (like x) (shift a) (moved x) (starting es x.from))

    one : Same a n (ES ++ shift a x ∷ []) (es ++ x ∷ [])
    one = record {
      cut = keep_append (within a n) ES (shift a x ∷ [])
          ∙ unfold keep in rw (within-inside a n (shift a x) (shift-inside a n x b), h.cut)
          (sym (map-append (shift a) es (x ∷ [])));
      clear = All-append (Clear a n) ES (shift a x ∷ []) h.clear (inside (shift-inside a n x b), tt);
      full = All-append (Inside 0 n) es (x ∷ []) h.full (b, tt);
    }

    go : (c : Bool) → Same a n (pick c ES (ES ++ shift a x ∷ [])) (pick c es (es ++ x ∷ []))
    go true = h
    go false = one

alike_moved : (a : ℕ) (x y : Edge) → alike (shift a x) (shift a y) ≡ alike x y
unfolding alike shift
alike_moved a x y = rw (eqb_alike (a + x.to) (a + y.to) x.to y.to (λ k. omega arith) (λ k. omega arith))

pub add-inside : {a n : ℕ} {ES es : List Edge} (o : Option Edge) → Same a n ES es → Opt (Inside 0 n) o
    → Same a n (add ES (Option.map (shift a) o)) (add es o)
unfolding add
add-inside none h b = h
add-inside {a} (some x) h b = new-inside alike (alike_moved a) x h b

pub added_outside : {a n : ℕ} {ES FS es : List Edge} → Added (Outside a n) ES FS → Same a n ES es → Same a n FS es
added_outside {a} {n} {ES} {FS} {es} g h = subst (λ l. Same a n l es) (sym g.is) (record {
  cut = keep_append (within a n) ES g.more
      ∙ ap (λ l. keep (within a n) ES ++ l)
      (keep-none (Outside a n) (within a n) g.more g.all (within_outside a n))
      ∙ append-nil (keep (within a n) ES) ∙ h.cut;
  clear = All-append (Clear a n) ES g.more h.clear (All-map (λ x o. outside o) g.more g.all);
  full = h.full;
})
