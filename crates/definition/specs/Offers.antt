-- The alternatives, edge by edge: what its rules offer an edge is compared with its own text and with what was offered
-- it before, and with nothing else.
-- (Proved in proofs/Offers.)
use Rattle.std.proofs.Math.Bool.{Bool, true, false}
use Rattle.std.specs.Prelude.{not, ◌&&◌, ◌||◌, ◌≡◌, ℕ, zero, suc, ◌+◌, ◌≤◌, ◌<◌}
use Rattle.std.proofs.Math.Path.{refl, sym, ap}
use Rattle.std.proofs.Common.{◌∙◌, arith}
use mathlib.Core.List.{List, [], ◌∷◌, ◌++◌, map, append-nil, append_assoc}
use Rattle.std.proofs.Math.Option.{Option, none, some}
use Rattle.std.proofs.Math.Dec.{eqb}
use borrow.Author.Tests.{eq-eqb, ne_eqb}
use Rattle.base.specs.Pick.{pick}
use Rattle.base.specs.Lists.{put, keep, any, is, maybe, same}
use Rattle.base.specs.ListLaws.{keep-none}
use Rattle.base.specs.Alls.{All, All-map, All-put, Ordered, Opt}
use Rattle.definition.specs.Notes.{note_alt, note_alt2, note_alt3}
use Rattle.definition.specs.Texts.{Text}
use Rattle.definition.specs.Tables.{Rule, Lexicon}
use Rattle.definition.specs.Edges.{Edge, View, Mem, starting, right_best, new_in}
use Rattle.definition.specs.Paths.{join, next, path_from, akin, other, cored}
use Rattle.definition.specs.Bounds.{Formed}
use Rattle.definition.specs.Cover.{right-all}
use Rattle.definition.specs.Alternatives.{edge_vowel}
use Rattle.definition.specs.Recalled.{valid_rules}

-- What a rule offers for an edge, in the order found: by its target `w`; its end target, where readings are chosen; by its end
-- target; all of these
unfoldable pub target_offers : Edge → Rule → Text → List Edge
target_offers x r w =
    pick (same w x.text || cored x w) (map (λ u. other x note_alt (u ++ edge_vowel x w)) r.others) []

unfoldable pub reading_offers : Bool → Edge → Rule → Text → List Edge
reading_offers b x r w = pick (b && same w x.text) (maybe r.end_target [] (λ u. other x note_alt2 u ∷ [])) []

unfoldable pub end_offers : Edge → Rule → Text → List Edge
end_offers x r w = pick (is (λ u. same u x.text) r.end_target) (other x note_alt3 w ∷ []) []

unfoldable pub offers : Bool → Edge → Rule → List Edge
offers b x r = maybe r.target [] (λ w. target_offers x r w ++ (reading_offers b x r w ++ end_offers x r w))

-- of some rules, one after another
unfoldable pub all_offers : Bool → Edge → List Rule → List Edge
all_offers b x [] = []
all_offers b x (r ∷ rs) = offers b x r ++ all_offers b x rs

pub all_offers-append : (b : Bool) (x : Edge) (rs qs : List Rule) → all_offers b x (rs ++ qs) ≡ all_offers b x rs ++ all_offers b x qs
unfolding all_offers
all_offers-append b x [] qs = refl
all_offers-append b x (r ∷ rs) qs =
    ap (λ l. offers b x r ++ l) (all_offers-append b x rs qs)
    ∙ sym (append_assoc (offers b x r) (all_offers b x rs) (all_offers b x qs))

-- Those whose text is not among `ws`, nor among those before
unfoldable pub news : List Text → List Edge → List Edge
news ws [] = []
news ws (c ∷ cs) = put (not (any (same c.text) ws)) c (news (ws ++ c.text ∷ []) cs)

put-append : (b : Bool) (c : Edge) (l k : List Edge) → put b c (l ++ k) ≡ put b c l ++ k
put-append true c l k = refl
put-append false c l k = refl

pub news-append : (ws : List Text) (a b : List Edge) → news ws (a ++ b) ≡ news ws a ++ news (ws ++ map (λ c. c.text) a) b
unfolding news
news-append ws [] b = ap (λ l. news l b) (sym (append-nil ws))
news-append ws (c ∷ a) b =
    let k = not (any (same c.text) ws) in
    let us = ws ++ c.text ∷ [] in
    ap (put k c) (news-append us a b
    ∙ ap (λ l. news us a ++ news l b) (append_assoc ws (c.text ∷ []) (map (λ c. c.text) a)))
    ∙ put-append k c (news us a) (news (ws ++ map (λ c. c.text) (c ∷ a)) b)

pub news-all : (P : Edge → Type 0) (ws : List Text) (cs : List Edge) → All P cs → All P (news ws cs)
unfolding news
news-all P ws [] h = tt
news-all P ws (c ∷ cs) h =
    let us = ws ++ c.text ∷ [] in
    All-put P (not (any (same c.text) ws)) c (news us cs) (λ e. h.0) (news-all P us cs h.1)

-- An edge's alternatives by some rules
unfoldable pub found_by : Bool → Edge → List Rule → List Edge
found_by b x rs = news (x.text ∷ []) (all_offers b x rs)

-- Offers that are added in turn
unfoldable pub all_in : List Edge → List Edge → List Edge
all_in seen [] = seen
all_in seen (c ∷ cs) = all_in (new_in akin seen c) cs

pub all_in-append : (seen a b : List Edge) → all_in seen (a ++ b) ≡ all_in (all_in seen a) b
unfolding all_in
all_in-append seen [] b = refl
all_in-append seen (c ∷ a) b = all_in-append (new_in akin seen c) a b

module _ (b : Bool) (x : Edge) where
  -- An edge with this one's span, as all offers are
  abbrev pub Of : Edge → Type 0
  Of c = (c.from ≡ x.from) × (c.to ≡ x.to)

  -- To look for one among those seen is to look for its text among `ws`
  abbrev pub Told : List Edge → List Text → Type 0
  Told seen ws = (c : Edge) → Of c → any (akin c) (starting seen x.from) ≡ any (same c.text) ws

-- Edges that start one after the other; each is the only one from its start
abbrev pub Before : Edge → Edge → Type 0
Before x y = x.from < y.from

abbrev pub Alone : List Edge → Edge → Type 0
Alone seen x = starting seen x.from ≡ x ∷ []

alone-then : (x : Edge) (l ys : List Edge) → All (Before x) ys → All (Alone l) ys → All (Alone (x ∷ l)) ys
unfolding starting keep
alone-then x l [] b a = tt
alone-then x l (y ∷ ys) b a = (
  ap (λ c. put c x (keep (λ z. eqb z.from y.from) l)) (ne_eqb x.from y.from (λ z. let w = b.0 in omega arith)) ∙ a.0,
  alone-then x l ys b.1 a.1,
)

pub alone-own : (xs : List Edge) → Ordered Before xs → All (Alone xs) xs
unfolding starting keep
alone-own [] o = tt
alone-own (x ∷ l) o =
    let f : Edge → Bool = λ y. eqb y.from x.from in (
      ap (λ b. put b x (keep f l)) (eq-eqb x.from x.from refl)
          ∙ ap (λ k. x ∷ k) (keep-none (Before x) f l o.0 (λ y b. ne_eqb y.from x.from (λ z. omega arith))),
      alone-then x l l o.0 (alone-own l o.1),
    )

-- A path's edges start one after the other
path-after : (n : ℕ) (es : List Edge) → All (Formed n) es → (k p : ℕ) → All (λ x. p ≤ x.from) (path_from k p es)
unfolding path_from
path-after n es h zero p = tt
path-after n es h (suc k) p = go (right_best es p) (right-all (Formed n) p es h) (λ q. path-after n es h k q)
  where
    far : (q : ℕ) → p ≤ q → All (λ x. q ≤ x.from) (path_from k q es) → All (λ x. p ≤ x.from) (path_from k q es)
    far q l f = All-map (λ x m. omega arith) (path_from k q es) f

    go : (o : Option Edge) → Opt (λ x. Formed n x × (x.from ≡ p)) o → ((q : ℕ) → All (λ x. q ≤ x.from) (path_from k q es))
        → All (λ x. p ≤ x.from) (join o (path_from k (next o p) es))
    go none s f = far (p + 1) (omega arith) (f (p + 1))
    go (some x) s f =
        let a = s.0.forward in let b = s.1 in (omega arith, far x.to (omega arith) (f x.to))

pub path-rises : (n : ℕ) (es : List Edge) → All (Formed n) es → (k p : ℕ) → Ordered Before (path_from k p es)
unfolding path_from
path-rises n es h zero p = tt
path-rises n es h (suc k) p = go (right_best es p) (right-all (Formed n) p es h) (λ q. path-rises n es h k q)
  where
    go : (o : Option Edge) → Opt (λ x. Formed n x × (x.from ≡ p)) o → ((q : ℕ) → Ordered Before (path_from k q es))
        → Ordered Before (join o (path_from k (next o p) es))
    go none s f = f (p + 1)
    go (some x) s f =
        let a = s.0.forward in
        (All-map (λ y m. omega arith) (path_from k x.to es) (path-after n es h k x.to), f x.to)

module _ (b : Bool) (L : Lexicon) (t : Text) (v : View) where
  -- The alternatives of some edges, one after another, by the rules valid for each
  unfoldable pub found_all : Mem → List Edge → List Edge
  found_all m [] = []
  found_all m (x ∷ xs) = found_by b x (valid_rules L t v m x.from x.to) ++ found_all m xs
