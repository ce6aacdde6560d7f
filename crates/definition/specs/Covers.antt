-- A step that adds an edge over one character covers it, and it stays covered.
use Rattle.std.specs.Prelude.{Bool, ◌≡◌, refl, List, [], ◌∷◌, ◌++◌, eqb}
use Rattle.std.proofs.Math.Bool.{true}
use Rattle.std.proofs.Common.{sym, ◌∙◌, subst, arith}
use Rattle.std.proofs.Math.Option.{Option, none, some}
use Prim.Native.Nat.{ℕ, zero, suc, ◌+◌, ◌≤◌, ◌<◌}
use Rattle.std.proofs.Math.Decide.{ℕ_discrete}
use borrow.Author.Tests.{eqb-true, eq-eqb}
use Rattle.base.specs.Pick.{pick, pick_ind}
use Rattle.base.specs.Bools.{and_left}
use Rattle.base.specs.Lists.{any, maybe}
use Rattle.base.specs.ListLaws.{any_implies}
use Rattle.definition.specs.Texts.{Text}
use Rattle.definition.specs.Tables.{Lexicon, Tables, lexicon}
use Rattle.definition.specs.Edges.{Edge, View, State, starting, covered, alike, new_in, add, view}
use Rattle.definition.specs.Rules.{simple}
use Rattle.definition.specs.Building.{single, fallback_by, put_in, each, fallback_edge, fall}
use Rattle.definition.specs.Growth.{Added, found-added, found-new}
use Rattle.definition.specs.Posts.{Post, post_ret, post_then, post_pick}

-- an edge over the one character at `p`
abbrev pub Single : ℕ → Option Edge → Type 0
Single p none = ⊥
Single p (some x) = (x.from ≡ p) × (x.to ≡ p + 1)

-- a fallback is one
pub fallback_single : (L : Lexicon) (t : Text) (v : View) (p : ℕ) → Post (Option Edge) (Single p) (fallback_edge L t v p)
unfolding fallback_edge fallback_by single
fallback_single L t v p =
    post_pick _ (post_ret _ (refl, refl)) (post_pick _ (post_ret _ (refl, refl))
    (post_pick _ (post_ret _ (refl, refl)) (post_pick _ (post_ret _ (refl, refl))
    (post_then (simple L t v p (p + 1)) _ (λ o. post_ret _ (either o))))))
  where
    either : (o : Option Text) → Single p (some (fallback_by t p o))
    either none = unfold maybe in (refl, refl)
    either (some w) = unfold maybe in (refl, refl)

pub add_covers : (es : List Edge) (p : ℕ) (o : Option Edge) → Single p o → covered (add es o) p ≡ true
unfolding add new_in covered
add_covers es p none s = absurd s
add_covers es p (some x) s =
    let q : Edge → Bool = λ y. eqb y.to (p + 1) in
    subst (λ z. any q (starting (pick (any (alike x) (starting es x.from)) es (es ++ x ∷ [])) z) ≡ true) s.0
    (pick_ind (λ l. any q (starting l x.from) ≡ true) (any (alike x) (starting es x.from)) es (es ++ x ∷ [])
    (λ e. any_implies (alike x) q (λ y a. same_end y a) (starting es x.from) e)
    (λ e. found-new q es x (eq-eqb x.to (p + 1) s.1)))
  where
    same_end : (y : Edge) → alike x y ≡ true → eqb y.to (p + 1) ≡ true
    same_end y a = unfold alike in
        eq-eqb y.to (p + 1) (sym (eqb-true x.to y.to (and_left _ _ (and_left _ _ a))) ∙ s.1)

pub fall_covers : (D : Tables) (t : Text) (p : ℕ) (st : State) → covered (fall D t p st).0 p ≡ true
unfolding fall put_in
fall_covers D t p st =
    let L = lexicon D in
    let v = view D.classes st.0 in
    pick_ind (λ S. covered S.0 p ≡ true) (covered st.0 p) st (put_in (λ es. fallback_edge L t (view D.classes es) p) st)
    (λ e. e) (λ e. add_covers st.0 p (fallback_edge L t v p st.1).0 ((fallback_single L t v p).gives st.1))

-- what is covered stays so
pub covered-added : {P : Edge → Type 0} (p : ℕ) {es fs : List Edge} → Added P es fs → covered es p ≡ true → covered fs p ≡ true
unfolding covered
covered-added p a e = found-added (λ x. eqb x.to (p + 1)) p a e

-- A pass whose step covers the positions that `want` says
module _ (f : ℕ → State → State) (grows : (p : ℕ) (st : State) → Added (λ x. Unit {0}) st.0 (f p st).0) (want : ℕ → Type 0)
    (own : (p : ℕ) (st : State) → want p → covered (f p st).0 p ≡ true) where
  each_stays : (k p : ℕ) (st : State) (q : ℕ) → covered st.0 q ≡ true → covered (each f k p st).0 q ≡ true
  unfolding each
  each_stays zero p st q e = e
  each_stays (suc k) p st q e = each_stays k (p + 1) (f p st) q (covered-added q (grows p st) e)

  pub each_covers : (k p : ℕ) (st : State) (q : ℕ) → p ≤ q → q < p + k → want q → covered (each f k p st).0 q ≡ true
  unfolding each
  each_covers zero p st q l m w = absurd (omega arith)
  each_covers (suc k) p st q l m w = go (ℕ_discrete p q) (λ z. each_covers k (p + 1) (f p st) q (omega arith) (omega arith) w)
    where
      go : Dec (p ≡ q) → (¬ (p ≡ q) → covered (each f k (p + 1) (f p st)).0 q ≡ true) → covered (each f k (p + 1) (f p st)).0 q ≡ true
      go (yes e) g = each_stays k (p + 1) (f p st) q (subst (λ z. covered (f p st).0 z ≡ true) e (own p st (subst want (sym e) w)))
      go (no e) g = g e
