-- The longest edge that starts somewhere, or that ends there, is of its span the one that the Rust ranks first
-- (`best_right_neighbor_edge`, `best_left_neighbor_edge`): the definition asks for no rank.
-- (proofs/RankedNeighbours: so it is in the lattice.)
use Rattle.std.proofs.Math.Bool.{Bool, true, false}
use Rattle.std.specs.Prelude.{◌&&◌, ◌≡◌, ℕ}
use Rattle.std.proofs.Common.{true≢false, sym, ap, ◌∙◌, arith}
use Rattle.std.proofs.Math.Path.{refl}
use mathlib.Core.List.{List, [], ◌∷◌}
use Rattle.std.proofs.Math.Option.{Option, none, some}
use Rattle.std.proofs.Math.Dec.{eqb, ltb}
use borrow.Author.Tests.{eq-eqb, ne_eqb, eqb-true, eqb-false, ltb-true, ltb-false, le-ltb}
use Rattle.base.specs.Pick.{pick}
use Rattle.base.specs.Lists.{put, keep, head, best_of, best}
use Rattle.base.specs.ListLaws.{keep_swap}
use Rattle.base.specs.Alls.{All-best, All-kept, All-each, Opt, Opt-map}
use Rattle.definition.specs.Edges.{Edge, starting, ending, right_best, left_best}
use Rattle.definition.specs.Ranking.{spanning, ranked, Ranked, first-ranked}

-- A test of which of two numbers wins
record Contest (over : ℕ → ℕ → Bool) : Type 0 where
  itself : (a : ℕ) → over a a ≡ false
  one_way : (a b : ℕ) → over a b ≡ true → over b a ≡ false
  through : (a b c : ℕ) → over a b ≡ false → over b c ≡ false → over a c ≡ false
  tie : (a b : ℕ) → over a b ≡ false → over b a ≡ false → a ≡ b

higher_wins : Contest (λ a b. ltb b a)
higher_wins = record {
  itself = λ a. le-ltb a a (omega arith);
  one_way = λ a b e. let l = ltb-true b a e in le-ltb a b (omega arith);
  through = λ a b c e f. let l = ltb-false b a e in let m = ltb-false c b f in le-ltb c a (omega arith);
  tie = λ a b e f. let l = ltb-false b a e in let m = ltb-false a b f in omega arith;
}

lower_wins : Contest ltb
lower_wins = record {
  itself = λ a. le-ltb a a (omega arith);
  one_way = λ a b e. let l = ltb-true a b e in le-ltb b a (omega arith);
  through = λ a b c e f. let l = ltb-false a b e in let m = ltb-false b c f in le-ltb a c (omega arith);
  tie = λ a b e f. let l = ltb-false a b e in let m = ltb-false b a f in omega arith;
}

-- The best of a list by such a number is the first that has its number
module _ (over : ℕ → ℕ → Bool) (o : Contest over) (size : Edge → ℕ) where
  abbrev beats : Edge → Edge → Bool
  beats x y = over (size x) (size y)

  abbrev sized : Edge → List Edge → List Edge
  sized z l = keep (λ y. eqb (size y) (size z)) l

  unbeaten : (x : Edge) (l : List Edge) → over (size x) (size (best_of beats x l)) ≡ false
  unfolding best_of pick
  unbeaten x [] = o.itself (size x)
  unbeaten x (y ∷ l) = go (beats y x) refl (unbeaten y l) (unbeaten x l)
    where
      go : (b : Bool) → beats y x ≡ b → over (size y) (size (best_of beats y l)) ≡ false → over (size x) (size (best_of beats x l)) ≡ false
          → over (size x) (size (best_of beats (pick b y x) l)) ≡ false
      go true e h k = o.through (size x) (size y) (size (best_of beats y l)) (o.one_way (size y) (size x) e) h
      go false e h k = k

  best_of-first : (x : Edge) (l : List Edge) → head (sized (best_of beats x l) (x ∷ l)) ≡ some (best_of beats x l)
  unfolding best_of keep head pick
  best_of-first x [] = rw (eq-eqb (size x) (size x) refl)
  best_of-first x (y ∷ l) = go (beats y x) refl (best_of-first y l) (best_of-first x l)
    where
      skipped : (z : Edge) → beats y x ≡ false → over (size x) (size z) ≡ false → (b : Bool) → eqb (size x) (size z) ≡ b
          → head (put b x (sized z l)) ≡ some z → head (put b x (put (eqb (size y) (size z)) y (sized z l))) ≡ some z
      skipped z e f true q h = h
      skipped z e f false q h =
          rw (ne_eqb (size y) (size z) (λ s. eqb-false (size x) (size z) q (o.tie (size x) (size z) f (sym (ap (λ n. over n (size x)) s) ∙ e)))) h

      go : (b : Bool) → beats y x ≡ b
          → head (sized (best_of beats y l) (y ∷ l)) ≡ some (best_of beats y l)
          → head (sized (best_of beats x l) (x ∷ l)) ≡ some (best_of beats x l)
          → head (sized (best_of beats (pick b y x) l) (x ∷ y ∷ l)) ≡ some (best_of beats (pick b y x) l)
      go true e h k =
          let z = best_of beats y l in
          rw (ne_eqb (size x) (size z) (λ s. true≢false (sym e ∙ ap (over (size y)) s ∙ unbeaten y l))) h
      go false e h k = let z = best_of beats x l in skipped z e (unbeaten x l) (eqb (size x) (size z)) refl k

  best-first : (l : List Edge) → Opt (λ z. head (sized z l) ≡ some z) (best beats l)
  unfolding best
  best-first [] = tt
  best-first (x ∷ l) = best_of-first x l

-- both ends kept, in either order
keep-both : (f g : Edge → Bool) (l : List Edge) → keep f (keep g l) ≡ keep (λ x. g x && f x) l
unfolding keep
keep-both f g [] = refl
keep-both f g (x ∷ l) = go (g x) (keep-both f g l)
  where
    go : (b : Bool) → keep f (keep g l) ≡ keep (λ x. g x && f x) l → keep f (put b x (keep g l)) ≡ put (b && f x) x (keep (λ x. g x && f x) l)
    go true e = ap (put (f x) x) e
    go false e = e

-- what is kept of a list has passed
kept-passed : (q : Edge → Bool) (c : Edge → Edge → Bool) (es : List Edge) → Opt (λ z. q z ≡ true) (best c (keep q es))
kept-passed q c es = Opt-map (λ z e. e.1) (best c (keep q es))
    (All-best (λ z. Unit {0} × (q z ≡ true)) c (keep q es) (All-kept (λ z. Unit {0}) q es (All-each (λ z. Unit {0}) (λ z. tt) es)))

-- An edge that the Rust takes of its span
abbrev pub Taken : List Edge → Edge → Type 0
Taken es z = ranked (spanning es z.from z.to) ≡ some z

module _ (es : List Edge) (h : Ranked es) where
  taken : (z : Edge) (p q : ℕ) → z.from ≡ p → z.to ≡ q → head (spanning es p q) ≡ some z → Taken es z
  taken z p q a b e =
      sym (first-ranked es h z.from z.to) ∙ ap (λ n. head (spanning es n z.to)) a ∙ ap (λ n. head (spanning es p n)) b ∙ e

  pub right-ranked : (p : ℕ) → Opt (Taken es) (right_best es p)
  unfolding right_best starting
  right-ranked p =
      go (best longest (keep here es)) (best-first (λ a b. ltb b a) higher_wins (λ x. x.to) (keep here es)) (kept-passed here longest es)
    where
      here : Edge → Bool
      here x = eqb x.from p

      longest : Edge → Edge → Bool
      longest x y = ltb y.to x.to

      go : (o : Option Edge) → Opt (λ z. head (keep (λ y. eqb y.to z.to) (keep here es)) ≡ some z) o → Opt (λ z. here z ≡ true) o → Opt (Taken es) o
      go none k e = tt
      go (some z) k e = taken z p z.to (eqb-true z.from p e) refl
          (unfold spanning in (ap head (sym (keep-both (λ y. eqb y.to z.to) here es)) ∙ k))

  pub left-ranked : (p : ℕ) → Opt (Taken es) (left_best es p)
  unfolding left_best ending
  left-ranked p =
      go (best longest (keep here es)) (best-first ltb lower_wins (λ x. x.from) (keep here es)) (kept-passed here longest es)
    where
      here : Edge → Bool
      here x = eqb x.to p

      longest : Edge → Edge → Bool
      longest x y = ltb x.from y.from

      go : (o : Option Edge) → Opt (λ z. head (keep (λ y. eqb y.from z.from) (keep here es)) ≡ some z) o → Opt (λ z. here z ≡ true) o → Opt (Taken es) o
      go none k e = tt
      go (some z) k e =
          let there : Edge → Bool = λ y. eqb y.from z.from in
          taken z z.from p refl (eqb-true z.to p e)
          (unfold spanning in (ap head (sym (keep-both here there es) ∙ keep_swap here there es) ∙ k))
