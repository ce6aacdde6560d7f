-- The choice of a rule inside a stretch; and over a space there is none.
use Rattle.std.specs.Prelude.{Bool, true, ◌&&◌, ◌≡◌, ℕ, ◌+◌, ◌-◌, ◌≤◌, ◌<◌, eqb}
use Rattle.std.proofs.Math.Bool.{false, and-false}
use Rattle.std.proofs.Math.Path.{refl}
use mathlib.Core.List.{List, [], ◌∷◌}
use Rattle.std.proofs.Math.Option.{Option, none}
use native.Mathlib.Omega.{arith}
use Rattle.std.proofs.Math.Decide.{dec_lt, ℕ_discrete}
use Rattle.std.proofs.Math.ListN.{length}
use Rattle.std.proofs.Common.{eqb-true, ne_eqb}
use Rattle.base.specs.Bools.{and_left, and_right, eqb_alike}
use Rattle.base.specs.Lists.{put, keep, head, best, same}
use Rattle.base.specs.Alls.{All-keep, Opt, All-head, bind_all}
use Rattle.base.specs.ListLaws.{any_none, keep-none}
use Rattle.definition.specs.Texts.{Text, the_space, at, fits, begins}
use Rattle.definition.specs.Tables.{Rule, Choices, Lexicon}
use Rattle.definition.specs.Edges.{View, ret, ◌>>=◌}
use Rattle.definition.specs.Rules.{spans, is_prefix, winner, first_rule, asks_start, valid, sift, valids, choose, simple}
use Rattle.definition.specs.Posts.{choose-all}
use Rattle.definition.specs.Within.{fits_bound}
use Rattle.stretches.specs.Given.{Solid, SolidRule, Fair, sources, any-rules, keep-rules, Stretch, Span}
use Rattle.stretches.specs.Windows.{Sim, Agree, sim_ret, sim_post, sim_pick, sim_bind}
use Rattle.stretches.specs.Texts.{fits-inside, begins-inside, stands_space, fits_space}
use Rattle.stretches.specs.Boundaries.{See, word_end-inside, word_start-inside}

-- a source that ends past the text does not stand there
spans-past : (t : Text) (p e : ℕ) → p ≤ length t → length t < e → (r : Rule) → spans t p e r ≡ false
unfolding spans
spans-past t p e l k r = go (spans t p e r) refl
  where
    go : (b : Bool) → (eqb (p + length r.source) e && fits t r.source p) ≡ b → b ≡ false
    go false q = refl
    go true q =
        let n = eqb-true (p + length r.source) e (and_left _ _ q) in
        let m = fits_bound t r.source p l (and_right (eqb (p + length r.source) e) _ q) in
        absurd (omega arith)

module _ {L : Lexicon} (fair : Fair L) {T st : Text} {a : ℕ} (h : Stretch T st a) where
  pub prefix_inside : {P E p e : ℕ} → Span a (length st) P E p e
      → is_prefix L.rules T P E ≡ is_prefix L.rules st p e
  unfolding is_prefix
  prefix_inside {P} {E} {p} {e} z =
      let q : E - P ≡ e - p = omega arith in
      rw q (any-rules fair (λ r. begins T r.source P (e - p)) (λ r. begins st r.source p (e - p))
      (λ r s. begins-inside h r.source P p (e - p) s z.from z.begins))

  spans-inside : {P E p e : ℕ} → Span a (length st) P E p e → (r : Rule) → Solid r.source
      → spans T P E r ≡ spans st p e r
  unfolding spans
  spans-inside {P} {E} {p} {e} z r s = rw (
    fits-inside h r.source P p s z.from z.begins,
    eqb_alike (P + length r.source) E (p + length r.source) e (λ q. omega arith) (λ q. omega arith),
  )

  module _ {c : Choices} {W v : View} (g : See c T st a W v) where
    valid-inside : {P E p e : ℕ} (r : Rule) → Span a (length st) P E p e → e ≤ length st
        → Agree a (length st) Bool (valid L T W P E r) (valid L st v p e r)
    unfolding valid
    valid-inside {P} {E} {p} {e} r z l = rw (word_end-inside fair h E e z.to l)
        (sim_bind _
        (sim_pick (asks_start r) (word_start-inside fair h g P p z.from (omega arith)) (sim_ret false tt))
        (λ b q. sim_ret _ tt))

    sift-inside : {P E p e : ℕ} (rs : List Rule) → Span a (length st) P E p e → e ≤ length st
        → Agree a (length st) (List Rule) (sift L T W P E rs) (sift L st v p e rs)
    unfolding sift
    sift-inside [] z l = sim_ret [] tt
    sift-inside (r ∷ rs) z l = sim_bind _ (valid-inside r z l)
        (λ b q. sim_bind _ (sift-inside rs z l) (λ k q. sim_ret (put b r k) tt))

    -- a span that goes on past the stretch has no rule
    pub valids-inside : {P E p e : ℕ} → Span a (length st) P E p e
        → Agree a (length st) (List Rule) (valids L T W P E) (valids L st v p e)
    unfolding valids
    valids-inside {P} {E} {p} {e} z =
        rw (keep-rules fair (spans T P E) (spans st p e) (spans-inside z)) (go (dec_lt (length st) e))
      where
        rs : List Rule
        rs = keep (spans st p e) L.rules

        go : Dec (length st < e) → Agree a (length st) (List Rule) (sift L T W P E rs) (sift L st v p e rs)
        go (yes q) = unfold sift in
            rw (keep-none _ (spans st p e) L.rules (sources fair) (λ r s. spans-past st p e z.begins q r))
            (sim_ret [] tt)
        go (no q) = sift-inside rs z (omega arith)

    pub choose-inside : {P E p e : ℕ} → Span a (length st) P E p e
        → Sim a (length st) (Option Rule) (λ o. o) (Opt SolidRule) (choose L T W P E) (choose L st v p e)
    unfolding choose
    choose-inside {P} {E} {p} {e} z = sim_post (Opt SolidRule) one (choose-all L st v SolidRule p e fair.rules)
      where
        one : Agree a (length st) (Option Rule) (choose L T W P E) (choose L st v p e)
        one = sim_bind _ (valids-inside z) (λ rs q. sim_ret (winner rs) tt)

    pub simple-inside : {P E p e : ℕ} → Span a (length st) P E p e
        → Agree a (length st) (Option Text) (simple L T W P E) (simple L st v p e)
    unfolding simple
    simple-inside z = sim_bind _ (choose-inside z) (λ o q. sim_ret _ tt)

-- the target of a first rule has no space
pub first_solid : {L : Lexicon} → Fair L → (w : Text) → Opt Solid (first_rule L.rules w)
unfolding first_rule
first_solid {L} fair w =
    let f : Rule → Bool = λ r. same r.source w in
    bind_all Solid SolidRule (head (keep f L.rules)) (λ r. r.target)
    (All-head SolidRule (keep f L.rules) (All-keep SolidRule f L.rules fair.rules)) (λ r q. q.target)

-- No rule spans a space, and from a space no source starts
module _ {L : Lexicon} (fair : Fair L) (T : Text) where
  spans_space : (s e q : ℕ) → s ≤ q → q < e → at T q ≡ the_space → keep (spans T s e) L.rules ≡ []
  unfolding spans
  spans_space s e q l k sp = keep-none (λ r. Solid r.source) (spans T s e) L.rules (sources fair) nowhere
    where
      nowhere : (r : Rule) → Solid r.source → (eqb (s + length r.source) e && fits T r.source s) ≡ false
      nowhere r z = go (ℕ_discrete (s + length r.source) e)
        where
          go : Dec (s + length r.source ≡ e) → (eqb (s + length r.source) e && fits T r.source s) ≡ false
          go (yes j) =
              rw (fits_space T r.source z s q l (omega arith) sp) (and-false (eqb (s + length r.source) e))
          go (no j) = rw (ne_eqb (s + length r.source) e j)

  pub valids_space : (v : View) (s e q : ℕ) → s ≤ q → q < e → at T q ≡ the_space → valids L T v s e ≡ ret []
  unfolding valids sift
  valids_space v s e q l k sp = rw (spans_space s e q l k sp)

  pub simple_space : (v : View) (p : ℕ) → at T p ≡ the_space → simple L T v p (p + 1) ≡ ret none
  unfolding simple choose ◌>>=◌ ret winner keep best
  simple_space v p sp = rw (valids_space v p (p + 1) p (omega arith) (omega arith) sp)

  pub no_prefix : (p : ℕ) → at T p ≡ the_space → is_prefix L.rules T p (p + 1) ≡ false
  unfolding is_prefix
  no_prefix p sp =
      let e : p + 1 - p ≡ 1 = omega arith in
      rw e (any_none (λ r. Solid r.source) (λ r. begins T r.source p 1) L.rules (sources fair)
      (λ r s. nowhere r.source s))
    where
      nowhere : (w : Text) → Solid w → begins T w p 1 ≡ false
      nowhere [] s = unfold begins in refl
      nowhere (c ∷ w) s = unfold begins in rw (stands_space T p c sp s.0)
