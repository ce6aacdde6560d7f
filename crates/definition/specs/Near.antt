-- The edge of a span starts near the span: where the span starts, or one or two characters before. Doubling moves the
-- start by one to the left, and so does a Thai pre-vowel; no other step moves it.
use Rattle.std.specs.Prelude.{Bool, ℕ, ◌+◌, ◌-◌, ◌≤◌}
use Rattle.std.proofs.Math.Option.{Option, none, some}
use native.Mathlib.Omega.{arith}
use Rattle.base.specs.Pick.{pick_all}
use Rattle.base.specs.Lists.{head, keep, has, bind}
use Rattle.base.specs.Alls.{Opt, Opt-any, maybe-all, bind_all, or_else-all}
use Rattle.definition.specs.Texts.{Text, prev}
use Rattle.definition.specs.Tables.{Choices, Lexicon, Tables, lexicon}
use Rattle.definition.specs.Edges.{Edge, View}
use Rattle.definition.specs.Rules.{simple}
use Rattle.definition.specs.Syllables.{full}
use Rattle.definition.specs.Vowels.{vowel_step}
use Rattle.definition.specs.Expansion.{Work, work, capitalize, double, framed, widen, around_by, around, pre_vowel, before, silent, small_target, trim, finish, grave}
use Rattle.definition.specs.Expansion.{small_y, rest, o_ang_step, thai, by_script, expand}
use Rattle.definition.specs.Building.{is_tail, without_plus, as_edge, edge_of, span_edge}
use Rattle.definition.specs.Capitals.{capitalize_ind}
use Rattle.definition.specs.Posts.{Post, post_ret, post_bind, post_then, post_pick, post_any, post_maybe}

-- An edge of a span that starts at `s`
pub record Near (s : ℕ) (x : Edge) : Type 0 where
  pub left : x.from ≤ s
  pub near : s ≤ x.from + 2

-- Work whose start was moved from `s` by `k` at most
record Moved (k s : ℕ) (w : Work) : Type 0 where
  pub left : w.from ≤ s
  pub near : s ≤ w.from + k

-- one more to the left, and none
one_left : {k s : ℕ} {w : Work} (rom : Text) (e n : ℕ) → Moved k s w → Moved (k + 1) s (work rom (w.from - 1) e n)
one_left rom e n h = let l = h.left in let g = h.near in record { left = omega arith; near = omega arith }

as_far : {k s : ℕ} {w : Work} → Moved k s w → Moved (k + 1) s w
as_far h = let g = h.near in record { left = h.left; near = omega arith }

stays : {k s : ℕ} {w : Work} (rom : Text) (e n : ℕ) → Moved k s w → Moved k s (work rom w.from e n)
stays rom e n h = record { left = h.left; near = h.near }

module _ (L : Lexicon) (t : Text) (s : ℕ) where
  double-moved : (o : ℕ) (w : Work) → Moved 0 s w → Moved 1 s (double L.classes t o w)
  unfolding double
  double-moved o w h = pick_all (Moved 1 s) _ (one_left _ _ _ h) (as_far h)

  capitalize-moved : (c : Choices) (w : Work) → Moved 0 s w → Moved 0 s (capitalize c L.classes t w)
  capitalize-moved c w h = capitalize_ind (Moved 0 s) c L.classes t w (stays _ _ _ h) h

  around_by-moved : (k : ℕ) (w : Work) → Moved 1 s w → Opt (Moved 2 s) (around_by L.rules t k w)
  unfolding around_by widen
  around_by-moved k w h =
      let o = bind (head (keep (framed t (prev t w.from) k w.to) L.rules)) (λ r. r.target) in
      bind_all (Moved 2 s) (λ y. Unit {0}) o _ (Opt-any o) (λ y q. one_left _ _ _ h)

  around-moved : (w : Work) → Moved 1 s w → Opt (Moved 2 s) (around L.rules L.classes t w)
  unfolding around
  around-moved w h =
      let P = Moved 2 s in
      pick_all (Opt P) _
      (or_else-all P (around_by L.rules t 3 w) _ (around_by-moved 3 w h)
      (or_else-all P (around_by L.rules t 2 w) _ (around_by-moved 2 w h) (around_by-moved 1 w h))) tt

  before-moved : (w : Work) → Moved 1 s w → Moved 2 s (before L.rules L.classes t w)
  unfolding before
  before-moved w h =
      let o = pre_vowel L.rules L.classes t w in
      maybe-all (Moved 2 s) (λ y. Unit {0}) o (Opt-any o) (as_far h) (λ y q. one_left _ _ _ h)

  grave-moved : (v : View) (o : ℕ) (w : Work) → Moved 2 s w → Post Work (Moved 2 s) (grave L t v o w)
  unfolding grave
  grave-moved v o w h = post_pick _
      (post_then (simple L t v o (w.to + 1)) _ (λ r. post_ret _ (pick_all (Moved 2 s) (has r) h (stays _ _ _ h))))
      (post_ret w h)

  small_y-moved : (v : View) (o : ℕ) (w : Work) → Moved 2 s w → Post Work (Moved 2 s) (small_y L t v o w)
  unfolding small_y
  small_y-moved v o w h =
      let small = small_target L.rules L.classes t w in
      post_maybe small (λ y. Unit {0}) (Opt-any small) (post_ret w h)
      (λ y q. post_then (simple L t v o (w.to + 1)) _ (λ r. post_pick (has r) (post_ret w h)
      (post_then (simple L t v w.from (w.to + 1)) _
      (λ u. post_ret _ (pick_all (Moved 2 s) (has u) h (stays _ _ _ h))))))

  finish-moved : (w : Work) → Moved 2 s w → Moved 2 s (finish L.classes t w)
  unfolding finish trim
  finish-moved w h = pick_all (Moved 2 s) _ (stays _ _ _ h) (pick_all (Moved 2 s) _ (stays _ _ _ h) (stays _ _ _ h))

  rest-moved : (v : View) (o : ℕ) (w : Work) → Moved 2 s w → Post Work (Moved 2 s) (rest L t v o w)
  unfolding rest
  rest-moved v o w h =
      post_bind (Moved 2 s) _ (grave-moved v o w h)
      (λ u q. post_bind (Moved 2 s) _ (small_y-moved v o u q) (λ x z. post_ret _ (finish-moved x z)))

  o_ang-moved : (c : Choices) (v : View) (o : ℕ) (w : Work) → Moved 2 s w → Post Work (Moved 2 s) (o_ang_step L t v c o w)
  unfolding o_ang_step
  o_ang-moved c v o w h = post_pick (silent c L.rules L.classes t v o w) (post_ret _ (stays _ _ _ h)) (rest-moved v o w h)

  thai-moved : (c : Choices) (v : View) (o : ℕ) (w : Work) → Moved 1 s w → Post Work (Moved 2 s) (thai L t v c o w)
  unfolding thai
  thai-moved c v o w h =
      post_maybe (around L.rules L.classes t w) (Moved 2 s) (around-moved w h)
      (o_ang-moved c v o (before L.rules L.classes t w) (before-moved w h))
      (λ x q. post_ret x q)

  expand-moved : (v : View) (c : Choices) (rom : Text) (e : ℕ) → Post Work (Moved 2 s) (expand L t v c rom s e)
  unfolding expand by_script
  expand-moved v c rom e =
      let w : Moved 0 s (work rom s e 0) = record { left = omega arith; near = omega arith } in
      let u = capitalize c L.classes t (work rom s e 0) in
      let d = double-moved s u (capitalize-moved c (work rom s e 0) w) in
      post_pick _ (post_ret (work rom s e 0) (as_far (as_far w)))
      (post_pick _ (thai-moved c v s (double L.classes t s u) d) (rest-moved v s (double L.classes t s u) (as_far d)))

module _ (D : Tables) (t : Text) (v : View) (s e : ℕ) where
  edge-near : (b : Bool) (rom : Text) → Post Edge (Near s) (edge_of D t v b rom s e)
  unfolding edge_of
  edge-near b rom =
      post_then (vowel_step (lexicon D) t v D.vowels b rom s e) _
      (λ new. post_bind (Moved 2 s) _ (expand-moved (lexicon D) t s v D.choices new e)
      (λ x z. post_ret _ (unfold as_edge in record { left = z.left; near = z.near })))

  pub span_near : Post (Option Edge) (Opt (Near s)) (span_edge D t v s e)
  unfolding span_edge
  span_near = post_bind (λ o. Unit {0}) _ (post_any (full (lexicon D) t v s e))
      (λ o q. post_maybe o (λ w. Unit {0}) (Opt-any o) (post_ret none tt)
      (λ w z. post_bind (Near s) _ (edge-near (is_tail w) (without_plus w)) (λ x y. post_ret (some x) y)))
