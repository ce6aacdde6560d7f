-- The edge of a span ends where the span ends, or behind it: no step of the expansion moves the end to the left.
use Rattle.std.specs.Prelude.{Bool, ℕ, ◌+◌, ◌≤◌}
use Rattle.std.proofs.Math.Option.{Option, none, some}
use native.Mathlib.Omega.{arith}
use Rattle.base.specs.Pick.{pick_all}
use Rattle.base.specs.Lists.{head, keep, has, bind}
use Rattle.base.specs.Alls.{Opt, Opt-any, maybe-all, bind_all, or_else-all}
use Rattle.definition.specs.Texts.{Text, prev}
use Rattle.definition.specs.Notes.{note_del}
use Rattle.definition.specs.Tables.{Choices, Lexicon, Tables, lexicon}
use Rattle.definition.specs.Edges.{Edge, View}
use Rattle.definition.specs.Rules.{simple}
use Rattle.definition.specs.Syllables.{full}
use Rattle.definition.specs.Vowels.{vowel_step}
use Rattle.definition.specs.Expansion.{Work, work, capitalize, double, framed, widen, around_by, around, pre_vowel, before, silent, small_target, trim, finish, grave}
use Rattle.definition.specs.Expansion.{small_y, rest, o_ang_step, thai, by_script, expand}
use Rattle.definition.specs.Building.{is_tail, without_plus, as_edge, edge_of, span_edge}
use Rattle.definition.specs.Capitals.{capitalize_ind}
use Rattle.definition.specs.Cores.{Kept, expand-kept, edge-known}
use Rattle.definition.specs.Posts.{Post, post_ret, post_bind, post_then, post_pick, post_any, post_maybe, both}

-- An edge of a span that ends at `e`, with an annotation of a rule's edge
pub record Far (e : ℕ) (x : Edge) : Type 0 where
  pub far : e ≤ x.to
  pub note : x.note ≤ note_del

-- Work whose end is `e` or behind it
record Reaching (e : ℕ) (w : Work) : Type 0 where
  pub far : e ≤ w.to

-- more to the right
onward : {e : ℕ} {w : Work} (rom : Text) (s k n : ℕ) → Reaching e w → Reaching e (work rom s (w.to + k) n)
onward rom s k n h = let l = h.far in record { far = omega arith }

stays : {e : ℕ} {w : Work} (rom : Text) (s n : ℕ) → Reaching e w → Reaching e (work rom s w.to n)
stays rom s n h = record { far = h.far }

module _ (L : Lexicon) (t : Text) (e : ℕ) where
  abbrev P : Work → Type 0
  P = Reaching e

  double_far : (o : ℕ) (w : Work) → P w → P (double L.classes t o w)
  unfolding double
  double_far o w h = pick_all P _ (stays _ _ _ h) h

  capitalize_far : (c : Choices) (w : Work) → P w → P (capitalize c L.classes t w)
  capitalize_far c w h = capitalize_ind P c L.classes t w (stays _ _ _ h) h

  around_by_far : (k : ℕ) (w : Work) → P w → Opt P (around_by L.rules t k w)
  unfolding around_by widen
  around_by_far k w h =
      let o = bind (head (keep (framed t (prev t w.from) k w.to) L.rules)) (λ r. r.target) in
      bind_all P (λ y. Unit {0}) o _ (Opt-any o) (λ y q. onward _ _ k _ h)

  around_far : (w : Work) → P w → Opt P (around L.rules L.classes t w)
  unfolding around
  around_far w h = pick_all (Opt P) _
      (or_else-all P (around_by L.rules t 3 w) _ (around_by_far 3 w h)
      (or_else-all P (around_by L.rules t 2 w) _ (around_by_far 2 w h) (around_by_far 1 w h))) tt

  before_far : (w : Work) → P w → P (before L.rules L.classes t w)
  unfolding before
  before_far w h =
      let o = pre_vowel L.rules L.classes t w in
      maybe-all P (λ y. Unit {0}) o (Opt-any o) h (λ y q. stays _ _ _ h)

  grave_far : (v : View) (o : ℕ) (w : Work) → P w → Post Work P (grave L t v o w)
  unfolding grave
  grave_far v o w h = post_pick _
      (post_then (simple L t v o (w.to + 1)) _ (λ r. post_ret _ (pick_all P (has r) h (onward _ _ 1 _ h))))
      (post_ret w h)

  small_y_far : (v : View) (o : ℕ) (w : Work) → P w → Post Work P (small_y L t v o w)
  unfolding small_y
  small_y_far v o w h =
      let small = small_target L.rules L.classes t w in
      post_maybe small (λ y. Unit {0}) (Opt-any small) (post_ret w h)
      (λ y q. post_then (simple L t v o (w.to + 1)) _ (λ r. post_pick (has r) (post_ret w h)
      (post_then (simple L t v w.from (w.to + 1)) _
      (λ u. post_ret _ (pick_all P (has u) h (onward _ _ 1 _ h))))))

  finish_far : (w : Work) → P w → P (finish L.classes t w)
  unfolding finish trim
  finish_far w h = pick_all P _ (onward _ _ 1 _ h) (pick_all P _ (onward _ _ 1 _ h) (stays _ _ _ h))

  rest_far : (v : View) (o : ℕ) (w : Work) → P w → Post Work P (rest L t v o w)
  unfolding rest
  rest_far v o w h =
      post_bind P _ (grave_far v o w h)
      (λ u q. post_bind P _ (small_y_far v o u q) (λ x z. post_ret _ (finish_far x z)))

  o_ang_far : (c : Choices) (v : View) (o : ℕ) (w : Work) → P w → Post Work P (o_ang_step L t v c o w)
  unfolding o_ang_step
  o_ang_far c v o w h = post_pick (silent c L.rules L.classes t v o w) (post_ret _ (stays _ _ _ h)) (rest_far v o w h)

  thai_far : (c : Choices) (v : View) (o : ℕ) (w : Work) → P w → Post Work P (thai L t v c o w)
  unfolding thai
  thai_far c v o w h =
      post_maybe (around L.rules L.classes t w) P (around_far w h)
      (o_ang_far c v o (before L.rules L.classes t w) (before_far w h))
      (λ x q. post_ret x q)

  expand_far : (v : View) (c : Choices) (rom : Text) (s : ℕ) → Post Work P (expand L t v c rom s e)
  unfolding expand by_script
  expand_far v c rom s =
      let w : P (work rom s e 0) = record { far = omega arith } in
      let u = capitalize c L.classes t (work rom s e 0) in
      let d = double_far s u (capitalize_far c (work rom s e 0) w) in
      post_pick _ (post_ret (work rom s e 0) w)
      (post_pick _ (thai_far c v s (double L.classes t s u) d) (rest_far v s (double L.classes t s u) d))

module _ (D : Tables) (t : Text) (v : View) (s e : ℕ) where
  edge_far : (b : Bool) (rom : Text) → Post Edge (Far e) (edge_of D t v b rom s e)
  unfolding edge_of
  edge_far b rom =
      post_then (vowel_step (lexicon D) t v D.vowels b rom s e) _
      (λ new. post_bind (λ x. Reaching e x × Kept new x) _
      (both (expand_far (lexicon D) t e v D.choices new s) (expand-kept (lexicon D) t new v D.choices s e))
      (λ x z. post_ret _ (far_edge b rom new x z)))
    where
      far_edge : (b : Bool) (rom new : Text) (x : Work) → Reaching e x × Kept new x → Far e (as_edge b rom new x)
      far_edge b rom new x z = record { far = (unfold as_edge in z.0.far); note = edge-known b rom new x z.1 }

  pub span_far : Post (Option Edge) (Opt (Far e)) (span_edge D t v s e)
  unfolding span_edge
  span_far = post_bind (λ o. Unit {0}) _ (post_any (full (lexicon D) t v s e))
      (λ o q. post_maybe o (λ w. Unit {0}) (Opt-any o) (post_ret none tt)
      (λ w z. post_bind (Far e) _ (edge_far (is_tail w) (without_plus w)) (λ x y. post_ret (some x) y)))
