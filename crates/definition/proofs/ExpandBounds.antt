-- Each step of the expansion goes forward, within the text, and makes no more bytes than specs/ExpandBounds names for it.
use Rattle.std.proofs.Math.Bool.{Bool}
use Rattle.std.specs.Prelude.{true, false, ◌&&◌, ◌≡◌, [], ◌∷◌, ◌++◌, ℕ, ◌+◌, ◌-◌, ◌≤◌, ◌<◌}
use Rattle.std.proofs.Math.Path.{refl}
use Rattle.std.proofs.Math.Option.{none, some}
use Rattle.std.proofs.Common.{arith}
use Rattle.std.proofs.Math.Dec.{eqb}
use Rattle.std.proofs.Math.ListN.{length}
use Rattle.base.specs.Pick.{pick, pick_all, pick_ind}
use Rattle.base.specs.Bools.{and_left}
use Rattle.base.specs.Lists.{keep, head, tail, has, is, bind}
use Rattle.base.specs.Alls.{All, Opt, Opt_with, maybe-all, bind_all, or_else-all, head-keep}
use Rattle.definition.specs.Limits.{most_target, most_bytes}
use Rattle.definition.specs.Texts.{Text, at, prev, the_space, letter_e, long_mark, coptic_grave}
use Rattle.definition.specs.Tables.{Rule, Choices, Lexicon}
use Rattle.definition.specs.Notes.{note_exp}
use Rattle.definition.specs.Classes.{class}
use Rattle.definition.specs.Edges.{View}
use Rattle.definition.specs.Rules.{first_rule, simple}
use Rattle.definition.specs.Expansion.{Work, work, capitalize, double, framed, widen, around_by, around, pre_vowel, before, silent, small_ya}
use Rattle.definition.specs.Expansion.{small_target, lengthens, trim_front, trim_back, trim, finish, grave, small_y, rest, o_ang_step, thai, by_script}
use Rattle.definition.specs.Expansion.{expand}
use Rattle.definition.specs.Shorts.{Short, short_none, short-wide, short-append, short-letter, short-reverse, short-tail, short-without_last, short-one}
use Rattle.definition.specs.Posts.{Post, post_ret, post_bind, post_then, post_if, post_pick, post_maybe}
use Rattle.definition.specs.Within.{inner}
use Rattle.definition.specs.VowelBounds.{voiced_bytes}
use Rattle.definition.specs.Capitals.{capitalize_ind}
use Rattle.definition.proofs.Capitals.{capitalized-short}
use Rattle.definition.specs.ExpandBounds.{Spoken, Work_of, doubled-short, doubled_bytes, first_short, framed_bound, grave_bytes, held-wide, pre_bytes, small_bytes, space_not_small}

module _ (L : Lexicon) (t : Text) (spoken : All Spoken L.rules) (blank : (class L.classes the_space).virama ≡ false) where
  double_held : (o : ℕ) (w : Work) → Work_of L t spoken blank voiced_bytes w → Work_of L t spoken blank doubled_bytes (double L.classes t o w)
  unfolding double
  double_held o w h = pick_all (Work_of L t spoken blank doubled_bytes) _
      (record {
        forward = let z = h.forward in omega arith;
        inside = h.inside;
        short = short-append 1 voiced_bytes (doubled-short voiced_bytes (prev t o) w.rom h.short) h.short;
      })
      (held-wide voiced_bytes (omega arith) h)

  capitalize_held : (c : Choices) (w : Work) → Work_of L t spoken blank voiced_bytes w → Work_of L t spoken blank voiced_bytes (capitalize c L.classes t w)
  capitalize_held c w h = capitalize_ind (Work_of L t spoken blank voiced_bytes) c L.classes t w
      (record { forward = h.forward; inside = h.inside; short = capitalized-short h.short }) h

  around_by-held : (k : ℕ) (w : Work) → Work_of L t spoken blank doubled_bytes w → Opt (Work_of L t spoken blank pre_bytes) (around_by L.rules t k w)
  unfolding around_by widen
  around_by-held k w h =
      bind_all (Work_of L t spoken blank pre_bytes) Y (bind (head (keep f L.rules)) (λ r. r.target))
      (λ y. some (work (w.rom ++ y) (w.from - 1) (w.to + k) note_exp))
      (bind_all Y (λ r. Spoken r × (f r ≡ true)) (head (keep f L.rules)) (λ r. r.target)
      (head-keep Spoken f L.rules spoken)
      (λ r q. Opt_with (Short most_target) r.target q.0.target (framed_bound t (prev t w.from) k w.to r h.inside q.1)))
      (λ y q. record {
        forward = let z = h.forward in omega arith;
        inside = q.1;
        short = short-append doubled_bytes most_target h.short q.0;
      })
    where
      f : Rule → Bool
      f = framed t (prev t w.from) k w.to

      Y : Text → Type 0
      Y y = Short most_target y × (w.to + k ≤ length t)

  around-held : (w : Work) → Work_of L t spoken blank doubled_bytes w → Opt (Work_of L t spoken blank pre_bytes) (around L.rules L.classes t w)
  unfolding around
  around-held w h =
      let P = Work_of L t spoken blank pre_bytes in
      pick_all (Opt P) _
      (or_else-all P (around_by L.rules t 3 w) _ (around_by-held 3 w h)
      (or_else-all P (around_by L.rules t 2 w) _ (around_by-held 2 w h) (around_by-held 1 w h))) tt

  before_held : (w : Work) → Work_of L t spoken blank doubled_bytes w → Work_of L t spoken blank pre_bytes (before L.rules L.classes t w)
  unfolding before pre_vowel
  before_held w h = maybe-all (Work_of L t spoken blank pre_bytes) (Short most_target) _
      (pick_all (Opt (Short most_target)) _ {x = first_rule L.rules (prev t w.from ∷ [])} {y = none}
      (first_short L.rules spoken (prev t w.from ∷ [])) tt)
      (held-wide doubled_bytes (omega arith) h)
      (λ y q. record {
        forward = let z = h.forward in omega arith;
        inside = h.inside;
        short = short-append doubled_bytes most_target h.short q;
      })

  grave-held : (v : View) (o : ℕ) (w : Work) → Work_of L t spoken blank pre_bytes w → Post Work (Work_of L t spoken blank grave_bytes) (grave L t v o w)
  unfolding grave
  grave-held v o w h = post_if _ (λ b.
      let z : w.to < length t = inner t w.to (λ c. eqb c coptic_grave) refl (and_left _ _ b) in
      post_then (simple L t v o (w.to + 1)) _ (λ r. post_ret _ (pick_all (Work_of L t spoken blank grave_bytes) (has r)
      (held-wide pre_bytes (omega arith) h)
      (record {
        forward = let y = h.forward in omega arith;
        inside = omega arith;
        short = short-append 1 pre_bytes (short-letter 1 letter_e (omega arith) (omega arith)) h.short;
      }))))
      (λ b. post_ret w (held-wide pre_bytes (omega arith) h))

  small-inner : (w : Work) → Opt (λ y. Short most_target y × (w.to < length t)) (small_target L.rules L.classes t w)
  unfolding small_target
  small-inner w = pick_ind (Opt (λ y. Short most_target y × (w.to < length t))) _ _ _
      (λ b. Opt_with (Short most_target) (first_rule L.rules (at t w.to ∷ [])) (first_short L.rules spoken (at t w.to ∷ []))
      (inner t w.to small_ya space_not_small (and_left _ _ (and_left _ _ (and_left _ _ b)))))
      (λ b. tt)

  small_y-held : (v : View) (o : ℕ) (w : Work) → Work_of L t spoken blank grave_bytes w → Post Work (Work_of L t spoken blank small_bytes) (small_y L t v o w)
  unfolding small_y
  small_y-held v o w h =
      let same-work : Work_of L t spoken blank small_bytes w = held-wide grave_bytes (omega arith) h in
      post_maybe (small_target L.rules L.classes t w) (λ y. Short most_target y × (w.to < length t)) (small-inner w)
      (post_ret w same-work)
      (λ y q. post_then (simple L t v o (w.to + 1)) _ (λ r. post_pick (has r) (post_ret w same-work)
      (post_then (simple L t v w.from (w.to + 1)) _ (λ u. post_ret _ (pick_all (Work_of L t spoken blank small_bytes) (has u) same-work
      (record {
        forward = let x = h.forward in omega arith;
        inside = let x = q.1 in omega arith;
        short = short-append (grave_bytes - 1) most_target (short-without_last grave_bytes h.short) q.0;
      }))))))

  trim_held : (w : Work) → Work_of L t spoken blank small_bytes w → Work_of L t spoken blank most_bytes (trim t w)
  unfolding trim trim_back trim_front
  trim_held w h = record {
    forward = h.forward;
    inside = h.inside;
    short = short-wide small_bytes (omega arith)
        (pick_all (Short small_bytes) _ (short-wide (small_bytes - 1) (omega arith) (short-without_last small_bytes front)) front);
  }
    where
      front : Short small_bytes (pick (is (eqb the_space) (head w.rom) && eqb (prev t w.from) the_space) (tail w.rom) w.rom)
      front = pick_all (Short small_bytes) _ (short-wide (small_bytes - 1) (omega arith) (short-tail small_bytes h.short)) h.short

  finish_held : (w : Work) → Work_of L t spoken blank small_bytes w → Work_of L t spoken blank most_bytes (finish L.classes t w)
  unfolding finish lengthens
  finish_held w h = pick_ind (Work_of L t spoken blank most_bytes) _ _ _
      (λ e. let z : w.to < length t = inner t w.to (λ c. eqb c long_mark) refl (and_left _ _ (and_left _ _ e)) in
      record {
        forward = let y = h.forward in omega arith;
        inside = omega arith;
        short = short-append small_bytes 1 h.short (short-one (short-reverse h.short));
      })
      (λ e. pick_ind (Work_of L t spoken blank most_bytes) _ _ _
      (λ f. let z : w.to < length t = inner t w.to (λ c. (class L.classes c).virama) blank f in
      record {
        forward = let y = h.forward in omega arith;
        inside = omega arith;
        short = short-wide small_bytes (omega arith) h.short;
      })
      (λ f. trim_held w h))

  rest-held : (v : View) (o : ℕ) (w : Work) → Work_of L t spoken blank pre_bytes w → Post Work (Work_of L t spoken blank most_bytes) (rest L t v o w)
  unfolding rest
  rest-held v o w h =
      post_bind (Work_of L t spoken blank grave_bytes) _ (grave-held v o w h)
      (λ u q. post_bind (Work_of L t spoken blank small_bytes) _ (small_y-held v o u q) (λ x z. post_ret _ (finish_held x z)))

  o_ang-held : (c : Choices) (v : View) (o : ℕ) (w : Work) → Work_of L t spoken blank pre_bytes w → Post Work (Work_of L t spoken blank most_bytes) (o_ang_step L t v c o w)
  unfolding o_ang_step
  o_ang-held c v o w h = post_pick (silent c L.rules L.classes t v o w)
      (post_ret _ (record { forward = h.forward; inside = h.inside; short = short_none most_bytes }))
      (rest-held v o w h)

  thai-held : (c : Choices) (v : View) (o : ℕ) (w : Work) → Work_of L t spoken blank doubled_bytes w → Post Work (Work_of L t spoken blank most_bytes) (thai L t v c o w)
  unfolding thai
  thai-held c v o w h =
      post_maybe (around L.rules L.classes t w) (Work_of L t spoken blank pre_bytes) (around-held w h)
      (o_ang-held c v o (before L.rules L.classes t w) (before_held w h))
      (λ x q. post_ret x (held-wide pre_bytes (omega arith) q))

  pub expand-held : (v : View) (c : Choices) (rom : Text) (s e : ℕ) → s < e → e ≤ length t → Short voiced_bytes rom
      → Post Work (Work_of L t spoken blank most_bytes) (expand L t v c rom s e)
  unfolding expand by_script
  expand-held v c rom s e l k h =
      let w : Work_of L t spoken blank voiced_bytes (work rom s e 0) = record { forward = l; inside = k; short = h } in
      let u = capitalize c L.classes t (work rom s e 0) in
      let d = double_held s u (capitalize_held c (work rom s e 0) w) in
      post_pick _ (post_ret (work rom s e 0) (held-wide voiced_bytes (omega arith) w))
      (post_pick _ (thai-held c v s (double L.classes t s u) d)
      (rest-held v s (double L.classes t s u) (held-wide doubled_bytes (omega arith) d)))
