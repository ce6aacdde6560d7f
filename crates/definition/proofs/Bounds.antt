-- The edges of rules and fallbacks, step by step: each goes forward, lies within the text, has a text of 606 bytes at most, and a
-- core as its text has it.
use Rattle.std.specs.Prelude.{Bool, ◌≡◌, refl, length}
use Rattle.std.proofs.Math.Bool.{true, false}
use Rattle.std.proofs.Math.Logic.{inl}
use mathlib.Core.List.{List, [], ◌∷◌}
use Rattle.std.proofs.Math.Option.{Option, none, some}
use Prim.Native.Nat.{ℕ, zero, suc, ◌+◌, ◌-◌, ◌≤◌, ◌<◌}
use native.Mathlib.Omega.{arith}
use Rattle.std.proofs.Math.ListN.{replicate, length-append}
use Rattle.base.specs.Pick.{pick_all}
use Rattle.base.specs.Alls.{All, Opt, Opt-map, maybe-all, bind_all}
use Rattle.definition.specs.Limits.{most_target, most_vowel, most_bytes, most_source}
use Rattle.definition.specs.Notes.{note_core, note_single, note_Mn, note_Cf, note_Co, note_Zs, note_orig}
use Rattle.definition.specs.Texts.{Text, at, the_space}
use Rattle.definition.specs.Utf8.{encode, encoded}
use Rattle.definition.specs.Tables.{Tables, lexicon}
use Rattle.definition.specs.Edges.{Edge, View, M, State, covered, view}
use Rattle.definition.specs.Rules.{is_prefix, simple}
use Rattle.definition.specs.Syllables.{syllable_end, full}
use Rattle.definition.specs.Building.{is_tail, without_plus, as_edge, single, fallback_plus, fallback_by, put_in, each, fallback_edge, edge_of, span_edge, rise, build, fall, lattice_by, rule_lattice}
use Rattle.definition.specs.Capacity.{bytes}
use Rattle.definition.specs.Growth.{Added, added_not, added_twice, added-map, added-all, put_in-added, each-added}
use Rattle.definition.specs.Shorts.{Short, short_none, short-wide, short-tail, encoded-low, encode-length}
use Rattle.definition.specs.Posts.{Post, post_ret, post_bind, post_then, post_pick, post_maybe, choose-all, both}
use Rattle.definition.specs.Within.{prefix_bound}
use Rattle.definition.specs.VowelBounds.{Voiced, vowel_step-voiced}
use Rattle.definition.specs.ExpandBounds.{Held, Spoken}
use Rattle.definition.proofs.ExpandBounds.{expand-held}
use Rattle.definition.specs.Cores.{Kept, expand-kept, Cored, edge-cored, edge-known, uncored}
use Rattle.definition.specs.Bounds.{Bounded, Ruled, Sound, Spelt}

module _ (D : Tables) (ok : Bounded D) (t : Text) where
  -- What the searches answer
  pub simple-short : (v : View) (s e : ℕ) → Post (Option Text) (Opt (Short most_target)) (simple (lexicon D) t v s e)
  unfolding simple
  simple-short v s e = post_bind (Opt Spoken) _ (choose-all (lexicon D) t v Spoken s e ok.rules)
      (λ o q. post_ret _ (bind_all (Short most_target) Spoken o (λ r. r.target) q (λ r z. z.target)))

  pub full-short : (v : View) (s e : ℕ) → Post (Option Text) (Opt (Short most_target)) (full (lexicon D) t v s e)
  unfolding full
  full-short v s e = post_bind (Opt Spoken) _ (choose-all (lexicon D) t v Spoken s e ok.rules)
      (λ o q. post_maybe o Spoken q (post_ret none tt)
      (λ r z. post_maybe r.end_target (Short most_target) z.end_target (post_ret r.target z.target)
      (λ w y. post_then (syllable_end (lexicon D) t v e) _
      (λ b. post_ret _ (pick_all (Opt (Short most_target)) b {x = some w} {y = r.target} y z.target)))))

  -- The edge of a span
  sound_of : (x : Edge) → x.from < x.to → x.to ≤ length t → Short most_bytes x.text → x.note ≤ note_orig → Cored x
      → Sound (length t) x
  unfolding bytes
  sound_of x l k h n c =
      record { forward = l; inside = k; short = rw (encoded-low x.text h.low) h.long; known = inl n; core = c }

  edge_sound : (v : View) (b : Bool) (rom : Text) (s e : ℕ) → s < e → e ≤ length t → Short most_target rom
      → Post Edge (Spelt D ok t) (edge_of D t v b rom s e)
  unfolding edge_of
  edge_sound v b rom s e l k h =
      post_bind (Voiced rom) _ (vowel_step-voiced (lexicon D) t v D.vowels b rom s e ok.vowels h.low)
      (λ new q.
      let r = h.long in
      let w = expand-held (lexicon D) t ok.rules ok.virama v D.choices new s e l k (short-wide (length rom + most_vowel) (omega arith) q.short) in
      post_bind (λ x. Held (length t) most_bytes x × Kept new x) _ (both w (expand-kept (lexicon D) t new v D.choices s e))
      (λ x z. let y : (as_edge b rom new x).note < note_orig = let k = edge-known b rom new x z.1 in omega arith in
      post_ret _ (unfold as_edge in (
        sound_of (as_edge b rom new x) z.0.forward z.0.inside z.0.short (omega arith) (edge-cored b rom new x q z.1),
        z.0.short,
        y,
      ))))

  pub plus-short : (w : Text) → Short most_target w → Short most_target (without_plus w)
  unfolding without_plus
  plus-short w h = pick_all (Short most_target) (is_tail w) (short-wide (most_target - 1) (omega arith) (short-tail most_target h)) h

  pub span_spelt : (v : View) (s e : ℕ) → s < e → e ≤ length t → Post (Option Edge) (Opt (Spelt D ok t)) (span_edge D t v s e)
  unfolding span_edge
  span_spelt v s e l k = post_bind (Opt (Short most_target)) _ (full-short v s e)
      (λ o q. post_maybe o (Short most_target) q (post_ret none tt)
      (λ w z. post_bind (Spelt D ok t) _ (edge_sound v (is_tail w) (without_plus w) s e l k (plus-short w z))
      (λ x y. post_ret (some x) y)))

  span_ruled : (v : View) (s e : ℕ) → s < e → e ≤ length t → Post (Option Edge) (Opt (Ruled t)) (span_edge D t v s e)
  span_ruled v s e l k = record {
    gives = λ m. Opt-map (λ x y. let n = y.2 in record { sound = y.0; note = omega arith; own = λ z. absurd (omega arith); low = λ z. y.1.low })
        (span_edge D t v s e m).0 ((span_spelt v s e l k).gives m);
  }

  -- The fallback: nothing, a space, a target, or the character's own bytes
  single-ruled : (p n : ℕ) (w : Text) → p < length t → note_core < n → n < note_orig → Short most_target w → Ruled t (single p n w)
  unfolding single
  single-ruled p n w l k m h = record {
    sound = sound_of (single p n w) (omega arith) (omega arith) (short-wide most_target (omega arith) h) (omega arith) (uncored (single p n w) k refl);
    note = omega arith;
    own = λ z. absurd (omega arith);
    low = λ z. h.low;
  }

  space_short : Short most_target (the_space ∷ [])
  space_short = record { long = omega arith; low = (omega arith, tt) }

  own-ruled : (p : ℕ) → p < length t → Ruled t (single p note_orig (at t p ∷ []))
  unfolding single bytes encoded
  own-ruled p l = record {
    sound = record {
      forward = omega arith;
      inside = omega arith;
      short = let e = encode-length (at t p) in omega (arith, length-append (encode (at t p)) []);
      known = inl (omega arith);
      core = uncored (single p note_orig (at t p ∷ [])) (omega arith) refl;
    };
    note = omega arith;
    own = λ z. refl;
    low = λ z. absurd (z refl);
  }

  fallback_by-ruled : (p : ℕ) (o : Option Text) → p < length t → Opt (Short most_target) o → Ruled t (fallback_by t p o)
  unfolding fallback_by
  fallback_by-ruled p o l q = maybe-all (Ruled t) (Short most_target) o q
      (own-ruled p l)
      (λ w z. single-ruled p note_single _ l (omega arith) (omega arith)
      (pick_all (Short most_target) (fallback_plus w) (short-wide (most_target - 1) (omega arith) (short-tail most_target z)) z))

  fallback_ruled : (v : View) (p : ℕ) → p < length t → Post (Option Edge) (Opt (Ruled t)) (fallback_edge (lexicon D) t v p)
  unfolding fallback_edge
  fallback_ruled v p l =
      post_pick _ (post_ret _ (single-ruled p note_Mn [] l (omega arith) (omega arith) (short_none most_target)))
      (post_pick _ (post_ret _ (single-ruled p note_Cf [] l (omega arith) (omega arith) (short_none most_target)))
      (post_pick _ (post_ret _ (single-ruled p note_Co [] l (omega arith) (omega arith) (short_none most_target)))
      (post_pick _ (post_ret _ (single-ruled p note_Zs (the_space ∷ []) l (omega arith) (omega arith) space_short))
      (post_bind (Opt (Short most_target)) _ (simple-short v p (p + 1))
      (λ o q. post_ret _ (fallback_by-ruled p o l q))))))

  -- The passes
  rise-ruled : (k : ℕ) (b : Bool) (s e : ℕ) (st : State) → s < e → s ≤ length t → (b ≡ true → e ≤ length t)
      → Added (Ruled t) st.0 (rise D t k b s e st).0
  unfolding rise
  rise-ruled zero b s e st l n c = added_not st.0
  rise-ruled (suc k) false s e st l n c = added_not st.0
  rise-ruled (suc k) true s e st l n c =
      let f : List Edge → M (Option Edge) = λ es. span_edge D t (view D.classes es) s e in
      added_twice (put_in-added f st ((span_ruled (view D.classes st.0) s e l (c refl)).gives st.1))
      (rise-ruled k (is_prefix D.rules t s (e + 1)) s (e + 1) (put_in f st) (omega arith) n
      (prefix_bound D.rules t s (e + 1) n (omega arith)))

  pub build-ruled : (p : ℕ) (st : State) → p < length t → Added (Ruled t) st.0 (build D t p st).0
  unfolding build
  build-ruled p st l = rise-ruled most_source (is_prefix D.rules t p (p + 1)) p (p + 1) st (omega arith) (omega arith)
      (prefix_bound D.rules t p (p + 1) (omega arith) (omega arith))

  pub fall-ruled : (p : ℕ) (st : State) → p < length t → Added (Ruled t) st.0 (fall D t p st).0
  unfolding fall
  fall-ruled p st l =
      let f : List Edge → M (Option Edge) = λ es. fallback_edge (lexicon D) t (view D.classes es) p in
      pick_all (λ S. Added (Ruled t) st.0 S.0) (covered st.0 p) {x = st} {y = put_in f st} (added_not st.0)
      (put_in-added f st ((fallback_ruled (view D.classes st.0) p l).gives st.1))

  -- Whatever a step adds besides, both passes add it and what rules and fallbacks give
  pub lattice_by-all : (P : Edge → Type 0) (step : ℕ → State → State) → ((p : ℕ) (st : State) → p < length t → Added P st.0 (step p st).0)
      → ((x : Edge) → Ruled t x → P x) → All P (lattice_by D t step).0
  unfolding lattice_by
  lattice_by-all P step g f =
      let st : State = ([], replicate (length t) 0) in
      added-all (added_twice (each-added (length t) step g (length t) 0 st (omega arith))
      (each-added (length t) (fall D t) (λ p st l. added-map f (fall-ruled p st l)) (length t) 0 (each step (length t) 0 st) (omega arith)))

  pub rule_lattice-ruled : All (Ruled t) (rule_lattice D t).0
  unfolding rule_lattice
  rule_lattice-ruled = lattice_by-all (Ruled t) (build D t) build-ruled (λ x r. r)
