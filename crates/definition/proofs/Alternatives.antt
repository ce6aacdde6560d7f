-- Mode 2's list: the path as it is, then alternatives, each with its edge's span and a text of 204 bytes at most.
use Rattle.std.specs.Prelude.{Bool, ◌≡◌, ℕ, eqb, length, drop}
use Rattle.std.proofs.Common.{true≢false, sym, ap, ◌∙◌, subst, inl, inr, arith}
use mathlib.Core.List.{List, [], ◌∷◌, ◌++◌}
use Rattle.std.proofs.Math.Option.{none}
use Rattle.std.proofs.Math.Seq.{drop-append_seam}
use Rattle.base.specs.Pick.{pick_all, pick_ind}
use Rattle.base.specs.Bools.{and_left}
use Rattle.base.specs.Lists.{same}
use Rattle.base.specs.Alls.{All, All-map, All-append, maybe-all}
use Rattle.definition.specs.Notes.{note_alt, note_alt2, note_alt3}
use Rattle.definition.specs.Texts.{Text}
use Rattle.definition.specs.Tables.{Rule, Lexicon, lexicon}
use Rattle.definition.specs.Edges.{Edge, View, M, new_in, view}
use Rattle.definition.specs.Paths.{path_from, akin, other, also_all, reads, by_target, by_reading, by_end_target, by_rule, by_rules, by_edges, path_of}
use Rattle.definition.specs.Paths.{with_alternatives_of}
use Rattle.definition.specs.Decomposing.{lattice, edges, path, with_alternatives, alternatives}
use Rattle.definition.specs.Call.{Inputs, tables_of, tables, decompositions, characters, refusal}
use Rattle.definition.specs.Accepted.{accepted_of}
use Rattle.definition.specs.Growth.{Added, added_not, added_twice, added_new}
use Rattle.definition.specs.Posts.{Post, post_ret, post_bind, valids-all}
use Rattle.definition.specs.ExpandBounds.{Spoken}
use Rattle.definition.specs.Bounds.{Known, Formed}
use Rattle.definition.proofs.Promises.{bounded, formed_edges}
use Rattle.definition.specs.Alternatives.{AltNote, Alternative, Gives, Listed, edge_vowel, path_sound, spoken_gives}

module _ {P : Edge → Type 0} (b : Bool) (x : Edge) where
  also_all-added : (more : Text) (ws : List Text) (seen : List Edge) → All (λ u. P (other x note_alt (u ++ more))) ws
      → Added P seen (also_all x more ws seen)
  unfolding also_all
  also_all-added more [] seen h = added_not seen
  also_all-added more (w ∷ ws) seen h = added_twice
      (added_new akin seen (other x note_alt (w ++ more)) h.0)
      (also_all-added more ws (new_in akin seen (other x note_alt (w ++ more))) h.1)

  pub by_target-added : (r : Rule) (seen : List Edge) (w : Text) → Gives P b x r → Added P seen (by_target x r seen w)
  unfolding by_target
  by_target-added r seen w g =
      pick_all (Added P seen) _ (also_all-added (edge_vowel x w) r.others seen (g.others w)) (added_not seen)

  pub by_reading-added : (r : Rule) (seen : List Edge) (w : Text) → Gives P b x r → Added P seen (by_reading b x r seen w)
  unfolding by_reading
  by_reading-added r seen w g = pick_ind (Added P seen) _ _ _
      (λ e. maybe-all (Added P seen) (λ u. P (other x note_alt2 u)) r.end_target (g.reading (and_left b (same w x.text) e))
      (added_not seen) (λ u h. added_new akin seen (other x note_alt2 u) h))
      (λ e. added_not seen)

  by-end-added : (r : Rule) (seen : List Edge) (w : Text) → P (other x note_alt3 w) → Added P seen (by_end_target x r seen w)
  unfolding by_end_target
  by-end-added r seen w h = pick_all (Added P seen) _ (added_new akin seen (other x note_alt3 w) h) (added_not seen)

  pub by_rule-added : (r : Rule) (seen : List Edge) → Gives P b x r → Added P seen (by_rule b x r seen)
  unfolding by_rule
  by_rule-added r seen g =
      maybe-all (Added P seen) (λ w. P (other x note_alt3 w)) r.target g.target (added_not seen)
      (λ w h.
      let own = by_target x r seen w in
      added_twice (by_target-added r seen w g)
      (added_twice (by_reading-added r own w g) (by-end-added r (by_reading b x r own w) w h)))

  pub by_rules-added : (rs : List Rule) (seen : List Edge) → All (Gives P b x) rs → Added P seen (by_rules b x rs seen)
  unfolding by_rules
  by_rules-added [] seen h = added_not seen
  by_rules-added (r ∷ rs) seen h =
      added_twice (by_rule-added r seen h.0) (by_rules-added rs (by_rule b x r seen) h.1)

module _ (b : Bool) (L : Lexicon) (t : Text) (v : View) (n : ℕ) (spoken : All Spoken L.rules) where
  by_edges-new : (xs seen : List Edge) → All (Formed n) xs → Post (List Edge) (Added (Alternative b n) seen) (by_edges b L t v xs seen)
  unfolding by_edges
  by_edges-new [] seen h = post_ret seen (added_not seen)
  by_edges-new (x ∷ xs) seen h = post_bind (All Spoken) _ (valids-all L t v Spoken x.from x.to spoken)
      (λ rs q. after (by_rules-added b x rs seen (All-map (spoken_gives b n x h.0) rs q)) (by_edges-new xs (by_rules b x rs seen) h.1))
    where
      after : {es fs : List Edge} {f : M (List Edge)} → Added (Alternative b n) es fs → Post (List Edge) (Added (Alternative b n) fs) f
          → Post (List Edge) (Added (Alternative b n) es) f
      after a p = record { gives = λ m. added_twice a (p.gives m) }

pub listed : (i : Inputs) → refusal i ≡ none → Listed i
unfolding path path_of with_alternatives with_alternatives_of alternatives edges
listed i e =
    let D = tables i in
    let t = characters i in
    let ok = bounded i (accepted_of i e) in
    let ds = decompositions i in
    let es = (lattice D ds t).0 in
    let xs = path_from (length t) 0 es in
    let h = path_sound (Formed (length t)) (length t) 0 es (formed_edges i e) in
    let v = view D.classes es in
    let b = reads D.choices in
    let a = (by_edges-new b (lexicon D) t v (length t) ok.rules xs xs h).gives (lattice D ds t).1 in
    let own : drop (length xs) (by_edges b (lexicon D) t v xs xs (lattice D ds t).1).0 ≡ a.more = ap (drop (length xs)) a.is ∙ drop-append_seam xs a.more in
    record {
      whole = a.is ∙ ap (λ l. xs ++ l) (sym own);
      path = h;
      alternatives = subst (All (Alternative b (length t))) (sym own) a.all;
    }

-- Where readings are not chosen, no listed edge has the annotation "rom-alt2"
pub no_alt2 : (i : Inputs) → refusal i ≡ none → i.choices.readings ≡ 0 → All (λ x. x.note ≡ note_alt2 → ⊥) (with_alternatives (tables i) (decompositions i) (characters i))
unfolding tables tables_of
no_alt2 i e off =
    let l = listed i e in
    let P : Edge → Type 0 = λ x. x.note ≡ note_alt2 → ⊥ in
    subst (All P) (sym l.whole) (All-append P (path (tables i) (decompositions i) (characters i)) (alternatives (tables i) (decompositions i) (characters i))
    (All-map (λ x s z. own x.note s.known z) (path (tables i) (decompositions i) (characters i)) l.path)
    (All-map (λ x s z. other-own x.note s.note z) (alternatives (tables i) (decompositions i) (characters i)) l.alternatives))
  where
    own : (k : ℕ) → Known k → k ≡ note_alt2 → ⊥
    own k (inl p) z = omega arith
    own k (inr p) z = omega arith

    other-own : (k : ℕ) → AltNote (reads i.choices) k → k ≡ note_alt2 → ⊥
    other-own k (inl p) z = omega arith
    other-own k (inr (inl p)) z = omega arith
    other-own k (inr (inr p)) z = true≢false (sym p.0 ∙ ap (λ (n : ℕ). eqb n 1) off)
