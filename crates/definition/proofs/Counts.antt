-- How many alternatives there are: what a rule adds for an edge, what all rules add for it, and what they add for the path's
-- edges.
use Rattle.std.specs.Prelude.{Bool, ◌≡◌, get_or, drop}
use Rattle.std.proofs.Math.Bool.{true, false}
use Rattle.std.proofs.Math.Path.{refl}
use Rattle.std.proofs.Common.{sym, subst}
use mathlib.Core.List.{List, [], ◌∷◌, ◌++◌}
use Rattle.std.proofs.Math.Option.{none}
use Prim.Native.Nat.{ℕ, suc, ◌+◌, ◌*◌, ◌≤◌}
use native.Mathlib.Omega.{arith}
use Rattle.std.proofs.Math.ListN.{length}
use borrow.Author.Tests.{leb-true}
use Rattle.base.specs.Pick.{pick_ind, pick_all}
use Rattle.base.specs.Bools.{and_left, and_right}
use Rattle.base.specs.Lists.{put, keep, maybe}
use Rattle.base.specs.ListLaws.{same_true}
use Rattle.base.specs.Alls.{All, Opt-any, maybe-all}
use Rattle.definition.specs.Limits.{most_rows, most_alternatives}
use Rattle.definition.specs.Notes.{note_alt, note_alt2, note_alt3}
use Rattle.definition.specs.Texts.{Text}
use Rattle.definition.specs.Tables.{Rule, Lexicon}
use Rattle.definition.specs.RuleRows.{others_at, others_of, others_right, rule_right, rule_of, rules_of}
use Rattle.definition.specs.RuleFaults.{rule_fault}
use Rattle.definition.specs.Edges.{Edge, View, M, new_in}
use Rattle.definition.specs.Rules.{spans, valid, sift, valids}
use Rattle.definition.specs.Paths.{akin, other, also_all, by_target, by_reading, by_end_target, by_rule, by_rules, by_edges}
use Rattle.definition.specs.Checked.{rule-checked}
use Rattle.definition.proofs.Accepted.{rules-all}
use Rattle.definition.specs.Growth.{Grown, grown_not, grown_twice, grown-wide, new-grown, added_new}
use Rattle.definition.specs.Posts.{Post, post_ret, post_bind, post_then, valids-all, both}
use Rattle.definition.specs.Alternatives.{edge_vowel}
use Rattle.definition.specs.Alt2.{In, in_more, own-nothing}
use Rattle.definition.proofs.Alt2.{in_target, in_rule, in_rules}
use Rattle.definition.specs.Counts.{Few, for_edge, for_rule, keep_few, texts-length}

pub rules-others : (b : List ℕ) → rule_fault b ≡ none → All Few (rules_of b)
rules-others b e = rules-all Few few b e
  where
    few : (old : Text) (s : List ℕ) → rule_right old s ≡ true → Few (rule_of s)
    few old s e = unfold rule_of others_of others_right in (
        let n = leb-true (get_or s (others_at s) 0) most_alternatives (and_left _ _ (rule-checked old s e).others) in
        let l = texts-length (get_or s (others_at s) 0) (drop (others_at s + 1) s) in
        omega arith)

module _ (b : Bool) (x : Edge) where
  also_grown : (more : Text) (ws : List Text) (seen : List Edge) → Grown (length ws) seen (also_all x more ws seen)
  unfolding also_all
  also_grown more [] seen = grown_not 0 seen
  also_grown more (w ∷ ws) seen =
      let y = other x note_alt (w ++ more) in
      grown-wide (suc (length ws)) (omega arith)
      (grown_twice 1 (length ws) (new-grown akin seen y) (also_grown more ws (new_in akin seen y)))

  target-grown : (r : Rule) (seen : List Edge) (w : Text) → Few r → Grown most_alternatives seen (by_target x r seen w)
  unfolding by_target
  target-grown r seen w l = pick_all (Grown most_alternatives seen) _
      (grown-wide most_alternatives l (also_grown (edge_vowel x w) r.others seen)) (grown_not most_alternatives seen)

  end-grown : (r : Rule) (seen : List Edge) (w : Text) → Grown 1 seen (by_end_target x r seen w)
  unfolding by_end_target
  end-grown r seen w = pick_all (Grown 1 seen) _ (new-grown akin seen (other x note_alt3 w)) (grown_not 1 seen)

  -- by both targets, one at most
  read-grown : (r : Rule) (seen : List Edge) (w : Text) → In seen x → Grown 1 seen (by_end_target x r (by_reading b x r seen w) w)
  unfolding by_reading
  read-grown r seen w i = pick_ind (λ l. Grown 1 seen (by_end_target x r l w)) _ _ _
      (λ e. read (same_true w x.text (and_right b _ e))) (λ e. end-grown r seen w)
    where
      -- then the target is the edge's own text
      end-nothing : (l : List Edge) → w ≡ x.text → In l x → by_end_target x r l w ≡ l
      end-nothing l e h = unfold by_end_target in pick_all (λ k. k ≡ l) _ (own-nothing x l note_alt3 w e h) refl

      new : (u : Text) → w ≡ x.text → Grown 1 seen (by_end_target x r (new_in akin seen (other x note_alt2 u)) w)
      new u e =
          let l = new_in akin seen (other x note_alt2 u) in
          subst (Grown 1 seen) (sym (end-nothing l e (in_more (added_new akin seen (other x note_alt2 u) tt) x i)))
          (new-grown akin seen (other x note_alt2 u))

      read : w ≡ x.text → Grown 1 seen (by_end_target x r (maybe r.end_target seen (λ u. new_in akin seen (other x note_alt2 u))) w)
      read e = maybe-all (λ l. Grown 1 seen (by_end_target x r l w)) (λ u. Unit {0}) r.end_target (Opt-any r.end_target)
          (end-grown r seen w) (λ u z. new u e)

  rule-grown : (r : Rule) (seen : List Edge) → In seen x → Few r → Grown for_rule seen (by_rule b x r seen)
  unfolding by_rule
  rule-grown r seen i l = maybe-all (Grown for_rule seen) (λ w. Unit {0}) r.target (Opt-any r.target) (grown_not for_rule seen)
      (λ w z. grown_twice most_alternatives 1 (target-grown r seen w l) (read-grown r (by_target x r seen w) w (in_target x r seen w i)))

  rules-grown : (rs : List Rule) (seen : List Edge) → In seen x → All Few rs → Grown (for_rule * length rs) seen (by_rules b x rs seen)
  unfolding by_rules
  rules-grown [] seen i h = grown_not (for_rule * 0) seen
  rules-grown (r ∷ rs) seen i h = grown-wide (for_rule * suc (length rs)) (omega arith)
      (grown_twice for_rule (for_rule * length rs) (rule-grown r seen i h.0) (rules-grown rs (by_rule b x r seen) (in_rule b x r seen i) h.1))

module _ (L : Lexicon) (t : Text) (v : View) where
  sift_few : (s e : ℕ) (rs : List Rule) → Post (List Rule) (λ l. length l ≤ length rs) (sift L t v s e rs)
  unfolding sift
  sift_few s e [] = post_ret [] (omega arith)
  sift_few s e (r ∷ rs) = post_then (valid L t v s e r) _
      (λ b. post_bind (λ l. length l ≤ length rs) _ (sift_few s e rs) (λ l h. post_ret _ (go b l h)))
    where
      go : (b : Bool) (l : List Rule) → length l ≤ length rs → length (put b r l) ≤ suc (length rs)
      go true l h = omega arith
      go false l h = omega arith

  pub valids_few : (s e : ℕ) → Post (List Rule) (λ l. length l ≤ length L.rules) (valids L t v s e)
  unfolding valids
  valids_few s e =
      let n = keep_few (spans t s e) L.rules in
      record { gives = λ m. let h = (sift_few s e (keep (spans t s e) L.rules)).gives m in omega arith }

  -- each edge of the path in turn, which are listed from the first on
  pub edges-grown : (b : Bool) → length L.rules ≤ most_rows → All Few L.rules → (xs seen : List Edge) → All (In seen) xs
      → Post (List Edge) (Grown (for_edge * length xs) seen) (by_edges b L t v xs seen)
  unfolding by_edges
  edges-grown b n few [] seen i = post_ret seen (grown_not (for_edge * 0) seen)
  edges-grown b n few (x ∷ xs) seen i =
      post_bind (λ rs. All Few rs × (length rs ≤ length L.rules)) _
      (both (valids-all L t v Few x.from x.to few) (valids_few x.from x.to))
      (λ rs q. after (by_rules b x rs seen) (one rs q) (edges-grown b n few xs (by_rules b x rs seen) (in_rules b x rs seen xs i.1)))
    where
      one : (rs : List Rule) → All Few rs × (length rs ≤ length L.rules) → Grown for_edge seen (by_rules b x rs seen)
      one rs q = let k = q.1 in grown-wide for_edge (omega arith) (rules-grown b x rs seen i.0 q.0)

      after : (fs : List Edge) {f : M (List Edge)} → Grown for_edge seen fs
          → Post (List Edge) (Grown (for_edge * length xs) fs) f → Post (List Edge) (Grown (for_edge * suc (length xs)) seen) f
      after fs a p = record {
        gives = λ m. grown-wide (for_edge * suc (length xs)) (omega arith) (grown_twice for_edge (for_edge * length xs) a (p.gives m));
      }
