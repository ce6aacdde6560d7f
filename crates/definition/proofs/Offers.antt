-- The alternatives, edge by edge: what the rules of an edge add is what they offer it that is new, and the list with alternatives
-- is the path, then what is new for each of its edges.
use Rattle.std.proofs.Math.Bool.{Bool, true, false, or-false, or-true}
use Rattle.std.specs.Prelude.{not, ◌&&◌, ◌||◌, ◌≡◌, ℕ, ◌<◌}
use Rattle.std.proofs.Math.Path.{refl, sym, ap}
use Rattle.std.proofs.Common.{◌∙◌, arith}
use mathlib.Core.List.{List, [], ◌∷◌, ◌++◌, map, append-nil, append_assoc}
use Rattle.std.proofs.Math.Option.{Option, none, some}
use Rattle.std.proofs.Math.Dec.{eqb}
use borrow.Author.Tests.{eq-eqb, ne_eqb}
use Rattle.base.specs.Pick.{pick, pick_all}
use Rattle.base.specs.Lists.{put, keep, any, is, maybe, same}
use Rattle.base.specs.ListLaws.{any_append, keep_append, keep-none, same_true}
use Rattle.base.specs.Alls.{All, All-append, Ordered, Opt-any, maybe-all}
use Rattle.definition.specs.Notes.{note_alt, note_alt2, note_alt3}
use Rattle.definition.specs.Texts.{Text}
use Rattle.definition.specs.Tables.{Rule, Lexicon}
use Rattle.definition.specs.Edges.{Edge, View, Mem, starting, new_in, ret, ◌>>=◌}
use Rattle.definition.specs.Rules.{valids}
use Rattle.definition.specs.Paths.{path_from, akin, other, also_all, cored, by_target, by_reading, by_end_target, by_rule, by_rules, by_edges}
use Rattle.definition.specs.Growth.{found-append}
use Rattle.definition.specs.Bounds.{Formed}
use Rattle.definition.specs.Alternatives.{edge_vowel}
use Rattle.definition.specs.Recalled.{Recalls, valid_rules, valid_rules-alike, valids_are, valids-recall}
use Rattle.definition.specs.Offers.{Alone, Before, Of, Told, all_in, all_in-append, all_offers, alone-own, end_offers, found_all, found_by, news, news-all, offers, path-rises, reading_offers, target_offers}

-- What a rule adds is what it offers, added in turn
module _ (b : Bool) (x : Edge) where
  also_in : (more : Text) (ws : List Text) (seen : List Edge)
      → also_all x more ws seen ≡ all_in seen (map (λ w. other x note_alt (w ++ more)) ws)
  unfolding also_all all_in
  also_in more [] seen = refl
  also_in more (w ∷ ws) seen = also_in more ws (new_in akin seen (other x note_alt (w ++ more)))

  target_in : (r : Rule) (seen : List Edge) (w : Text) → by_target x r seen w ≡ all_in seen (target_offers x r w)
  unfolding by_target target_offers
  target_in r seen w = go (same w x.text || cored x w)
    where
      l : List Edge
      l = map (λ u. other x note_alt (u ++ edge_vowel x w)) r.others

      go : (b : Bool) → pick b (also_all x (edge_vowel x w) r.others seen) seen ≡ all_in seen (pick b l [])
      go true = unfold pick in also_in (edge_vowel x w) r.others seen
      go false = unfold pick all_in in refl

  reading_in : (r : Rule) (seen : List Edge) (w : Text) → by_reading b x r seen w ≡ all_in seen (reading_offers b x r w)
  unfolding by_reading reading_offers
  reading_in r seen w = go (b && same w x.text) r.end_target
    where
      go : (c : Bool) (o : Option Text) → pick c (maybe o seen (λ u. new_in akin seen (other x note_alt2 u))) seen
          ≡ all_in seen (pick c (maybe o [] (λ u. other x note_alt2 u ∷ [])) [])
      go true none = unfold pick maybe all_in in refl
      go true (some u) = unfold pick maybe all_in in refl
      go false o = unfold pick all_in in refl

  end_in : (r : Rule) (seen : List Edge) (w : Text) → by_end_target x r seen w ≡ all_in seen (end_offers x r w)
  unfolding by_end_target end_offers
  end_in r seen w = go (is (λ u. same u x.text) r.end_target)
    where
      go : (b : Bool) → pick b (new_in akin seen (other x note_alt3 w)) seen ≡ all_in seen (pick b (other x note_alt3 w ∷ []) [])
      go true = unfold pick all_in in refl
      go false = unfold pick all_in in refl

  rule_in : (r : Rule) (seen : List Edge) → by_rule b x r seen ≡ all_in seen (offers b x r)
  unfolding by_rule offers
  rule_in r seen = go r.target
    where
      go : (o : Option Text) → maybe o seen (λ w. by_end_target x r (by_reading b x r (by_target x r seen w) w) w)
          ≡ all_in seen (maybe o [] (λ w. target_offers x r w ++ (reading_offers b x r w ++ end_offers x r w)))
      go none = unfold maybe all_in in refl
      go (some w) = unfold maybe in
          let own = by_target x r seen w in
          let read = reading_offers b x r w in
          let last = end_offers x r w in
          (end_in r (by_reading b x r own w) w ∙ ap (λ l. all_in l last) (reading_in r own w) ∙ sym (all_in-append own read last)
          ∙ ap (λ l. all_in l (read ++ last)) (target_in r seen w) ∙ sym (all_in-append seen (target_offers x r w) (read ++ last)))

  pub rules_in : (rs : List Rule) (seen : List Edge) → by_rules b x rs seen ≡ all_in seen (all_offers b x rs)
  unfolding by_rules all_offers all_in
  rules_in [] seen = refl
  rules_in (r ∷ rs) seen =
      rules_in rs (by_rule b x r seen) ∙ ap (λ l. all_in l (all_offers b x rs)) (rule_in r seen)
      ∙ sym (all_in-append seen (offers b x r) (all_offers b x rs))

  other_of : (k : ℕ) (w : Text) → Of b x (other x k w)
  unfolding other
  other_of k w = (refl, refl)

  target_of : (r : Rule) (w : Text) → All (Of b x) (target_offers x r w)
  unfolding target_offers
  target_of r w = pick_all (All (Of b x)) _ (go r.others) tt
    where
      go : (l : List Text) → All (Of b x) (map (λ u. other x note_alt (u ++ edge_vowel x w)) l)
      go [] = tt
      go (u ∷ l) = (other_of note_alt (u ++ edge_vowel x w), go l)

  reading_of : (r : Rule) (w : Text) → All (Of b x) (reading_offers b x r w)
  unfolding reading_offers
  reading_of r w = pick_all (All (Of b x)) _
      (maybe-all (All (Of b x)) (λ u. Unit {0}) r.end_target {y = []} (Opt-any r.end_target) tt (λ u z. (other_of note_alt2 u, tt))) tt

  end_of : (r : Rule) (w : Text) → All (Of b x) (end_offers x r w)
  unfolding end_offers
  end_of r w = pick_all (All (Of b x)) _ {x = other x note_alt3 w ∷ []} {y = []} (other_of note_alt3 w, tt) tt

  offers_of : (rs : List Rule) → All (Of b x) (all_offers b x rs)
  unfolding all_offers offers
  offers_of [] = tt
  offers_of (r ∷ rs) = All-append (Of b x) (offers b x r) (all_offers b x rs)
      (maybe-all (All (Of b x)) (λ w. Unit {0}) r.target {y = []} (Opt-any r.target) tt
      (λ w u.
      let read = reading_offers b x r w in
      let last = end_offers x r w in
      All-append (Of b x) (target_offers x r w) (read ++ last) (target_of r w)
      (All-append (Of b x) read last (reading_of r w) (end_of r w)))) (offers_of rs)

  -- as one span has one end
  akin_of : (c d : Edge) → Of b x c → Of b x d → akin c d ≡ same c.text d.text
  unfolding akin
  akin_of c d p q = ap (λ b. b && same c.text d.text) (eq-eqb c.to d.to (p.1 ∙ sym q.1))

  -- `Told` stays so where one is not added, since its text is there,
  told_not : (seen : List Edge) (ws : List Text) (w : Text) → any (same w) ws ≡ true → Told b x seen ws → Told b x seen (ws ++ w ∷ [])
  unfolding any
  told_not seen ws w e h c p = h c p ∙ sym (any_append (same c.text) ws (w ∷ []) ∙ go (same c.text w) refl)
    where
      go : (b : Bool) → same c.text w ≡ b → (any (same c.text) ws || (b || false)) ≡ any (same c.text) ws
      go true z = or-true (any (same c.text) ws) ∙ sym (ap (λ u. any (same u) ws) (same_true c.text w z) ∙ e)
      go false z = or-false (any (same c.text) ws)

  -- and where it is
  told-new : (seen : List Edge) (ws : List Text) (d : Edge) → Of b x d → Told b x seen ws → Told b x (seen ++ d ∷ []) (ws ++ d.text ∷ [])
  unfolding any starting keep
  told-new seen ws d q h c p =
      found-append (akin c) seen (d ∷ []) x.from
      ∙ ap (λ b. any (akin c) (starting seen x.from) || any (akin c) (put b d [])) (eq-eqb d.from x.from q.0)
      ∙ ap (λ b. any (akin c) (starting seen x.from) || (b || false)) (akin_of c d p q)
      ∙ ap (λ b. b || (same c.text d.text || false)) (h c p)
      ∙ sym (any_append (same c.text) ws (d.text ∷ []))

  -- So what is added are the new ones
  all_in-news : (cs seen : List Edge) (ws : List Text) → All (Of b x) cs → Told b x seen ws → all_in seen cs ≡ seen ++ news ws cs
  unfolding all_in news
  all_in-news [] seen ws q h = sym (append-nil seen)
  all_in-news (c ∷ cs) seen ws q h =
      ap (λ l. all_in l cs) one ∙ go (any (same c.text) ws) refl (λ l k. all_in-news cs l (ws ++ c.text ∷ []) q.1 k)
    where
      one : new_in akin seen c ≡ pick (any (same c.text) ws) seen (seen ++ c ∷ [])
      one = unfold new_in in
          (ap (λ p. pick (any (akin c) (starting seen p)) seen (seen ++ c ∷ [])) q.0.0
          ∙ ap (λ b. pick b seen (seen ++ c ∷ [])) (h c q.0))

      go : (u : Bool) → any (same c.text) ws ≡ u
          → ((l : List Edge) → Told b x l (ws ++ c.text ∷ []) → all_in l cs ≡ l ++ news (ws ++ c.text ∷ []) cs)
          → all_in (pick u seen (seen ++ c ∷ [])) cs ≡ seen ++ put (not u) c (news (ws ++ c.text ∷ []) cs)
      go true e f = unfold pick in f seen (told_not seen ws c.text e h)
      go false e f = unfold pick in
          (f (seen ++ c ∷ []) (told-new seen ws c q.0 h) ∙ append_assoc seen (c ∷ []) (news (ws ++ c.text ∷ []) cs))

  -- Where the edge is the only one from its start, its own text is all there is at first
  told-own : (seen : List Edge) → starting seen x.from ≡ x ∷ [] → Told b x seen (x.text ∷ [])
  unfolding any
  told-own seen e c p = ap (any (akin c)) e ∙ ap (λ b. b || false) (akin_of c x p (refl, refl))

  rules-found : (rs : List Rule) (seen : List Edge) → starting seen x.from ≡ x ∷ [] → by_rules b x rs seen ≡ seen ++ found_by b x rs
  unfolding found_by
  rules-found rs seen e = rules_in rs seen ∙ all_in-news (all_offers b x rs) seen (x.text ∷ []) (offers_of rs) (told-own seen e)

  -- and what is found for it is not from another's start
  found_elsewhere : (rs : List Rule) (seen : List Edge) (p : ℕ) → x.from < p → starting (seen ++ found_by b x rs) p ≡ starting seen p
  unfolding starting found_by
  found_elsewhere rs seen p l =
      let f : Edge → Bool = λ y. eqb y.from p in
      keep_append f seen (found_by b x rs)
      ∙ ap (λ k. keep f seen ++ k) (keep-none (Of b x) f (found_by b x rs) (news-all (Of b x) (x.text ∷ []) (all_offers b x rs) (offers_of rs))
      (λ c q. ne_eqb c.from p (λ z. let w = q.0 in omega arith)))
      ∙ append-nil (keep f seen)

-- Edges that are the only ones from their starts (`Alone`) stay so when another edge's alternatives are added
alone-found : (c : Bool) (x : Edge) (rs : List Rule) (seen ys : List Edge) → All (Before x) ys → All (Alone seen) ys
    → All (Alone (seen ++ found_by c x rs)) ys
alone-found c x rs seen [] b a = tt
alone-found c x rs seen (y ∷ ys) b a =
    (found_elsewhere c x rs seen y.from b.0 ∙ a.0, alone-found c x rs seen ys b.1 a.1)

module _ (b : Bool) (L : Lexicon) (t : Text) (v : View) where
  -- whatever is remembered
  pub found_alike : (m n : Mem) → Recalls L t v m n → (xs : List Edge) → found_all b L t v m xs ≡ found_all b L t v n xs
  unfolding found_all
  found_alike m n h [] = refl
  found_alike m n h (x ∷ xs) =
      ap (λ rs. found_by b x rs ++ found_all b L t v m xs) (valid_rules-alike L t v m n h x.from x.to)
      ∙ ap (λ l. found_by b x (valid_rules L t v n x.from x.to) ++ l) (found_alike m n h xs)

  edges-found : (xs seen : List Edge) → Ordered Before xs → All (Alone seen) xs → (m : Mem)
      → (by_edges b L t v xs seen m).0 ≡ seen ++ found_all b L t v m xs
  unfolding by_edges found_all ret ◌>>=◌
  edges-found [] seen o a m = sym (append-nil seen)
  edges-found (x ∷ xs) seen o a m =
      let n = (valids L t v x.from x.to m).1 in
      let rs = valid_rules L t v m x.from x.to in
      ap (λ l. (by_edges b L t v xs (by_rules b x l seen) n).0) (valids_are L t v x.from x.to m)
      ∙ ap (λ l. (by_edges b L t v xs l n).0) (rules-found b x rs seen a.0)
      ∙ edges-found xs (seen ++ found_by b x rs) o.1 (alone-found b x rs seen xs o.0 a.1) n
      ∙ ap (λ l. seen ++ found_by b x rs ++ l) (found_alike n m (valids-recall L t v x.from x.to m) xs)
      ∙ append_assoc seen (found_by b x rs) (found_all b L t v m xs)

-- The list with alternatives is the path, then those of each of its edges
pub alternatives_are : (b : Bool) (L : Lexicon) (t : Text) (v : View) (n : ℕ) (es : List Edge) → All (Formed n) es → (k p : ℕ) (m : Mem)
    → (by_edges b L t v (path_from k p es) (path_from k p es) m).0 ≡ path_from k p es ++ found_all b L t v m (path_from k p es)
alternatives_are b L t v n es h k p m =
    let xs = path_from k p es in
    let o = path-rises n es h k p in
    edges-found b L t v xs xs o (alone-own xs o) m
