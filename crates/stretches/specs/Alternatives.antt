-- Mode 2's list, the path and then the alternatives, is inside the stretch that of the stretch, moved.
-- (Proved in proofs/Alternatives; proofs/Proved takes the alternatives alone from it.)
use Rattle.std.specs.Prelude.{Bool, ◌&&◌, ◌||◌, ◌⊎◌, drop}
use Rattle.std.proofs.Math.Bool.{true, false}
use Rattle.std.proofs.Math.Path.{◌≡◌, ap}
use Rattle.std.proofs.Common.{sym, ◌∙◌, subst, inl, arith, length-take, length-drop}
use mathlib.Core.List.{List, [], ◌∷◌, ◌++◌, map}
use Rattle.std.proofs.Math.Logic.{inr}
use Rattle.std.proofs.Math.Option.{Option, none, some}
use Prim.Native.Nat.{ℕ, ◌+◌, ◌-◌, ◌≤◌, ◌<◌}
use Rattle.std.proofs.Math.Decide.{dec_lt, ℕ_discrete}
use Rattle.std.proofs.Math.ListN.{length}
use Rattle.base.specs.Pick.{pick}
use Rattle.base.specs.Lists.{put, keep, maybe, same}
use Rattle.base.specs.Alls.{All-each, All}
use Rattle.base.specs.Bools.{eqb_alike}
use Rattle.base.specs.ListLaws.{map_uncons}
use Rattle.definition.specs.Notes.{note_alt, note_alt2, note_alt3}
use Rattle.definition.specs.Texts.{Text, the_space, at}
use Rattle.definition.specs.Tables.{Rule, Choices, Lexicon}
use Rattle.definition.specs.Edges.{Edge, new_in, View, Mem, ret, ◌>>=◌}
use Rattle.definition.specs.Rules.{valids}
use Rattle.definition.specs.Paths.{akin, other, also_all, cored, by_target, by_reading, by_end_target, by_rule, by_rules, by_edges}
use Rattle.definition.specs.Alternatives.{Gives, gives-any}
use Rattle.definition.proofs.Alternatives.{by_rules-added}
use Rattle.stretches.specs.Demand.{within, shift}
use Rattle.stretches.specs.Given.{Fair, Stretch, Span, at_outside}
use Rattle.stretches.specs.Windows.{window, Apart, Agree}
use Rattle.stretches.specs.Texts.{space_at_end, space_before-start, left-part, right_part}
use Rattle.stretches.specs.Boundaries.{See, see_moved}
use Rattle.stretches.specs.Rules.{valids-inside, valids_space}
use Rattle.stretches.specs.Building.{Inside}
use Rattle.stretches.specs.Edges.{Outside, left, right, Clear, inside, outside, clear_goes, within-inside, within_outside, Same, new-inside, added_outside}

akin-moved : (a : ℕ) (x y : Edge) → akin (shift a x) (shift a y) ≡ akin x y
unfolding akin shift
akin-moved a x y = rw (eqb_alike (a + x.to) (a + y.to) x.to y.to (λ k. omega arith) (λ k. omega arith))

-- The alternatives of an edge of the stretch, by its rules
module _ {a n : ℕ} (x : Edge) (i : Inside 0 n x) where
  other-inside : (k : ℕ) (w : Text) {S s : List Edge} → Same a n S s
      → Same a n (new_in akin S (other (shift a x) k w)) (new_in akin s (other x k w))
  unfolding other shift
  other-inside k w h = new-inside akin (akin-moved a) (other x k w) h (omega arith)

  same-pick : (c : Bool) {S s R r : List Edge} → Same a n S s → Same a n R r → Same a n (pick c S R) (pick c s r)
  unfolding pick
  same-pick true h k = h
  same-pick false h k = k

  also_all-inside : (u : Text) (ws : List Text) {S s : List Edge} → Same a n S s
      → Same a n (also_all (shift a x) u ws S) (also_all x u ws s)
  unfolding also_all
  also_all-inside u [] h = h
  also_all-inside u (w ∷ ws) h = also_all-inside u ws (other-inside note_alt (w ++ u) h)

  by_reading-inside : (b : Bool) (r : Rule) (w : Text) {S s : List Edge} → Same a n S s
      → Same a n (by_reading b (shift a x) r S w) (by_reading b x r s w)
  unfolding by_reading shift maybe
  by_reading-inside b r w {S} {s} h = same-pick (b && same w x.text) (go r.end_target) h
    where
      go : (o : Option Text) → Same a n (maybe o S (λ u. new_in akin S (other (shift a x) note_alt2 u))) (maybe o s (λ u. new_in akin s (other x note_alt2 u)))
      go none = h
      go (some u) = other-inside note_alt2 u h

  by_rule-inside : (b : Bool) (r : Rule) {S s : List Edge} → Same a n S s → Same a n (by_rule b (shift a x) r S) (by_rule b x r s)
  unfolding by_rule by_end_target by_target cored shift maybe
  by_rule-inside b r {S} {s} h = go r.target
    where
      go : (o : Option Text)
          → Same a n (maybe o S (λ w. by_end_target (shift a x) r (by_reading b (shift a x) r (by_target (shift a x) r S w) w) w))
          (maybe o s (λ w. by_end_target x r (by_reading b x r (by_target x r s w) w) w))
      go none = h
      go (some w) =
          let more = also_all-inside (pick (cored x w) (drop x.core x.text) []) r.others h in
          let k = by_reading-inside b r w (same-pick (same w x.text || cored x w) more h) in
          same-pick _ (other-inside note_alt3 w k) k

  by_rules-inside : (b : Bool) (rs : List Rule) {S s : List Edge} → Same a n S s
      → Same a n (by_rules b (shift a x) rs S) (by_rules b x rs s)
  unfolding by_rules
  by_rules-inside b [] h = h
  by_rules-inside b (r ∷ rs) h = by_rules-inside b rs (by_rule-inside b r h)

-- The valid rules of an edge `X` outside: what is remembered of the stretch stays, as they are asked elsewhere;
-- and an edge that ends at the stretch's start is over a space, and has none
module _ {L : Lexicon} (fair : Fair L) {T st : Text} {a : ℕ} (h : Stretch T st a) (c : Choices) (W : View) (X : Edge)
    (m : Mem) where
  record Asked : Type 0 where
    frame : window a (length st) (valids L T W X.from X.to m).1 ≡ window a (length st) m
    rules : ((X.to < a) ⊎ (a + length st ≤ X.from)) ⊎ ((valids L T W X.from X.to m).0 ≡ [])

  -- over a space
  asked_space : (q : ℕ) → X.from ≤ q → q < X.to → at T q ≡ the_space → Asked
  unfolding ret
  asked_space q l k sp =
      let e = valids_space fair T W X.from X.to q l k sp in
      record { frame = ap (λ f. window a (length st) (f m).1) e; rules = inr (ap (λ f. (f m).0) e) }

  -- in another stretch
  asked_near : {u : Text} {b : ℕ} → Stretch T u b → b ≤ X.from → X.from < X.to → X.from ≤ b + length u
      → Apart b (length u) a (length st) → (X.to < a) ⊎ (a + length st ≤ X.from) → Asked
  asked_near {u} {b} k l j d far o = record {
    frame =
        let z : Span b (length u) X.from X.to (X.from - b) (X.to - b) = omega arith in
        (valids-inside fair k (see_moved c k W) z).frame m a (length st) far;
    rules = inl o;
  }

  asked : Outside a (length st) X → Asked
  asked (left c l j) = go (ℕ_discrete X.to a)
    where
      before : at T (a - 1) ≡ the_space
      before = space_before-start h (omega arith)

      go : Dec (X.to ≡ a) → Asked
      go (yes e) = asked_space (a - 1) (omega arith) (omega arith) before
      go (no e) =
          let k = length-take (a - 1) T in
          asked_near (left-part T (a - 1) (omega arith) before) (omega arith) c (omega arith)
          (inr (omega arith)) (inl (omega arith))
  asked (right c l) = go (ℕ_discrete X.from (a + length st)) (dec_lt X.from (length T))
    where
      go : Dec (X.from ≡ a + length st) → Dec (X.from < length T) → Asked
      go (yes e) q = asked_space X.from (omega arith) c (ap (at T) e ∙ space_at_end h)
      go (no e) (no q) = asked_space X.from (omega arith) c (at_outside T X.from (omega arith))
      go (no e) (yes q) =
          let k = length-drop (a + length st + 1) T in
          asked_near (right_part T (a + length st) (omega arith) (space_at_end h)) (omega arith) c (omega arith)
          (inl (omega arith)) (inr l)

  -- so the alternatives that they give are outside
  by_rules_outside : (b : Bool) → Outside a (length st) X → (S s : List Edge) → Same a (length st) S s
      → Same a (length st) (by_rules b X (valids L T W X.from X.to m).0 S) s
  by_rules_outside b o S s r = go (asked o).rules
    where
      far : (X.to < a) ⊎ (a + length st ≤ X.from) → (k : ℕ) (w : Text) → Outside a (length st) (other X k w)
      far (inl l) k w = unfold other in left (clear_goes (outside o)) (omega arith) (λ e. absurd (omega arith))
      far (inr l) k w = unfold other in right (clear_goes (outside o)) l

      go : ((X.to < a) ⊎ (a + length st ≤ X.from)) ⊎ ((valids L T W X.from X.to m).0 ≡ [])
          → Same a (length st) (by_rules b X (valids L T W X.from X.to m).0 S) s
      go (inl d) =
          let rs = (valids L T W X.from X.to m).0 in
          added_outside (by_rules-added b X rs S (All-each (Gives (Outside a (length st)) b X) (gives-any b X (far d)) rs)) r
      go (inr e) = subst (λ rs. Same a (length st) (by_rules b X rs S) s) (sym e) (unfold by_rules in r)

-- Edge by edge of the path
module _ {L : Lexicon} (fair : Fair L) {T st : Text} {a : ℕ} (h : Stretch T st a) {c : Choices} {W v : View}
    (g : See c T st a W v) where
  -- an edge of the stretch: its rules are asked alike
  own-inside : (x : Edge) → Inside 0 (length st) x
      → Agree a (length st) (List Rule) (valids L T W (a + x.from) (a + x.to)) (valids L st v x.from x.to)
  own-inside x b = valids-inside fair h g (omega arith)

  pub by_edges-inside : (b : Bool) (XS xs S s : List Edge) (K k : Mem) → Same a (length st) XS xs → Same a (length st) S s
      → window a (length st) K ≡ k → Same a (length st) (by_edges b L T W XS S K).0 (by_edges b L st v xs s k).0
  unfolding by_edges keep ◌>>=◌ ret shift
  by_edges-inside b [] [] S s K k e r w = r
  by_edges-inside b [] (x ∷ xs) S s K k e r w = absurd (let c = e.cut in let z : ◌≡◌ {A = ℕ} 0 1 = cc in omega arith)
  by_edges-inside b (X ∷ XS) xs S s K k e r w = go e.clear.0 (λ xs S s K k c f r w.
      by_edges-inside b XS xs S s K k (record { cut = c; clear = e.clear.1; full = f }) r w)
    where
      n : ℕ
      n = length st

      Rest : Type 0
      Rest = (xs S s : List Edge) (K k : Mem) → keep (within a n) XS ≡ map (shift a) xs → All (Inside 0 n) xs
          → Same a n S s → window a n K ≡ k → Same a n (by_edges b L T W XS S K).0 (by_edges b L st v xs s k).0

      own : (x : Edge) (ys : List Edge) → keep (within a n) XS ≡ map (shift a) ys → All (Inside 0 n) (x ∷ ys) → Rest
          → Same a n (by_edges b L T W (shift a x ∷ XS) S K).0 (by_edges b L st v (x ∷ ys) s k).0
      own x ys q j f =
          let asks = valids L st v x.from x.to in
          let i = own-inside x j.0 in
          f ys _ _ _ _ q j.1
          (subst (λ rs. Same a n (by_rules b (shift a x) rs S) (by_rules b x (asks k).0 s))
          (sym (i.value K ∙ ap (λ m. (asks m).0) w)) (by_rules-inside x j.0 b (asks k).0 r))
          (i.known K ∙ ap (λ m. (asks m).1) w)

      go : Clear a n X → Rest → Same a n (by_edges b L T W (X ∷ XS) S K).0 (by_edges b L st v xs s k).0
      go (outside o) f = f xs _ s _ k
          (ap (λ d. put d X (keep (within a n) XS)) (sym (within_outside a n X o)) ∙ e.cut) e.full
          (by_rules_outside fair h c W X K b o S s r) ((asked fair h c W X K o).frame ∙ w)
      go (inside i) f =
          let c = ap (λ d. put d X (keep (within a n) XS)) (sym (within-inside a n X i)) ∙ e.cut in
          let z = map_uncons (shift a) X (keep (within a n) XS) xs c in
          subst (λ Z. Same a n (by_edges b L T W (Z ∷ XS) S K).0 (by_edges b L st v xs s k).0) (sym z.3)
          (subst (λ zs. Same a n (by_edges b L T W (shift a z.0 ∷ XS) S K).0 (by_edges b L st v zs s k).0)
          (sym z.2) (own z.0 z.1 z.4 (subst (All (Inside 0 n)) z.2 e.full) f))
