-- While the edges stay, asking word starts changes no later answer: what is remembered is what asking would answer.
use Rattle.std.proofs.Math.Bool.{Bool, true, false}
use Rattle.std.specs.Prelude.{not, ◌&&◌, ◌||◌, ◌≡◌, eqb, length, set}
use Rattle.std.proofs.Math.Path.{refl, sym, ap}
use Rattle.std.proofs.Common.{◌∙◌, arith, get_or-set_same, get_or-set_other}
use mathlib.Core.List.{List, [], ◌∷◌}
use Prim.Native.Nat.{ℕ, zero, suc, ◌<◌}
use Rattle.std.proofs.Math.Decide.{dec_lt, ℕ_discrete}
use Rattle.std.proofs.Math.ListN.{get_or}
use Rattle.std.proofs.Math.Seq.{set_out}
use Rattle.base.specs.Pick.{pick}
use Rattle.base.specs.Lists.{put, keep}
use Rattle.definition.specs.Texts.{Text}
use Rattle.definition.specs.Tables.{Rule, Lexicon}
use Rattle.definition.specs.Edges.{View, Mem, ret, remember, ◌>>=◌}
use Rattle.definition.specs.Boundaries.{fresh, recall, word_start, word_end}
use Rattle.definition.specs.Rules.{spans, lang, asks_start, holds_at, valid, sift, valids}

-- Where no flag asks the start, its answer does not count
unasked : (code : Text) (b c w : Bool) (r : Rule) → asks_start r ≡ false → holds_at code b w r ≡ holds_at code c w r
unfolding asks_start holds_at
unasked code b c w r e = go r.start_only r.not_start r.whole_word e
  where
    rest : Bool → Bool → Bool → Bool → Bool
    rest x y z d =
        lang code r
        && (not x || d) && (not y || not d)
        && (not r.end_only || w) && (not r.not_end || not w)
        && (not z || (d && w))

    go : (x y z : Bool) → (x || y || z) ≡ false → rest x y z b ≡ rest x y z c
    go false false false e = refl
    go true y z e = absurd (let w : ◌≡◌ {A = ℕ} 0 1 = cc in omega arith)
    go false true z e = absurd (let w : ◌≡◌ {A = ℕ} 0 1 = cc in omega arith)
    go false false true e = absurd (let w : ◌≡◌ {A = ℕ} 0 1 = cc in omega arith)

module _ (L : Lexicon) (t : Text) (v : View) where
  -- what asking the start of a word answers
  unfoldable pub told_start : Mem → ℕ → Bool
  told_start m p = (word_start L.classes t v p m).0

  -- memories that answer alike at every position
  abbrev pub Recalls : Mem → Mem → Type 0
  Recalls m n = (p : ℕ) → told_start m p ≡ told_start n p

  -- the answer by the number remembered
  unfoldable said : ℕ → ℕ → Bool
  said p zero = fresh L.classes t v p
  said p (suc k) = eqb k 0

  told-said : (m : Mem) (p : ℕ) → told_start m p ≡ said p (get_or m p 0)
  unfolding told_start word_start
  told-said m p = go (get_or m p 0)
    where
      go : (k : ℕ) → (recall L.classes t v p k m).0 ≡ said p k
      go zero = unfold recall remember said in refl
      go (suc k) = unfold recall ret said in refl

  -- what is remembered is the answer
  said-pick : (p : ℕ) (b : Bool) → said p (pick b 1 2) ≡ b
  unfolding said pick
  said-pick p true = refl
  said-pick p false = refl

  -- To remember the answer at a position not asked yet: there it is what asking would answer, elsewhere nothing changes
  set_recalls : (p : ℕ) (m : Mem) → get_or m p 0 ≡ 0 → (q : ℕ)
      → said q (get_or (set m p (pick (fresh L.classes t v p) 1 2)) q 0) ≡ said q (get_or m q 0)
  unfolding said
  set_recalls p m e q = go (ℕ_discrete q p) (dec_lt p (length m))
    where
      n : ℕ
      n = pick (fresh L.classes t v p) 1 2

      go : Dec (q ≡ p) → Dec (p < length m) → said q (get_or (set m p n) q 0) ≡ said q (get_or m q 0)
      go (no d) l = ap (said q) (get_or-set_other m p q n 0 d)
      go (yes d) (no l) = ap (λ k. said q (get_or k q 0)) (set_out m p n (omega arith))
      go (yes d) (yes l) = rw d (ap (said p) (get_or-set_same m p n 0 l) ∙ said-pick p (fresh L.classes t v p) ∙ sym (ap (said p) e))

  pub asked_recalls : (p : ℕ) (m : Mem) → Recalls (word_start L.classes t v p m).1 m
  unfolding word_start
  asked_recalls p m q = told-said (word_start L.classes t v p m).1 q ∙ go (get_or m p 0) refl ∙ sym (told-said m q)
    where
      go : (k : ℕ) → get_or m p 0 ≡ k → said q (get_or (recall L.classes t v p k m).1 q 0) ≡ said q (get_or m q 0)
      go zero e = unfold recall remember in set_recalls p m e q
      go (suc k) e = unfold recall ret in refl

  -- the valid rules of a span, by what is answered of its start
  unfoldable pub valid_rules : Mem → ℕ → ℕ → List Rule
  valid_rules m s e =
      keep (holds_at L.code (told_start m s) (word_end L.rules L.classes t e)) (keep (spans t s e) L.rules)

  -- they are alike where the memories are
  pub valid_rules-alike : (m n : Mem) → Recalls m n → (s e : ℕ) → valid_rules m s e ≡ valid_rules n s e
  unfolding valid_rules
  valid_rules-alike m n h s e =
      ap (λ b. keep (holds_at L.code b (word_end L.rules L.classes t e)) (keep (spans t s e) L.rules)) (h s)

  -- One rule
  valid-is : (s e : ℕ) (r : Rule) (m : Mem)
      → (valid L t v s e r m).0 ≡ holds_at L.code (told_start m s) (word_end L.rules L.classes t e) r
  unfolding valid ret ◌>>=◌
  valid-is s e r m = go (asks_start r) refl
    where
      w : Bool
      w = word_end L.rules L.classes t e

      go : (a : Bool) → asks_start r ≡ a
          → holds_at L.code (pick a (word_start L.classes t v s) (ret false) m).0 w r ≡ holds_at L.code (told_start m s) w r
      go true z = unfold pick told_start in refl
      go false z = unfold pick ret in unasked L.code false (told_start m s) w r z

  valid_recalls : (s e : ℕ) (r : Rule) (m : Mem) → Recalls (valid L t v s e r m).1 m
  unfolding valid ret ◌>>=◌
  valid_recalls s e r m = go (asks_start r)
    where
      go : (a : Bool) → Recalls (pick a (word_start L.classes t v s) (ret false) m).1 m
      go true = unfold pick in asked_recalls s m
      go false = unfold pick ret in (λ p. refl)

  -- Several, each after those before it
  sift-is : (s e : ℕ) (rs : List Rule) (m : Mem)
      → (sift L t v s e rs m).0 ≡ keep (holds_at L.code (told_start m s) (word_end L.rules L.classes t e)) rs
  unfolding sift ret ◌>>=◌ keep
  sift-is s e [] m = refl
  sift-is s e (r ∷ rs) m =
      let w = word_end L.rules L.classes t e in
      let n = (valid L t v s e r m).1 in
      ap (λ b. put b r (sift L t v s e rs n).0) (valid-is s e r m)
      ∙ ap (put (holds_at L.code (told_start m s) w r) r)
      (sift-is s e rs n ∙ ap (λ b. keep (holds_at L.code b w) rs) (valid_recalls s e r m s))

  sift_recalls : (s e : ℕ) (rs : List Rule) (m : Mem) → Recalls (sift L t v s e rs m).1 m
  unfolding sift ret ◌>>=◌
  sift_recalls s e [] m p = refl
  sift_recalls s e (r ∷ rs) m p = sift_recalls s e rs (valid L t v s e r m).1 p ∙ valid_recalls s e r m p

  pub valids_are : (s e : ℕ) (m : Mem) → (valids L t v s e m).0 ≡ valid_rules m s e
  unfolding valids valid_rules
  valids_are s e m = sift-is s e (keep (spans t s e) L.rules) m

  pub valids-recall : (s e : ℕ) (m : Mem) → Recalls (valids L t v s e m).1 m
  unfolding valids
  valids-recall s e m = sift_recalls s e (keep (spans t s e) L.rules) m
