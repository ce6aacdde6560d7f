-- What the rules have for a character outside the text: nothing. A rule's source may be a space, so a rule may answer
-- for the space that the definition reads there; but a first rule is asked only after a test that a space fails (Absent),
-- and a source stands only in the text.
use Rattle.std.specs.Prelude.{Bool, true, ◌&&◌, ◌≡◌, List, [], ◌∷◌, ℕ, ◌+◌, ◌≤◌, ◌<◌, eqb, take, drop}
use Rattle.std.proofs.Math.Bool.{false}
use Rattle.std.proofs.Math.Path.{refl}
use Rattle.std.proofs.Common.{ap, ◌∙◌, arith, length-drop}
use Rattle.std.proofs.Math.Option.{Option, none, some}
use Rattle.std.proofs.Math.ListN.{length}
use borrow.Author.Tests.{eqb-true}
use Rattle.base.specs.Pick.{pick}
use Rattle.base.specs.Bools.{and_left, and_right}
use Rattle.base.specs.Lists.{put, keep, head, has, is, bind, same, best}
use Rattle.base.specs.ListLaws.{same_refl, keep-none}
use Rattle.base.specs.Alls.{All-each}
use Rattle.definition.specs.Texts.{Text, fits, the_space, o_ang, en_dash}
use Rattle.definition.specs.Tables.{Rule, Lexicon}
use Rattle.definition.specs.Edges.{View, Mem, M, ret, ◌>>=◌}
use Rattle.definition.specs.Rules.{spans, winner, first_rule, sift, valids, choose, simple}
use Rattle.definition.specs.Syllables.{opens, o_ang_test}
use Rattle.definition.specs.Expansion.{framed}
use Rattle.definition.specs.Within.{fits_bound, stands_bound}
use Rattle.definition.specs.Outside.{char_at, at_read, none-o_ang, none_outside}

-- A rule may answer for a space
pub space_ruled : (r : Rule) (rs : List Rule) → r.source ≡ the_space ∷ [] → first_rule (r ∷ rs) (the_space ∷ []) ≡ r.target
unfolding first_rule head keep
space_ruled r rs e =
    ap (λ b. bind (head (put b r (keep (λ r. same r.source (the_space ∷ [])) rs))) (λ r. r.target))
    (ap (λ s. same s (the_space ∷ [])) e ∙ same_refl (the_space ∷ []))

-- A source that stands somewhere stands in the text
pub fits-inside : (t w : Text) (p : ℕ) → 0 < length w → fits t w p ≡ true → p + length w ≤ length t
unfolding fits
fits-inside t [] p n b = absurd (omega arith)
fits-inside t (c ∷ w) p n b =
    let d = stands_bound t p c (and_left _ _ b) in
    fits_bound t (c ∷ w) p (omega arith) b

-- No rule has a span that ends outside the text: `if end > self.max_vertex`
module _ (L : Lexicon) (t : Text) (v : View) (s e : ℕ) (l : s < e) (o : length t < e) where
  spans_not : (r : Rule) → spans t s e r ≡ false
  spans_not r = go (spans t s e r) refl
    where
      go : (b : Bool) → spans t s e r ≡ b → b ≡ false
      go true q = unfold spans in absurd (
          let z = eqb-true (s + length r.source) e (and_left _ _ q) in
          let f = fits-inside t r.source s (omega arith) (and_right (eqb (s + length r.source) e) _ q) in
          omega arith)
      go false q = refl

  -- Simple search finds nothing for such a span, and remembers nothing
  pub simple_outside : (m : Mem) → simple L t v s e m ≡ (none, m)
  unfolding simple choose valids winner ret ◌>>=◌
  simple_outside m =
      let k = keep-none (λ r. Unit {0}) (spans t s e) L.rules (All-each _ (λ r. tt) L.rules) (λ r z. spans_not r) in
      rw k (unfold sift keep best in refl)

-- The Thai pattern's source: `if end + vowel_suffix_len <= self.s_chars.len()`
pub framed-inside : (t : Text) (c k e : ℕ) (r : Rule) → 0 < k → framed t c k e r ≡ true → e + k ≤ length t
unfolding framed
framed-inside t c k e r l b =
    let a = and_left _ _ b in
    let n = eqb-true (length r.source) (k + 2) (and_right (same (take 2 r.source) (c ∷ en_dash ∷ [])) _ a) in
    let d = length-drop 2 r.source in
    let f = fits-inside t (drop 2 r.source) e (omega arith) (and_right (same (take 2 r.source) (c ∷ en_dash ∷ []) && eqb (length r.source) (k + 2)) _ b) in
    omega arith

-- O ang before a vowel: `next_char2.is_some()` need not be asked, as nothing is found for an absent one
pub o_ang-there : (L : Lexicon) (t : Text) (v : View) (q : ℕ) (m : Mem) → o_ang_test L t v q m ≡
    pick (is (λ c. eqb c o_ang) (char_at t q) && has (char_at t (q + 1)))
    (do
      u ← simple L t v (q + 1) (q + 2)
      ret (opens u))
    (ret false) m
unfolding o_ang_test
o_ang-there L t v q m = rw (at_read t q, none-o_ang (char_at t q)) (go (is (λ c. eqb c o_ang) (char_at t q)) (char_at t (q + 1)) refl)
  where
    found : M Bool
    found = do
      u ← simple L t v (q + 1) (q + 2)
      ret (opens u)

    go : (b : Bool) (n : Option ℕ) → char_at t (q + 1) ≡ n → pick b found (ret false) m ≡ pick (b && has n) found (ret false) m
    go false n e = refl
    go true (some c) e = refl
    go true none e = unfold pick ◌>>=◌ in
        (rw (simple_outside L t v (q + 1) (q + 2) (omega arith) (let z = none_outside t (q + 1) e in omega arith) m) (unfold opens ret in refl))
