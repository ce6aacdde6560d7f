-- What lies within the text: a source that stands there, a prefix of one, a character that is no space.
use Rattle.std.specs.Prelude.{Bool, true, false, ◌≡◌, List, [], ◌∷◌, ℕ, zero, suc, ◌+◌, ◌-◌, ◌≤◌, ◌<◌, length}
use Rattle.std.proofs.Common.{true≢false, sym, ap, ◌∙◌, arith, ltb-true}
use Rattle.std.proofs.Math.Decide.{dec_lt}
use Rattle.std.proofs.Math.ListN.{get_or-eq_default}
use Rattle.base.specs.Bools.{and_left, and_right, or_cases}
use Rattle.base.specs.Lists.{any}
use Rattle.base.specs.ListLaws.{any_elim}
use Rattle.base.specs.Alls.{All}
use Rattle.definition.specs.Texts.{Text, at, stands, fits, begins, the_space}
use Rattle.definition.specs.Tables.{Rule}
use Rattle.definition.specs.Rules.{is_prefix}

pub stands_bound : (t : Text) (p c : ℕ) → stands t p c ≡ true → p < length t
unfolding stands
stands_bound t p c b = ltb-true p (length t) (and_left _ _ b)

pub fits_bound : (t w : Text) (p : ℕ) → p ≤ length t → fits t w p ≡ true → p + length w ≤ length t
unfolding fits
fits_bound t [] p l b = omega arith
fits_bound t (c ∷ w) p l b =
    let d = stands_bound t p c (and_left _ _ b) in
    let r = fits_bound t w (p + 1) (omega arith) (and_right (stands t p c) _ b) in omega arith

begins_bound : (t w : Text) (p k : ℕ) → p ≤ length t → begins t w p k ≡ true → p + k ≤ length t
unfolding begins
begins_bound t w p zero l b = omega arith
begins_bound t [] p (suc k) l b = absurd (true≢false (sym b))
begins_bound t (c ∷ w) p (suc k) l b =
    let d = stands_bound t p c (and_left _ _ b) in
    let r = begins_bound t w (p + 1) k (omega arith) (and_right (stands t p c) _ b) in omega arith

pub prefix_bound : (rs : List Rule) (t : Text) (p e : ℕ) → p ≤ length t → p < e → is_prefix rs t p e ≡ true → e ≤ length t
unfolding is_prefix
prefix_bound rs t p e l k b = any_elim (λ r. begins t r.source p (e - p)) rs
    (λ r q. let z = begins_bound t r.source p (e - p) l q in omega arith) b

-- a span that is a prefix of a source is no longer than that source
begins-most : (t w : Text) (p k : ℕ) → begins t w p k ≡ true → k ≤ length w
unfolding begins
begins-most t w p zero b = omega arith
begins-most t [] p (suc k) b = absurd (true≢false (sym b))
begins-most t (c ∷ w) p (suc k) b = let r = begins-most t w (p + 1) k (and_right (stands t p c) _ b) in omega arith

pub prefix_most : (n : ℕ) (rs : List Rule) (t : Text) (p e : ℕ) → All (λ r. length r.source ≤ n) rs
    → is_prefix rs t p e ≡ true → e - p ≤ n
unfolding is_prefix any
prefix_most n [] t p e h b = absurd (true≢false (sym b))
prefix_most n (r ∷ rs) t p e h b = or_cases (begins t r.source p (e - p)) _
    (λ q. let z = begins-most t r.source p (e - p) q in let y = h.0 in omega arith)
    (prefix_most n rs t p e h.1) b

-- where something other than a space stands, is in the text
pub inner : (t : Text) (p : ℕ) (q : ℕ → Bool) → q the_space ≡ false → q (at t p) ≡ true → p < length t
unfolding at
inner t p q f e = go (dec_lt p (length t))
  where
    go : Dec (p < length t) → p < length t
    go (yes k) = k
    go (no k) = absurd (true≢false (sym e ∙ ap q (get_or-eq_default t the_space (omega arith)) ∙ f))
