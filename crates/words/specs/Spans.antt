-- Spans as texts: what stands from `s` to `e` is a text, and the rules of a span are those with that source.
use Rattle.std.specs.Prelude.{Bool, true, false, ◌&&◌, ◌≡◌, refl, List, [], ◌∷◌, ℕ, zero, suc, ◌+◌, ◌-◌, ◌≤◌, ◌<◌, ltb, length, get_or, take, drop}
use Rattle.std.proofs.Math.Bool.{and-false}
use Rattle.std.proofs.Common.{sym, ◌∙◌, arith, add-one, length-drop, drop-cons, length-take-le, lt-ltb, le-ltb, eq-eqb, ne_eqb}
use Rattle.std.proofs.Math.Path.{ap}
use Rattle.std.proofs.Math.Decide.{dec_lt, ℕ_discrete}
use Rattle.std.proofs.Math.Dec.{eqb}
use Rattle.base.specs.Lists.{keep, same, starts}
use Rattle.base.specs.ListLaws.{same_true, keep-none}
use Rattle.base.specs.Bools.{eqb_alike}
use Rattle.base.specs.Alls.{All-each, keep_cong, any_cong}
use Rattle.definition.specs.Texts.{Text, at, stands, fits, begins, the_space}
use Rattle.definition.specs.Tables.{Rule}
use Rattle.definition.specs.Rules.{spans, is_prefix}
use Rattle.rule_table.specs.Doors.{with_source, is_start}
use Rattle.words.specs.Given.{part, get_d_any}

-- a character that stands within the text
module _ (t : Text) (s : ℕ) (h : s < length t) where
  here : (c : ℕ) → stands t s c ≡ eqb c (get_or t s 0)
  unfolding stands at
  here c = ap (λ (b : Bool). b && eqb c (get_or t s the_space)) (lt-ltb s (length t) h) ∙ ap (eqb c) (get_d_any t s the_space 0 h)

  cut : drop s t ≡ get_or t s 0 ∷ drop (s + 1) t
  cut = drop-cons t s 0 h ∙ ap (λ m. get_or t s 0 ∷ drop m t) (sym (add-one s))

eqb_sym : (a b : ℕ) → eqb a b ≡ eqb b a
eqb_sym a b = eqb_alike a b b a sym sym

pub begins-is : (t w : Text) (s k : ℕ) → s + k ≤ length t → begins t w s k ≡ starts (take k (drop s t)) w
unfolding begins starts
begins-is t w s zero h = refl
begins-is t [] s (suc k) h = sym (ap (λ l. starts (take (suc k) l) []) (cut t s (omega arith)))
begins-is t (c ∷ w) s (suc k) h =
    ap (λ (b : Bool). b && begins t w (s + 1) k) (here t s (omega arith) c ∙ eqb_sym c (get_or t s 0))
    ∙ ap (λ (b : Bool). eqb (get_or t s 0) c && b) (begins-is t w (s + 1) k (omega arith))
    ∙ sym (ap (λ l. starts (take (suc k) l) (c ∷ w)) (cut t s (omega arith)))

-- a span is a prefix of a source just where its text is
pub prefix_is : (rs : List Rule) (t : Text) (s e : ℕ) → s ≤ e → e ≤ length t → is_prefix rs t s e ≡ is_start (part t s e) rs
unfolding is_prefix is_start
prefix_is rs t s e h k = any_cong (λ r. begins t r.source s (e - s)) (λ r. starts (part t s e) r.source) rs
    (All-each _ (λ r. begins-is t r.source s (e - s) (omega arith)) rs)

fits-is : (t w : Text) (s k : ℕ) → s + k ≤ length t → length w ≡ k → fits t w s ≡ same w (take k (drop s t))
unfolding fits same
fits-is t [] s zero h e = refl
fits-is t [] s (suc k) h e = absurd (omega arith)
fits-is t (c ∷ w) s zero h e = absurd (omega arith)
fits-is t (c ∷ w) s (suc k) h e =
    ap (λ (b : Bool). b && fits t w (s + 1)) (here t s (omega arith) c)
    ∙ ap (λ (b : Bool). eqb c (get_or t s 0) && b) (fits-is t w (s + 1) k (omega arith) (omega arith))
    ∙ sym (ap (λ l. same (c ∷ w) (take (suc k) l)) (cut t s (omega arith)))

-- a source spans just where it is the span's text
pub spans-is : (t : Text) (s e : ℕ) → s ≤ e → e ≤ length t → (r : Rule) → spans t s e r ≡ same r.source (part t s e)
unfolding spans
spans-is t s e h k r = go (ℕ_discrete (s + length r.source) e)
  where
    long : length (part t s e) ≡ e - s
    long = length-take-le (e - s) (drop s t) (omega (arith, length-drop s t))

    go : Dec (s + length r.source ≡ e) → (eqb (s + length r.source) e && fits t r.source s) ≡ same r.source (part t s e)
    go (yes p) = ap (λ (b : Bool). b && fits t r.source s) (eq-eqb (s + length r.source) e p)
        ∙ fits-is t r.source s (e - s) (omega arith) (omega arith)
    go (no p) = ap (λ (b : Bool). b && fits t r.source s) (ne_eqb (s + length r.source) e p)
        ∙ unlike (same r.source (part t s e)) refl
      where
        unlike : (b : Bool) → same r.source (part t s e) ≡ b → false ≡ b
        unlike true q = absurd (p (let z = ap length (same_true r.source (part t s e) q) in omega (arith, z, long)))
        unlike false q = refl

pub spanning : (rs : List Rule) (t : Text) (s e : ℕ) → s ≤ e → e ≤ length t → keep (spans t s e) rs ≡ with_source (part t s e) rs
unfolding with_source
spanning rs t s e h k = keep_cong (spans t s e) (λ r. same r.source (part t s e)) rs (All-each _ (spans-is t s e h k) rs)

-- past the text's end there is none
fits-past : (t w : Text) (s : ℕ) → 0 < length w → length t < s + length w → fits t w s ≡ false
unfolding fits stands
fits-past t [] s h k = absurd (omega arith)
fits-past t (c ∷ w) s h k = go (dec_lt s (length t)) (fits-past t w (s + 1))
  where
    go : Dec (s < length t) → (0 < length w → length t < s + 1 + length w → fits t w (s + 1) ≡ false)
        → ((ltb s (length t) && eqb c (at t s)) && fits t w (s + 1)) ≡ false
    go (yes l) f = ap (λ (b : Bool). (ltb s (length t) && eqb c (at t s)) && b) (f (omega arith) (omega arith)) ∙ and-false (ltb s (length t) && eqb c (at t s))
    go (no l) f = ap (λ (b : Bool). (b && eqb c (at t s)) && fits t w (s + 1)) (le-ltb s (length t) (omega arith))

pub spanning-past : (rs : List Rule) (t : Text) (s e : ℕ) → s < e → length t < e → keep (spans t s e) rs ≡ []
unfolding spans
spanning-past rs t s e h k = keep-none (λ r. Unit {0}) (spans t s e) rs (All-each _ (λ r. tt) rs) (λ r u. past r (ℕ_discrete (s + length r.source) e))
  where
    past : (r : Rule) → Dec (s + length r.source ≡ e) → (eqb (s + length r.source) e && fits t r.source s) ≡ false
    past r (yes p) = ap (λ (b : Bool). eqb (s + length r.source) e && b) (fits-past t r.source s (omega arith) (omega arith)) ∙ and-false (eqb (s + length r.source) e)
    past r (no p) = ap (λ (b : Bool). b && fits t r.source s) (ne_eqb (s + length r.source) e p)
