-- End of word: one law for each answer, and for each turn of the loops.
use mathlib.Core.Bool.{Bool, true, false, not, ◌&&◌, ◌||◌, and-false}
use mathlib.Core.List.{List, [], ◌∷◌}
use Rattle.std.specs.List.{list_any}
use mathlib.Core.Option.{none}
use mathlib.Core.Path.{◌≡◌, refl, sym, ap, ◌∙◌, subst}
use Prim.Native.Nat.{ℕ, ◌+◌, ◌-◌, ◌<◌, ◌≤◌}
use native.Mathlib.Omega.{arith}
use Rattle.std.proofs.lemmas.Bool.{not-true}
use lib.Dec.{eqb}
use lib.ListN.{get_or, drop}
use lib.Seq.{get_or-take}
use Rattle.base.specs.Alls.{All, All-map, Opt, any_cong}
use Rattle.base.specs.Bits.{is_set}
use Rattle.base.specs.Lists.{any, is, keep}
use Rattle.base.specs.Pick.{pick}
use Rattle.definition.specs.Limits.{most_target}
use Rattle.definition.specs.Texts.{Text, at}
use Rattle.definition.specs.Tables.{Rule, Class}
use Rattle.definition.specs.ClassRows.{classes_of}
use Rattle.definition.specs.RuleRows.{rule_size, rule_flag, rule_of, rules_of, start_only_bit, target_bit, target_at, text_where, text_of}
use Rattle.definition.specs.RuleFaults.{rule_fault}
use Rattle.definition.specs.Classes.{alpha}
use Rattle.definition.specs.Rules.{spans, is_prefix}
use Rattle.definition.specs.Boundaries.{goes_on, word_end}
use Rattle.definition.specs.ExpandBounds.{Spoken}
use Rattle.definition.specs.Shorts.{Low, Short}
use Rattle.table_classes.specs.Packing.{alphas_at}
use Rattle.table_classes.specs.Told.{alphas_of}
use Rattle.words.specs.Given.{World, kinds, size, letters_in, Lined}
use Rattle.words.specs.Looks.{Looked, looked_are, looked_last}
use Rattle.words.specs.declared.Look.{Look}
use Rattle.words.specs.declared.given.Span.{Span}
use Rattle.words.specs.Found.{Rows, rules_in, none_in, one_in, next-rows}
use Rattle.words.specs.Goes.{brings, letter_byte, goes_from, goes_over, goes_stops, goes-next}

-- the library's `any` is the definition's
pub any_is : {A : Type 0} (f : A → Bool) (l : List A) → list_any f l ≡ any f l
unfolding any
any_is f [] = refl
any_is f (x ∷ l) = ap (λ (t : Bool). f x || t) (any_is f l)

-- of an ASCII text it was told right
pub letters-told : (classes ready : List ℕ) → letters_in ready ≡ alphas_of classes → (w : Text) → All Low w
    → any (letter_byte ready) w ≡ any (alpha (classes_of classes)) w
unfolding letter_byte
letters-told classes ready e w h = any_cong (letter_byte ready) (alpha (classes_of classes)) w
    (All-map (λ c l. ap (λ n. eqb n 1) (sym (get_or-take 128 ready c 0 l)) ∙ ap (λ (a : List ℕ). eqb (get_or a c 0) 1) e ∙ ap (λ n. eqb n 1) (alphas_at classes c l)
    ∙ is_set (alpha (classes_of classes) c)) w h)

-- does the rule in a row bring a letter? By its flags
module _ (s : List ℕ) where
  abbrev target_of : Text
  target_of = text_of (drop (target_at s) s)

  pub target-low : Spoken (rule_of s) → rule_flag s target_bit ≡ true → All Low target_of
  unfolding rule_of text_where pick
  target-low h e = (subst (λ b. Opt (Short most_target) (text_where b (drop (target_at s) s))) e h.target).low

  module _ (ks : List Class) where
    pub brings-at-start : rule_flag s start_only_bit ≡ true → false ≡ brings ks (rule_of s)
    unfolding brings rule_of
    brings-at-start e = sym (ap (λ (b : Bool). not b && is (any (alpha ks)) (text_where (rule_flag s target_bit) (drop (target_at s) s))) e)

    pub brings-nothing : rule_flag s target_bit ≡ false → false ≡ brings ks (rule_of s)
    unfolding brings rule_of text_where pick
    brings-nothing e = sym
        (ap (λ (b : Bool). not (rule_flag s start_only_bit) && is (any (alpha ks)) (text_where b (drop (target_at s) s))) e
        ∙ and-false (not (rule_flag s start_only_bit)))

    pub brings-target : rule_flag s start_only_bit ≡ false → rule_flag s target_bit ≡ true
        → any (alpha ks) target_of ≡ brings ks (rule_of s)
    unfolding brings rule_of text_where pick
    brings-target e f = sym
        (ap (λ (b : Bool). not b && is (any (alpha ks)) (text_where (rule_flag s target_bit) (drop (target_at s) s))) e
        ∙ ap (λ (b : Bool). is (any (alpha ks)) (text_where b (drop (target_at s) s))) f)

-- the rows of a span, by what is left of them
pub rows-over : (b : List ℕ) (at left : ℕ) (f : Rule → Bool) → left ≡ 0 → false ≡ any f (rules_in b at left)
unfolding any
rows-over b at left f e = sym (ap (any f) (none_in b at left e))

module _ (b : List ℕ) (at left rest : ℕ) (h : left ≡ rest + 1) (r : Rows b at left) (z : ℕ) (q : z ≡ rule_size (drop at b)) where
  pub rows_next : Rows b (at + z) rest
  rows_next = subst (Rows b (at + z)) (omega arith) (subst (λ m. Rows b (at + m) (left - 1)) (sym q) (next-rows b at left (omega arith) r))

  pub rows_turn : (f : Rule → Bool) (t : Bool) → t ≡ f (rule_of (drop at b)) → (t || any f (rules_in b (at + z) rest)) ≡ any f (rules_in b at left)
  unfolding any
  rows_turn f t e =
      ap (λ (u : Bool). u || any f (rules_in b (at + z) rest)) e
      ∙ ap (λ m. f (rule_of (drop at b)) || any f (rules_in b (at + m) rest)) q
      ∙ ap (λ m. f (rule_of (drop at b)) || any f (rules_in b (at + rule_size (drop at b)) m)) {x = rest} {y = left - 1} (omega arith)
      ∙ sym (ap (any f) (one_in b at left (omega arith) r))

-- by the next character, and by what goes on from here
pub by_both : (rs : List Rule) (ks : List Class) (t : Text) (p : ℕ) (a b : Bool) → alpha ks (at t p) ≡ a → any (goes_on ks t p) rs ≡ b
    → (not a && not b) ≡ word_end rs ks t p
unfolding word_end
by_both rs ks t p a b d e = sym (ap (λ (x : Bool). not x && not (any (goes_on ks t p) rs)) d ∙ ap (λ (x : Bool). not a && not x) e)

-- the sources from `p` that end at `e` or later, past the text and by what a look-up tells
pub ends_over : {w : World} {line : List ℕ} (g : Lined w line) (rs : List Rule) (p e : ℕ) → size w < e → p ≤ size w
    → goes_from (kinds w) w.text p rs e ≡ false
ends_over {w} g rs p e k l = goes_over (kinds w) w.text p rs (omega arith) e (omega arith)

module _ {rules line : List ℕ} {look : Look} {span : Span} (a : rule_fault rules ≡ none) (d : Looked rules line look) (k : look.span ≡ span)
    {w : World} (g : Lined w line) where
  abbrev p : ℕ
  p = span.from

  abbrev e : ℕ
  e = span.to

  abbrev goes : ℕ → Bool
  goes q = goes_from (kinds w) w.text p (rules_of rules) q

  i : look.span.from ≡ p
  i = ap (λ (s : Span). s.from) k

  j : look.span.to ≡ e
  j = ap (λ (s : Span). s.to) k

  pub ends_turn : (b : Bool) → b ≡ any (brings (kinds w)) (rules_in rules look.found.first look.found.count) → (b || goes (e + 1)) ≡ goes e
  ends_turn b q =
      ap (λ (x : Bool). x || goes (e + 1))
      (q ∙ ap (any (brings (kinds w))) (looked_are a d g ∙ ap (λ s. keep (spans w.text s look.span.to) (rules_of rules)) i
      ∙ ap (λ z. keep (spans w.text p z) (rules_of rules)) j))
      ∙ sym (goes-next (kinds w) w.text p (rules_of rules) e)

  pub ends_here : not look.found.more ≡ true → goes (e + 1) ≡ false
  ends_here u =
      let q = not-true _ u in
      let h = d.forward in
      goes_stops (kinds w) w.text p (rules_of rules) (e + 1) (omega (arith, h, i, j))
      (ap (λ s. is_prefix (rules_of rules) w.text s (e + 1)) (sym i)
      ∙ ap (λ z. is_prefix (rules_of rules) w.text look.span.from (z + 1)) (sym j) ∙ looked_last a d g q)
