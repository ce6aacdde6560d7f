-- The walk over the rows of a span, which keeps the best so far.
use mathlib.Core.Bool.{Bool}
use mathlib.Core.List.{List}
use mathlib.Core.Option.{Option, none}
use mathlib.Core.Path.{◌≡◌, sym, ap, ◌∙◌}
use Prim.Native.Nat.{ℕ, ◌+◌, ◌-◌, ◌<◌}
use native.Mathlib.Omega.{arith}
use lib.ListN.{length, drop}
use Rattle.base.specs.Pick.{pick}
use Rattle.base.specs.Lists.{keep}
use Rattle.definition.specs.Texts.{Text}
use Rattle.definition.specs.Tables.{Rule, Lexicon}
use Rattle.definition.specs.Edges.{View, Mem, ret}
use Rattle.definition.specs.RuleRows.{rule_size, rule_of}
use Rattle.definition.specs.Rules.{spans, valid, choose}
use Rattle.words.specs.Did.{Did, outcome}
use Rattle.words.specs.Spans.{spanning-past}
use Rattle.words.specs.Found.{Rows, rules_in, none_in, one_in}
use Rattle.rule_choice.specs.Fold.{improve, consider, choose_from, choose-is}

-- the walk
module _ (L : Lexicon) (t : Text) (v : View) (s e : ℕ) (m : Mem) where
  pub past : s < e → length t < e → (none, m) ≡ choose L t v s e m
  unfolding choose_from ret
  past h k = ap (λ (l : List Rule). choose_from L t v s e l none m) (sym (spanning-past L.rules t s e h k)) ∙ choose-is L t v s e m

  pub begun : (l : List Rule) → l ≡ keep (spans t s e) L.rules → choose_from L t v s e l none m ≡ choose L t v s e m
  begun l q = ap (λ (l : List Rule). choose_from L t v s e l none m) q ∙ choose-is L t v s e m

  module _ (R : List ℕ) (row left : ℕ) where
    pub over : (o : Option Rule) → left ≡ 0 → choose_from L t v s e (rules_in R row left) o m ≡ (o, m)
    unfolding choose_from ret
    over o h = ap (λ (l : List Rule). choose_from L t v s e l o m) (none_in R row left h)

    module _ (rest : ℕ) (o : Option Rule) (h : left ≡ rest + 1) (k : Rows R row left) where
      pub next : (b : Bool) (n : Mem) → Did (valid L t v s e (rule_of (drop row R)) m) b n
          → (p : Option Rule) → p ≡ pick b (improve o (rule_of (drop row R))) o → (z : ℕ) → z ≡ rule_size (drop row R)
          → choose_from L t v s e (rules_in R (row + z) rest) p n ≡ choose_from L t v s e (rules_in R row left) o m
      unfolding choose_from consider
      next b n d p f z g =
          let r = rule_of (drop row R) in
          let K = rules_in R (row + rule_size (drop row R)) in
          ap (λ (i : ℕ). choose_from L t v s e (rules_in R (row + i) rest) p n) g
          ∙ ap (λ (i : ℕ). choose_from L t v s e (K i) p n) {x = rest} {y = left - 1} (omega arith)
          ∙ ap (λ (q : Option Rule). choose_from L t v s e (K (left - 1)) q n) f
          ∙ ap (λ (y : Bool × Mem). choose_from L t v s e (K (left - 1)) (pick y.0 (improve o r) o) y.1) (sym (outcome d))
          ∙ ap (λ (l : List Rule). choose_from L t v s e l o m) (sym (one_in R row left (omega arith) k))
