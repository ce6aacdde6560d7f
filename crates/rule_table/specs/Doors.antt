-- What is asked of the rule table: the rows with a source, and whether a text is a prefix of one.
use Rattle.std.specs.Prelude.{Bool, ◌||◌, List, [], ◌∷◌, ◌++◌, ℕ, ◌+◌, ◌≤◌, ◌<◌, length, drop}
use Rattle.std.proofs.Math.Bool.{true, false}
use Rattle.std.proofs.Math.Path.{◌≡◌, refl, ap}
use Rattle.std.proofs.Common.{sym, ◌∙◌, append_assoc, arith}
use Rattle.std.proofs.Math.Option.{none}
use Rattle.base.specs.Lists.{keep, any, same, starts}
use Rattle.base.specs.ListLaws.{any_append, keep_append, any_none, keep-none}
use Rattle.base.specs.Alls.{All, All-map, All-append}
use Rattle.definition.specs.Texts.{Text}
use Rattle.definition.specs.Tables.{Rule}
use Rattle.definition.specs.Blocks.{head_bytes}
use Rattle.definition.specs.RuleRows.{rises, rule_size, rule_source, rule_of, rules_of}
use Rattle.definition.specs.RuleFaults.{rule_fault}
use Rattle.rule_table.specs.Order.{compared, equal_same, unlike, above_later, equal_starts, below_starts, above_starts}
use Rattle.rule_table.specs.Sorted.{rules_from, Sorted, sorted-start, rules_from-start, rules-over, rules-next, sorted-next, sorted-later}
use Rattle.std.specs.declared.cmp.Ordering.TheVariants.{Less, Equal, Greater}

-- the rules with this source; is it a prefix of a source?
unfoldable pub with_source : Text → List Rule → List Rule
with_source w rs = keep (λ r. same r.source w) rs

unfoldable pub is_start : Text → List Rule → Bool
is_start w rs = any (λ r. starts w r.source) rs

-- Sought: the rows before an offset are below what is looked for
pub record Sought (b w : List ℕ) (at : ℕ) : Type 0 where
  pub sorted : Sorted b at
  pub skipped : List Rule
  pub is : rules_of b ≡ skipped ++ rules_from b at
  pub lower : All (λ r. compared r.source w ≡ Less) skipped

pub sought_start : (b w : List ℕ) → rule_fault b ≡ none → Sought b w head_bytes
sought_start b w e = record {
  sorted = sorted-start b e;
  skipped = [];
  is = sym (rules_from-start b);
  lower = tt;
}

pub sought_next : (b w : List ℕ) (at : ℕ) → at < length b → compared (rule_source (drop at b)) w ≡ Less → Sought b w at
    → Sought b w (at + rule_size (drop at b))
unfolding rule_of
sought_next b w at l e s = record {
  sorted = sorted-next l s.sorted;
  skipped = s.skipped ++ rule_of (drop at b) ∷ [];
  is = s.is ∙ ap (λ r. s.skipped ++ r) (rules-next b at l) ∙ sym (append_assoc s.skipped (rule_of (drop at b) ∷ []) _);
  lower = All-append (λ r. compared r.source w ≡ Less) s.skipped (rule_of (drop at b) ∷ []) s.lower (e, tt);
}

-- what was skipped has neither
module _ (b w : List ℕ) (at : ℕ) (s : Sought b w at) where
  pub sought_source : with_source w (rules_of b) ≡ with_source w (rules_from b at)
  unfolding with_source
  sought_source =
      ap (keep (λ r. same r.source w)) s.is ∙ keep_append (λ r. same r.source w) s.skipped (rules_from b at)
      ∙ ap (λ l. l ++ keep (λ r. same r.source w) (rules_from b at))
      (keep-none (λ r. compared r.source w ≡ Less) (λ r. same r.source w) s.skipped s.lower
      (λ r e. unlike r.source w (λ z. let y : ◌≡◌ {A = ℕ} 0 1 = cc in omega arith)))

  pub sought_start_of : is_start w (rules_of b) ≡ is_start w (rules_from b at)
  unfolding is_start
  sought_start_of =
      ap (any (λ r. starts w r.source)) s.is ∙ any_append (λ r. starts w r.source) s.skipped (rules_from b at)
      ∙ ap (λ c. c || any (λ r. starts w r.source) (rules_from b at))
      (any_none (λ r. compared r.source w ≡ Less) (λ r. starts w r.source) s.skipped s.lower
      (λ r e. below_starts r.source w e))

-- Where the search ends: past the table, at a row that is above, or at one that is equal
module _ (b w : List ℕ) (at : ℕ) where
  pub none_over : length b ≤ at → with_source w (rules_from b at) ≡ []
  unfolding with_source keep
  none_over l = rw (rules-over b at l)

  pub no_start-over : length b ≤ at → is_start w (rules_from b at) ≡ false
  unfolding is_start any
  no_start-over l = rw (rules-over b at l)

  module _ (l : at < length b) (s : Sorted b at) where
    later_above : compared (rule_source (drop at b)) w ≡ Greater
        → All (λ y. compared y.source w ≡ Greater) (rules_from b (at + rule_size (drop at b)))
    later_above e = All-map (λ (y : Rule) r. above_later (rule_source (drop at b)) y.source w e r)
        (rules_from b (at + rule_size (drop at b))) (sorted-later l s)

    pub all_above : compared (rule_source (drop at b)) w ≡ Greater → All (λ y. compared y.source w ≡ Greater) (rules_from b at)
    unfolding rule_of
    all_above e = rw (rules-next b at l) (e, later_above e)

    pub none_above : compared (rule_source (drop at b)) w ≡ Greater → with_source w (rules_from b at) ≡ []
    unfolding with_source keep rule_of
    none_above e = rw (rules-next b at l, unlike (rule_source (drop at b)) w (λ z. let y : ◌≡◌ {A = ℕ} 0 1 = cc in omega arith))
        (keep-none (λ (y : Rule). compared y.source w ≡ Greater) (λ (r : Rule). same r.source w)
        (rules_from b (at + rule_size (drop at b))) (later_above e)
        (λ y q. unlike y.source w (λ z. let x : ◌≡◌ {A = ℕ} 0 1 = cc in omega arith)))

    -- the first that is not below has the prefix, or none has
    pub start_equal : compared (rule_source (drop at b)) w ≡ Equal → is_start w (rules_from b at) ≡ true
    unfolding is_start any rule_of
    start_equal e = rw (rules-next b at l, equal_starts (rule_source (drop at b)) w e)

    pub start_above : compared (rule_source (drop at b)) w ≡ Greater
        → is_start w (rules_from b at) ≡ starts w (rule_source (drop at b))
    unfolding is_start any rule_of
    start_above e = rw (rules-next b at l) (go (starts w (rule_source (drop at b))) refl)
      where
        go : (c : Bool) → starts w (rule_source (drop at b)) ≡ c
            → (c || any (λ r. starts w r.source) (rules_from b (at + rule_size (drop at b)))) ≡ c
        go true q = refl
        go false q = any_none (λ (y : Rule). rises (rule_source (drop at b)) y.source ≡ true)
            (λ (r : Rule). starts w r.source) (rules_from b (at + rule_size (drop at b))) (sorted-later l s) (λ y r. above_starts (rule_source (drop at b)) y.source w e q r)

    -- one that is equal is counted
    pub one_equal : compared (rule_source (drop at b)) w ≡ Equal
        → with_source w (rules_from b at) ≡ rule_of (drop at b) ∷ with_source w (rules_from b (at + rule_size (drop at b)))
    unfolding with_source keep rule_of
    one_equal e = rw (rules-next b at l, equal_same (rule_source (drop at b)) w e)
