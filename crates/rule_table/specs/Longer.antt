-- Does a longer source start with a text? The row behind those with this source says it: sources rise, so a longer one
-- that starts with the text stands right behind them.
use Rattle.std.specs.Prelude.{Bool, true, false, ◌&&◌, ◌||◌, ◌≡◌, refl, List, [], ◌∷◌, ◌++◌, ℕ, ◌+◌, ◌≤◌, ◌<◌, ltb, length, drop}
use Rattle.std.proofs.Math.Bool.{and-false}
use Rattle.std.proofs.Math.Path.{sym}
use Rattle.std.proofs.Common.{ap, ◌∙◌, append-nil, arith, length-append, lt-ltb, le-ltb}
use Rattle.std.proofs.Math.Option.{none}
use Rattle.std.proofs.Math.Decide.{dec_lt}
use Rattle.base.specs.Lists.{any, starts}
use Rattle.base.specs.ListLaws.{any_append, any_none, same_true, starts_split}
use Rattle.base.specs.Alls.{All-map, any_cong}
use Rattle.definition.specs.Texts.{Text}
use Rattle.definition.specs.Tables.{Rule}
use Rattle.definition.specs.RuleRows.{rule_size, rule_source, rule_of, rules_of}
use Rattle.definition.specs.RuleFaults.{rule_fault}
use Rattle.rule_table.specs.Index.{offsets_from}
use Rattle.rule_table.specs.Order.{compared, compared_self, equal_same, equal_starts, below_starts}
use Rattle.rule_table.specs.Sorted.{rules_from, Sorted, rules-over, rules-next, sorted-next}
use Rattle.rule_table.specs.Doors.{is_start, all_above, start_above}
use Rattle.rule_table.specs.Seek.{is_below, is_equal, order_at, run, first_at, equal_rows, run-over, run_on, run_ends, equal_is, above_is, first_stops, next_not_below, start-over, start-there}
use Rattle.std.specs.declared.cmp.Ordering.TheVariants.{Less, Equal, Greater}

-- a source that goes on behind a text
abbrev pub goes_past : Text → Rule → Bool
goes_past w r = starts w r.source && ltb (length w) (length r.source)

unfoldable pub has_longer : Text → List Rule → Bool
has_longer w rs = any (goes_past w) rs

-- One that is below or equal does not; one that is above does where it starts with the text
module _ (w : Text) (r : Rule) where
  below_past : compared r.source w ≡ Less → goes_past w r ≡ false
  below_past e = ap (λ (b : Bool). b && ltb (length w) (length r.source)) (below_starts r.source w e)

  equal_past : compared r.source w ≡ Equal → goes_past w r ≡ false
  equal_past e =
      let z = ap length (same_true r.source w (equal_same r.source w e)) in
      ap (λ (b : Bool). starts w r.source && b) (le-ltb (length w) (length r.source) (omega (arith, z)))
      ∙ and-false (starts w r.source)

above_longer : (a w : Text) → compared a w ≡ Greater → starts w a ≡ true → length w < length a
above_longer a w e h = go (drop (length w) a) (starts_split w a h)
  where
    go : (u : Text) → a ≡ w ++ u → length w < length a
    go [] q = absurd (let k = sym e ∙ ap (λ x. compared x w) (q ∙ append-nil w) ∙ compared_self w in let z : ◌≡◌ {A = ℕ} 0 1 = cc in omega arith)
    go (c ∷ u) q = omega (arith, ap length q, length-append w (c ∷ u))

above_past : (w : Text) (r : Rule) → compared r.source w ≡ Greater → goes_past w r ≡ starts w r.source
above_past w r e = go (starts w r.source) refl
  where
    go : (b : Bool) → starts w r.source ≡ b → (b && ltb (length w) (length r.source)) ≡ b
    go true q = lt-ltb (length w) (length r.source) (above_longer r.source w e q)
    go false q = refl

-- A walk that has come to a row behind some of those with the source: nothing that goes past the text was left behind
pub record Passed (b w : List ℕ) (at : ℕ) : Type 0 where
  pub sorted : Sorted b at
  pub not_below : at < length b → is_below (order_at b w at) ≡ false
  pub rest : has_longer w (rules_from b at) ≡ has_longer w (rules_of b)

pub passed_first : (b w : List ℕ) → rule_fault b ≡ none → (at : ℕ) → at ≡ first_at b w → Passed b w at
unfolding has_longer
passed_first b w e at h =
    let q = first_stops b w e in
    rw h (record {
      sorted = q.sought.sorted;
      not_below = q.not_below;
      rest = sym (ap (any (goes_past w)) q.sought.is
          ∙ any_append (goes_past w) q.sought.skipped (rules_from b (first_at b w))
          ∙ ap (λ (c : Bool). c || any (goes_past w) (rules_from b (first_at b w)))
          (any_none (λ r. compared r.source w ≡ Less) (goes_past w) q.sought.skipped q.sought.lower (below_past w)));
    })

module _ (b w : List ℕ) (at : ℕ) (p : Passed b w at) where
  pub passed_over : length b ≤ at → false ≡ has_longer w (rules_of b)
  unfolding has_longer any
  passed_over l = sym (ap (any (goes_past w)) (rules-over b at l)) ∙ p.rest

  module _ (l : at < length b) where
    pub passed-next : is_equal (order_at b w at) ≡ true → (z : ℕ) → z ≡ rule_size (drop at b) → Passed b w (at + z)
    unfolding has_longer any order_at rule_of
    passed-next i z q =
        let o = equal_is (order_at b w at) i in
        rw q (record {
          sorted = sorted-next l p.sorted;
          not_below = next_not_below b w at l p.sorted o;
          rest = sym (ap (λ (c : Bool). c || any (goes_past w) (rules_from b (at + rule_size (drop at b)))) (equal_past w (rule_of (drop at b)) o))
              ∙ sym (ap (any (goes_past w)) (rules-next b at l)) ∙ p.rest;
        })

    pub passed_here : is_equal (order_at b w at) ≡ false → starts w (rule_source (drop at b)) ≡ has_longer w (rules_of b)
    unfolding has_longer order_at is_start any rule_of
    passed_here i =
        let o = above_is (order_at b w at) (p.not_below l) i in
        sym (start_above b w at l p.sorted o)
        ∙ sym (any_cong (goes_past w) (λ r. starts w r.source) (rules_from b at)
        (All-map (above_past w) (rules_from b at) (all_above b w at l p.sorted o)))
        ∙ p.rest

-- A text starts a source where one has it or a longer one starts with it
pub start_or_longer : (b w : List ℕ) → rule_fault b ≡ none → is_start w (rules_of b) ≡ (ltb 0 (equal_rows b w) || has_longer w (rules_of b))
unfolding equal_rows order_at
start_or_longer b w e = go (dec_lt at (length b)) (is_equal (order_at b w at)) refl
  where
    at : ℕ
    at = first_at b w

    go : Dec (at < length b) → (c : Bool) → is_equal (order_at b w at) ≡ c
        → is_start w (rules_of b) ≡ (ltb 0 (run b w (offsets_from b at)) || has_longer w (rules_of b))
    go (no l) c i =
        sym (start-over b w e at refl (omega arith)) ∙ passed_over b w at (passed_first b w e at refl) (omega arith)
        ∙ ap (λ (n : Bool). n || has_longer w (rules_of b)) (sym (le-ltb 0 (run b w (offsets_from b at)) (omega (arith, run-over b w at (omega arith)))))
    go (yes l) true i =
        sym (start-there b w e at refl l) ∙ equal_starts (rule_source (drop at b)) w (equal_is (order_at b w at) i)
        ∙ ap (λ (n : Bool). n || has_longer w (rules_of b)) (sym (lt-ltb 0 (run b w (offsets_from b at)) (omega (arith, run_on b w at l i))))
    go (yes l) false i =
        sym (start-there b w e at refl l) ∙ passed_here b w at (passed_first b w e at refl) l i
        ∙ ap (λ (n : Bool). n || has_longer w (rules_of b)) (sym (le-ltb 0 (run b w (offsets_from b at)) (omega (arith, run_ends b w at l i))))
