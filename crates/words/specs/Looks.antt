-- What a look-up tells of a span: the rows of its rules, and whether a longer source starts with its text.
use Rattle.std.specs.Prelude.{Bool, true, false, ◌&&◌, ◌||◌, ◌≡◌, refl, List, [], ◌∷◌, ℕ, zero, suc, ◌+◌, ◌-◌, ◌≤◌, ◌<◌, ltb, length, take, drop}
use Rattle.std.proofs.Common.{true≢false, sym, ap, ◌∙◌, arith, length-drop, length-take-le, lt-ltb}
use Rattle.std.proofs.Math.Option.{none}
use Rattle.base.specs.Bools.{and_left, and_right}
use Rattle.base.specs.Lists.{keep}
use Rattle.base.specs.ListLaws.{any_implies}
use Rattle.definition.specs.Texts.{Text, stands, begins}
use Rattle.definition.specs.Tables.{Rule}
use Rattle.definition.specs.RuleRows.{rules_of}
use Rattle.definition.specs.RuleFaults.{rule_fault}
use Rattle.definition.specs.Rules.{spans, is_prefix}
use Rattle.rule_table.specs.Doors.{with_source, is_start}
use Rattle.rule_table.specs.Seek.{first_at, equal_rows}
use Rattle.rule_table.specs.Longer.{goes_past, has_longer, start_or_longer}
use Rattle.words.specs.Given.{World, part, size_in, Lined, line-size, part_at}
use Rattle.words.specs.Spans.{begins-is, prefix_is, spanning}
use Rattle.words.specs.Found.{Rows, rules_in, found_at}
use Rattle.words.specs.declared.Look.{Look}

-- the text from `s` to `e`, as it stands in the line
abbrev pub source_in : List ℕ → ℕ → ℕ → Text
source_in line s e = take (e - s) (drop (s + 1) line)

pub record Looked (rules line : List ℕ) (look : Look) : Type 0 where
  pub forward : look.span.from < look.span.to
  pub inside : look.span.to ≤ size_in line
  pub first : look.found.first ≡ first_at rules (source_in line look.span.from look.span.to)
  pub count : look.found.count ≡ equal_rows rules (source_in line look.span.from look.span.to)
  pub more : look.found.more ≡ has_longer (source_in line look.span.from look.span.to) (rules_of rules)

-- a span that begins where a longer one does; a source is no shorter than what it begins with
begins_shorter : (t w : Text) (s k : ℕ) → begins t w s (suc k) ≡ true → begins t w s k ≡ true
unfolding begins
begins_shorter t w s zero e = refl
begins_shorter t [] s (suc k) e = e
begins_shorter t (c ∷ w) s (suc k) e =
    ap (λ (b : Bool). b && begins t w (s + 1) k) (and_left (stands t s c) (begins t w (s + 1) (suc k)) e)
    ∙ begins_shorter t w (s + 1) k (and_right (stands t s c) (begins t w (s + 1) (suc k)) e)

begins-long : (t w : Text) (s k : ℕ) → begins t w s k ≡ true → k ≤ length w
unfolding begins
begins-long t w s zero e = omega arith
begins-long t [] s (suc k) e = absurd (true≢false (sym e))
begins-long t (c ∷ w) s (suc k) e =
    let h = begins-long t w (s + 1) k (and_right (stands t s c) (begins t w (s + 1) k) e) in omega (arith, h)

-- where a span and one character more are a prefix of a source, a longer source starts with the span's text
past_span : (rs : List Rule) (t : Text) (s e : ℕ) → s ≤ e → e ≤ length t → is_prefix rs t s (e + 1) ≡ true → has_longer (part t s e) rs ≡ true
unfolding is_prefix has_longer
past_span rs t s e h k q = any_implies (λ r. begins t r.source s (e + 1 - s)) (goes_past (part t s e)) (λ r b. past r b) rs q
  where
    long : length (part t s e) ≡ e - s
    long = length-take-le (e - s) (drop s t) (omega (arith, length-drop s t))

    past : (r : Rule) → begins t r.source s (e + 1 - s) ≡ true → goes_past (part t s e) r ≡ true
    past r b =
        let one : e + 1 - s ≡ suc (e - s) = omega arith in
        let more = ap (begins t r.source s) (sym one) ∙ b in
        ap (λ (x : Bool). x && ltb (length (part t s e)) (length r.source))
        (sym (begins-is t r.source s (e - s) (omega arith)) ∙ begins_shorter t r.source s (e - s) more)
        ∙ lt-ltb (length (part t s e)) (length r.source) (omega (arith, long, begins-long t r.source s (suc (e - s)) more))

module _ {rules line : List ℕ} {look : Look} (a : rule_fault rules ≡ none) (d : Looked rules line look) where
  abbrev source : Text
  source = source_in line look.span.from look.span.to

  found : (rules_in rules look.found.first look.found.count ≡ with_source source (rules_of rules)) × Rows rules look.found.first look.found.count
  found = found_at rules source a look.found.first look.found.count d.first d.count

  pub looked_rows : Rows rules look.found.first look.found.count
  looked_rows = found.1

  -- in every world that has the line
  module _ {w : World} (g : Lined w line) where
    abbrev t : Text
    t = w.text

    ends : look.span.to ≤ length t
    ends = omega (arith, line-size g, d.inside)

    source_is : source ≡ part t look.span.from look.span.to
    source_is = part_at g look.span.from look.span.to (look.span.from + 1) (look.span.to - look.span.from) (omega (arith, d.forward)) ends refl refl

    pub looked_are : rules_in rules look.found.first look.found.count ≡ keep (spans t look.span.from look.span.to) (rules_of rules)
    looked_are =
        found.0 ∙ ap (λ x. with_source x (rules_of rules)) source_is
        ∙ sym (spanning (rules_of rules) t look.span.from look.span.to (omega (arith, d.forward)) ends)

    pub looked_prefix : is_prefix (rules_of rules) t look.span.from look.span.to ≡ (ltb 0 look.found.count || look.found.more)
    looked_prefix =
        prefix_is (rules_of rules) t look.span.from look.span.to (omega (arith, d.forward)) ends
        ∙ ap (λ x. is_start x (rules_of rules)) (sym source_is) ∙ start_or_longer rules source a
        ∙ ap (λ n. ltb 0 n || has_longer source (rules_of rules)) (sym d.count)
        ∙ ap (λ (b : Bool). ltb 0 look.found.count || b) (sym d.more)

    -- the last end of all, past the text too
    pub looked_last : look.found.more ≡ false → is_prefix (rules_of rules) t look.span.from (look.span.to + 1) ≡ false
    looked_last e = go (is_prefix (rules_of rules) t look.span.from (look.span.to + 1)) refl
      where
        go : (b : Bool) → is_prefix (rules_of rules) t look.span.from (look.span.to + 1) ≡ b → b ≡ false
        go false q = refl
        go true q = absurd (true≢false (sym (past_span (rules_of rules) t look.span.from look.span.to (omega (arith, d.forward)) ends q)
            ∙ ap (λ x. has_longer x (rules_of rules)) (sym source_is) ∙ sym d.more ∙ e))
