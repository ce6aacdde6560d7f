-- Demand 3 applied: its premises met by document 01's sample tables, for a line of two words, for a word where capitals are
-- chosen, where readings are, and for one with a character that stands for others; a text for which it would be false without the
-- premise on U+0E2D; and the same text with the choice of O ang 1, where nothing is asked. (proofs/Applied: its equations.)
use Rattle.std.specs.Prelude.{true, not, ◌≡◌, refl, [], ◌∷◌, ◌++◌, map, ℕ, zero, suc, eqb, length}
use Rattle.std.proofs.Common.{true≢false, sym, ◌∙◌, ap, arith, eq-eqb}
use Prim.Native.String.{String}
use Rattle.base.specs.Lists.{keep, all, tail}
use Rattle.base.specs.Alls.{All_getD, all-all}
use Rattle.definition.specs.Texts.{Text, chars, the_space, o_ang, at}
use Rattle.definition.specs.Utf8.{encoded}
use Rattle.definition.specs.Tables.{Choices}
use Rattle.definition.specs.Edges.{Edge}
use Rattle.definition.specs.Paths.{joined}
use Rattle.definition.specs.Decomposing.{path}
use Rattle.definition.specs.Listing.{block}
use Rattle.definition.specs.Call.{Inputs, tables, decompositions, characters}
use Rattle.definition.specs.Compute.{compute}
use Rattle.definition.specs.Sample.{sample_rules, sample_classes_by, sample_classes, capitals_by, o_ang_by, readings_by, as_port, lower_case, sample_with, sample}
use Rattle.definition.specs.SampleReadings.{ended}
use Rattle.stretches.specs.Demand.{spaceless, spaceless_if, spaceless_rule, Taken, Before, After, end, First, First_if, within, shift, Alone}

-- U+0E2D only first, by computation
pub first_by : (st : Text) → all (λ c. not (eqb c o_ang)) (tail st) ≡ true → First st
unfolding at all
first_by [] e p q = absurd (let z : ◌≡◌ {A = ℕ} 0x20 0x0E2D = q in omega arith)
first_by (c ∷ w) e zero q = refl
first_by (c ∷ w) e (suc p) q =
    absurd (All_getD Other w p the_space (all-all Other (λ c. not (eqb c o_ang)) other_by w e) (λ z. omega arith) q)
  where
    Other : ℕ → Type 0
    Other c = c ≡ o_ang → ⊥

    other_by : (c : ℕ) → not (eqb c o_ang) ≡ true → Other c
    other_by c t z = true≢false (sym t ∙ ap not (eq-eqb c o_ang z))

-- Where the choice of O ang is 1, nothing is asked of any text
pub free_by : (c : Choices) (st : Text) → c.o_ang ≡ 1 → First_if c st
free_by c st e z = absurd (omega arith)

-- A line of two words
abbrev pub line : Inputs
line = sample 2 "" "कत क्त"

pub line_taken : Taken line
unfolding compute spaceless spaceless_if spaceless_rule
line_taken = record { accepted = refl; no_space = refl }

-- An edge by its parts
abbrev pub edge : ℕ → ℕ → ℕ → ℕ → String → Edge
edge s e n c w = record { from = s; to = e; note = n; core = c; text = chars w }

-- Capitals chosen, where ж is lower case
abbrev pub capital_line : Inputs
capital_line = sample_with 2 (capitals_by 1) sample_rules (sample_classes_by lower_case) "" "ж Жж ж"

pub capital_taken : Taken capital_line
unfolding compute spaceless spaceless_if spaceless_rule
capital_taken = record { accepted = refl; no_space = refl }

-- Readings chosen: the rule's target is "k", its end-of-syllable target "t"
abbrev pub reading_line : Inputs
reading_line = sample_with 2 (readings_by 1) (block (ended 0 "ж" "k" "t" [])) sample_classes "" "ж ж"

pub reading_taken : Taken reading_line
unfolding compute spaceless spaceless_if spaceless_rule
reading_taken = record { accepted = refl; no_space = refl }

-- ½ stands for 1, the fraction slash and 2; ½ and 1 are numbers. There is no rule
abbrev pub halves : ℕ → String → Inputs
halves mode text = record {
  mode = mode;
  choices = as_port;
  rules = block [];
  classes = block (0 ∷ 0 ∷ 0x20 ∷ 7 ∷ 0 ∷ 0 ∷ 0 ∷ 0 ∷ 0x31 ∷ 4 ∷ 0 ∷ 0 ∷ 0 ∷ 0 ∷ 0xBD ∷ 4 ∷ 0 ∷ 0 ∷ []);
  vowels = block [];
  decompositions = block (0 ∷ 0 ∷ 0xBD ∷ 5 ∷ 3 ∷ 0 ∷ 0 ∷ 0x31 ∷ 0 ∷ 0x20 ∷ 0x44 ∷ 0 ∷ 0 ∷ 0x32 ∷ []);
  code = [];
  text = encoded (chars text);
  slots = 1200;
  room = 1000;
  out = 100;
}

abbrev pub half_line : Inputs
half_line = halves 2 "1 ½1"

pub half_taken : Taken half_line
unfolding compute spaceless spaceless_if spaceless_rule
half_taken = record { accepted = refl; no_space = refl }

-- What document 01 has run, with the choice of O ang 0: ก, space, U+0E48, อ, ก gives "k ok", while U+0E48, อ, ก alone
-- gives "k"
abbrev thai_line : Inputs
thai_line = sample 1 "" "ก ่อก"

pub thai_taken : Taken thai_line
unfolding compute spaceless spaceless_if spaceless_rule
thai_taken = record { accepted = refl; no_space = refl }

in_the_line :
    joined (keep (within 2 3) (path (tables thai_line) (decompositions thai_line) (characters thai_line))) ≡ chars "ok"
unfolding compute within
in_the_line = refl

by_itself : joined (map (shift 2) (path (tables thai_line) (decompositions thai_line) (chars "่อก"))) ≡ chars "k"
unfolding compute shift
by_itself = refl

-- So the statement without the premise on U+0E2D is false for this call, though it is taken
pub o_ang_needed : ((x st y : Text) → characters thai_line ≡ x ++ (st ++ y) → Before x → After y
    → Alone (tables thai_line) (decompositions thai_line) (characters thai_line) st (length x))
    → ⊥
unfolding compute
o_ang_needed every =
    let a = every (chars "ก ") (chars "่อก") [] refl (Before.space (chars "ก")) end in
    let e : chars "ok" ≡ chars "k" = sym in_the_line ∙ ap joined a.path ∙ by_itself in
    let n : ◌≡◌ {A = ℕ} 2 1 = ap length e in
    omega arith

-- With the choice 1 the walk back from อ ends at the space: the statement holds of this line too, with nothing asked
abbrev pub o_ang_line : Inputs
o_ang_line = sample_with 1 (o_ang_by 1) sample_rules sample_classes "" "ก ่อก"

pub o_ang_taken : Taken o_ang_line
unfolding compute spaceless spaceless_if spaceless_rule
o_ang_taken = record { accepted = refl; no_space = refl }

pub o_ang-whole : joined (path (tables o_ang_line) (decompositions o_ang_line) (characters o_ang_line)) ≡ chars "k k"
unfolding compute
o_ang-whole = refl
