-- What a call has checked when it refuses nothing of 1 to 8, 12 and 13: its tables' rows are right, and its text is short enough.
-- (proofs/Accepted: the rows of a rule table.)
use Rattle.std.specs.Prelude.{Bool, true, false, ◌≡◌, refl, List, ℕ, ◌≤◌, ◌<◌, length, drop}
use Rattle.std.proofs.Math.Option.{Option, none, some}
use Rattle.std.proofs.Common.{arith, ltb-false, le-ltb}
use Rattle.std.proofs.lemmas.Bool.{not-false}
use Rattle.base.specs.Pick.{pick}
use Rattle.base.specs.Lists.{first_of}
use Rattle.base.specs.ListLaws.{or_none}
use Rattle.base.specs.Rows.{Each, each_map}
use Rattle.base.specs.Alls.{All, rows_all}
use Rattle.definition.specs.Limits.{most_mode, most_choice, most_characters, most_rows, most_script}
use Rattle.definition.specs.Utf8.{bad_sequence}
use Rattle.definition.specs.Tables.{Class, Vowel}
use Rattle.definition.specs.Blocks.{head_bytes, offset_where}
use Rattle.definition.specs.RuleFaults.{rule_fault}
use Rattle.definition.specs.ClassRows.{class_fault, class_size, class_next, class_right, class_of, classes_of}
use Rattle.definition.specs.VowelRows.{vowel_fault, vowel_size, vowel_next, vowel_right, vowel_of, vowels_of}
use Rattle.definition.specs.DecompositionRows.{decomposition_fault}
use Rattle.definition.specs.Refusals.{when, placed}
use Rattle.definition.specs.Call.{Inputs, characters, code_right, first_left_out, before_text, text_refusal, refusal}
use Rattle.definition.specs.BlockTurns.{Chain, offset_tells, fault-none, chain-each, chain_few}
use Rattle.definition.specs.Checked.{vowel-checked}

-- A row has a size
pub class_moves : (s : List ℕ) → 0 < class_size s
unfolding class_size
class_moves s = omega arith

pub vowel_moves : (s : List ℕ) → 0 < vowel_size s
unfolding vowel_size
vowel_moves s = omega arith

pub classes-chain : (b : List ℕ) → class_fault b ≡ none → Chain class_size class_next class_right most_rows 0 (drop head_bytes b)
unfolding class_fault
classes-chain b e = fault-none class_size class_next class_right class_moves (offset_where class_right) (offset_tells class_right) 0 most_rows 0 b e

pub vowels-chain : (b : List ℕ) → vowel_fault b ≡ none → Chain vowel_size vowel_next vowel_right most_script 1 (drop head_bytes b)
unfolding vowel_fault
vowels-chain b e = fault-none vowel_size vowel_next vowel_right vowel_moves (offset_where vowel_right) (offset_tells vowel_right) 0 most_script 1 b e

pub classes_few : (b : List ℕ) → class_fault b ≡ none → length (classes_of b) ≤ most_rows
unfolding classes_of
classes_few b e = chain_few class_size class_next class_right class_moves class_of (classes-chain b e)

pub classes-all : (Q : Class → Type 0) → ((k : ℕ) (s : List ℕ) → class_right k s ≡ true → Q (class_of s))
    → (b : List ℕ) → class_fault b ≡ none → All Q (classes_of b)
unfolding classes_of
classes-all Q f b e = rows_all class_of Q class_moves (λ s q. f q.0 s q.1)
    (chain-each class_size class_next class_right (classes-chain b e))

pub vowels-all : (Q : Vowel → Type 0) → ((k : ℕ) (s : List ℕ) → vowel_right k s ≡ true → Q (vowel_of s))
    → (b : List ℕ) → vowel_fault b ≡ none → All Q (vowels_of b)
unfolding vowels_of
vowels-all Q f b e = rows_all vowel_of Q vowel_moves (λ s q. f q.0 s q.1)
    (chain-each vowel_size vowel_next vowel_right (vowels-chain b e))

pub vowels-placed : (b : List ℕ) → vowel_fault b ≡ none → Each (λ s. vowel_size s ≤ length s) vowel_size (drop head_bytes b)
vowels-placed b e =
    each_map (λ s q. (vowel-checked q.0 s q.1).inside) (chain-each vowel_size vowel_next vowel_right (vowels-chain b e))

-- All that an accepted call has passed
pub record Accepted (i : Inputs) : Type 0 where
  pub mode : i.mode ≤ most_mode
  pub capitals : i.choices.capitals ≤ most_choice
  pub o_ang : i.choices.o_ang ≤ most_choice
  pub readings : i.choices.readings ≤ most_choice
  pub rules : rule_fault i.rules ≡ none
  pub classes : class_fault i.classes ≡ none
  pub vowels : vowel_fault i.vowels ≡ none
  pub decompositions : decomposition_fault i.decompositions ≡ none
  pub code : code_right i.code ≡ true
  pub text : bad_sequence i.text ≡ none
  pub size : length (characters i) ≤ most_characters
  pub kept : first_left_out 0 (characters i) ≡ none

when-none : (b : Bool) (n p : ℕ) → when b n p ≡ none → b ≡ false
unfolding when pick
when-none true n p e = absurd (let w : ◌≡◌ {A = ℕ} 0 1 = cc in omega arith)
when-none false n p e = refl

placed-none : (n : ℕ) (o : Option ℕ) → placed n o ≡ none → o ≡ none
unfolding placed
placed-none n none e = refl
placed-none n (some p) e = absurd (let w : ◌≡◌ {A = ℕ} 0 1 = cc in omega arith)

pub accepted_of : (i : Inputs) → refusal i ≡ none → Accepted i
unfolding refusal before_text text_refusal first_of characters
accepted_of i e =
    let both = or_none _ _ e in
    let a = or_none _ _ both.0 in
    let m = or_none _ _ a.1 in
    let o = or_none _ _ m.1 in
    let r = or_none _ _ o.1 in
    let b = or_none _ _ r.1 in
    let c = or_none _ _ b.1 in
    let d = or_none _ _ c.1 in
    let z = or_none _ _ d.1 in
    let f = or_none _ _ z.1 in
    let g = or_none _ _ both.1 in
    let h = or_none _ _ g.1 in
    let k = or_none _ _ h.1 in
    record {
      mode = ltb-false most_mode i.mode (when-none _ _ _ a.0);
      capitals = ltb-false most_choice i.choices.capitals (when-none _ _ _ m.0);
      o_ang = ltb-false most_choice i.choices.o_ang (when-none _ _ _ o.0);
      readings = ltb-false most_choice i.choices.readings (when-none _ _ _ r.0);
      rules = b.0;
      classes = placed-none _ _ c.0;
      vowels = placed-none _ _ d.0;
      decompositions = placed-none _ _ z.0;
      code = not-false _ (when-none _ _ _ f.0);
      text = placed-none _ _ g.0;
      size = ltb-false most_characters _ (when-none _ _ _ h.0);
      kept = placed-none _ _ k.0;
    }

-- and what has passed all is accepted
pub refusal_of : (i : Inputs) → Accepted i → refusal i ≡ none
unfolding refusal before_text text_refusal first_of characters when placed pick
refusal_of i a = rw (
  le-ltb most_mode i.mode a.mode,
  le-ltb most_choice i.choices.capitals a.capitals,
  le-ltb most_choice i.choices.o_ang a.o_ang,
  le-ltb most_choice i.choices.readings a.readings,
  a.rules,
  a.classes,
  a.vowels,
  a.decompositions,
  a.code,
  a.text,
  le-ltb most_characters (length (characters i)) a.size,
  a.kept,
)
