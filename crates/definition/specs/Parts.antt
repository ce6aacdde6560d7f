-- A part of an accepted text is an accepted text, with the same tables and code.
-- (Proved in proofs/Parts.)
use Rattle.std.specs.Prelude.{Bool, true, false, ◌&&◌, ◌≡◌, refl, List, [], ◌∷◌, ℕ, zero, suc, ◌+◌, leb, length, get_or, drop}
use Rattle.std.proofs.Common.{arith, lt-ltb, ltb-true}
use Rattle.std.proofs.Math.Option.{none, some}
use Rattle.base.specs.Pick.{pick, pick_ind}
use Rattle.base.specs.Bools.{and_right}
use Rattle.base.specs.Alls.{All}
use Rattle.definition.specs.Texts.{Text, left_out}
use Rattle.definition.specs.Utf8.{Read, char, bad, checked, sequence, read, scalar, decode_by, decoded, encoded}
use Rattle.definition.specs.Call.{Inputs, tables, decompositions, characters, first_left_out, refusal}

-- What is read is a scalar value
abbrev Valid : Read → Type 0
Valid (char c n) = scalar c ≡ true
Valid bad = Unit {0}

checked-valid : (low n v : ℕ) → Valid (checked low n v)
unfolding checked
checked-valid low n v = pick_ind Valid (leb low v && scalar v) (char v n) bad (λ e. and_right (leb low v) _ e) (λ e. tt)

read-valid : (s : List ℕ) → Valid (read s)
unfolding read sequence scalar
read-valid s =
    pick_ind Valid _ _ _ (λ e. let z = ltb-true (get_or s 0 0) 128 e in rw (lt-ltb (get_or s 0 0) 0xD800 (omega arith))) (λ e.
    pick_ind Valid _ _ _ (λ e. tt) (λ e.
    pick_ind Valid _ _ _ (λ e. checked-valid _ 2 _) (λ e.
    pick_ind Valid _ _ _ (λ e. tt) (λ e.
    pick_ind Valid _ _ _ (λ e. checked-valid _ 3 _) (λ e.
    pick_ind Valid _ _ _ (λ e. tt) (λ e. checked-valid _ 4 _))))))

decode_valid : (f : ℕ) (s : List ℕ) → All (λ c. scalar c ≡ true) (decode_by f s)
unfolding decode_by
decode_valid zero s = tt
decode_valid (suc f) [] = tt
decode_valid (suc f) (b ∷ s) = go (read (b ∷ s)) (read-valid (b ∷ s)) (λ n. decode_valid f (drop n (b ∷ s)))
  where
    go : (r : Read) → Valid r → ((n : ℕ) → All (λ c. scalar c ≡ true) (decode_by f (drop n (b ∷ s))))
        → All {A = ℕ} (λ c. scalar c ≡ true) (elim r [ char c n ↦ c ∷ decode_by f (drop n (b ∷ s)) | bad ↦ [] ])
    go (char c n) v h = (v, h n)
    go bad v h = tt

pub scalars : (i : Inputs) → All (λ c. scalar c ≡ true) (characters i)
unfolding characters decoded
scalars i = decode_valid (length i.text) i.text

-- No character that is left out
pub kept-all : (p : ℕ) (t : Text) → first_left_out p t ≡ none → All (λ c. left_out c ≡ false) t
unfolding first_left_out pick
kept-all p [] e = tt
kept-all p (c ∷ t) e = go (left_out c) refl e (kept-all (p + 1) t)
  where
    go : (b : Bool) → left_out c ≡ b → pick b (some p) (first_left_out (p + 1) t) ≡ none → (first_left_out (p + 1) t ≡ none → All (λ c. left_out c ≡ false) t) → All (λ c. left_out c ≡ false) (c ∷ t)
    go true q e f = absurd (let w : ◌≡◌ {A = ℕ} 0 1 = cc in omega arith)
    go false q e f = (q, f e)

pub all-kept : (p : ℕ) (t : Text) → All (λ c. left_out c ≡ false) t → first_left_out p t ≡ none
unfolding first_left_out pick
all-kept p [] h = refl
all-kept p (c ∷ t) h = rw h.0 (all-kept (p + 1) t h.1)

-- The call with another text
unfoldable pub with_text : Inputs → Text → Inputs
with_text i w = record {
  mode = i.mode;
  choices = i.choices;
  rules = i.rules;
  classes = i.classes;
  vowels = i.vowels;
  decompositions = i.decompositions;
  code = i.code;
  text = encoded w;
  slots = i.slots;
  room = i.room;
  out = i.out;
}

pub record Accepts (i : Inputs) (w : Text) : Type 0 where
  pub accepted : refusal (with_text i w) ≡ none
  pub characters : characters (with_text i w) ≡ w
  pub tables : tables (with_text i w) ≡ tables i
  pub decompositions : decompositions (with_text i w) ≡ decompositions i
