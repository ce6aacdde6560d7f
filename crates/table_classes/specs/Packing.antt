-- What a packed class says: category `n % 8`, script `n / 8 % 128`, flag k `flagged (n / 1024) k`.
use Rattle.std.specs.Prelude.{ℕ, zero, suc, ◌+◌, ◌*◌, ◌/◌, ◌%◌, ◌^◌, ◌≤◌, ◌<◌, Bool, true, false, ◌&&◌, List, [], ◌∷◌, map, ◌≡◌, refl, eqb, leb, length, get_or}
use Rattle.std.proofs.Common.{sym, ap, ◌∙◌, arith, eqb-true}
use Rattle.std.proofs.lemmas.List.{length-map}
use Rattle.std.proofs.lemmas.Bool.{eqb-false}
use Rattle.base.specs.Bits.{flagged, bit, bit_byte}
use Rattle.base.specs.Bools.{and_left, and_right}
use Rattle.base.specs.Pick.{pick, pick_all}
use Rattle.base.specs.Alls.{All}
use Rattle.definition.specs.Texts.{latin}
use Rattle.definition.specs.Limits.{most_script, ascii_characters}
use Rattle.definition.specs.Tables.{Class, category_letter, category_other, category_Zs}
use Rattle.definition.specs.ClassRows.{class_by, class_of, classes_of}
use Rattle.definition.specs.Classes.{plain, class, alpha, script}
use Rattle.definition.specs.Checked.{class-checked}
use Rattle.definition.specs.Accepted.{classes-all}
use Rattle.table_classes.specs.Told.{Fine, flags_of, packed, from, kinds_of, alphas_of}

-- A test computed for every number below `n`, as a fact of each
abbrev pub each_below : (ℕ → Bool) → ℕ → Bool
each_below q zero = true
each_below q (suc n) = q n && each_below q n

pub by-each : (q : ℕ → Bool) (n : ℕ) → each_below q n ≡ true → (i : ℕ) → i < n → q i ≡ true
by-each q zero e i h = absurd (omega arith)
by-each q (suc n) e i h = go (eqb i n) refl (by-each q n (and_right (q n) (each_below q n) e) i)
  where
    go : (b : Bool) → eqb i n ≡ b → (i < n → q i ≡ true) → q i ≡ true
    go true z k = ap q (eqb-true i n z) ∙ and_left (q n) (each_below q n) e
    go false z k = k (let w : i ≡ n → ⊥ = eqb-false i n z in omega arith)

-- the eight flags of a byte are the byte
eight : ℕ → ℕ
eight f =
    bit (flagged f 0) + bit (flagged f 1) * 2 + bit (flagged f 2) * 4 + bit (flagged f 3) * 8
    + bit (flagged f 4) * 16 + bit (flagged f 5) * 32 + bit (flagged f 6) * 64
    + bit (flagged f 7) * 128

pub flags_back : (c k n f : ℕ) → f < 256 → flags_of (class_by c k n f) ≡ f
unfolding flags_of class_by eight flagged
flags_back c k n f h = eqb-true (eight f) f (by-each (λ f. eqb (eight f) f) 256 refl f h)

-- a row's class and the default, packed
pub packed_row : (c k n f : ℕ) → f < 256 → packed (class_by c k n f) ≡ k + n * 8 + f * 1024
unfolding packed
packed_row c k n f h = rw (flags_back c k n f h) (unfold class_by in refl)

pub packed-plain : (c : ℕ) → packed (plain c) ≡ pick (latin c) category_letter category_other
unfolding packed plain flags_of
packed-plain c = omega arith

-- What a number says of a class
pub record Says (n : ℕ) (k : Class) : Type 0 where
  pub category : n % 8 ≡ k.category
  pub script : n / 8 % 128 ≡ k.script
  pub sign : flagged (n / 1024) 0 ≡ k.sign
  pub medial : flagged (n / 1024) 1 ≡ k.medial
  pub subjoined : flagged (n / 1024) 2 ≡ k.subjoined
  pub virama : flagged (n / 1024) 3 ≡ k.virama
  pub vocalic : flagged (n / 1024) 4 ≡ k.vocalic
  pub tone : flagged (n / 1024) 5 ≡ k.tone
  pub pre : flagged (n / 1024) 6 ≡ k.pre
  pub lowercase : flagged (n / 1024) 7 ≡ k.lowercase

flag_back : (x k : ℕ) (t : Bool) → x / 2 ^ k % 2 ≡ bit t → flagged x k ≡ t
unfolding flagged
flag_back x k true e = rw e
flag_back x k false e = rw e

pub packed_says : (k : Class) → k.category ≤ category_Zs → k.script ≤ most_script → Says (packed k) k
unfolding packed flags_of
packed_says k h j =
    let a = (bit_byte k.sign).1 in
    let b = (bit_byte k.medial).1 in
    let c = (bit_byte k.subjoined).1 in
    let d = (bit_byte k.virama).1 in
    let e = (bit_byte k.vocalic).1 in
    let f = (bit_byte k.tone).1 in
    let g = (bit_byte k.pre).1 in
    let l = (bit_byte k.lowercase).1 in
    record {
      category = omega arith;
      script = omega arith;
      sign = flag_back (packed k / 1024) 0 k.sign (omega arith);
      medial = flag_back (packed k / 1024) 1 k.medial (omega arith);
      subjoined = flag_back (packed k / 1024) 2 k.subjoined (omega arith);
      virama = flag_back (packed k / 1024) 3 k.virama (omega arith);
      vocalic = flag_back (packed k / 1024) 4 k.vocalic (omega arith);
      tone = flag_back (packed k / 1024) 5 k.tone (omega arith);
      pre = flag_back (packed k / 1024) 6 k.pre (omega arith);
      lowercase = flag_back (packed k / 1024) 7 k.lowercase (omega arith);
    }

-- what every row and the default have, a character's class has
pub class-all : (P : Class → Type 0) (ks : List Class) (c : ℕ) → All P ks → P (plain c) → P (class ks c)
unfolding class
class-all P [] c h p = p
class-all P (k ∷ ks) c h p = go (eqb k.char c) (class-all P ks c h.1 p)
  where
    go : (b : Bool) → P (class ks c) → P (elim b [ true ↦ k | false ↦ class ks c ])
    go true q = h.0
    go false q = q

-- of an accepted table
pub says : (b : List ℕ) → Fine b → (c : ℕ) → Says (packed (class (classes_of b) c)) (class (classes_of b) c)
says b e c =
    let r = class-all (λ k. (k.category ≤ category_Zs) × (k.script ≤ most_script)) (classes_of b) c
    (classes-all (λ k. (k.category ≤ category_Zs) × (k.script ≤ most_script)) (λ k s p.
    let w = class-checked k s p in (unfold class_of class_by in w.category, unfold class_of class_by in w.script))
    b e)
    (unfold plain in (pick_all (λ n. n ≤ 7) (latin c) (omega arith) (omega arith), omega arith)) in
    packed_says (class (classes_of b) c) r.0 r.1

-- the questions that are asked of a class
module _ (n c : ℕ) (ks : List Class) (s : Says n (class ks c)) where
  pub says_alpha : (leb 1 (n % 8) && leb (n % 8) 3) ≡ alpha ks c
  unfolding alpha
  says_alpha = rw s.category

  pub says_script : n / 8 % 128 ≡ script ks c
  unfolding script
  says_script = s.script

-- a list of answers at a place
pub map_at : (f : ℕ → ℕ) (l : List ℕ) (i : ℕ) → i < length l → f (get_or l i 0) ≡ get_or (map f l) i 0
map_at f [] i h = absurd (omega arith)
map_at f (x ∷ l) zero h = refl
map_at f (x ∷ l) (suc i) h = map_at f l i (omega arith)

pub from-length : (k n : ℕ) → length (from k n) ≡ n
unfolding from
from-length k zero = refl
from-length k (suc n) = ap suc (from-length (k + 1) n)

pub from_at : (k n i : ℕ) → i < n → get_or (from k n) i 0 ≡ k + i
unfolding from
from_at k zero i h = absurd (omega arith)
from_at k (suc n) zero h = omega arith
from_at k (suc n) (suc i) h = let w = from_at (k + 1) n i (omega arith) in omega arith

-- the lists that `classify` and `classify_ascii` write
pub kinds-length : (b t : List ℕ) → length (kinds_of b t) ≡ length t
unfolding kinds_of
kinds-length b t = length-map t (λ c. packed (class (classes_of b) c))

pub kinds-at : (b t : List ℕ) (i : ℕ) → i < length t
    → get_or (kinds_of b t) i 0 ≡ packed (class (classes_of b) (get_or t i 0))
unfolding kinds_of
kinds-at b t i h = sym (map_at (λ c. packed (class (classes_of b) c)) t i h)

pub alphas_length : (b : List ℕ) → length (alphas_of b) ≡ ascii_characters
unfolding alphas_of
alphas_length b = length-map (from 0 ascii_characters) (λ c. bit (alpha (classes_of b) c)) ∙ from-length 0 ascii_characters

pub alphas_at : (b : List ℕ) (c : ℕ) → c < ascii_characters → get_or (alphas_of b) c 0 ≡ bit (alpha (classes_of b) c)
unfolding alphas_of
alphas_at b c h =
    let l = from-length 0 ascii_characters in
    let g = from_at 0 ascii_characters c h in
    let e : get_or (from 0 ascii_characters) c 0 ≡ c = omega arith in
    sym (map_at (λ c. bit (alpha (classes_of b) c)) (from 0 ascii_characters) c (omega arith))
    ∙ ap (λ (x : ℕ). bit (alpha (classes_of b) x)) e
