-- A text's bytes cut at a space: each part is UTF-8 where the whole is, and the characters are those of the parts.
-- (proofs/Cuts: a line of words.)
use Rattle.std.proofs.Common.{true≢false, sym, ◌∙◌, ap, subst, append-nil, arith, length-drop}
use Rattle.std.proofs.Math.Bool.{or-true}
use Rattle.std.specs.Prelude.{◌≡◌, refl, List, [], ◌∷◌, ◌++◌, map, ℕ, zero, suc, ◌+◌, ◌≤◌, ◌<◌, ltb, length, get_or, drop}
use Rattle.std.proofs.Math.Option.{Option, none, some}
use Rattle.std.proofs.Math.Decide.{ℕ_discrete}
use Rattle.std.proofs.lemmas.List.{drop-append-le}
use Rattle.base.specs.Pick.{pick, pick_ind}
use Rattle.base.specs.Alls.{All}
use Rattle.definition.specs.Texts.{the_space}
use Rattle.definition.specs.Utf8.{Read, char, bad, six, checked, sequence, read, bad_from, bad_sequence, decoded}
use Rattle.definition.specs.Utf8Turns.{bad_at, bad_sequence-is, bad-none, bad-here, bad-next, decoded-none, decoded-next, char-bytes}
use Rattle.stretches.specs.Given.{Solid}
use Rattle.stretches.specs.Driver.{spaced, line_of}

-- Where a byte that continues a sequence is wanted, 0x20 is refused as the end is: what is behind it is not asked
after_one : (b y z v w : ℕ) → sequence b 64 y z ≡ sequence b 64 v w
unfolding sequence pick
after_one b y z v w = rw (or-true (ltb b 192))

after_two : (b x z w : ℕ) → sequence b x 64 z ≡ sequence b x 64 w
unfolding sequence pick
after_two b x z w = refl

-- The first sequence of some bytes is read alike where a space follows them and where nothing does
read-cut : (b : ℕ) (s r : List ℕ) → read ((b ∷ s) ++ the_space ∷ r) ≡ read (b ∷ s)
unfolding read six pick
read-cut b [] r = after_one b (six (get_or r 0 0)) (six (get_or r 1 0)) 64 64
read-cut b (c ∷ []) r = after_two b (six c) (six (get_or r 0 0)) 64
read-cut b (c ∷ d ∷ []) r = refl
read-cut b (c ∷ d ∷ e ∷ s) r = refl

-- The first sequence of some bytes has no more bytes than there are
abbrev Most : ℕ → Read → Type 0
Most k (char c n) = n ≤ k
Most k bad = Unit {0}

checked-most : (low n k v : ℕ) → n ≤ k → Most k (checked low n v)
unfolding checked
checked-most low n k v l = pick_ind (Most k) _ (char v n) bad (λ e. l) (λ e. tt)

one-most : (b y z : ℕ) → Most 1 (sequence b 64 y z)
unfolding sequence
one-most b y z =
    pick_ind (Most 1) _ _ _ (λ e. omega arith) (λ e.
    pick_ind (Most 1) _ _ _ (λ e. tt) (λ e. absurd (true≢false (sym (or-true (ltb b 192)) ∙ e))))

two-most : (b x z : ℕ) → Most 2 (sequence b x 64 z)
unfolding sequence
two-most b x z =
    pick_ind (Most 2) _ _ _ (λ e. omega arith) (λ e.
    pick_ind (Most 2) _ _ _ (λ e. tt) (λ e.
    pick_ind (Most 2) _ _ _ (λ e. checked-most _ 2 2 _ (omega arith)) (λ e.
    pick_ind (Most 2) _ _ _ (λ e. tt) (λ e. absurd (true≢false e)))))

three-most : (b x y : ℕ) → Most 3 (sequence b x y 64)
unfolding sequence
three-most b x y =
    pick_ind (Most 3) _ _ _ (λ e. omega arith) (λ e.
    pick_ind (Most 3) _ _ _ (λ e. tt) (λ e.
    pick_ind (Most 3) _ _ _ (λ e. checked-most _ 2 3 _ (omega arith)) (λ e.
    pick_ind (Most 3) _ _ _ (λ e. tt) (λ e.
    pick_ind (Most 3) _ _ _ (λ e. checked-most _ 3 3 _ (omega arith)) (λ e.
    pick_ind (Most 3) _ _ _ (λ e. tt) (λ e. absurd (true≢false e)))))))

read-most : (b : ℕ) (s : List ℕ) (c n : ℕ) → read (b ∷ s) ≡ char c n → n ≤ length (b ∷ s)
unfolding read six pick
read-most b [] c n e = subst (Most 1) e (one-most b 64 64)
read-most b (x ∷ []) c n e = subst (Most 2) e (two-most b (six x) 64)
read-most b (x ∷ y ∷ []) c n e = subst (Most 3) e (three-most b (six x) (six y))
read-most b (x ∷ y ∷ z ∷ s) c n e = let m = char-bytes (b ∷ x ∷ y ∷ z ∷ s) c n e in omega (arith, m.1)

-- Bytes without a bad sequence, wherever they stand
bad_anywhere : (f o p : ℕ) (s : List ℕ) → bad_from f o s ≡ none → bad_from f p s ≡ none
unfolding bad_from
bad_anywhere zero o p s e = refl
bad_anywhere (suc f) o p [] e = refl
bad_anywhere (suc f) o p (b ∷ s) e =
    go (read (b ∷ s)) e (λ n. bad_anywhere f (o + n) (p + n) (drop n (b ∷ s)))
  where
    go : (r : Read) → ◌≡◌ {A = Option ℕ} (elim r [ char c n ↦ bad_from f (o + n) (drop n (b ∷ s)) | bad ↦ some o ]) none
        → ((n : ℕ) → bad_from f (o + n) (drop n (b ∷ s)) ≡ none → bad_from f (p + n) (drop n (b ∷ s)) ≡ none)
        → ◌≡◌ {A = Option ℕ} (elim r [ char c n ↦ bad_from f (p + n) (drop n (b ∷ s)) | bad ↦ some p ]) none
    go (char c n) e h = h n e
    go bad e h = absurd (let z : ◌≡◌ {A = ℕ} 0 1 = cc in omega arith)

abbrev Right : List ℕ → Type 0
Right s = bad_sequence s ≡ none

right_at : (o : ℕ) (s : List ℕ) → bad_at o s ≡ none → Right s
unfolding bad_at bad_sequence
right_at o s e = bad_anywhere (length s) o 0 s e

-- UTF-8 stays UTF-8 where its first character is taken away, and where it is put back
right-drop : (s : List ℕ) (c n : ℕ) → 0 < length s → read s ≡ char c n → Right s → Right (drop n s)
right-drop s c n l q e = right_at (0 + n) (drop n s) (sym (bad-next 0 s c n l q) ∙ sym (bad_sequence-is s) ∙ e)

right_more : (s : List ℕ) (c n : ℕ) → 0 < length s → read s ≡ char c n → Right (drop n s) → Right s
unfolding bad_at bad_sequence
right_more s c n l q e = bad_sequence-is s ∙ bad-next 0 s c n l q ∙ bad_anywhere (length (drop n s)) 0 (0 + n) (drop n s) e

-- UTF-8 cut at a space: both parts are UTF-8, and the characters are theirs
record Cut (s r : List ℕ) : Type 0 where
  pub left : Right s
  pub right : Right r
  pub characters : decoded (s ++ the_space ∷ r) ≡ decoded s ++ the_space ∷ decoded r

read_space : (r : List ℕ) → read (the_space ∷ r) ≡ char the_space 1
unfolding read sequence pick
read_space r = refl

cut-none : (r : List ℕ) → Right (the_space ∷ r) → Cut [] r
cut-none r e = record {
  left = bad_sequence-is [] ∙ bad-none 0 [] refl;
  right = right-drop (the_space ∷ r) the_space 1 (omega arith) (read_space r) e;
  characters = decoded-next (the_space ∷ r) the_space 1 (omega arith) (read_space r)
      ∙ ap (λ t. t ++ the_space ∷ decoded r) (sym (decoded-none [] refl));
}

-- `f` bounds the length: each character takes a byte at least
cut : (f : ℕ) (s r : List ℕ) → length s ≤ f → Right (s ++ the_space ∷ r) → Cut s r
cut zero [] r l e = cut-none r e
cut zero (b ∷ s) r l e = absurd (omega arith)
cut (suc f) [] r l e = cut-none r e
cut (suc f) (b ∷ s) r l e = go (read (b ∷ s)) refl (λ n. cut f (drop n (b ∷ s)) r)
  where
    whole : List ℕ
    whole = (b ∷ s) ++ the_space ∷ r

    go : (o : Read) → read (b ∷ s) ≡ o
        → ((n : ℕ) → length (drop n (b ∷ s)) ≤ f → Right (drop n (b ∷ s) ++ the_space ∷ r) → Cut (drop n (b ∷ s)) r)
        → Cut (b ∷ s) r
    go bad q h = absurd (let x = sym (bad-here 0 whole (omega arith) (read-cut b s r ∙ q)) ∙ sym (bad_sequence-is whole) ∙ e in
        let z : ◌≡◌ {A = ℕ} 0 1 = cc in omega arith)
    go (char c n) q h =
        let m = char-bytes (b ∷ s) c n q in
        let d = length-drop n (b ∷ s) in
        let k = read-most b s c n q in
        let w = read-cut b s r ∙ q in
        let a = drop-append-le n (b ∷ s) (the_space ∷ r) k in
        let t = h n (omega (arith, m.0)) (subst Right a (right-drop whole c n (omega arith) w e)) in
        record {
          left = right_more (b ∷ s) c n (omega arith) q t.left;
          right = t.right;
          characters = decoded-next whole c n (omega arith) w
              ∙ ap (λ x. c ∷ decoded x) a ∙ ap (λ x. c ∷ x) t.characters
              ∙ ap (λ x. x ++ the_space ∷ decoded r) (sym (decoded-next (b ∷ s) c n (omega arith) q));
        }

-- A line that is UTF-8: so is each of its words, and its characters are theirs, joined
pub record Cuts (ws : List (List ℕ)) : Type 0 where
  pub each : All (λ w. bad_sequence w ≡ none) ws
  pub characters : decoded (line_of ws) ≡ line_of (map decoded ws)

pub cuts-from : (w : List ℕ) (ws : List (List ℕ)) → bad_sequence (w ++ spaced ws) ≡ none → Cuts (w ∷ ws)
unfolding spaced line_of
cuts-from w [] e = record {
  each = (subst Right (append-nil w) e, tt);
  characters = ap decoded (append-nil w) ∙ sym (append-nil (decoded w));
}
cuts-from w (v ∷ vs) e =
    let c = cut (length w) w (v ++ spaced vs) (omega arith) e in
    let r = cuts-from v vs c.right in
    record {
      each = (c.left, r.each);
      characters = c.characters ∙ ap (λ t. decoded w ++ the_space ∷ t) r.characters;
    }

-- Every text is words without a space, joined by single spaces
pub record Words (s : List ℕ) : Type 0 where
  pub first : List ℕ
  pub others : List (List ℕ)
  pub is : s ≡ line_of (first ∷ others)
  pub solid : All Solid (first ∷ others)

pub words_of : (s : List ℕ) → Words s
unfolding line_of spaced
words_of [] = record { first = []; others = []; is = refl; solid = (tt, tt) }
words_of (c ∷ s) = go (ℕ_discrete c the_space) (words_of s)
  where
    go : Dec (c ≡ the_space) → Words s → Words (c ∷ s)
    go (yes e) r = record {
      first = [];
      others = r.first ∷ r.others;
      is = ap (λ d. d ∷ s) e ∙ ap (λ t. the_space ∷ t) r.is;
      solid = (tt, r.solid);
    }
    go (no e) r = record {
      first = c ∷ r.first;
      others = r.others;
      is = ap (λ t. c ∷ t) r.is;
      solid = ((e, r.solid.0), r.solid.1);
    }
