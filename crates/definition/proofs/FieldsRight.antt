-- The parts of a row, one after another, and the row: each is read without fault just where all that is asked of it holds.
use Rattle.std.specs.Prelude.{Bool, ◌&&◌, ◌||◌, List, length}
use Rattle.std.proofs.Math.Bool.{true, false, not}
use Rattle.std.proofs.Common.{◌∙◌}
use Rattle.std.proofs.Math.Path.{◌≡◌, refl, sym, ap}
use Prim.Native.Nat.{ℕ, zero, suc, ◌+◌, ◌*◌, ◌≤◌}
use native.Mathlib.Omega.{arith}
use Rattle.std.proofs.Math.Dec.{leb}
use Rattle.std.proofs.Math.ListN.{get_or, take, drop, length-drop}
use Rattle.std.proofs.Math.Seq.{drop-drop}
use borrow.Author.Tests.{leb-true, le-leb, not-true}
use Rattle.base.specs.Pick.{pick}
use Rattle.base.specs.Bools.{and_left, and_right}
use Rattle.base.specs.Lists.{all, holds}
use Rattle.base.specs.ListLaws.{holds-is, holds-length}
use Rattle.base.specs.Rows.{counted}
use Rattle.definition.specs.Limits.{most_source, most_codes, most_alternatives, most_target}
use Rattle.definition.specs.Texts.{Text}
use Rattle.definition.specs.Utf8.{scalar}
use Rattle.definition.specs.Blocks.{small}
use Rattle.definition.specs.RuleRows.{codes_count_from, codes_from, codes_right_from, end_target_from, end_target_right_from, others_from, target_from, target_right_from}
use Rattle.definition.specs.RuleRows.{printable, text_size, text_of, text_right, texts_size, texts_right, rule_size, rule_flag, zero_bit, target_bit}
use Rattle.definition.specs.RuleRows.{end_target_bit, source_count, codes_at, codes_count, target_at, past_text, end_target_at, others_at, others_end}
use Rattle.definition.specs.RuleRows.{others_right, three_at, code_of, rule_source, rises, codes_right}
use Rattle.definition.specs.RuleRows.{rule_right}
use Rattle.definition.specs.Checked.{rule-checked}
use Rattle.definition.specs.Places.{rule_placed}
use Rattle.definition.specs.There.{byte_there}
use Rattle.definition.specs.Refusals.{refused_length, refused_range, refused_letter, refused_byte}
use Rattle.definition.specs.RuleFields.{next, wrong, fields, character_right, code_small, byte_right, read_text, read_texts}
use Rattle.definition.specs.RuleFields.{read_text_if, read_flags, read_source, read_codes, read_others, read_end, read_tail, read_parts, read_row}
use Rattle.definition.specs.FieldsRight.{Read, both_ways, counted-take, field_is, field_next, read_right, rightly, rightly-next, then_is, then_next}

-- as many fields
module _ {A : Type 0} (one : List ℕ → A) (f : A → Bool) (size : ℕ) (k : ℕ) (z : ℕ) (s : List ℕ) where
  fields-next : (n o e : ℕ) → o ≤ z → fields (λ x. f (one x)) size k z s n o ≡ next e
      → (e ≡ o + size * n) × (e ≤ z) × (all f (counted one size n (drop o s)) ≡ true)
  unfolding fields counted all
  fields-next zero o e l h = let i : o ≡ e = cc in (omega arith, omega arith, refl)
  fields-next (suc n) o e l h =
      let t = then_next _ _ e h in
      let p = field_next z o size k (f (one (drop o s))) t.0 t.1 in
      let i = p.ends in
      let r = fields-next n t.0 e p.inside t.2 in
      let d : drop size (drop o s) ≡ drop t.0 s = drop-drop size o s ∙ ap (λ j. drop j s) (sym i) in
      (let q = r.0 in omega (arith, mul_suc size n), r.1, rw (p.right, d) r.2)
    where
      mul_suc : (m n : ℕ) → m * suc n ≡ m + m * n
      mul_suc m n = omega arith

  fields-is : (n o e : ℕ) → e ≡ o + size * n → e ≤ z → all f (counted one size n (drop o s)) ≡ true
      → fields (λ x. f (one x)) size k z s n o ≡ next e
  unfolding fields counted all
  fields-is zero o e i l h = let j : o ≡ e = omega arith in ap next j
  fields-is (suc n) o e i l h =
      let m : size * suc n ≡ size + size * n = omega arith in
      then_is _ _ (o + size) e
      (field_is z o size k (f (one (drop o s))) (o + size) (record { ends = refl; inside = omega arith; right = and_left _ _ h }))
      (fields-is n (o + size) e (omega arith) l (rw drop-drop at (and_right (f (one (drop o s))) _ h)))

module _ (z : ℕ) (s : List ℕ) (whole : z ≤ length s) where
  -- the bytes of a text that lies in the row
  text-bytes : (o : ℕ) → o + 1 + get_or s o 0 ≤ z
      → counted (λ x. get_or x 0 0) 1 (get_or s o 0) (drop (o + 1) s) ≡ text_of (drop o s)
  unfolding text_of
  text-bytes o l =
      counted-take (get_or s o 0) (drop (o + 1) s) (omega (arith, length-drop (o + 1) s))
      ∙ ap (λ n. take n (drop (o + 1) s)) (byte_there s o) ∙ ap (take (get_or (drop o s) 0 0)) (sym (drop-drop 1 o s))

  text-next : (o e : ℕ) → read_text z s o ≡ next e
      → (e ≡ o + text_size (drop o s)) × (e ≤ z) × (text_right (drop o s) ≡ true)
  unfolding read_text byte_right text_size text_right
  text-next o e h =
      let t = then_next _ _ e h in
      let p = field_next z o 1 refused_range (leb (get_or s o 0) most_target) t.0 t.1 in
      let i = p.ends in
      let r = fields-next (λ x. get_or x 0 0) printable 1 refused_byte z s (get_or s o 0) t.0 e p.inside t.2 in
      let f = sym (byte_there s o) in
      let q = r.0 in
      let l = r.1 in
      let b : all printable (text_of (drop o s)) ≡ true =
      ap (all printable) (sym (text-bytes o (omega arith))) ∙ ap (λ j. all printable (counted (λ x. get_or x 0 0) 1 (get_or s o 0) (drop j s))) (sym i) ∙ r.2 in
      (omega arith, l, rw (f, p.right) b)

  text-is : (o e : ℕ) → e ≡ o + text_size (drop o s) → e ≤ z → text_right (drop o s) ≡ true → read_text z s o ≡ next e
  unfolding read_text byte_right text_size text_right
  text-is o e i l h =
      let f = sym (byte_there s o) in
      then_is _ _ (o + 1) e
      (field_is z o 1 refused_range (leb (get_or s o 0) most_target) (o + 1)
      (record { ends = refl; inside = omega arith; right = ap (λ n. leb n most_target) (sym f) ∙ and_left _ _ h }))
      (fields-is (λ x. get_or x 0 0) printable 1 refused_byte z s (get_or s o 0) (o + 1) e (omega arith) l
      (ap (all printable) (text-bytes o (omega arith)) ∙ and_right (leb (get_or (drop o s) 0 0) most_target) _ h))

  texts-next : (n o e : ℕ) → o ≤ z → read_texts z s n o ≡ next e
      → (e ≡ o + texts_size n (drop o s)) × (e ≤ z) × (texts_right n (drop o s) ≡ true)
  unfolding read_texts texts_size texts_right
  texts-next zero o e l h = let i : o ≡ e = cc in (omega arith, omega arith, refl)
  texts-next (suc n) o e l h =
      let t = then_next _ _ e h in
      let p = text-next o t.0 t.1 in
      let r = texts-next n t.0 e p.1 t.2 in
      let i = p.0 in
      let d : drop (text_size (drop o s)) (drop o s) ≡ drop t.0 s = drop-drop (text_size (drop o s)) o s ∙ ap (λ j. drop j s) (sym i) in
      let q : e ≡ t.0 + texts_size n (drop (text_size (drop o s)) (drop o s)) = rw d r.0 in
      (omega arith, r.1, rw (p.2, d) r.2)

  texts-is : (n o e : ℕ) → e ≡ o + texts_size n (drop o s) → e ≤ z → texts_right n (drop o s) ≡ true → read_texts z s n o ≡ next e
  unfolding read_texts texts_size texts_right
  texts-is zero o e i l h = let j : o ≡ e = omega arith in ap next j
  texts-is (suc n) o e i l h =
      let d = drop-drop (text_size (drop o s)) o s in
      let g : e ≡ o + text_size (drop o s) + texts_size n (drop (o + text_size (drop o s)) s) = rw (← d) (omega arith) in
      then_is _ _ (o + text_size (drop o s)) e
      (text-is o (o + text_size (drop o s)) refl (omega arith) (and_left _ _ h))
      (texts-is n (o + text_size (drop o s)) e g l (rw d at (and_right (text_right (drop o s)) _ h)))

  -- one that is there only where a flag is set
  text_if_next : (b : Bool) (o e : ℕ) → o ≤ z → read_text_if b z s o ≡ next e
      → (e ≡ past_text b o s) × (e ≤ z) × ((not b || text_right (drop o s)) ≡ true)
  unfolding read_text_if past_text pick
  text_if_next true o e l h = text-next o e h
  text_if_next false o e l h = let i : o ≡ e = cc in (omega arith, omega arith, refl)

  text_if_is : (b : Bool) (o e : ℕ) → e ≡ past_text b o s → e ≤ z → (not b || text_right (drop o s)) ≡ true
      → read_text_if b z s o ≡ next e
  unfolding read_text_if past_text pick
  text_if_is true o e i l h = text-is o e i l h
  text_if_is false o e i l h = ap next (sym i)

  -- The parts of a row, each from where the one before it ends
  source-next : (e : ℕ) → read_source z s 5 ≡ next e
      → (e ≡ codes_at s) × (e ≤ z) × ((leb 1 (source_count s) && leb (source_count s) most_source) ≡ true)
      × (all scalar (rule_source s) ≡ true)
  unfolding read_source character_right codes_at source_count rule_source
  source-next e h =
      let t = then_next _ _ e h in
      let p = field_next z 5 1 refused_range (leb 1 (get_or s 5 0) && leb (get_or s 5 0) most_source) t.0 t.1 in
      let i : t.0 ≡ 6 = p.ends in
      let r = fields-next three_at scalar 3 refused_letter z s (get_or s 5 0) t.0 e p.inside t.2 in
      let q = r.0 in
      (omega arith, r.1, p.right, ap (λ j. all scalar (counted three_at 3 (get_or s 5 0) (drop j s))) (sym i) ∙ r.2)

  source_is : (e : ℕ) → e ≡ codes_at s → e ≤ z → (leb 1 (source_count s) && leb (source_count s) most_source) ≡ true
      → all scalar (rule_source s) ≡ true → read_source z s 5 ≡ next e
  unfolding read_source character_right codes_at source_count rule_source
  source_is e i l a b = then_is _ _ 6 e
      (field_is z 5 1 refused_range (leb 1 (get_or s 5 0) && leb (get_or s 5 0) most_source) 6
      (record { ends = refl; inside = omega arith; right = a }))
      (fields-is three_at scalar 3 refused_letter z s (get_or s 5 0) 6 e (omega arith) l b)

  codes-next : (e : ℕ) → read_codes z s (codes_at s) ≡ next e → (e ≡ target_at s) × (e ≤ z) × (codes_right s ≡ true)
  unfolding read_codes code_small target_from codes_count_from codes_right_from codes_from
  codes-next e h =
      let o = codes_at s in
      let t = then_next _ _ e h in
      let p = field_next z o 1 refused_range (leb (get_or s o 0) most_codes) t.0 t.1 in
      let i = p.ends in
      let r = fields-next code_of (all small) 3 refused_letter z s (get_or s o 0) t.0 e p.inside t.2 in
      let q = r.0 in
      (omega arith, r.1, rw p.right (ap (λ j. all (all small) (counted code_of 3 (get_or s o 0) (drop j s))) (sym i) ∙ r.2))

  codes-is : (e : ℕ) → e ≡ target_at s → e ≤ z → codes_right s ≡ true → read_codes z s (codes_at s) ≡ next e
  unfolding read_codes code_small target_from codes_count_from codes_right_from codes_from
  codes-is e i l h =
      let o = codes_at s in
      then_is _ _ (o + 1) e
      (field_is z o 1 refused_range (leb (get_or s o 0) most_codes) (o + 1)
      (record { ends = refl; inside = omega arith; right = and_left _ _ h }))
      (fields-is code_of (all small) 3 refused_letter z s (get_or s o 0) (o + 1) e (omega arith) l
      (and_right (leb (get_or s o 0) most_codes) _ h))

  others-next : (o e : ℕ) → read_others z s o ≡ next e → (e ≡ others_end o s) × (e ≤ z) × (others_right o s ≡ true)
  unfolding read_others others_end others_right
  others-next o e h =
      let t = then_next _ _ e h in
      let p = field_next z o 1 refused_range (leb (get_or s o 0) most_alternatives) t.0 t.1 in
      let i = p.ends in
      let r = texts-next (get_or s o 0) t.0 e p.inside t.2 in (
        r.0 ∙ ap (λ j. j + texts_size (get_or s o 0) (drop j s)) i,
        r.1,
        rw p.right (ap (λ j. texts_right (get_or s o 0) (drop j s)) (sym i) ∙ r.2),
      )

  others-is : (o e : ℕ) → e ≡ others_end o s → e ≤ z → others_right o s ≡ true → read_others z s o ≡ next e
  unfolding read_others others_end others_right
  others-is o e i l h = then_is _ _ (o + 1) e
      (field_is z o 1 refused_range (leb (get_or s o 0) most_alternatives) (o + 1)
      (record { ends = refl; inside = omega arith; right = and_left _ _ h }))
      (texts-is (get_or s o 0) (o + 1) e i l (and_right (leb (get_or s o 0) most_alternatives) _ h))

  flags_next : (e : ℕ) → read_flags z s ≡ next e → (e ≡ 5) × (e ≤ z) × (rule_flag s zero_bit ≡ false)
  unfolding read_flags
  flags_next e h =
      let t = then_next _ _ e h in
      let p = field_next z 2 1 refused_range (not (rule_flag s zero_bit)) t.0 t.1 in
      let q = field_next z t.0 2 refused_range true e t.2 in
      let i = p.ends in
      let j = q.ends in
      (omega arith, q.inside, not-true (rule_flag s zero_bit) p.right)

  flags_is : 5 ≤ z → rule_flag s zero_bit ≡ false → read_flags z s ≡ next 5
  unfolding read_flags
  flags_is l h = then_is _ _ 3 5
      (field_is z 2 1 refused_range (not (rule_flag s zero_bit)) 3 (record { ends = refl; inside = omega arith; right = ap not h }))
      (field_is z 3 2 refused_range true 5 (record { ends = refl; inside = l; right = refl }))

  end-next : (o e : ℕ) → read_end z o ≡ next e → (e ≡ o) × (z ≤ o)
  unfolding read_end pick
  end-next o e h = go (leb z o) refl h
    where
      go : (b : Bool) → leb z o ≡ b → pick b (next o) (wrong refused_length o) ≡ next e → (e ≡ o) × (z ≤ o)
      go true p h = let i : o ≡ e = cc in (sym i, leb-true z o p)
      go false p h = absurd (let w : ◌≡◌ {A = ℕ} 0 1 = cc in omega arith)

  end_is : read_end z z ≡ next z
  unfolding read_end pick
  end_is = rw (le-leb z z (omega arith))

parts_next : (s : List ℕ) (e : ℕ) → holds (rule_size s) s ≡ true → read_parts (rule_size s) s ≡ next e → Read s
unfolding read_parts read_tail target_right_from end_target_right_from end_target_from others_from
parts_next s e w h =
    let z = rule_size s in
    let l = holds-length z s w in
    let a = then_next _ _ e h in
    let f = flags_next z s l a.0 a.1 in
    let b = then_next _ _ e a.2 in
    let c = source-next z s l b.0 (ap (read_source z s) (sym f.0) ∙ b.1) in
    let d = then_next _ _ e b.2 in
    let g = codes-next z s l d.0 (ap (read_codes z s) (sym c.0) ∙ d.1) in
    let i = then_next _ _ e d.2 in
    let j = text_if_next z s l (rule_flag s target_bit) (target_at s) i.0
    (let q = g.0 in let r = g.1 in omega arith) (ap (read_text_if (rule_flag s target_bit) z s) (sym g.0) ∙ i.1) in
    let k = then_next _ _ e i.2 in
    let m = text_if_next z s l (rule_flag s end_target_bit) (past_text (rule_flag s target_bit) (target_at s) s) k.0
    (let q = j.0 in let r = j.1 in omega arith) (ap (read_text_if (rule_flag s end_target_bit) z s) (sym j.0) ∙ k.1) in
    let n = then_next _ _ e k.2 in
    let o = others-next z s l (others_at s) n.0 (unfold others_from end_target_from in (ap (read_others z s) (sym m.0) ∙ n.1)) in
    let p = end-next z s l n.0 e n.2 in
    record {
      inside = w;
      filled = let q = o.0 in let r = o.1 in let t = p.1 in omega arith;
      high_bit = f.2;
      count = c.2;
      scalars = c.3;
      codes = g.2;
      target = j.2;
      end_target = m.2;
      others = o.2;
    }

row_next : (s : List ℕ) (e : ℕ) → read_row s ≡ next e → Read s
unfolding read_row pick
row_next s e h = go (holds (rule_size s) s) refl h
  where
    go : (b : Bool) → holds (rule_size s) s ≡ b → pick b (read_parts (rule_size s) s) (wrong refused_length 0) ≡ next e → Read s
    go true w h = parts_next s e w h
    go false w h = absurd (let z : ◌≡◌ {A = ℕ} 0 1 = cc in omega arith)

row_is : (old : Text) (s : List ℕ) → rule_right old s ≡ true → read_row s ≡ next (rule_size s)
unfolding read_row read_parts read_tail target_right_from end_target_right_from pick
row_is old s e =
    let z = rule_size s in
    let c = rule-checked old s e in
    let p = rule_placed old s e in
    let l = c.inside in
    let w = holds-is z s ∙ le-leb z (length s) l in
    let count : (leb 1 (source_count s) && leb (source_count s) most_source) ≡ true =
    rw (le-leb 1 (source_count s) c.least, le-leb (source_count s) most_source c.most) refl in
    let codes : codes_right s ≡ true = unfold codes_right_from in rw (le-leb (codes_count s) most_codes c.few_codes, c.codes) in
    rw w (then_is _ _ 5 z (flags_is z s l (omega arith) c.high_bit)
    (then_is _ _ (codes_at s) z (source_is z s l (codes_at s) refl (omega arith) count c.scalars)
    (then_is _ _ (target_at s) z (codes-is z s l (target_at s) refl (omega arith) codes)
    (then_is _ _ (end_target_at s) z
    (text_if_is z s l (rule_flag s target_bit) (target_at s) (end_target_at s) (unfold end_target_from in refl) (omega arith) c.target)
    (then_is _ _ (others_at s) z
    (text_if_is z s l (rule_flag s end_target_bit) (end_target_at s) (others_at s) (unfold others_from in refl) (omega arith) c.end_target)
    (then_is _ _ z z (others-is z s l (others_at s) z (sym c.filled) (omega arith) c.others) (end_is z s l)))))))

-- A row is right just where it is read without fault and its source rises
pub row_rightly : (old : Text) (s : List ℕ) → rule_right old s ≡ (rightly (read_row s) && rises old (rule_source s))
row_rightly old s = both_ways (rule_right old s) (rightly (read_row s) && rises old (rule_source s))
    (λ e. rw (row_is old s e, (rule-checked old s e).risen) (unfold rightly in refl))
    (λ e.
    let n = rightly-next (read_row s) (and_left _ _ e) in
    read_right old s (row_next s n.0 n.1) (and_right (rightly (read_row s)) _ e))
