-- Each part of a rule row is read as its list of fields, and no field before the place of a row's fault is faulty.
use Rattle.std.specs.Prelude.{Bool, ◌≡◌, leb}
use Rattle.std.proofs.Math.Bool.{true, false}
use Rattle.std.proofs.Math.Path.{refl, sym, ap}
use Rattle.std.proofs.Common.{◌∙◌}
use mathlib.Core.List.{List, [], ◌∷◌, ◌++◌}
use Prim.Native.Nat.{ℕ, zero, suc, ◌+◌, ◌*◌, ◌<◌}
use native.Mathlib.Omega.{arith}
use Rattle.std.proofs.Math.ListN.{get_or, drop}
use Rattle.std.proofs.Math.Seq.{drop-drop}
use Rattle.base.specs.Pick.{pick}
use Rattle.base.specs.Alls.{All}
use Rattle.base.specs.Lists.{holds}
use Rattle.definition.specs.Refusals.{refused_length, refused_letter, refused_byte}
use Rattle.definition.specs.RuleRows.{rule_size, rule_flag, target_bit, end_target_bit, source_count, codes_at, target_at, end_target_at, others_at, others_end, text_size, texts_size, past_text}
use Rattle.definition.specs.RuleRows.{codes_count_from, target_from, end_target_from, others_from}
use Rattle.definition.specs.RuleFields.{Cursor, next, wrong, and_then, field, fields, character_right, code_small, byte_right, read_text, read_texts}
use Rattle.definition.specs.RuleFields.{read_text_if, read_flags, read_source, read_codes, read_others, read_end, read_tail, read_parts, read_row}
use Rattle.definition.specs.There.{byte_there}
use Rattle.definition.specs.FirstFields.{Abut, Before, Field, Part, Sound, abut_append, codes_fields, first_faulty, flag_fields, others_fields, rest, row_fields, run, source_fields, tail_fields, text_fields, text_fields_if, texts_fields, then-then, walk-append, walk_to}

module _ (z : ℕ) where
  none-part : (o e : ℕ) → o ≡ e → Part z (next o) [] o e
  none-part o e i = record {
    reads = λ h. unfold and_then walk_to in ap h i;
    abut = unfold Abut in i;
  }

  field-part : (o n k : ℕ) (right : Bool) → 0 < n
      → Part z (field z o n k right) (record { at = o; size = n; number = k; right = right } ∷ []) o (o + n)
  unfolding walk_to field and_then pick
  field-part o n k right p = record {
    reads = λ h. go (leb (o + n) z) right h;
    abut = unfold Abut in (refl, p, refl);
  }
    where
      go : (a b : Bool) (h : ℕ → Cursor)
          → and_then (pick a (pick b (next (o + n)) (wrong k o)) (wrong refused_length o)) h
          ≡ and_then (pick a (pick b (next (o + n)) (wrong k o)) (wrong refused_length o)) (λ p. h (o + n))
      go true true h = refl
      go true false h = refl
      go false b h = refl

  then-part : (c : Cursor) (g : ℕ → Cursor) (a b : List Field) (o m e : ℕ) → Part z c a o m → Part z (g m) b m e
      → Part z (and_then c g) (a ++ b) o e
  then-part c g a b o m e p q = record {
    reads = λ h.
        then-then c g h ∙ p.reads (λ j. and_then (g j) h)
        ∙ ap (λ d. walk_to d z a) (q.reads h) ∙ sym (walk-append (h e) z a b);
    abut = abut_append a b o m e p.abut q.abut;
  }

  -- where a part ends, said otherwise
  ends_at : (c : Cursor) (l : List Field) (o e d : ℕ) → Part z c l o e → e ≡ d → Part z c l o d
  ends_at c l o e d p i = rw i at p

  module _ (s : List ℕ) where
    fields-part : (right : List ℕ → Bool) (size k : ℕ) → 0 < size → (n o : ℕ)
        → Part z (fields right size k z s n o) (run right size k s n o) o (o + size * n)
    unfolding fields run
    fields-part right size k p zero o = none-part o (o + size * 0) (omega arith)
    fields-part right size k p (suc n) o =
        let m : size * suc n ≡ size + size * n = omega arith in
        ends_at _ _ o (o + size + size * n) (o + size * suc n)
        (then-part _ _ _ _ o (o + size) (o + size + size * n) (field-part o size k (right (drop o s)) p)
        (fields-part right size k p n (o + size)))
        (omega arith)

    text-part : (o : ℕ) → Part z (read_text z s o) (text_fields s o) o (o + text_size (drop o s))
    unfolding read_text text_fields text_size
    text-part o =
        let b = byte_there s o in
        ends_at _ _ o (o + 1 + 1 * get_or s o 0) (o + (1 + get_or (drop o s) 0 0))
        (then-part _ _ _ _ o (o + 1) (o + 1 + 1 * get_or s o 0) (field-part o 1 _ _ (omega arith))
        (fields-part byte_right 1 refused_byte (omega arith) (get_or s o 0) (o + 1)))
        (omega arith)

    texts-part : (n o : ℕ) → Part z (read_texts z s n o) (texts_fields s n o) o (o + texts_size n (drop o s))
    unfolding read_texts texts_fields texts_size
    texts-part zero o = none-part o (o + 0) (omega arith)
    texts-part (suc n) o =
        let t = text_size (drop o s) in
        let d : drop t (drop o s) ≡ drop (o + t) s = drop-drop t o s in
        ends_at _ _ o (o + t + texts_size n (drop (o + t) s)) (o + (t + texts_size n (drop t (drop o s))))
        (then-part _ _ _ _ o (o + t) (o + t + texts_size n (drop (o + t) s)) (text-part o) (texts-part n (o + t)))
        (rw d (omega arith))

    text_if_part : (b : Bool) (o : ℕ) → Part z (read_text_if b z s o) (text_fields_if b s o) o (past_text b o s)
    unfolding read_text_if text_fields_if past_text pick
    text_if_part true o = text-part o
    text_if_part false o = none-part o o refl

    -- the parts of a row
    flags_part : Part z (read_flags z s) (flag_fields s) 2 5
    unfolding read_flags flag_fields
    flags_part =
        then-part _ _ _ _ 2 3 5 (field-part 2 1 _ _ (omega arith)) (field-part 3 2 _ _ (omega arith))

    source-part : Part z (read_source z s 5) (source_fields s) 5 (codes_at s)
    unfolding read_source source_fields source_count codes_at
    source-part =
        then-part _ _ _ _ 5 6 (6 + 3 * get_or s 5 0) (field-part 5 1 _ _ (omega arith))
        (fields-part character_right 3 refused_letter (omega arith) (get_or s 5 0) 6)

    codes-part : Part z (read_codes z s (codes_at s)) (codes_fields s (codes_at s)) (codes_at s) (target_at s)
    unfolding read_codes codes_fields target_from codes_count_from
    codes-part =
        let o = codes_at s in
        then-part _ _ _ _ o (o + 1) (o + 1 + 3 * get_or s o 0) (field-part o 1 _ _ (omega arith))
        (fields-part code_small 3 refused_letter (omega arith) (get_or s o 0) (o + 1))

    others-part : (o : ℕ) → Part z (read_others z s o) (others_fields s o) o (others_end o s)
    unfolding read_others others_fields others_end
    others-part o =
        then-part _ _ _ _ o (o + 1) (o + 1 + texts_size (get_or s o 0) (drop (o + 1) s)) (field-part o 1 _ _ (omega arith))
        (texts-part (get_or s o 0) (o + 1))

    target-part : Part z (read_text_if (rule_flag s target_bit) z s (target_at s))
        (text_fields_if (rule_flag s target_bit) s (target_at s)) (target_at s) (end_target_at s)
    unfolding end_target_from
    target-part = text_if_part (rule_flag s target_bit) (target_at s)

    end_target-part : Part z (read_text_if (rule_flag s end_target_bit) z s (end_target_at s))
        (text_fields_if (rule_flag s end_target_bit) s (end_target_at s)) (end_target_at s) (others_at s)
    unfolding others_from
    end_target-part = text_if_part (rule_flag s end_target_bit) (end_target_at s)

    tail_walk : read_tail z s (target_at s) ≡ walk_to (rest z s) z (tail_fields s)
    unfolding read_tail tail_fields
    tail_walk =
        let a = text_fields_if (rule_flag s target_bit) s (target_at s) in
        let b = text_fields_if (rule_flag s end_target_bit) s (end_target_at s) in
        let c = others_fields s (others_at s) in
        target-part.reads _
        ∙ ap (λ d. walk_to d z a) (end_target-part.reads _ ∙ ap (λ d. walk_to d z b) ((others-part (others_at s)).reads (read_end z))
        ∙ sym (walk-append (rest z s) z b c))
        ∙ sym (walk-append (rest z s) z a (b ++ c))

    pub parts-walk : read_parts z s ≡ walk_to (rest z s) z (row_fields s)
    unfolding read_parts row_fields
    parts-walk =
        let a = flag_fields s in
        let b = source_fields s in
        let c = codes_fields s (codes_at s) in
        let t = tail_fields s in
        flags_part.reads _
        ∙ ap (λ d. walk_to d z a) (source-part.reads _ ∙ ap (λ d. walk_to d z b) (codes-part.reads (read_tail z s) ∙ ap (λ d. walk_to d z c) tail_walk
        ∙ sym (walk-append (rest z s) z c t)) ∙ sym (walk-append (rest z s) z b (c ++ t)))
        ∙ sym (walk-append (rest z s) z a (b ++ (c ++ t)))

    pub fields_abut : Abut 2 (row_fields s) (others_end (others_at s) s)
    unfolding row_fields tail_fields
    fields_abut =
        abut_append _ _ 2 5 _ flags_part.abut (abut_append _ _ 5 (codes_at s) _ source-part.abut
        (abut_append _ _ (codes_at s) (target_at s) _ codes-part.abut (abut_append _ _ (target_at s) (end_target_at s) _ target-part.abut
        (abut_append _ _ (end_target_at s) (others_at s) _ end_target-part.abut (others-part (others_at s)).abut))))

-- Within a row that lies in the table no field before the place of its fault is faulty
pub earliest : (s : List ℕ) (k p : ℕ) → holds (rule_size s) s ≡ true → read_row s ≡ wrong k p
    → All (λ f. f.at < p → Sound (rule_size s) f) (row_fields s)
unfolding read_row pick Before
earliest s k p h e =
    let z = rule_size s in
    first_faulty z (rest z s) k p (row_fields s) 2 (others_end (others_at s) s) (fields_abut z s)
    (sym (parts-walk z s) ∙ (rw h at e))
