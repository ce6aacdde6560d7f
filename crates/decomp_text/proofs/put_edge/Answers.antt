-- `decomp_text::put_edge`: what a rule gives is ASCII; the character itself may be a fraction slash.
use mathlib.Core.List.{◌++◌}
use mathlib.Core.Path.{◌≡◌, sym, ◌∙◌, subst}
use Prim.Native.Nat.{◌<◌}
use native.Mathlib.Omega.{arith}
use lib.ListN.{drop}
use Rattle.definition.specs.Texts.{Text}
use Rattle.edge.specs.declared.Numbers.{Numbers}
use Rattle.edge.specs.Slots.{edge_of, numbers_of}
use Rattle.words.specs.Given.{kinds, size_in}
use Rattle.decomp_text.specs.Spelling.{Spells}
use Rattle.decomp_text.proofs.Edges.{text-bytes, text-scalars, bytes_low, bytes-shaped, own-letter, own-slash, own-other, own-plain}
use Rattle.decomp_text.proofs.put_edge.Goals as goal

pub returns-then-numbers-ne-ORIG : goal.returns-then-numbers-ne-ORIG
returns-then-numbers-ne-ORIG c =
    let k = c.requires.1 in (
      λ w t told g h r.
          let no = c.if-numbers-ne-ORIG.true in
          subst (λ (u : Text). Spells (kinds w) c.put_ascii.new.bytes c.put_ascii.result (t ++ u))
          (bytes-shaped k c.edge_text-text.result.now c.edge_text-text.ensures c.numbers_at-numbers.result c.numbers_at-numbers.ensures w r no c.args.number)
          (c.put_ascii.ensures.0 w t told (bytes_low k c.edge_text-text.result.now c.edge_text-text.ensures c.numbers_at-numbers.result c.numbers_at-numbers.ensures w r no) h),
      c.put_ascii.ensures.1,
    )

pub overflow_add-place : goal.overflow_add-place
unfolding numbers_of
overflow_add-place c =
    let from-inside : (n : Numbers) → (e : n ≡ numbers_of (drop c.args.slot c.args.slots.now)) → n.from < size_in c.args.line.now = λ n. λ e. subst (λ (m : Numbers). m.from < size_in c.args.line.now) (sym e) c.requires.2 in
    omega (arith, from-inside c.numbers_at-numbers.result c.numbers_at-numbers.ensures)

pub is_alpha_at-letter-requires : goal.is_alpha_at-letter-requires
unfolding numbers_of
is_alpha_at-letter-requires c =
    let from-inside : (n : Numbers) → (e : n ≡ numbers_of (drop c.args.slot c.args.slots.now)) → n.from < size_in c.args.line.now = λ n. λ e. subst (λ (m : Numbers). m.from < size_in c.args.line.now) (sym e) c.requires.2 in
    omega (arith, from-inside c.numbers_at-numbers.result c.numbers_at-numbers.ensures)

pub returns-then-number_at-eq-FRACTION_SLASH : goal.returns-then-number_at-eq-FRACTION_SLASH
unfolding numbers_of
returns-then-number_at-eq-FRACTION_SLASH c =
    let from-inside : (n : Numbers) → (e : n ≡ numbers_of (drop c.args.slot c.args.slots.now)) → n.from < size_in c.args.line.now = λ n. λ e. subst (λ (m : Numbers). m.from < size_in c.args.line.now) (sym e) c.requires.2 in
    let k = c.requires.1 in (
      λ w t told g h r.
          subst (λ (u : Text). Spells (kinds w) c.put_ascii-then-number_at-eq-FRACTION_SLASH.new.bytes c.put_ascii-then-number_at-eq-FRACTION_SLASH.result (t ++ u))
          (own-slash k c.edge_text-text.result.now c.edge_text-text.ensures c.numbers_at-numbers.result c.numbers_at-numbers.ensures w r c.if-numbers-ne-ORIG.false g (from-inside c.numbers_at-numbers.result c.numbers_at-numbers.ensures) c.args.number
          c.if-number.true (sym c.number_at.ensures ∙ c.if-number_at-eq-FRACTION_SLASH.true))
          (c.put_ascii-then-number_at-eq-FRACTION_SLASH.ensures.0 w t told (omega arith, tt) h),
      c.put_ascii-then-number_at-eq-FRACTION_SLASH.ensures.1,
    )

pub returns-then-number : goal.returns-then-number
unfolding numbers_of
returns-then-number c =
    let from-inside : (n : Numbers) → (e : n ≡ numbers_of (drop c.args.slot c.args.slots.now)) → n.from < size_in c.args.line.now = λ n. λ e. subst (λ (m : Numbers). m.from < size_in c.args.line.now) (sym e) c.requires.2 in
    let k = c.requires.1 in (
      λ w t told g h r.
          let l = from-inside c.numbers_at-numbers.result c.numbers_at-numbers.ensures in
          let o = c.if-numbers-ne-ORIG.false in
          subst (λ (u : Text). Spells (kinds w) c.put.new.bytes c.put.result (t ++ u))
          (own-other k c.edge_text-text.result.now c.edge_text-text.ensures c.numbers_at-numbers.result c.numbers_at-numbers.ensures w r o g l c.args.number c.if-number.true
          (λ z. c.if-number_at-eq-FRACTION_SLASH.false (c.number_at.ensures ∙ z)))
          (c.put.ensures.0 (kinds w) t (edge_of c.args.room.now (drop c.args.slot c.args.slots.now)).text h (text-bytes k c.edge_text-text.result.now c.edge_text-text.ensures c.numbers_at-numbers.result c.numbers_at-numbers.ensures)
          (text-scalars k c.edge_text-text.result.now c.edge_text-text.ensures c.numbers_at-numbers.result c.numbers_at-numbers.ensures)
          (c.is_alpha_at-letter.ensures ∙ own-letter k c.edge_text-text.result.now c.edge_text-text.ensures c.numbers_at-numbers.result c.numbers_at-numbers.ensures w r o g l)),
      c.put.ensures.1,
    )

pub returns : goal.returns
unfolding numbers_of
returns c =
    let from-inside : (n : Numbers) → (e : n ≡ numbers_of (drop c.args.slot c.args.slots.now)) → n.from < size_in c.args.line.now = λ n. λ e. subst (λ (m : Numbers). m.from < size_in c.args.line.now) (sym e) c.requires.2 in
    let k = c.requires.1 in (
      λ w t told g h r.
          let l = from-inside c.numbers_at-numbers.result c.numbers_at-numbers.ensures in
          let o = c.if-numbers-ne-ORIG.false in
          subst (λ (u : Text). Spells (kinds w) c.put-2.new.bytes c.put-2.result (t ++ u))
          (own-plain k c.edge_text-text.result.now c.edge_text-text.ensures c.numbers_at-numbers.result c.numbers_at-numbers.ensures w r o g l c.args.number c.if-number.false)
          (c.put-2.ensures.0 (kinds w) t (edge_of c.args.room.now (drop c.args.slot c.args.slots.now)).text h (text-bytes k c.edge_text-text.result.now c.edge_text-text.ensures c.numbers_at-numbers.result c.numbers_at-numbers.ensures)
          (text-scalars k c.edge_text-text.result.now c.edge_text-text.ensures c.numbers_at-numbers.result c.numbers_at-numbers.ensures)
          (c.is_alpha_at-letter.ensures ∙ own-letter k c.edge_text-text.result.now c.edge_text-text.ensures c.numbers_at-numbers.result c.numbers_at-numbers.ensures w r o g l)),
      c.put-2.ensures.1,
    )
