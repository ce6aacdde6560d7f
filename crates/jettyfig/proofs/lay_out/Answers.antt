-- `jettyfig::lay_out`: an accepted text's line, whose part of twice its length is lent and comes back with the classes.
use Prim.Native.Nat.{ℕ, ◌+◌, ◌*◌, ◌≤◌}
use mathlib.Core.Option.{some}
use mathlib.Core.List.{List}
use mathlib.Core.Path.{◌≡◌, refl, sym, ◌∙◌}
use native.Mathlib.Omega.{arith}
use lib.ListN.{length}
use Rattle.std.specs.Prelude.{Ok, Err}
use Rattle.definition.specs.Limits.{most_characters}
use Rattle.definition.specs.Utf8.{decoded}
use Rattle.definition.specs.Call.{text_refusal}
use Rattle.utf8.specs.declared.TextFault.{TextFault}
use Rattle.utf8.specs.Read.{text_means, few_read}
use Rattle.jettyfig.specs.Verdicts.{refusal_means, of_text, passed_on}
use Rattle.jettyfig.proofs.Parts.{lent_length, laid_out}
use Rattle.jettyfig.proofs.lay_out.Goals as goal

-- a text's fault is its refusal
told : (f : TextFault) → some (refusal_means (of_text f)) ≡ text_means (Err f)
unfolding text_means
told (TextFault.NotUtf8 at) = refl
told TextFault.TooLong = refl
told (TextFault.LeftOut at) = refl

few : (s : List ℕ) (n : ℕ) → text_means (Ok n) ≡ text_refusal s → n ≡ length (decoded s) → n ≤ most_characters
few s n e k = omega (arith, k, few_read s (Ok n) n refl e)

full : (s line old : List ℕ) (n : ℕ) → text_means (Ok n) ≡ text_refusal s → n ≡ length (decoded s) → length line ≡ length old
    → (length (decoded s) ≤ most_characters → 2 * (length (decoded s) + 3) ≤ length old) → 2 * (n + 3) ≤ length line
full s line old n e k l r = let h = few s n e k in omega (arith, k, l, r (omega (arith, k, h)))

pub overflow_add-count : goal.overflow_add-count
overflow_add-count c = let e = c.in_ok-count.ensures in let h = few c.args.text.now c.in_ok-count.count e.refusal e.count in omega (arith, h)

pub overflow_mul-count : goal.overflow_mul-count
overflow_mul-count c = let e = c.in_ok-count.ensures in let h = few c.args.text.now c.in_ok-count.count e.refusal e.count in omega (arith, h)

pub slice_bounds-classify-end : goal.slice_bounds-classify-end
slice_bounds-classify-end c =
    let e = c.in_ok-count.ensures in
    full c.args.text.now c.read_line.new.line c.args.line.now c.in_ok-count.count e.refusal e.count c.read_line.auto.line c.requires.1.1

pub slice_bounds-classify-end-2 : goal.slice_bounds-classify-end-2
slice_bounds-classify-end-2 c =
    let e = c.in_ok-count.ensures in
    sym (lent_length c.read_line.new.line (decoded c.args.text.now) c.in_ok-count.count
    (full c.args.text.now c.read_line.new.line c.args.line.now c.in_ok-count.count e.refusal e.count c.read_line.auto.line c.requires.1.1) e.line)

pub classify-requires : goal.classify-requires
classify-requires c =
    let e = c.in_ok-count.ensures in
    let lent = lent_length c.read_line.new.line (decoded c.args.text.now) c.in_ok-count.count
    (full c.args.text.now c.read_line.new.line c.args.line.now c.in_ok-count.count e.refusal e.count c.read_line.auto.line c.requires.1.1) e.line in
    (c.requires.0, omega (arith, lent))

pub returns-in_err-count-clause-refusal : goal.returns-in_err-count-clause-refusal
returns-in_err-count-clause-refusal c =
    passed_on _ _ c.from_residual.ensures.1 ∙ told c.in_err-count.field-0.0 ∙ c.in_err-count.ensures.refusal

pub returns-clause-refusal : goal.returns-clause-refusal
unfolding text_means
returns-clause-refusal c = c.in_ok-count.ensures.refusal

pub returns-clause-line : goal.returns-clause-line
returns-clause-line c =
    let e = c.in_ok-count.ensures in (
      e.count,
      few c.args.text.now c.in_ok-count.count e.refusal e.count,
      laid_out c.read_line.new.line (decoded c.args.text.now) c.in_ok-count.count
          (full c.args.text.now c.read_line.new.line c.args.line.now c.in_ok-count.count e.refusal e.count c.read_line.auto.line c.requires.1.1)
          e.line c.args.classes.now c.classify.new.line c.classify.ensures,
    )
