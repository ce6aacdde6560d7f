-- `utf8::read_text`: each return is a refusal in the definition's order, or none, by what `decode` and `first_left_out`
-- ensure.
use Rattle.std.proofs.Common.{◌≡◌, ℕ, ◌≤◌, List, length, sym, length-take-le, arith}
use Rattle.std.specs.Prelude.{Ok}
use Rattle.definition.specs.Limits.{most_characters}
use Rattle.utf8.specs.Read.{answered, Roomy}
use Rattle.std.proofs.lemmas.Result.{err_from_is_err_and}
use Rattle.definition.specs.Utf8.{decoded}
use Rattle.utf8.proofs.Answers.{not_utf8, counted, too_long, left, taken}
use Rattle.utf8.proofs.read_text.Goals as goal

pub returns-in_err-n-clause-refusal : goal.returns-in_err-n-clause-refusal
returns-in_err-n-clause-refusal c =
    let p = err_from_is_err_and c.from_residual.result c.from_residual.ensures.1 in
    rw (p.1, p.2) (not_utf8 _ _ (sym c.in_err-n.ensures.answer))

pub returns-then-n-gt-MOST_CHARACTERS-clause-refusal : goal.returns-then-n-gt-MOST_CHARACTERS-clause-refusal
returns-then-n-gt-MOST_CHARACTERS-clause-refusal c = too_long _ _ (sym c.in_ok-n.ensures.answer) (omega arith)

-- there is room for the characters of a text that is not too long
own : (s : List ℕ) (n : ℕ) → Ok n ≡ answered s → n ≡ length (decoded s)
own s n e = counted s n (sym e)

room : (s l : List ℕ) (n : ℕ) → Roomy s (length l) → Ok n ≡ answered s → n ≤ most_characters → n ≤ length l
room s l n r e h = let k = own s n e in let f = r (omega (arith, k)) in omega (arith, k, f)

pub slice_bounds-first_left_out-end : goal.slice_bounds-first_left_out-end
slice_bounds-first_left_out-end c =
    let h = room _ _ _ c.requires c.in_ok-n.ensures.answer (omega arith) in
    omega (arith, h, c.decode.auto.chars)

pub slice_bounds-first_left_out-end-2 : goal.slice_bounds-first_left_out-end-2
slice_bounds-first_left_out-end-2 c =
    let h = room _ _ _ c.requires c.in_ok-n.ensures.answer (omega arith) in
    sym (length-take-le c.in_ok-n.n c.decode.new.chars (omega (arith, h, c.decode.auto.chars)))

pub returns-in-Some-clause-refusal : goal.returns-in-Some-clause-refusal
returns-in-Some-clause-refusal c =
    let h = room _ _ _ c.requires c.in_ok-n.ensures.answer (omega arith) in
    left _ _ (sym c.in_ok-n.ensures.answer) c.args.chars.now c.decode.new.chars h c.decode.ensures.room (omega arith) _ c.first_left_out.ensures _ c.in-Some.is

pub returns-in-None-clause-refusal : goal.returns-in-None-clause-refusal
returns-in-None-clause-refusal c =
    let h = room _ _ _ c.requires c.in_ok-n.ensures.answer (omega arith) in
    taken _ _ (sym c.in_ok-n.ensures.answer) c.args.chars.now c.decode.new.chars h c.decode.ensures.room (omega arith) _ c.first_left_out.ensures c.in-None.is

pub returns-in-None-clause-count : goal.returns-in-None-clause-count
returns-in-None-clause-count c = own _ _ c.in_ok-n.ensures.answer
