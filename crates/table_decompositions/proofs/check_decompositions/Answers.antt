-- `table_decompositions::check_decompositions`
use mathlib.Core.Path.{sym, ap, ◌∙◌, subst}
use Rattle.std.proofs.lemmas.Result.{err_from_is_err_and}
use lib.ListN.{drop}
use Rattle.definition.specs.Limits.{most_rows}
use Rattle.definition.specs.Blocks.{head_bytes}
use Rattle.definition.specs.DecompositionLaws.{RightRows}
use Rattle.table_decompositions.specs.Part.{part-rows}
use Rattle.table_blocks.specs.Faults.{table_means}
use Rattle.table_decompositions.specs.Index.{index_of}
use Rattle.table_decompositions.specs.Nesting.{fault_nested, fault-own}
use Rattle.table_decompositions.proofs.check_decompositions.Goals as goal

pub check_part-requires : goal.check_part-requires
check_part-requires c =
    (c.requires, subst (λ p. RightRows most_rows 0 (drop head_bytes p)) c.right_end-end.ensures.0 (part-rows c.args.table.now))

pub returns-in_err-check_part : goal.returns-in_err-check_part
unfolding table_means
returns-in_err-check_part c =
    let p = err_from_is_err_and c.from_residual.result c.from_residual.ensures.1 in
    let e = c.right_end-end.ensures.0 in
    record {
      answer = rw (p.1, p.2) (fault_nested c.args.table.now _ e _ (sym c.in_err-check_part.ensures.answer));
      index = c.in_err-check_part.ensures.index ∙ ap index_of (sym e);
    }

pub returns : goal.returns
unfolding table_means
returns c =
    let e = c.right_end-end.ensures.0 in
    record {
      answer = c.first_wrong-own.ensures ∙ fault-own c.args.table.now _ e (sym c.in_ok-check_part.ensures.answer);
      index = c.in_ok-check_part.ensures.index ∙ ap index_of (sym e);
    }
