-- The first world of a text: no edges, nothing noted.
use Rattle.std.specs.Prelude.{ℕ, ◌+◌, List, [], ◌≡◌, refl, replicate}
use Rattle.std.proofs.Common.{sym, subst, arith}
use Rattle.base.specs.Rows.{counted}
use Rattle.edge.specs.Stored.{none_stored}
use Rattle.words.specs.Given.{World, size_in, Told, Lined, Lent, line-size, lent_none}
use Rattle.passes.specs.Reached.{nothing, Over, with_edges, told_with}

pub first-over : {w : World} {ready line : List ℕ} → Told w ready → Lined w line → (slots room places : List ℕ) → places ≡ replicate (size_in line + 1) 0
    → Over (with_edges w []) ready line slots room places nothing
unfolding counted
first-over {w} {ready} {line} t g slots room places e = record {
  told = told_with t [];
  lent = subst (Lent (with_edges w []) line) (sym e)
      (lent_none (with_edges w []) line (size_in line + 1) (record { fine = g.fine; few = g.few; is = g.is }) refl (omega (arith, line-size g)));
  stored = none_stored slots room;
  edges = refl;
}
