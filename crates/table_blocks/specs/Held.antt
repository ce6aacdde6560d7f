-- Enough bytes are left, or not.
use Rattle.std.specs.Prelude.{ℕ, ◌-◌, ◌≤◌, ◌<◌, true, false, List, ◌≡◌, length, drop}
use Rattle.std.proofs.Common.{◌∙◌, le-leb, arith, length-drop}
use Rattle.std.proofs.lemmas.Bool.{lt-leb}
use Rattle.base.specs.Lists.{holds}
use Rattle.base.specs.ListLaws.{holds-is}

pub held : (n : ℕ) (s : List ℕ) → n ≤ length s → holds n s ≡ true
held n s h = holds-is n s ∙ le-leb n (length s) h

pub short : (n : ℕ) (s : List ℕ) → length s < n → holds n s ≡ false
short n s h = holds-is n s ∙ lt-leb n (length s) h

-- from a row on, by the length of all
pub held_from : (b : List ℕ) (row n : ℕ) → n ≤ length b - row → holds n (drop row b) ≡ true
held_from b row n h = held n (drop row b) (omega (arith, length-drop row b))

pub short_from : (b : List ℕ) (row n : ℕ) → length b - row < n → holds n (drop row b) ≡ false
short_from b row n h = short n (drop row b) (omega (arith, length-drop row b))
