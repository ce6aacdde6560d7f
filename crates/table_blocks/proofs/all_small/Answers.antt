-- `table_blocks::all_small`: the byte at each place of the part is tested.
use Rattle.std.proofs.Common.{ℕ, zero, suc, ◌∙◌, ◌+◌, ◌-◌, ◌≤◌, ◌≡◌, ◌&&◌, Bool, List, get_or, take, drop, length, refl, ap, drop-cons, add-one, rules, tests, arith}
use Rattle.std.specs.List.{range_with_len}
use Rattle.std.proofs.lemmas.Iterator.{YieldsList-from_range}
use Rattle.std.proofs.lemmas.Iterator.Search.{all_from_yields_List}
use Rattle.base.specs.Lists.{all}
use Rattle.definition.specs.Blocks.{small}
use Rattle.lent_bytes.specs.Library.{all_is}
use Rattle.table_blocks.proofs.all_small.Goals as goal

-- the byte at `i` is small
small_at : List ℕ → ℕ → Bool
small_at s i = small (get_or s i 0)

-- so many places from `from` on, and the bytes there
places_small : (s : List ℕ) (from n : ℕ) → from + n ≤ length s → all (small_at s) (range_with_len from n) ≡ all small (take n (drop from s))
unfolding all small_at
places_small s from zero h = refl
places_small s from (suc n) h =
    rw (drop-cons s from 0 (omega arith), ← add-one from) (ap (λ (t : Bool). small (get_or s from 0) && t) (places_small s (from + 1) n (omega arith)))

pub returns : goal.returns
unfolding small_at
returns c =
    let s = c.args.s.now in
    let n = c.args.to - c.args.from in
    all_from_yields_List (small_at s) _ _ _ c.all.ensures.ran (YieldsList-from_range c.args.from c.args.to n refl refl) (λ x b q k. search (rules, tests))
    ∙ all_is (small_at s) (range_with_len c.args.from n)
    ∙ places_small s c.args.from n (omega arith)
