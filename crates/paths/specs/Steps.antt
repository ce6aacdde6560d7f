-- One step of the path: what the best edge adds to the output, and where it goes on.
use Rattle.std.specs.Prelude.{ℕ, suc, Bool, List, [], ◌++◌, ◌≡◌, refl}
use Rattle.std.proofs.Math.Option.{Option, none, some}
use Rattle.std.proofs.Common.{sym, ap, ◌∙◌}
use Rattle.definition.specs.Edges.{Edge, right_best}
use Rattle.definition.specs.Paths.{join, next, path_from}
use Rattle.edge.specs.Best.{BestEdge, best_means}
use Rattle.listing.specs.Items.{Written, put_items, put_items-append}

-- the edge that was answered, if any, as a list
abbrev pub best_list : List ℕ → List ℕ → BestEdge → List Edge
best_list room slots b = join (best_means room slots b) []

join-append : (o : Option Edge) (l : List Edge) → join o l ≡ join o [] ++ l
join-append none l = refl
join-append (some x) l = refl

-- the best edge at `p` written, what is left of the path goes on behind it
pub path_on : (rows : Bool) (es : List Edge) (o : Option Edge) (k p q : ℕ) (w v : Written)
    → o ≡ right_best es p → q ≡ next o p → w ≡ put_items rows (join o []) v
    → put_items rows (path_from k q es) w ≡ put_items rows (path_from (suc k) p es) v
unfolding path_from
path_on rows es o k p q w v b n e =
    ap (put_items rows (path_from k q es)) e ∙ sym (put_items-append rows (join o []) (path_from k q es) v)
    ∙ ap (λ l. put_items rows l v) (sym (join-append o (path_from k q es)) ∙ ap (λ q. join o (path_from k q es)) n
    ∙ ap (λ o. join o (path_from k (next o p) es)) b)
