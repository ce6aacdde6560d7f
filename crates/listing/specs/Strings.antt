-- A string as output: the texts of some edges, each put behind those before it.
use Rattle.std.specs.Prelude.{ℕ, List, [], ◌∷◌, ◌++◌, ◌≡◌, length}
use Rattle.std.proofs.Common.{append_assoc, append-nil, sym, ap, ◌∙◌, arith}
use Rattle.definition.specs.Utf8.{encoded}
use Rattle.definition.specs.Edges.{Edge}
use Rattle.definition.specs.Paths.{joined}
use Rattle.definition.specs.Roundtrip.{encoded-append}
use Rattle.lent_bytes.specs.Puts.{put_at, put_next}

-- one edge's text more
joined-next : (l : List Edge) (x : Edge) → joined (l ++ x ∷ []) ≡ joined l ++ x.text
unfolding joined
joined-next [] x = append-nil x.text
joined-next (y ∷ l) x = ap (◌++◌ y.text) (joined-next l x) ∙ sym (append_assoc y.text (joined l) x.text)

pub string-next : (l : List Edge) (x : Edge)
    → encoded (joined (l ++ x ∷ [])) ≡ encoded (joined l) ++ encoded x.text
string-next l x = ap encoded (joined-next l x) ∙ encoded-append (joined l) x.text

abbrev pub string_size : List Edge → ℕ
string_size l = length (encoded (joined l))

-- Writing it, from `at` on
pub next-text : (done : List Edge) (x : Edge) (first out : List ℕ) (at : ℕ) → at ≡ string_size done
    → out ≡ put_at 0 (encoded (joined done)) first
    → put_at at (encoded x.text) out ≡ put_at 0 (encoded (joined (done ++ x ∷ []))) first
next-text done x first out at k e =
    put_next 0 at (encoded (joined done)) (encoded x.text) first out (omega arith) (omega arith) e
    ∙ ap (λ l. put_at 0 l first) (sym (string-next done x))
