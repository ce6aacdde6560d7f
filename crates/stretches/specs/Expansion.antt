-- The expansion inside a stretch: each step makes of moved work what it makes of the work, moved, and holds it inside.
-- (Proved in proofs/Expansion.)
use Rattle.std.specs.Prelude.{false, ◌≡◌, [], ◌∷◌, reverse, ℕ, ◌+◌, ◌<◌}
use Rattle.std.proofs.Math.Path.{refl, sym}
use Rattle.std.proofs.Math.Option.{Option, none, some}
use Rattle.std.proofs.Common.{arith, ne_eqb}
use Rattle.std.proofs.Math.Dec.{eqb}
use Rattle.std.proofs.Math.ListN.{length}
use Rattle.base.specs.Pick.{pick}
use Rattle.base.specs.Lists.{head, tail, is}
use Rattle.base.specs.Alls.{All-reverse, All-tail, Opt, All-head}
use Rattle.definition.specs.Notes.{note_exp}
use Rattle.definition.specs.Texts.{Text, the_space, last_is, without_last}
use Rattle.definition.specs.Tables.{Choices, Lexicon}
use Rattle.definition.specs.Edges.{View, M}
use Rattle.definition.specs.Expansion.{Work, work}
use Rattle.definition.specs.Expansion.{trim_front, trim_back, trim}
use Rattle.stretches.specs.Given.{Ink, Solid, Fair, Stretch}
use Rattle.stretches.specs.Windows.{Sim}
use Rattle.stretches.specs.Boundaries.{See}
use Rattle.stretches.specs.Works.{move, Held}

-- Trimming: a text that has no space loses none
last_no_space : (w : Text) → Solid w → last_is (eqb the_space) w ≡ false
unfolding last_is
last_no_space w s = go (head (reverse w)) (All-head Ink (reverse w) (All-reverse Ink w s))
  where
    go : (o : Option ℕ) → Opt Ink o → is (eqb the_space) o ≡ false
    go none i = refl
    go (some c) i = ne_eqb the_space c (λ e. i (sym e))

head_no_space : (w : Text) → Solid w → is (eqb the_space) (head w) ≡ false
unfolding head
head_no_space [] s = refl
head_no_space (c ∷ w) s = ne_eqb the_space c (λ e. s.0 (sym e))

pub trim_solid : (t : Text) (w : Work) → Solid w.rom → trim t w ≡ w
unfolding trim trim_front trim_back pick
trim_solid t w s = rw (head_no_space w.rom s, last_no_space w.rom s)

pub without_last_solid : (w : Text) → Solid w → Solid (without_last w)
without_last_solid w s =
    All-reverse Ink (tail (reverse w)) (All-tail Ink (reverse w) (All-reverse Ink w s))

-- one more character, with another romanization
pub longer-held : {n p : ℕ} {w : Work} {u : Text} → Held n p w → w.to < n → Solid u
    → Held n p (work u w.from (w.to + 1) note_exp)
longer-held y l s = record { low = y.low; high = omega arith; fit = omega arith; ink = s }

module _ {L : Lexicon} (fair : Fair L) {T st : Text} {a : ℕ} (h : Stretch T st a) where
  module _ {c : Choices} {W v : View} (g : See c T st a W v) where
    -- Steps from work held from `p` on to such work
    abbrev pub Moved : ℕ → M Work → M Work → Type 0
    Moved p F f = Sim a (length st) Work (move a) (Held (length st) p) F f
