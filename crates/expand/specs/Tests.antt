-- The expansion: one law for each way out of its steps that may remember more.
use Rattle.std.specs.Prelude.{Bool, true, false, ◌&&◌, List, [], ◌∷◌, ◌++◌, ◌≡◌, refl, ℕ, ◌+◌, eqb}
use Rattle.std.proofs.Math.Option.{Option, none, some}
use Rattle.std.proofs.Math.Path.{sym}
use Rattle.std.proofs.Common.{ap, ◌∙◌}
use Rattle.base.specs.Pick.{pick}
use Rattle.base.specs.Lists.{has, maybe, same}
use Rattle.definition.specs.Texts.{Text, at, prev, without_last, letter_e, coptic_grave}
use Rattle.definition.specs.Tables.{Class, Choices, Lexicon, script_thai, script_coptic}
use Rattle.definition.specs.Notes.{note_none, note_exp, note_del}
use Rattle.definition.specs.Classes.{script}
use Rattle.definition.specs.Edges.{View, Mem, M, ret, ◌>>=◌}
use Rattle.definition.specs.Rules.{simple}
use Rattle.definition.specs.Expansion.{Work, work, capitalize, double, around, before, silent, small_target, finish, grave, small_y, rest, o_ang_step, thai, by_script, expand}
use Rattle.words.specs.Did.{Did, did, outcome}

-- a Coptic grave at `p`
unfoldable pub has_grave : List Class → Text → ℕ → Bool
has_grave ks t p = eqb (at t p) coptic_grave && eqb (script ks (prev t p)) script_coptic

module _ (L : Lexicon) (t : Text) (v : View) where
  -- does a rule have a span: does a simple search of it answer a text?
  unfoldable pub ruled : ℕ → ℕ → M Bool
  ruled s e = simple L t v s e >>= (λ r. ret (has r))

  module _ (s e : ℕ) (m : Mem) {m₁ : Mem} where
    pub ruled-is : {r : Option Text} → Did (simple L t v s e m) r m₁ → Did (ruled s e m) (has r) m₁
    unfolding ruled ret ◌>>=◌
    ruled-is d = record { value = ap has d.value; memory = d.memory }

    pub ruled-by : {b : Bool} → Did (ruled s e m) b m₁ → Did (simple L t v s e m) (simple L t v s e m).0 m₁
    unfolding ruled ret ◌>>=◌
    ruled-by d = record { value = refl; memory = d.memory }

    pub ruled-has : {b : Bool} → Did (ruled s e m) b m₁ → has (simple L t v s e m).0 ≡ b
    unfolding ruled ret ◌>>=◌
    ruled-has d = sym d.value

  module _ (o : ℕ) (w : Work) (m : Mem) where
    pub no_grave : has_grave L.classes t w.to ≡ false → Did (grave L t v o w m) w m
    unfolding grave has_grave ret pick
    no_grave e = did (rw e)

    module _ (e : has_grave L.classes t w.to ≡ true) {r : Option Text} {m₁ : Mem} (d : Did (simple L t v o (w.to + 1) m) r m₁) where
      pub grave-ruled : has r ≡ true → Did (grave L t v o w m) w m₁
      unfolding grave has_grave ret ◌>>=◌ pick
      grave-ruled f = did (rw (e, outcome d, f))

      pub grave-put : has r ≡ false → Did (grave L t v o w m) (work (letter_e ∷ w.rom) w.from (w.to + 1) note_exp) m₁
      unfolding grave has_grave ret ◌>>=◌ pick
      grave-put f = did (rw (e, outcome d, f))

    -- a small ya, yu, yo
    pub no_small : small_target L.rules L.classes t w ≡ none → Did (small_y L t v o w m) w m
    unfolding small_y ret maybe
    no_small e = did (rw e)

    module _ (y : Text) (e : small_target L.rules L.classes t w ≡ some y) {r : Option Text} {m₁ : Mem}
        (d : Did (simple L t v o (w.to + 1) m) r m₁) where
      pub small-ruled : has r ≡ true → Did (small_y L t v o w m) w m₁
      unfolding small_y ret ◌>>=◌ maybe pick
      small-ruled f = did (rw (e, outcome d, f))

      module _ (f : has r ≡ false) {u : Option Text} {m₂ : Mem} (g : Did (simple L t v w.from (w.to + 1) m₁) u m₂) where
        pub small-ruled-here : has u ≡ true → Did (small_y L t v o w m) w m₂
        unfolding small_y ret ◌>>=◌ maybe pick
        small-ruled-here h = did (rw (e, outcome d, f, outcome g, h))

        pub small_put : has u ≡ false → Did (small_y L t v o w m) (work (without_last w.rom ++ y) w.from (w.to + 1) note_exp) m₂
        unfolding small_y ret ◌>>=◌ maybe pick
        small_put h = did (rw (e, outcome d, f, outcome g, h))

    -- both, and the end
    pub rest-is : {u x : Work} {m₁ m₂ : Mem} → Did (grave L t v o w m) u m₁ → Did (small_y L t v o u m₁) x m₂
        → Did (rest L t v o w m) (finish L.classes t x) m₂
    unfolding rest ret ◌>>=◌
    rest-is d f = did (rw (outcome d, outcome f))

  -- What the steps by script left: the expansion ends with it where they were done, else the rest comes
  unfoldable pub onward : ℕ → Bool → Work → M Work
  onward o done w = pick done (ret w) (rest L t v o w)

  module _ (o : ℕ) (w : Work) (m : Mem) {b : Bool} where
    pub ends_there : b ≡ true → {f : M Work} → onward o b w ≡ f → Did (f m) w m
    unfolding onward ret pick
    ends_there d e = did (ap (λ (g : M Work). g m) (sym e) ∙ rw d)

    pub goes_on : b ≡ false → {f : M Work} → onward o b w ≡ f → {x : Work} {m₁ : Mem} → Did (rest L t v o w m) x m₁ → Did (f m) x m₁
    unfolding onward pick
    goes_on d e h = did (ap (λ (g : M Work). g m) (sym e) ∙ rw d (outcome h))

  -- Thai
  module _ (c : Choices) (o : ℕ) (w : Work) where
    pub patterned : {x : Work} → some x ≡ around L.rules L.classes t w → ret x ≡ thai L t v c o w
    unfolding thai maybe
    patterned e = sym (rw (sym e))

    module _ (e : none ≡ around L.rules L.classes t w) (u : Work) (d : u ≡ before L.rules L.classes t w) where
      pub deleted : {y : Text} → y ≡ [] → silent c L.rules L.classes t v o u ≡ true → ret (work y u.from u.to note_del) ≡ thai L t v c o w
      unfolding thai o_ang_step pick maybe
      deleted h f = rw h (sym (rw (sym e, sym d, f)))

      pub spoken : silent c L.rules L.classes t v o u ≡ false → rest L t v o u ≡ thai L t v c o w
      unfolding thai o_ang_step pick maybe
      spoken f = sym (rw (sym e, sym d, f))

    -- by script
    pub in_thai : eqb (script L.classes (at t o)) script_thai ≡ true → thai L t v c o w ≡ by_script L t v c o w
    unfolding by_script pick
    in_thai e = sym (rw e)

    pub elsewhere : eqb (script L.classes (at t o)) script_thai ≡ false → rest L t v o w ≡ by_script L t v c o w
    unfolding by_script pick
    elsewhere e = sym (rw e)

  -- the whole
  module _ (c : Choices) (rom : Text) (s e : ℕ) (m : Mem) where
    pub nothing-to-expand : same rom [] ≡ true → Did (expand L t v c rom s e m) (work rom s e note_none) m
    unfolding expand ret pick
    nothing-to-expand f = did (rw f)

    pub expanded : same rom [] ≡ false → {y x : Work} {m₁ : Mem} → y ≡ double L.classes t s (capitalize c L.classes t (work rom s e note_none))
        → Did (by_script L t v c s y m) x m₁ → Did (expand L t v c rom s e m) x m₁
    unfolding expand pick
    expanded f h d = did (rw (f, sym h) (outcome d))

    module _ (f : same rom [] ≡ false) {y : Work} (h : y ≡ double L.classes t s (capitalize c L.classes t (work rom s e note_none))) where
      -- the steps by script break off, or the rest comes
      pub broken-off : {x : Work} → ret x ≡ by_script L t v c s y → Did (expand L t v c rom s e m) x m
      unfolding expand ret pick
      broken-off {x} d = did (rw (f, sym h) (ap (λ (g : M Work). g m) (sym d)))

      pub gone-on : (u : Work) → rest L t v s u ≡ by_script L t v c s y → {x : Work} {m₁ : Mem} → Did (rest L t v s u m) x m₁
          → Did (expand L t v c rom s e m) x m₁
      unfolding expand pick
      gone-on u d r = did (rw (f, sym h) (ap (λ (g : M Work). g m) (sym d) ∙ outcome r))
