-- Where no sequence is bad, a text's bytes are those of its characters.
use Rattle.std.specs.Prelude.{◌≡◌, refl, List, [], ◌∷◌, ◌++◌, ℕ, zero, suc, ◌+◌, ◌≤◌, length, drop}
use Rattle.std.proofs.Common.{sym, ◌∙◌, arith, length-drop}
use Rattle.std.proofs.Math.Path.{ap}
use Rattle.std.proofs.Math.Option.{none}
use Rattle.definition.specs.Utf8.{Read, char, bad, read, bad_sequence, decoded, encode, encoded}
use Rattle.definition.specs.Utf8Turns.{bad_at, bad_sequence-is, bad-here, bad-next, decoded-none, decoded-next, char-bytes}
use Rattle.definition.specs.Rewritten.{Own, read_back}

-- `f` bounds the length: each character takes a byte at least
rewritten : (f o : ℕ) (s : List ℕ) → length s ≤ f → bad_at o s ≡ none → encoded (decoded s) ≡ s
unfolding encoded
rewritten zero o [] l e = ap encoded (decoded-none [] refl)
rewritten zero o (b ∷ s) l e = absurd (omega arith)
rewritten (suc f) o [] l e = ap encoded (decoded-none [] refl)
rewritten (suc f) o (b ∷ s) l e = go (read (b ∷ s)) refl (read_back b s) (λ n. rewritten f (o + n) (drop n (b ∷ s)))
  where
    go : (r : Read) → read (b ∷ s) ≡ r → Own (b ∷ s) r
        → ((n : ℕ) → length (drop n (b ∷ s)) ≤ f → bad_at (o + n) (drop n (b ∷ s)) ≡ none → encoded (decoded (drop n (b ∷ s))) ≡ drop n (b ∷ s))
        → encoded (decoded (b ∷ s)) ≡ b ∷ s
    go (char c n) q w h =
        let m = char-bytes (b ∷ s) c n q in
        let d = length-drop n (b ∷ s) in
        ap encoded (decoded-next (b ∷ s) c n (omega arith) q)
        ∙ ap (λ x. encode c ++ x) (h n (omega arith) (sym (bad-next o (b ∷ s) c n (omega arith) q) ∙ e)) ∙ w
    go bad q w h = absurd (let x = sym (bad-here o (b ∷ s) (omega arith) q) ∙ e in let z : ◌≡◌ {A = ℕ} 0 1 = cc in omega arith)

pub encoded-decoded : (s : List ℕ) → bad_sequence s ≡ none → encoded (decoded s) ≡ s
encoded-decoded s e = rewritten (length s) 0 s (omega arith) (sym (bad_sequence-is s) ∙ e)
