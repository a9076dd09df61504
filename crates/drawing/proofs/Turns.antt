-- Drawing for one list of moduli after another. Assumes nothing.
use Rattle.std.proofs.Common.{◌≡◌, ℕ, ◌%◌, Bool, true, false, cond, ltb, List, [], ◌∷◌, ◌++◌, refl, ap, ◌∙◌}
use Rattle.drawing.specs.Drawing.{limit, Drawn, drew, short, more, onto, and_then, draw}
use Rattle.drawing.specs.Uniform.{InTurn}

onto-none : (r : Drawn) → r ≡ onto [] r
onto-none (drew ds left) = refl
onto-none short = refl

more-onto : (d : ℕ) (ds : List ℕ) (r : Drawn) → more d (onto ds r) ≡ onto (d ∷ ds) r
more-onto d ds (drew es left) = refl
more-onto d ds short = refl

more_then : (d : ℕ) (r : Drawn) (next : List ℕ → Drawn) → more d (and_then r next) ≡ and_then (more d r) next
more_then d (drew ds left) next = more-onto d ds (next left)
more_then d short next = refl

pub in_turn_lem : (n : ℕ) → InTurn n
unfolding draw
in_turn_lem n [] ts vs = onto-none (draw n ts vs)
in_turn_lem n (s ∷ ss) ts [] = refl
in_turn_lem n (s ∷ ss) ts (v ∷ vs) = go (ltb v (limit n s)) (in_turn_lem n ss ts vs) (in_turn_lem n (s ∷ ss) ts vs)
  where
    go : (t : Bool) → draw n (ss ++ ts) vs ≡ and_then (draw n ss vs) (draw n ts) → draw n (s ∷ ss ++ ts) vs ≡ and_then (draw n (s ∷ ss) vs) (draw n ts) →
        cond t (more (v % s) (draw n (ss ++ ts) vs)) (draw n (s ∷ ss ++ ts) vs) ≡ and_then (cond t (more (v % s) (draw n ss vs)) (draw n (s ∷ ss) vs)) (draw n ts)
    go true h k = ap (more (v % s)) h ∙ more_then (v % s) (draw n ss vs) (draw n ts)
    go false h k = k
