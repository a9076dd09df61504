-- Small examples that compute, so that the definitions say what they seem to. Assumes nothing.
use Rattle.std.proofs.Common.{◌≡◌, ◌^◌, [], ◌∷◌, refl}
use Rattle.paths.specs.Cheat.{up_to, before, asks, count}
use Rattle.drawing.specs.Drawing.{drew, short, draw, aim, exchanges, order_of, row_of, order_moduli, values_of}
use Rattle.paths.specs.Count.{same_row}
use Rattle.drawing.specs.Uniform.{how_many, ways}

-- of ten values 0 .. 9 the last is passed over for a number below 3; what is left over stays
passes_over : draw 10 (3 ∷ []) (9 ∷ 4 ∷ 7 ∷ []) ≡ drew (1 ∷ []) (7 ∷ [])
unfolding draw
passes_over = refl

too_few : draw 10 (3 ∷ []) (9 ∷ 9 ∷ []) ≡ short
unfolding draw
too_few = refl

-- the greatest value is passed over for a number below 3, and nothing is for a number below 2 ^ 32
greatest : draw (2 ^ 32) (3 ∷ 2 ^ 32 ∷ []) (4294967295 ∷ 5 ∷ 4294967295 ∷ []) ≡ drew (2 ∷ 4294967295 ∷ []) []
unfolding draw
greatest = refl

-- the one question of one pair takes a value
one-pair : draw (2 ^ 32) (1 ∷ []) (7 ∷ 8 ∷ []) ≡ drew (0 ∷ []) (8 ∷ [])
unfolding draw
one-pair = refl

-- one path draws nothing
one_path : order_moduli 1 ≡ []
unfolding order_moduli
one_path = refl

four-paths : order_moduli 4 ≡ 4 ∷ 3 ∷ 2 ∷ []
unfolding order_moduli
four-paths = refl

-- 0 1 2 3, then 0 3 2 1, then 2 3 0 1, then 3 2 0 1
exchanged : order_of 4 (1 ∷ 0 ∷ 0 ∷ []) ≡ 3 ∷ 2 ∷ 0 ∷ 1 ∷ []
unfolding exchanges up_to
exchanged = refl

and-back : row_of 4 (3 ∷ 2 ∷ 0 ∷ 1 ∷ []) ≡ 1 ∷ 0 ∷ 0 ∷ []
unfolding row_of
and-back = refl

-- 4 is aimed at 2 instead of 1; 9, which is passed over, and 7, which is left over, stay
aimed : aim 10 (3 ∷ []) (2 ∷ []) (9 ∷ 4 ∷ 7 ∷ []) ≡ 9 ∷ 5 ∷ 7 ∷ []
unfolding aim
aimed = refl

-- of the 100 rows of two values 33 draw a 1: 3 with any other behind it, and one that is passed over with 3 behind it
counted : how_many 10 (3 ∷ []) (same_row (1 ∷ [])) 2 ≡ 33
unfolding draw asks before up_to count
counted = refl

known : ways 10 (3 ∷ []) 2 ≡ 33
unfolding ways
known = refl

-- the first byte is the highest, and two bytes too many are not used
bytes : values_of 256 (0 ∷ 0 ∷ 1 ∷ 2 ∷ 255 ∷ 255 ∷ 255 ∷ 255 ∷ 3 ∷ 4 ∷ []) ≡ 258 ∷ 4294967295 ∷ []
unfolding values_of
bytes = refl
