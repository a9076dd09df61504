-- The first place of a word, as the library finds it, and what is left where words are removed.
use Rattle.std.proofs.Common.{◌≡◌, ℕ, zero, suc, ◌+◌, ◌<◌, Bool, true, false, cond, ltb, not, List, [], ◌∷◌, ◌++◌, length, take, drop, string_bytes, String, Some, None, refl, ap, arith}
use Rattle.std.specs.declared.alloc.Global.{Global}
use Rattle.std.specs.List.{remove, position, position_or_len}
use Rattle.std.specs.Str.{bytes_eq}
use Rattle.std.proofs.lemmas.Bool.Decides.{nat_tests}
use Rattle.std.proofs.lemmas.List.Sums.{prefix_len-le-length}
use Rattle.std.proofs.lemmas.List.Recursion.{is_position_or_len}
use Rattle.arguments.specs.Words.{place_of, Stands}

abbrev pub is_name : List ℕ → String Global → Bool
is_name name w = bytes_eq (string_bytes w) name

place-position : (name : List ℕ) (ws : List (String Global)) → place_of name ws ≡ position_or_len (is_name name) ws
unfolding place_of
place-position name ws = is_position_or_len (place_of name) (is_name name) refl (λ w rest. ap (cond (is_name name w) 0) (omega arith)) ws

-- a place that is found is the first one
pub stands : (name : List ℕ) (ws : List (String Global)) → Stands name ws (position (is_name name) ws)
stands name ws = go (ltb (position_or_len (is_name name) ws) (length ws)) refl
  where
    go : (b : Bool) → ltb (position_or_len (is_name name) ws) (length ws) ≡ b → Stands name ws (cond b (Some (position_or_len (is_name name) ws)) None)
    go true l = let e = place-position name ws in (e, grind (arith, nat_tests))
    go false l = let e = place-position name ws in let le = prefix_len-le-length (λ w. not (is_name name w)) ws in grind (arith, nat_tests)

-- a word, and then the word after it, are gone
pub removed_twice : {X : Type 0} (ws : List X) (p : ℕ) → p + 1 < length ws → remove (remove ws p) p ≡ take p ws ++ drop (p + 2) ws
removed_twice [] p l = absurd (omega arith)
removed_twice (w ∷ ws) zero l = refl
removed_twice (w ∷ ws) (suc p) l =
    let e : suc p + 2 ≡ suc (p + 2) = omega arith in rw e (ap (λ xs. w ∷ xs) (removed_twice ws p (omega arith)))
