-- How options are taken out of the words of a command line. A word is compared by its bytes. Assumes nothing.
use Rattle.std.specs.Prelude.{◌≡◌, ℕ, suc, ◌+◌, ◌<◌, Bool, cond, List, [], ◌∷◌, ◌++◌, length, take, drop, Ok, Err, string_bytes, Option, Result, String, MatchOption, nat_lt, slice_index_or}
use Rattle.std.specs.declared.alloc.Global.{Global}
use Rattle.std.specs.Str.{bytes_eq}
use Rattle.arguments.specs.declared.Wrong.{Wrong}
use Rattle.arguments.specs.declared.Wrong.TheVariants.{Word}

-- the first place at which a word stands, or the number of words
unfoldable pub place_of : List ℕ → List (String Global) → ℕ
place_of name [] = 0
place_of name (w ∷ ws) = cond (bytes_eq (string_bytes w) name) 0 (suc (place_of name ws))

-- the place at which a word stands first, if it stands
abbrev pub Stands : List ℕ → List (String Global) → Option ℕ → Type 0
Stands name ws r = MatchOption r (place_of name ws ≡ length ws) (λ place. (place_of name ws ≡ place) × (place < length ws))

-- what is left where n words are gone, from the first place of the name on
abbrev pub without : ℕ → List ℕ → List (String Global) → List (String Global)
without n name ws = take (place_of name ws) ws ++ drop (place_of name ws + n) ws

-- the word after the name was taken, and the name with it; or there is none, and nothing changed
abbrev pub Taken : List ℕ → List (String Global) → List (String Global) → Option (String Global) → Type 0
Taken name old new r =
    MatchOption r
    ((length old < place_of name old + 2) × (new ≡ old))
    (λ v. (place_of name old + 1 < length old) × (v ≡ slice_index_or old (place_of name old + 1) v) × (new ≡ without 2 name old))

-- a word was taken where it stands, and it is said whether it does
abbrev pub Struck : List ℕ → List (String Global) → List (String Global) → Bool → Type 0
Struck name old new r = (r ≡ nat_lt (place_of name old) (length old)) × (new ≡ without 1 name old)

-- nothing may be left; the first word that is left is told
abbrev pub ending : List (String Global) → Result (Unit {0}) Wrong
ending [] = Ok tt
ending (w ∷ ws) = Err (Word w)
