-- One digit more of a number of rounds. A number that is too large stays too large.
use Rattle.std.proofs.Common.{◌≡◌, ℕ, ◌+◌, ◌-◌, ◌*◌, ◌^◌, ◌<◌, ◌≤◌, Bool, true, false, cond, leb, List, [], ◌∷◌, length, get_or, drop, Some, None, Option, sym, refl, ap, ◌∙◌, arith}
use Rattle.std.specs.Option.{option_map}
use Rattle.std.proofs.lemmas.List.{drop_more, drop_all}
use Rattle.std.proofs.lemmas.Bool.Decides.{nat_tests}
use Rattle.tasks.specs.Reading.{Got, got, refused}
use Rattle.tasks.specs.Rounds.{asked_rounds}
use Rattle.tasks.specs.Task.{within}
use Rattle.command.specs.Rounds.{number_after, asked, more}

abbrev pub after : ℕ → List ℕ → Option (Got ℕ)
after n cs = option_map asked_rounds (number_after n cs)

-- on both ways of a test
both : (t : Bool) (x y : Option ℕ) → option_map asked_rounds x ≡ option_map asked_rounds y → option_map asked_rounds (cond t x None) ≡ option_map asked_rounds (cond t y None)
both true x y e = e
both false x y e = refl

large : (n : ℕ) → 2 ^ 24 < n → asked_rounds n ≡ refused 12
large n l = ap (λ t. cond t (got n) (refused 12)) (not_le n (2 ^ 24) l)
  where
    not_le : (x y : ℕ) → y < x → leb x y ≡ false
    not_le x y h = grind (arith, nat_tests)

-- a text that is not empty
whole : (text : List ℕ) → 0 < length text → asked text ≡ after 0 text
whole [] l = absurd (omega arith)
whole (c ∷ cs) l = refl

too_large : (a b : ℕ) (cs : List ℕ) → 2 ^ 24 < a → 2 ^ 24 < b → after a cs ≡ after b cs
unfolding number_after
too_large a b [] l m = ap Some (large a l ∙ sym (large b m))
too_large a b (c ∷ cs) l m =
    both (within 48 57 c) _ _ (too_large (a * 10 + (c - 48)) (b * 10 + (c - 48)) cs (omega arith) (omega arith))

step : (t u : Bool) (n m d : ℕ) (cs : List ℕ) → u ≡ leb n (2 ^ 24) → Some m ≡ cond t (Some (cond u (n * 10 + d) n)) None → after m cs ≡ option_map asked_rounds (cond t (number_after (n * 10 + d) cs) None)
step true true n m d cs i e = let x : m ≡ n * 10 + d = grind arith in ap (λ k. after k cs) x
step true false n m d cs i e = let x : m ≡ n = grind arith in let l : 2 ^ 24 < n = grind (arith, nat_tests) in ap (λ k. after k cs) x ∙ too_large n (n * 10 + d) cs l (omega arith)
step false u n m d cs i e = absurd (grind arith)

stop : (t : Bool) (x : ℕ) (y : Option ℕ) → None ≡ cond t (Some x) None → option_map asked_rounds (cond t y None) ≡ None
stop true x y e = absurd (grind arith)
stop false x y e = refl

module _ (text : List ℕ) (i n d : ℕ) where
  pub number_more : (m : ℕ) → i < length text → Some m ≡ more n (get_or text i d) → after n (drop i text) ≡ after 0 text → after m (drop (i + 1) text) ≡ after 0 text
  unfolding number_after
  number_more m l e h = step (within 48 57 (get_or text i d)) (leb n (2 ^ 24)) n m (get_or text i d - 48) (drop (i + 1) text) refl e ∙ (ap (after n) (sym (drop_more text i d l)) ∙ h)

  pub number-stop : i < length text → None ≡ more n (get_or text i d) → after n (drop i text) ≡ after 0 text → None ≡ asked text
  unfolding number_after
  number-stop l e h =
      sym (whole text (omega arith) ∙ (sym h ∙ (ap (after n) (drop_more text i d l) ∙ stop (within 48 57 (get_or text i d)) _ _ e)))

  pub number-end : length text ≤ i → 0 < length text → after n (drop i text) ≡ after 0 text → Some (asked_rounds n) ≡ asked text
  unfolding number_after
  number-end l s h = sym (whole text s ∙ (sym h ∙ ap (after n) (drop_all i text l)))
