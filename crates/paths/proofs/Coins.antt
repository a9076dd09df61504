-- Many coins paired or changed otherwise, round by round. Assumes nothing.
use Rattle.std.proofs.Common.{◌≡◌, ℕ, zero, suc, ◌<◌, ◌≤◌, T, List, [], ◌∷◌, length, get_or, drop, sym, refl, ◌∙◌, subst, arith}
use mathlib.Core.List.{Memᴰ}
use Rattle.std.specs.List.{AllByRecursion as All}
use Rattle.paths.specs.Plan.{Task, Plan, Good, fits, all_below}
use Rattle.paths.specs.Show.{Coin}
use Rattle.paths.specs.Promise.{IsCoin, Coins}
use Rattle.paths.specs.Pairing.{pair_coin, by_question}
use Rattle.paths.specs.Paired.{PairsBack, PairsEach}
use Rattle.paths.proofs.Rows.{below_parts}
use Rattle.paths.proofs.Paired.{pairs_coin}

-- coins as a list of facts
pub all_coins : (t : Task) (cs : List Coin) → ((c : Coin) → Memᴰ c cs → IsCoin t c) → All (IsCoin t) cs
all_coins t [] h = tt
all_coins t (c ∷ cs) h = (h c (Memᴰ.head refl), all_coins t cs (λ d m. h d (Memᴰ.tail m)))

each_coin : (t : Task) (cs : List Coin) → All (IsCoin t) cs → (c : Coin) → Memᴰ c cs → IsCoin t c
each_coin t [] h c m = elim m [ ]
each_coin t (x ∷ xs) h c (Memᴰ.head e) = subst (IsCoin t) (sym e) h.0
each_coin t (x ∷ xs) h c (Memᴰ.tail m) = each_coin t xs h.1 c m

-- many coins, each changed by its question
length-by : (f : ℕ → Coin → Coin) (is : List ℕ) (cs : List Coin) → length (by_question f is cs) ≡ length cs
unfolding by_question
length-by f is [] = refl
length-by f [] (c ∷ cs) = refl
length-by f (i ∷ is) (c ∷ cs) = omega (arith, length-by f is cs)

-- a change of coins that gives coins again, and is undone by the other
pub record Undone (t : Task) (there back : ℕ → Coin → Coin) : Type 0 where
  pub fits : (i : ℕ) → i < length t.pairs → (c : Coin) → IsCoin t c → IsCoin t (there i c)
  pub undo : (i : ℕ) → i < length t.pairs → (c : Coin) → IsCoin t c → back i (there i c) ≡ c

module _ (t : Task) (there back : ℕ → Coin → Coin) (u : Undone t there back) where
  all_fit : (is : List ℕ) (cs : List Coin) → T (all_below (length t.pairs) is) → All (IsCoin t) cs → All (IsCoin t) (by_question there is cs)
  unfolding by_question
  all_fit is [] h g = tt
  all_fit [] (c ∷ cs) h g = g
  all_fit (i ∷ is) (c ∷ cs) h g = let b = below_parts (length t.pairs) i is h in (u.fits i b.0 c g.0, all_fit is cs b.1 g.1)

  all-back : (is : List ℕ) (cs : List Coin) → T (all_below (length t.pairs) is) → All (IsCoin t) cs → by_question back is (by_question there is cs) ≡ cs
  unfolding by_question
  all-back is [] h g = refl
  all-back [] (c ∷ cs) h g = refl
  all-back (i ∷ is) (c ∷ cs) h g = let b = below_parts (length t.pairs) i is h in rw (u.undo i b.0 c g.0, all-back is cs b.1 g.1)

  pub coins-back : (is : List ℕ) → T (all_below (length t.pairs) is) → (r : ℕ) (cs : List Coin) → Coins t r cs →
      Coins t r (by_question there is cs) × (by_question back is (by_question there is cs) ≡ cs)
  coins-back is h r cs g =
      let a = all_coins t cs g.1 in
      ((length-by there is cs ∙ g.0, each_coin t (by_question there is cs) (all_fit is cs h a)), all-back is cs h a)

-- coins paired are changed so
pub pairs-undone : (t : Task) → Good t → (p q : Plan) → T (fits t p) → T (fits t q) → Undone t (pair_coin t p q) (pair_coin t q p)
pairs-undone t good p q fp fq = record { fits = λ i l. (pairs_coin t good p q fp fq i l).is_coin; undo = λ i l. (pairs_coin t good p q fp fq i l).back }

pub pairs-back : PairsBack
pairs-back t good p q fp fq = coins-back t _ _ (pairs-undone t good p q fp fq)

each-by : (f : ℕ → Coin → Coin) (is : List ℕ) (cs : List Coin) (n : ℕ) (d : Coin) → n < length is → n < length cs → get_or (by_question f is cs) n d ≡ f (get_or is n 0) (get_or cs n d)
unfolding by_question
each-by f is [] n d l m = absurd (omega arith)
each-by f [] (c ∷ cs) n d l m = absurd (omega arith)
each-by f (i ∷ is) (c ∷ cs) zero d l m = refl
each-by f (i ∷ is) (c ∷ cs) (suc n) d l m = each-by f is cs n d (omega arith) (omega arith)

rest-by : (f : ℕ → Coin → Coin) (is : List ℕ) (cs : List Coin) (n : ℕ) (d : Coin) → length is ≤ n → get_or (by_question f is cs) n d ≡ get_or cs n d
unfolding by_question
rest-by f is [] n d l = refl
rest-by f [] (c ∷ cs) n d l = refl
rest-by f (i ∷ is) (c ∷ cs) zero d l = absurd (omega arith)
rest-by f (i ∷ is) (c ∷ cs) (suc n) d l = rest-by f is cs n d (omega arith)

pub pairs-each : PairsEach
pairs-each t p q is cs = record { as_many = length-by (pair_coin t p q) is cs; each = each-by (pair_coin t p q) is cs; rest = rest-by (pair_coin t p q) is cs }

pub drop-by : (f : ℕ → Coin → Coin) (is : List ℕ) (cs : List Coin) → drop (length is) (by_question f is cs) ≡ drop (length is) cs
unfolding by_question
drop-by f is [] = refl
drop-by f [] (c ∷ cs) = refl
drop-by f (i ∷ is) (c ∷ cs) = drop-by f is cs
