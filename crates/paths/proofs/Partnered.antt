-- The order in which each path has its partner's number: it is an order of as many paths. Assumes nothing.
use Rattle.std.proofs.Common.{◌≡◌, ℕ, ◌+◌, ◌<◌, ◌≤◌, Bool, true, false, ◌&&◌, T, ltb, ◌≢◌, List, [], ◌∷◌, ◌++◌, map, length, take, set, Some, sym, refl, ap, ◌∙◌, add-one, arith}
use Rattle.std.proofs.lemmas.List.{map_push, take_more_set, take_all}
use Rattle.std.proofs.lemmas.Bool.{and_parts, and_from, ltb-true, not-true, eqb-false}
use Rattle.paths.specs.Plan.{Task, all_below, different}
use Rattle.paths.specs.Cheat.{up_to}
use Rattle.paths.specs.Promise.{IsCoin}
use Rattle.paths.specs.Order.{none_twice}
use Rattle.std.specs.Bool.{then_some}
use Rattle.paths.specs.Partners.{are_two, paired_by, paired}
use Rattle.paths.specs.declared.partners.TwoPaths.{TwoPaths}
use Rattle.paths.specs.declared.partners.Partners.{Partners}
use Rattle.paths.proofs.Paired.{coin_fits}

true_is : (b : Bool) → T b → b ≡ true
true_is true h = refl
true_is false h = absurd h

-- a row that is made from the front: one number more, and all
module _ (f : ℕ → ℕ) (ys : List ℕ) (i : ℕ) (e : take i ys ≡ map f (up_to i)) where
  pub made_more : (v : ℕ) → i < length ys → v ≡ f i → take (i + 1) (set ys i v) ≡ map f (up_to (i + 1))
  unfolding up_to
  made_more v h g = take_more_set ys i v h ∙ (ap (λ zs. zs ++ v ∷ []) e ∙ rw (add-one i, map_push f (up_to i) i, g) refl)

  pub made_all : length ys ≤ i → (n : ℕ) → length ys ≡ n → i ≤ n → ys ≡ map f (up_to n)
  made_all h n l g = let z : i ≡ n = omega (arith, h, l, g) in sym (take_all i ys h) ∙ (e ∙ ap (λ k. map f (up_to k)) z)

-- two different paths that are there
record Two (k : ℕ) (t : TwoPaths) : Type 0 where
  first : t.first < k
  second : t.second < k
  differ : t.first ≢ t.second

two-says : (k : ℕ) (t : TwoPaths) → are_two k t ≡ true → Two k t
two-says k t e =
    let p = and_parts (ltb t.first k && ltb t.second k) _ e in
    let q = and_parts (ltb t.first k) (ltb t.second k) p.0 in
    record { first = ltb-true _ _ q.0; second = ltb-true _ _ q.1; differ = eqb-false _ _ (not-true _ p.1) }

-- a task of two trains that may not share a path, which has the two paths as a plan
abbrev duo : ℕ → Task
duo k = record { trains = 2; paths = k; pairs = record { a = 0; e = 1 } ∷ [] }

module _ (p : Partners) (xs : List ℕ) (from : are_two (length xs) p.from ≡ true) (to : are_two (length xs) p.to ≡ true) where
  row_paired : none_twice (length xs) xs ≡ true → none_twice (length xs) (paired_by p xs) ≡ true
  unfolding all_below
  row_paired r =
      let f = two-says (length xs) p.from from in
      let t = two-says (length xs) p.to to in
      let s = and_parts (different xs) (all_below (length xs) xs) r in
      let coin : IsCoin (duo (length xs)) (record { order = xs; chances = 0 ∷ 0 ∷ [] }) = (refl, rw s.0 tt, rw s.1 tt, refl, tt) in
      let c = coin_fits (duo (length xs)) 0 (p.to.first ∷ p.to.second ∷ []) (p.from.first ∷ p.from.second ∷ []) (t.differ, t.first, t.second) (f.differ, f.first, f.second) (record { order = xs; chances = 0 ∷ 0 ∷ [] }) coin in
      and_from _ _ (true_is _ c.1) (true_is _ c.2)

-- of an order ys of k paths, which the code has as xs, and the numbers rs that it made
module _ (p : Partners) (k : ℕ) (xs ys rs : List ℕ) (same : xs ≡ ys) (long : length xs ≡ k) (from : are_two k p.from ≡ true) (to : are_two k p.to ≡ true) (made : take (length xs) rs ≡ paired_by p xs) where
  pub still_row : none_twice k ys ≡ true → none_twice k (take k rs) ≡ true
  still_row r =
      let f = ap (λ j. are_two j p.from) long ∙ from in
      let t = ap (λ j. are_two j p.to) long ∙ to in
      let q = row_paired p xs f t (ap (λ j. none_twice j xs) long ∙ (ap (none_twice k) same ∙ r)) in
      ap (λ j. none_twice k (take j rs)) (sym long) ∙ (ap (none_twice k) made ∙ (ap (λ j. none_twice j (paired_by p xs)) (sym long) ∙ q))

  pub is_paired : Some (take k rs) ≡ paired p ys
  is_paired =
      let n : length ys ≡ k = ap length (sym same) ∙ long in
      let m : take k rs ≡ paired_by p ys = ap (λ j. take j rs) (sym long) ∙ (made ∙ ap (paired_by p) same) in
      ap Some m ∙ sym (ap (λ b. then_some b (paired_by p ys)) (and_from _ _ (ap (λ j. are_two j p.from) n ∙ from) (ap (λ j. are_two j p.to) n ∙ to)))
