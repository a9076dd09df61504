-- Rows in which no number stands twice, looked at from the end, with a table of the numbers that were met. Assumes nothing.
use Rattle.std.proofs.Common.{◌≡◌, ℕ, zero, suc, ◌+◌, ◌-◌, ◌<◌, ◌≤◌, Bool, true, false, not, ◌||◌, ltb, List, [], ◌∷◌, length, get_or, drop, set, replicate, reverse, sym, ap, ◌∙◌, inl, inr, arith}
use Rattle.std.proofs.lemmas.List.{get_or-set_same, get_or-set_other, get_or-replicate, length-replicate, length-set, length-reverse, get_or-reverse, drop_all, drop_more}
use Rattle.std.proofs.lemmas.Bool.{cases_eq, eq-eqb, ne_eqb, and_parts, and_from, and_left, and_right, lt-ltb, le-ltb, not_from_false, cases_Bool, both_ways}
use Rattle.paths.specs.Plan.{all_below, is_in, different}
use Rattle.paths.specs.Order.{none_twice}

-- the table tells of each number below 64 whether it is in the list
abbrev pub Met : List Bool → List ℕ → Type 0
Met met xs = (v : ℕ) → v < 64 → get_or met v false ≡ is_in v xs

met-more : (met : List Bool) (x : ℕ) (xs : List ℕ) → x < length met → Met met xs → Met (set met x true) (x ∷ xs)
unfolding is_in
met-more met x xs l m v h =
    elim (cases_eq v x) [
      | inl e ↦ ap (λ w. get_or (set met x true) w false) e ∙ (get_or-set_same met x true false l ∙ ap (λ b. b || is_in v xs) (sym (eq-eqb v x e)))
      | inr d ↦ get_or-set_other met x v true false d ∙ (m v h ∙ ap (λ b. b || is_in v xs) (sym (ne_eqb v x d)))
    ]

-- one number before a row
module _ (n x : ℕ) (xs : List ℕ) where
  row_more : none_twice n xs ≡ true → x < n → is_in x xs ≡ false → none_twice n (x ∷ xs) ≡ true
  unfolding different all_below
  row_more r l m =
      let p = and_parts (different xs) (all_below n xs) r in
      and_from _ _ (and_from _ _ (not_from_false (is_in x xs) m) p.0) (and_from _ _ (lt-ltb x n l) p.1)

  row_past : n ≤ x → none_twice n (x ∷ xs) ≡ false
  unfolding different all_below
  row_past l = and_right _ _ (and_left _ _ (le-ltb x n l))

  row_twice : is_in x xs ≡ true → none_twice n (x ∷ xs) ≡ false
  unfolding different all_below
  row_twice m = and_left _ _ (and_left _ _ (ap not m))

  row_rest : none_twice n (x ∷ xs) ≡ true → none_twice n xs ≡ true
  unfolding different all_below
  row_rest r =
      let p = and_parts (different (x ∷ xs)) (all_below n (x ∷ xs)) r in
      and_from _ _ (and_parts (not (is_in x xs)) (different xs) p.0).1 (and_parts (ltb x n) (all_below n xs) p.1).1

-- what is no row from some place on is no row
rows_drop : (n i : ℕ) (xs : List ℕ) → none_twice n xs ≡ true → none_twice n (drop i xs) ≡ true
rows_drop n zero xs r = r
rows_drop n (suc i) [] r = r
rows_drop n (suc i) (x ∷ xs) r = rows_drop n i xs (row_rest n x xs r)

row_fails : (n i : ℕ) (xs : List ℕ) → none_twice n (drop i xs) ≡ false → none_twice n xs ≡ false
row_fails n i xs f =
    elim (cases_Bool (none_twice n xs)) [
      | inl r ↦ absurd (both_ways (none_twice n (drop i xs)) f (rows_drop n i xs r))
      | inr r ↦ r
    ]

-- the loop goes from the end: i numbers are left
pub record Passed (met : List Bool) (n i : ℕ) (xs : List ℕ) : Type 0 where
  pub size : length met ≡ 64
  pub tells : Met met (drop i xs)
  pub row : none_twice n (drop i xs) ≡ true

pub passed_none : (met : List Bool) (xs : List ℕ) → met ≡ replicate 64 false → Passed met (length xs) (length xs - 0) xs
unfolding is_in different all_below
passed_none met xs e =
    let d = drop_all (length xs - 0) xs (omega arith) in
    record {
      size = ap length e ∙ length-replicate 64 false;
      tells = λ v l. ap (λ m. get_or m v false) e ∙ (get_or-replicate 64 v false false l ∙ ap (is_in v) (sym d));
      row = ap (none_twice (length xs)) d;
    }

-- x is the number that stands before the last n
module _ (met : List Bool) (n x : ℕ) (xs : List ℕ) (few : length xs ≤ 64) (turn : (n < length (reverse xs)) × (x ≡ get_or (reverse xs) n x)) (p : Passed met (length xs) (length xs - n) xs) where
  from_here : drop (length xs - (n + 1)) xs ≡ x ∷ drop (length xs - n) xs
  from_here =
      let some : n < length xs = omega (arith, length-reverse xs, turn.0) in
      let e : length xs - 1 - n ≡ length xs - (n + 1) = omega arith in
      let f : length xs - (n + 1) + 1 ≡ length xs - n = omega arith in
      let here : get_or xs (length xs - (n + 1)) x ≡ x = sym (turn.1 ∙ (get_or-reverse xs n x some ∙ ap (λ i. get_or xs i x) e)) in
      drop_more xs (length xs - (n + 1)) x (omega arith) ∙ (ap (λ j. get_or xs (length xs - (n + 1)) x ∷ drop j xs) f ∙ ap (λ y. y ∷ drop (length xs - n) xs) here)

  pub passed-more : x < length xs → get_or met x false ≡ false → Passed (set met x true) (length xs) (length xs - (n + 1)) xs
  passed-more l m =
      record {
        size = length-set met x true ∙ p.size;
        tells = rw from_here (met-more met x (drop (length xs - n) xs) (omega (arith, p.size)) p.tells);
        row = rw from_here (row_more (length xs) x (drop (length xs - n) xs) p.row l (sym (p.tells x (omega arith)) ∙ m));
      }

  pub passed_high : length xs ≤ x → none_twice (length xs) xs ≡ false
  passed_high l = row_fails (length xs) (length xs - (n + 1)) xs (ap (none_twice (length xs)) from_here ∙ row_past (length xs) x (drop (length xs - n) xs) l)

  pub passed-twice : x < length xs → get_or met x false ≡ true → none_twice (length xs) xs ≡ false
  passed-twice l m =
      row_fails (length xs) (length xs - (n + 1)) xs (ap (none_twice (length xs)) from_here ∙ row_twice (length xs) x (drop (length xs - n) xs) (sym (p.tells x (omega arith)) ∙ m))

pub passed-all : (met : List Bool) (n : ℕ) (xs : List ℕ) → n ≡ length (reverse xs) → Passed met (length xs) (length xs - n) xs → none_twice (length xs) xs ≡ true
passed-all met n xs h p = let z : length xs - n ≡ 0 = omega (arith, length-reverse xs) in rw z at p.row
