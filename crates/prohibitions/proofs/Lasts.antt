-- Different prohibitions are as many counted where each stands last as where it stands first. Assumes nothing.
use Rattle.std.proofs.Common.{◌≡◌, ℕ, zero, suc, ◌+◌, ◌-◌, ◌<◌, ◌≤◌, cond, nat_le, ◌&&◌, ◌||◌, List, [], ◌∷◌, ◌++◌, length, Bool, true, false, get_or, drop, sym, refl, ap, ◌∙◌, arith}
use Rattle.std.proofs.lemmas.Bool.Decides.{nat_tests}
use Rattle.std.specs.Prelude.{◌==◌}
use Rattle.std.proofs.lemmas.List.{drop_more, drop_all}
use Rattle.std.proofs.lemmas.List.Folds.{list_any-append}
use Rattle.std.proofs.lemmas.Bool.{and_parts, eqb-true}
use Rattle.prohibitions.specs.declared.prohibiting.Prohibition.{Prohibition}
use Rattle.prohibitions.specs.Putting.{is_among, different_after}

-- how many different ones these are, apart from those that were seen, each counted where it stands last
unfoldable pub lasts : List Prohibition → List Prohibition → ℕ
lasts seen [] = 0
lasts seen (b ∷ bs) = cond (is_among b bs || is_among b seen) 0 1 + lasts seen bs

abbrev same : Prohibition → Prohibition → Bool
same b c = b.train == c.train && b.path == c.path

same-among : (b c : Prohibition) (xs : List Prohibition) → same b c ≡ true → is_among c xs ≡ is_among b xs
same-among b c xs e =
    let p = and_parts (b.train == c.train) (b.path == c.path) e in
    let t : b.train ≡ c.train = eqb-true _ _ p.0 in
    let u : b.path ≡ c.path = eqb-true _ _ p.1 in
    rw (t, u) refl

same-turned : (b c : Prohibition) → same b c ≡ same c b
same-turned b c = grind arith

one_fewer : (s p q l m : Bool) (x y : ℕ) → (s ≡ true → (p ≡ l) × (q ≡ m)) → x ≡ y + cond m 0 (cond l 1 0) →
    cond (p || q) 0 1 + x ≡ cond (p || (q || s)) 0 1 + y + cond m 0 (cond (s || l) 1 0)
one_fewer s p q l m x y h e = grind arith

-- one that was not seen and comes still is one fewer once it was seen
seen_too : (b : Prohibition) (seen bs : List Prohibition) → lasts seen bs ≡ lasts (seen ++ b ∷ []) bs + cond (is_among b seen) 0 (cond (is_among b bs) 1 0)
unfolding lasts
seen_too b seen [] = grind arith
seen_too b seen (c ∷ cs) =
    let a = list_any-append (λ (d : Prohibition). d.train == c.train && d.path == c.path) seen (b ∷ []) in
    let h = one_fewer (same b c) (is_among c cs) (is_among c seen) (is_among b cs) (is_among b seen) (lasts seen cs) (lasts (seen ++ b ∷ []) cs) (λ e. (same-among b c cs e, same-among b c seen e)) (seen_too b seen cs) in
    let t = same-turned b c in
    grind arith

not_le : (a b : ℕ) → b < a → nat_le a b ≡ false
not_le a b h = grind (arith, nat_tests)

is_le : (a b : ℕ) → a ≤ b → nat_le a b ≡ true
is_le a b h = grind (arith, nat_tests)

pub as_many : (seen bs : List Prohibition) → lasts seen bs ≡ different_after seen bs
unfolding lasts different_after
as_many seen [] = refl
as_many seen (b ∷ bs) = let h = as_many (seen ++ b ∷ []) bs in let e = seen_too b seen bs in grind arith

-- from the back, one prohibition more: it is counted unless it comes again later
module _ (bs later : List Prohibition) (k : ℕ) (d : Prohibition) (again : Bool) (n : ℕ) (p : 0 < k) (h : k ≤ length bs) (l : later ≡ drop (k - 1 + 1) bs) (s : again ≡ is_among (get_or bs (k - 1) d) later) (v : n ≡ lasts [] (drop k bs)) where
  one_more : lasts [] (drop (k - 1) bs) ≡ cond again 0 1 + n
  unfolding lasts
  one_more =
      let e : k - 1 + 1 ≡ k = omega arith in
      let m : lasts [] (drop (k - 1) bs) ≡ cond (is_among (get_or bs (k - 1) d) (drop (k - 1 + 1) bs) || false) 0 1 + lasts [] (drop (k - 1 + 1) bs) = rw (drop_more bs (k - 1) d (omega arith)) refl in
      let g : again ≡ is_among (get_or bs (k - 1) d) (drop (k - 1 + 1) bs) = s ∙ ap (is_among (get_or bs (k - 1) d)) l in
      let w : lasts [] (drop (k - 1 + 1) bs) ≡ n = ap (λ j. lasts [] (drop j bs)) e ∙ sym v in
      grind arith

  pub last_new : again ≡ false → n + 1 ≡ lasts [] (drop (k - 1) bs)
  last_new f = let m = one_more in grind arith

  pub last_again : again ≡ true → n ≡ lasts [] (drop (k - 1) bs)
  last_again f = let m = one_more in grind arith

fewer_left : (bs : List Prohibition) (k : ℕ) → lasts [] (drop k bs) ≤ lasts [] bs
unfolding lasts
fewer_left [] k = let e = drop_all {X = Prohibition} k [] (omega arith) in rw e (omega arith)
fewer_left (b ∷ bs) zero = omega arith
fewer_left (b ∷ bs) (suc k) = let h = fewer_left bs k in omega arith

pub too_many : (bs : List Prohibition) (k n most : ℕ) → n + 1 ≡ lasts [] (drop k bs) → n ≡ most → false ≡ nat_le (different_after [] bs) most
too_many bs k n most e f =
    let h = fewer_left bs k in
    let a = as_many [] bs in
    let m : most < different_after [] bs = omega arith in
    sym (not_le _ _ m)

pub few_enough : (bs : List Prohibition) (k n most : ℕ) → k ≤ 0 → n ≡ lasts [] (drop k bs) → n ≤ most → true ≡ nat_le (different_after [] bs) most
few_enough bs k n most z e l =
    let y : k ≡ 0 = omega arith in
    let a = as_many [] bs in
    let w : n ≡ lasts [] bs = e ∙ ap (λ j. lasts [] (drop j bs)) y in
    sym (is_le _ _ (omega (arith, a, w, l)))
