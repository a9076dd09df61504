-- The map of paths to paths by which coins are paired: its own inverse with the plans exchanged, and rising outside the two asked paths. Assumes nothing.
use Rattle.std.proofs.Common.{◌≡◌, ℕ, zero, suc, ◌<◌, Bool, true, false, cond, not, ◌&&◌, eqb, ◌≢◌, ◌⊎◌, List, [], ◌∷◌, ◌++◌, map, filter, sym, refl, ap, ◌∙◌, inl, inr, arith}
use Rattle.std.proofs.lemmas.List.Elements.{filter-append}
use Rattle.std.proofs.lemmas.List.{append-nil, map_push}
use Rattle.std.proofs.lemmas.Bool.{cases_eq}
use Rattle.std.proofs.lemmas.Bool.Decides.{nat_tests}
use Rattle.paths.specs.Plan.{at}
use Rattle.paths.specs.Cheat.{up_to}
use Rattle.paths.specs.Pairing.{rank, nth, beta}
use Rattle.paths.proofs.Rows.{at_made}

pub rank-nth : (a b n : ℕ) → a ≢ b → rank a b (nth a b n) ≡ n
rank-nth a b n h = grind (arith, nat_tests)

pub nth-rank : (a b x : ℕ) → a ≢ b → x ≢ a → x ≢ b → nth a b (rank a b x) ≡ x
nth-rank a b x h ha hb = grind (arith, nat_tests)

pub nth-other : (a b n : ℕ) → a ≢ b → (nth a b n ≢ a) × (nth a b n ≢ b)
nth-other a b n h = (λ e. grind (arith, nat_tests), λ e. grind (arith, nat_tests))

module _ (a b c d : ℕ) (ab : a ≢ b) (cd : c ≢ d) where
  pub beta-first : beta c d a b c ≡ a
  beta-first = grind (arith, nat_tests)

  pub beta-second : beta c d a b d ≡ b
  beta-second = grind (arith, nat_tests)

  pub beta-other : (x : ℕ) → x ≢ c → x ≢ d → beta c d a b x ≡ nth a b (rank c d x)
  beta-other x xc xd = grind (arith, nat_tests)

  pub beta-inside : (k : ℕ) → a < k → b < k → c < k → d < k → (x : ℕ) → x < k → beta c d a b x < k
  beta-inside k ak bk ck dk x xk = grind (arith, nat_tests)

  pub beta-rising : (x y : ℕ) → x ≢ c → x ≢ d → y ≢ c → y ≢ d → x < y → beta c d a b x < beta c d a b y
  beta-rising x y xc xd yc yd xy = grind (arith, nat_tests)

pub beta-back : (a b c d : ℕ) → a ≢ b → c ≢ d → (x : ℕ) → beta a b c d (beta c d a b x) ≡ x
beta-back a b c d ab cd x = go (cases_eq x c) (cases_eq x d)
  where
    go : (x ≡ c) ⊎ (x ≢ c) → (x ≡ d) ⊎ (x ≢ d) → beta a b c d (beta c d a b x) ≡ x
    go (inl e) _ = rw (e, beta-first a b c d ab cd) (beta-first c d a b cd ab)
    go (inr xc) (inl e) = rw (e, beta-second a b c d ab cd) (beta-second c d a b cd ab)
    go (inr xc) (inr xd) =
        let o = nth-other a b (rank c d x) ab in
        rw (beta-other a b c d ab cd x xc xd, beta-other c d a b cd ab (nth a b (rank c d x)) o.0 o.1, rank-nth a b (rank c d x) ab) (nth-rank c d x cd xc xd)

-- the paths other than a and b, in rising order: those with 0, 1, .. such paths below
abbrev is_other : ℕ → ℕ → ℕ → Bool
is_other a b x = not (eqb x a) && not (eqb x b)

rank-other : (a b k : ℕ) → a ≢ b → is_other a b k ≡ true → (rank a b (suc k) ≡ suc (rank a b k)) × (nth a b (rank a b k) ≡ k)
rank-other a b k h e = (grind (arith, nat_tests), grind (arith, nat_tests))

rank_own : (a b k : ℕ) → a ≢ b → is_other a b k ≡ false → rank a b (suc k) ≡ rank a b k
rank_own a b k h e = grind (arith, nat_tests)

others_are : (a b : ℕ) → a ≢ b → (k : ℕ) → filter (is_other a b) (up_to k) ≡ map (nth a b) (up_to (rank a b k))
unfolding up_to
others_are a b h zero = let e : rank a b 0 ≡ 0 = omega arith in rw e
others_are a b h (suc k) = filter-append (is_other a b) (up_to k) (k ∷ []) ∙ go (is_other a b k) refl (others_are a b h k)
  where
    go : (v : Bool) → is_other a b k ≡ v → filter (is_other a b) (up_to k) ≡ map (nth a b) (up_to (rank a b k)) →
        filter (is_other a b) (up_to k) ++ cond (is_other a b k) (k ∷ []) [] ≡ map (nth a b) (up_to (rank a b (suc k)))
    go true e ih = let r = rank-other a b k h e in rw (ih, e, r.0) (ap (λ x. map (nth a b) (up_to (rank a b k)) ++ x ∷ []) (sym r.1) ∙ sym (map_push (nth a b) (up_to (rank a b k)) (rank a b k)))
    go false e ih = rw (ih, e, rank_own a b k h e) (append-nil (map (nth a b) (up_to (rank a b k))))

map_both : (f g h : ℕ → ℕ) → ((x : ℕ) → g (f x) ≡ h x) → (xs : List ℕ) → map g (map f xs) ≡ map h xs
map_both f g h e [] = refl
map_both f g h e (x ∷ xs) = rw (e x, map_both f g h e xs)

pub beta-matched : (a b c d : ℕ) → a ≢ b → c ≢ d → (k : ℕ) → a < k → b < k → c < k → d < k → map (beta c d a b) (filter (is_other c d) (up_to k)) ≡ filter (is_other a b) (up_to k)
beta-matched a b c d ab cd k ak bk ck dk =
    let as_many : rank c d k ≡ rank a b k = grind (arith, nat_tests) in
    let to = λ (n : ℕ). let o = nth-other c d n cd in beta-other a b c d ab cd (nth c d n) o.0 o.1 ∙ ap (nth a b) (rank-nth c d n cd) in
    rw (others_are c d cd k, others_are a b ab k, as_many) (map_both (nth c d) (beta c d a b) (nth a b) to (up_to (rank a b k)))

-- no other map does this
pub beta-only : (a b c d : ℕ) → a ≢ b → c ≢ d → (k : ℕ) → a < k → b < k → c < k → d < k → (g : ℕ → ℕ) → g c ≡ a → g d ≡ b → map g (filter (is_other c d) (up_to k)) ≡ filter (is_other a b) (up_to k) → (x : ℕ) → x < k → g x ≡ beta c d a b x
beta-only a b c d ab cd k ak bk ck dk g gc gd h x xk = go (cases_eq x c) (cases_eq x d)
  where
    n : ℕ
    n = rank c d x

    rows : map (λ y. g (nth c d y)) (up_to (rank a b k)) ≡ map (nth a b) (up_to (rank a b k))
    rows =
        let as_many : rank c d k ≡ rank a b k = grind (arith, nat_tests) in
        sym (map_both (nth c d) g (λ y. g (nth c d y)) (λ y. refl) (up_to (rank a b k))) ∙ rw (others_are c d cd k, others_are a b ab k, as_many) at h

    go : (x ≡ c) ⊎ (x ≢ c) → (x ≡ d) ⊎ (x ≢ d) → g x ≡ beta c d a b x
    go (inl e) _ = rw e (gc ∙ sym (beta-first a b c d ab cd))
    go (inr xc) (inl e) = rw e (gd ∙ sym (beta-second a b c d ab cd))
    go (inr xc) (inr xd) =
        let l : n < rank a b k = grind (arith, nat_tests) in
        ap g (sym (nth-rank c d x cd xc xd)) ∙ sym (at_made (λ y. g (nth c d y)) (rank a b k) n l) ∙ ap (λ r. at r n) rows ∙ at_made (nth a b) (rank a b k) n l ∙ sym (beta-other a b c d ab cd x xc xd)
