-- Pairs that a plan keeps apart, one by one, and the answer of the loop that looks at them.
use Rattle.std.proofs.Common.{◌≡◌, ℕ, zero, suc, ◌+◌, ◌<◌, true, false, not, ◌&&◌, List, [], ◌∷◌, ◌++◌, map, length, get_or, take, Some, sym, ap, ◌∙◌, arith}
use Rattle.std.proofs.lemmas.Bool.Decides.{nat_tests}
use Rattle.std.proofs.lemmas.List.{get_or_default}
use Rattle.std.proofs.lemmas.Bool.{eq-eqb}
use Rattle.paths.specs.Plan.{Pair, Task, Plan, at, apart}
use Rattle.paths.specs.Show.{pair_at}
use Rattle.tasks.specs.declared.fault.Unfit.{Unfit}
use Rattle.tasks.specs.declared.pair.Pair.{Pair as CodePair}
use Rattle.tasks.specs.Pair.{pair_of}
use Rattle.tasks.specs.Task.{lowest}
use Rattle.tasks.specs.Fitting.{FirstUnfit, Lowest}
use Rattle.tasks.specs.Writing.{is_plan}
use Rattle.tasks.proofs.Mapped.{as_many, here, item, one-passed}

pub apart_push : (p : Plan) (xs : List Pair) (x : Pair) → apart p xs ≡ true → (at p x.a ≡ at p x.e → ⊥) → apart p (xs ++ x ∷ []) ≡ true
unfolding apart
apart_push p [] x h d = grind (arith, nat_tests)
apart_push p (y ∷ ys) x h d = let i = apart_push p ys x in grind (arith, nat_tests)

apart-fails : (p : Plan) (xs : List Pair) (i : ℕ) (z : Pair) → i < length xs → at p (get_or xs i z).a ≡ at p (get_or xs i z).e → apart p xs ≡ false
unfolding apart
apart-fails p [] i z h e = absurd (omega arith)
apart-fails p (x ∷ xs) zero z h e = ap (λ b. not b && apart p xs) (eq-eqb _ _ e)
apart-fails p (x ∷ xs) (suc i) z h e = let f = apart-fails p xs i z (omega arith) e in grind arith

pub first_some : (t : Task) (p : Plan) (u : Unfit) → Lowest t p u → FirstUnfit t p (Some u)
first_some t p u l =
    let e : at p (pair_at t u.pair).a ≡ at p (pair_at t u.pair).e = ap (at p) (sym l.first) ∙ (l.fails ∙ ap (at p) l.second) in
    record { none = ap (λ b. is_plan t p && b) (apart-fails p t.pairs u.pair _ l.there e); some = l }

-- the loop sees the pairs xs of the code as ys
module _ (t : Task) (p : Plan) (xs ys : List CodePair) (same : ys ≡ xs) (i : ℕ) (d : CodePair) where
  pub fit-more : i < length ys → apart p (take i (map pair_of xs)) ≡ true → (at p (get_or ys i d).first ≡ at p (get_or ys i d).second → ⊥) → apart p (take (i + 1) (map pair_of xs)) ≡ true
  fit-more h e f = ap (apart p) (one-passed xs ys same i d h) ∙ apart_push p (take i (map pair_of xs)) (here xs ys same i d h) e f

  pub fit_found : i < length ys → t.pairs ≡ map pair_of xs → apart p (take i (map pair_of xs)) ≡ true → at p (get_or ys i d).first ≡ at p (get_or ys i d).second → FirstUnfit t p (Some record { pair = i; first = (get_or ys i d).first; second = (get_or ys i d).second })
  fit_found h k e f =
      let n = as_many xs ys same in
      let w : pair_at t i ≡ here xs ys same i d h = ap (λ zs. get_or zs i lowest) k ∙ (get_or_default (map pair_of xs) i lowest (pair_of d) (omega arith) ∙ item xs ys same i d h) in
      first_some t p _ (record { there = omega (arith, ap length k); first = ap (λ (x : Pair). x.a) (sym w); second = ap (λ (x : Pair). x.e) (sym w); fails = f; before = ap (λ zs. apart p (take i zs)) k ∙ e })
