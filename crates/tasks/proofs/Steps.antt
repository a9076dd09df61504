-- One turn of a loop that reads, as laws of what is left to read: one unit more, its fault, and the end.
use Rattle.std.proofs.Common.{◌≡◌, ℕ, zero, suc, ◌+◌, ◌-◌, ◌<◌, ◌≤◌, List, map, take, drop, Ok, Err, Result, Vec, vec_items, refl, ap, ◌∙◌, arith}
use Rattle.std.specs.Prelude.{IfOk}
use Rattle.std.specs.declared.alloc.Global.{Global}
use Rattle.std.specs.Simd.{first_chunks}
use Rattle.std.proofs.lemmas.List.{get_or-take}
use Rattle.paths.specs.Plan.{Pair}
use Rattle.tasks.specs.declared.pair.Pair.{Pair as CodePair}
use Rattle.tasks.specs.Pair.{pair_of}
use Rattle.tasks.specs.Reading.{Got, got, refused, ends, read_each, pair_in, pairs_from, word_at}

-- one more of m, where i are done
left : (m i : ℕ) → i < m → m - i ≡ suc (m - (i + 1))
left m i h = omega arith

module _ {A : Type 0} (one : A → List ℕ → Got A) (w : ℕ) (last : A) (m i : ℕ) (bs : List ℕ) where
  pub each_more : (x : A) → i < m → got x ≡ one last bs → read_each one w last (m - i) bs ≡ read_each one w x (m - (i + 1)) (drop w bs)
  unfolding read_each
  each_more x h e = rw (left m i h) (rw (← e) refl)

  pub each-fault : (f : ℕ) → i < m → refused f ≡ one last bs → read_each one w last (m - i) bs ≡ refused f
  unfolding read_each
  each-fault f h e = rw (left m i h) (rw (← e) refl)

  pub each-end : m ≤ i → read_each one w last (m - i) bs ≡ ends bs
  unfolding read_each
  each-end h = let z : m - i ≡ 0 = omega arith in rw z refl

-- a pair of the code, of four bytes
abbrev pub code_pair : List ℕ → CodePair
code_pair bs = record { first = word_at bs 0; second = word_at bs 2 }

made_of : (x : CodePair) (a e : ℕ) → x.first ≡ a → x.second ≡ e → x ≡ record { first = a; second = e }
made_of x a e p q = rw (← p, ← q) refl

pub as_code_pair : (x : CodePair) (bs : List ℕ) → pair_of x ≡ pair_in bs → x ≡ code_pair bs
as_code_pair x bs e = made_of x _ _ (ap (λ (y : Pair). y.a) e) (ap (λ (y : Pair). y.e) e)

-- the pairs of bytes that stand in fours
pairs_in_fours : (m : ℕ) (bs : List ℕ) → map pair_of (map code_pair (first_chunks 4 m bs)) ≡ pairs_from m bs
unfolding pairs_from
pairs_in_fours zero bs = refl
pairs_in_fours (suc m) bs =
    let e : pair_in (take 4 bs) ≡ pair_in bs = rw (get_or-take 4 bs 0 0 (omega arith), get_or-take 4 bs 1 0 (omega arith), get_or-take 4 bs 2 0 (omega arith), get_or-take 4 bs 3 0 (omega arith)) refl in
    cc (e, pairs_in_fours m (drop 4 bs))

pub pairs_collected : {E : Type 0} (m : ℕ) (bs : List ℕ) (r : Result (Vec CodePair Global) E) → IfOk r (λ v. vec_items v ≡ map code_pair (first_chunks 4 m bs)) → IfOk r (λ v. map pair_of (vec_items v) ≡ pairs_from m bs)
pairs_collected m bs (Ok v) e = ap (map pair_of) e ∙ pairs_in_fours m bs
pairs_collected m bs (Err f) e = tt
