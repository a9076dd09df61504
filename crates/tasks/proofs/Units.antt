-- What a reader's answer tells of its units, and that a reader refuses what is cut.
use Rattle.std.proofs.Common.{◌≡◌, ℕ, zero, suc, ◌<◌, ◌≤◌, Bool, true, false, cond, eqb, leb, List, ◌++◌, length, drop, sym, refl, ap, ◌∙◌, inl, inr, arith, length-append}
use Rattle.std.proofs.lemmas.List.{drop-append-le}
use Rattle.std.proofs.lemmas.Bool.{leb-true, eqb-true, le-leb, lt-leb, cases_lt}
use Rattle.tasks.specs.Reading.{Got, Looked, got, refused, and_then, unit, ends, read_each}

no_got : {A : Type 0} {P : Type 0} (f : ℕ) (x : A) → refused f ≡ got x → P
no_got f x e = let z : ◌≡◌ {A = ℕ} 0 1 = cc in absurd (omega arith)

-- a unit that was read is there and good, and what comes after it was read
unit-parts : {A : Type 0} (there good : Bool) (f : ℕ) (next : Got A) (x : A) → cond there (cond good next (refused f)) (refused 1) ≡ got x → (there ≡ true) × (good ≡ true) × (next ≡ got x)
unit-parts true true f next x e = (refl, refl, e)
unit-parts true false f next x e = no_got f x e
unit-parts false good f next x e = no_got 1 x e

pub unit_got : {A : Type 0} (bs : List ℕ) (end : ℕ) (good : Bool) (f : ℕ) (next : Got A) (x : A) → unit bs end good f next ≡ got x → (end ≤ length bs) × (good ≡ true) × (next ≡ got x)
unit_got bs end good f next x e = let p = unit-parts (leb end (length bs)) good f next x e in (leb-true _ _ p.0, p.1, p.2)

pub cond-got : {A : Type 0} (good : Bool) (f : ℕ) (next : Got A) (x : A) → cond good next (refused f) ≡ got x → (good ≡ true) × (next ≡ got x)
cond-got true f next x e = (refl, e)
cond-got false f next x e = no_got f x e

pub then_got : {A B : Type 0} (g : Got A) (next : A → Got B) (y : B) → and_then g next ≡ got y → (x : A) × (g ≡ got x) × (next x ≡ got y)
then_got (got x) next y e = (x, refl, e)
then_got (refused f) next y e = no_got f y e

pub ends-got : (bs : List ℕ) (x : Looked) → ends bs ≡ got x → length bs ≡ 0
ends-got bs x e = eqb-true _ _ (cond-got (eqb (length bs) 0) 1 (got tt) x e).0

-- a unit that is there and good is passed
pub unit_good : {A : Type 0} (bs : List ℕ) (end : ℕ) (good : Bool) (f : ℕ) (next : Got A) → end ≤ length bs → good ≡ true → unit bs end good f next ≡ next
unit_good bs end good f next h g = rw (le-leb end (length bs) h, g) refl

pub unit-cut : {A : Type 0} (bs : List ℕ) (end : ℕ) (good : Bool) (f : ℕ) (next : Got A) → length bs < end → unit bs end good f next ≡ refused 1
unit-cut bs end good f next h = rw (lt-leb end (length bs) h) refl

-- a reader of units of w bytes that sees nothing but its unit
pub record Local {A : Type 0} (w : ℕ) (one : A → List ℕ → Got A) : Type 0 where
  pub sees : (last : A) (bs ys : List ℕ) → w ≤ length bs → one last (bs ++ ys) ≡ one last bs
  pub needs : (last : A) (bs : List ℕ) → length bs < w → one last bs ≡ refused 1

module _ {A : Type 0} (w : ℕ) (one : A → List ℕ → Got A) (l : Local w one) (ys : List ℕ) (x : Looked) (h : 0 < length ys) where
  pub each-cut : (last : A) (m : ℕ) (bs : List ℕ) → read_each one w last m (bs ++ ys) ≡ got x → read_each one w last m bs ≡ refused 1
  unfolding read_each
  each-cut last zero bs e = absurd (omega (arith, simp length-append at (ends-got (bs ++ ys) x e)))
  each-cut last (suc m) bs e =
      elim (cases_lt (length bs) w) [
        | inl s ↦ rw (l.needs last bs s) refl
        | inr s ↦
            let p = then_got (one last (bs ++ ys)) (λ y. read_each one w y m (drop w (bs ++ ys))) x e in
            let g : one last bs ≡ got p.0 = sym (l.sees last bs ys s) ∙ p.1 in
            let d : read_each one w p.0 m (drop w bs ++ ys) ≡ got x =
            ap (read_each one w p.0 m) (sym (drop-append-le w bs ys s)) ∙ p.2
            in
            rw g (each-cut p.0 m (drop w bs) d)
      ]

pub unit_prefix : {A : Type 0} (bs : List ℕ) (end : ℕ) (good : Bool) (f : ℕ) (next : Got A) → (end ≤ length bs → (good ≡ true) × (next ≡ refused 1)) → unit bs end good f next ≡ refused 1
unit_prefix bs end good f next p =
    elim (cases_lt (length bs) end) [ inl s ↦ unit-cut bs end good f next s | inr s ↦ unit_good bs end good f next s (p s).0 ∙ (p s).1 ]
