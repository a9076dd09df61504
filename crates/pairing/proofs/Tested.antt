-- What a test of a plan tells, and the answer where one of two plans is refused.
use Rattle.std.proofs.Common.{◌≡◌, ℕ, Bool, true, false, cond, ◌&&◌, eqb, length, Err, sym, refl, ap, subst, arith}
use Rattle.paths.specs.Plan.{Task, Plan, all_below, apart, fits}
use Rattle.tasks.specs.declared.fault.Fault.{Fault}
use Rattle.tasks.specs.declared.fault.Fault.TheVariants as faults
use Rattle.tasks.specs.Fault.{number}
use Rattle.tasks.specs.Fitting.{Lowest}
use Rattle.tasks.specs.Reading.{Got, Looked, got, refused}
use Rattle.fitting.specs.Testing.{tested, TellsPair}
use Rattle.pairing.specs.Plans.{tested_both, told}

no_got : {P : Type 0} (f : ℕ) (x : Looked) → got x ≡ refused f → P
no_got f x e = let z : ◌≡◌ {A = ℕ} 0 1 = cc in absurd (omega arith)

abbrev three : Bool → Bool → Bool → Got Looked
three a b c = cond a (cond b (cond c (got tt) (refused 5)) (refused 2)) (refused 1)

all_three : (a b c : Bool) (x : Looked) → got x ≡ three a b c → (a && b && c) ≡ true
all_three true true true x e = refl
all_three true true false x e = no_got 5 x e
all_three true false c x e = no_got 2 x e
all_three false b c x e = no_got 1 x e

not_three : (a b c : Bool) (f : ℕ) → refused f ≡ three a b c → (a && b && c) ≡ false
not_three true true true f e = no_got f tt (sym e)
not_three true true false f e = refl
not_three true false c f e = refl
not_three false b c f e = refl

module _ (t : Task) (p : Plan) where
  pub tested-fits : (x : Looked) → got x ≡ tested t p → fits t p ≡ true
  tested-fits = all_three (eqb (length p) t.trains) (all_below t.paths p) (apart p t.pairs)

  tested-fails : (f : ℕ) → refused f ≡ tested t p → fits t p ≡ false
  tested-fails = not_three (eqb (length p) t.trains) (all_below t.paths p) (apart p t.pairs)

-- the same pair is told by the same fault
tells-on : {X Y : Type 0} (t : Task) (p q : Plan) (f : Fault) → p ≡ q → TellsPair {X = X} t p (Err f) → TellsPair {X = Y} t q (Err f)
tells-on {X} {Y} t p q f same h u e =
    let g : f ≡ faults.Unfit u = cc in
    subst (λ (r : Plan). Lowest t r u) same (h u (ap (λ x. Err x) g))

module _ (t : Task) (p q : Plan) (f : Fault) where
  pub first-refused : {X : Type 0} → refused (number f) ≡ tested t p → TellsPair {X = Looked} t p (Err f) → (refused (number f) ≡ tested_both t p q) × TellsPair {X = X} t (told t p q) (Err f)
  first-refused {X} e h = (rw (← e) refl, tells-on t p (told t p q) f (sym (ap (λ b. cond b q p) (tested-fails t p (number f) e))) h)

  pub second-refused : {X : Type 0} (x : Looked) → got x ≡ tested t p → refused (number f) ≡ tested t q → TellsPair {X = Looked} t q (Err f) → (refused (number f) ≡ tested_both t p q) × TellsPair {X = X} t (told t p q) (Err f)
  second-refused {X} x d e h = (rw (← d, ← e) refl, tells-on t q (told t p q) f (sym (ap (λ b. cond b q p) (tested-fits t p x d))) h)
