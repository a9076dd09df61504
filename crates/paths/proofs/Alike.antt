-- Askers who always ask for a pair that is there see the same of two plans that fit: a case of askers who may stop. Assumes nothing.
use Rattle.std.proofs.Common.{◌≡◌, ℕ, ◌<◌, ltb, List, [], ◌∷◌, ◌++◌, length, refl, ap, ◌∙◌, subst}
use Rattle.std.proofs.lemmas.Bool.{ltb-true, lt-ltb, cond_both}
use Rattle.paths.specs.Plan.{Task, Plan, Good}
use Rattle.paths.specs.Show.{Coin, Asker, Shown, round, rounds, view, within}
use Rattle.paths.specs.Promise.{Alike}
use Rattle.paths.specs.Pairing.{pair_coin}
use Rattle.paths.specs.Paired.{PairsAlike}
use Rattle.paths.specs.Stop.{ask, Stopper, goes, turn}
use Rattle.paths.proofs.Seen.{Teller, telling, telling-goes, Together, PairedOff, by_asked, shown_by, seen_together, by_plan, plans-together}

-- the pair meant is there
pub within-there : (t : Task) → Good t → (i : ℕ) → within t i < length t.pairs
within-there t good i = cond_both (ltb i (length t.pairs)) i 0 (λ x. x < length t.pairs) (ltb-true i (length t.pairs)) (λ _. good.1)

-- the same asker, as one that could stop
abbrev pub steady : Task → Asker → Stopper
steady t f ss = ask (within t (f ss))

-- what such an asker is shown, one coin more
pub steady_goes : (t : Task) → Good t → (g : Teller) (f : Asker) (c : Coin) (cs : List Coin) (ss : List Shown) →
    telling t g (steady t f) (c ∷ cs) ss ≡ telling t g (steady t f) cs (ss ++ (g (within t (f ss)) c ∷ []))
steady_goes t good g f c cs ss =
    let i = within t (f ss) in
    let e : turn t (ask i) ≡ goes i = rw (lt-ltb i (length t.pairs) (within-there t good (f ss))) in
    telling-goes t g (steady t f) c cs ss i e

as_told : (t : Task) → Good t → (p : Plan) (f : Asker) (cs : List Coin) (ss : List Shown) → (telling t (by_plan t p) (steady t f) cs ss).shown ≡ rounds t p f cs ss
unfolding rounds telling
as_told t good p f [] ss = refl
as_told t good p f (c ∷ cs) ss =
    ap (λ s. s.shown) (steady_goes t good (by_plan t p) f c cs ss) ∙ as_told t good p f cs (ss ++ (round t p c (within t (f ss)) ∷ []))

pub view_told : (t : Task) → Good t → (p : Plan) (f : Asker) → shown_by t (steady t f) (by_plan t p) ≡ view t p f
view_told t good p f = λ j cs. as_told t good p f cs [] j

-- the same is shown in two ways, with coins paired off by what is asked for
abbrev pub Views : Task → ℕ → (ℕ → Coin → Coin) → (ℕ → Coin → Coin) → (List Coin → List Shown) → (List Coin → List Shown) → Type 0
Views t r there back see see' = PairedOff t r see see' (by_asked there see) (by_asked back see')

pub views_together : (t : Task) (g h : Teller) (there back : ℕ → Coin → Coin) → Together t g h there back → (f : Stopper) (r : ℕ) → (see see' : List Coin → List Shown) →
    shown_by t f g ≡ see → shown_by t f h ≡ see' → Views t r there back see see'
views_together t g h there back k f r see see' e e' =
    let s = seen_together t g h there back k f r in
    subst (λ v. Views t r there back v see') e (subst (Views t r there back (shown_by t f g)) e' record {
      there_fits = s.there_fits;
      back_fits = s.back_fits;
      back_there = s.back_there;
      there_back = s.there_back;
      same = λ cs. ap (λ x. x.shown) (s.same cs);
    })

pub pairs-alike : PairsAlike
pairs-alike t good p q fp fq f r =
    let s = views_together t _ _ _ _ (plans-together t good p q fp fq) (steady t f) r _ _ (view_told t good p f) (view_told t good q f) in
    let alike : Alike t p q f r = record {
      there = by_asked (pair_coin t p q) (view t p f);
      back = by_asked (pair_coin t q p) (view t q f);
      there_fits = s.there_fits;
      back_fits = s.back_fits;
      back_there = s.back_there;
      there_back = s.there_back;
      same = λ cs h. s.same cs;
    } in
    record { alike = alike; there_is = λ cs. refl; back_is = λ cs. refl }
