-- What corresponds one to one with rows of numbers in range comes from equally many rows of values. Assumes nothing.
use Rattle.std.proofs.Common.{◌≡◌, ℕ, zero, suc, ◌*◌, ◌^◌, ◌<◌, ◌≤◌, Bool, true, false, ◌&&◌, T, eqb, ltb, leb, List, [], ◌∷◌, replicate, sym, refl, ap, ◌∙◌, subst, mul_left_comm, arith, le→leb, eqb→eq, lt→ltb}
use lib.Dec.{eqb_refl}
use Rattle.paths.specs.Plan.{all_below}
use Rattle.paths.specs.Cheat.{count, asks}
use Rattle.drawing.specs.Drawing.{Drawn, drew, short, draw, serve, in_range, order_moduli, order_of, row_of, question_moduli}
use Rattle.paths.specs.Count.{same_row}
use Rattle.drawing.specs.Uniform.{such, how_many, ways, OneToOne, Even, EvenOrders, Questions, EvenQuestions, QuestionShares, IsOrder}
use Rattle.drawing.proofs.Tests.{first, second, both}
use Rattle.drawing.proofs.Counts.{count_same, count-all, ways_are, shares, questions-all}
use Rattle.drawing.proofs.Aiming.{Within, draw-within}
use Rattle.drawing.proofs.Orders.{orders}

pub alike-told : (xs ys : List ℕ) → T (same_row xs ys) → xs ≡ ys
alike-told [] [] h = refl
alike-told [] (y ∷ ys) h = absurd h
alike-told (x ∷ xs) [] h = absurd h
alike-told (x ∷ xs) (y ∷ ys) h = let e = eqb→eq x y (first (eqb x y) (same_row xs ys) h) in let f = alike-told xs ys (second (eqb x y) (same_row xs ys) h) in cc

pub alike-itself : (xs : List ℕ) → T (same_row xs xs)
alike-itself [] = tt
alike-itself (x ∷ xs) = both (eqb x x) (same_row xs xs) (eqb_refl x) (alike-itself xs)

-- two tests of one fact
one-test : (x y : Bool) → (T x → T y) → (T y → T x) → x ≡ y
one-test true true f g = refl
one-test true false f g = absurd (f tt)
one-test false true f g = absurd (g tt)
one-test false false f g = refl

module _ {A : Type 0} (n : ℕ) (ss : List ℕ) (Is : A → Type 0) (there : List ℕ → A) (back : A → List ℕ) (same : A → A → Bool)
    (one : OneToOne ss Is there back) (told : (a b : A) → T (same a b) → a ≡ b) (itself : (a : A) → T (same a a)) (good : T (serve n ss)) where
  same_test : (a : A) → Is a → (r : Drawn) → Within ss r → such (λ ds. same (there ds) a) r ≡ such (same_row (back a)) r
  same_test a h (drew ds left) w =
      one-test (same (there ds) a) (same_row (back a) ds)
      (λ t. subst (λ es. T (same_row (back a) es)) (ap back (sym (told (there ds) a t)) ∙ one.back_there ds w) (alike-itself (back a)))
      (λ t. subst (λ b. T (same b a)) (sym (one.there_back a h) ∙ ap there (alike-told (back a) ds t)) (itself a))
  same_test a h short w = refl

  exact : (many : ℕ) (a : A) → Is a → how_many n ss (λ ds. same (there ds) a) many ≡ ways n ss many
  exact many a h =
      count_same (λ vs. such (λ ds. same (there ds) a) (draw n ss vs)) (λ vs. such (same_row (back a)) (draw n ss vs)) (λ vs. same_test a h (draw n ss vs) (draw-within n ss good vs)) (asks n many)
      ∙ ways_are n ss good many (back a) (one.back_in a h)

  pub even : Even n ss Is there same
  even = record { equally = λ many a b h k. exact many a h ∙ sym (exact many b k); exactly = exact; told = told; itself = itself }

-- the moduli serve
pub serve-order : (n k : ℕ) → k ≤ n → T (serve n (order_moduli k))
unfolding serve order_moduli
serve-order n zero l = tt
serve-order n (suc zero) l = tt
serve-order n (suc (suc i)) l =
    both (ltb 0 (suc (suc i)) && leb (suc (suc i)) n) (serve n (order_moduli (suc i)))
    (both (ltb 0 (suc (suc i))) (leb (suc (suc i)) n) (lt→ltb 0 (suc (suc i)) (omega arith)) (le→leb (suc (suc i)) n l)) (serve-order n (suc i) (omega arith))

pub serve_replicate : (n m r : ℕ) → 0 < m → m ≤ n → T (serve n (replicate r m))
unfolding serve
serve_replicate n m zero p l = tt
serve_replicate n m (suc r) p l = both (ltb 0 m && leb m n) (serve n (replicate r m)) (both (ltb 0 m) (leb m n) (lt→ltb 0 m p) (le→leb m n l)) (serve_replicate n m r p l)

pub even_orders : EvenOrders
even_orders k l = even (2 ^ 32) (order_moduli k) (IsOrder k) (order_of k) (row_of k) same_row (orders k) alike-told alike-itself (serve-order (2 ^ 32) k l)

-- questions in range
questions_are : (m r : ℕ) (ds : List ℕ) → T (in_range (replicate r m) ds) → Questions m r ds
unfolding in_range all_below
questions_are m zero [] h = (refl, tt)
questions_are m zero (d ∷ ds) h = absurd h
questions_are m (suc r) [] h = absurd h
questions_are m (suc r) (d ∷ ds) h =
    let q = questions_are m r ds (second (ltb d m) (in_range (replicate r m) ds) h) in
    (ap suc q.0, both (ltb d m) (all_below m ds) (first (ltb d m) (in_range (replicate r m) ds) h) q.1)

questions_in_lem : (m r : ℕ) (ds : List ℕ) → Questions m r ds → T (in_range (replicate r m) ds)
unfolding in_range all_below
questions_in_lem m zero [] h = tt
questions_in_lem m zero (d ∷ ds) h = absurd (omega (arith, h.0))
questions_in_lem m (suc r) [] h = absurd (omega (arith, h.0))
questions_in_lem m (suc r) (d ∷ ds) h =
    both (ltb d m) (in_range (replicate r m) ds) (first (ltb d m) (all_below m ds) h.1) (questions_in_lem m r ds (omega (arith, h.0), second (ltb d m) (all_below m ds) h.1))

pub even_questions : EvenQuestions
even_questions m r p l =
    even (2 ^ 32) (question_moduli m r) (Questions m r) (λ is. is) (λ is. is) same_row
    (record { there_is = questions_are m r; back_in = questions_in_lem m r; there_back = λ a h. refl; back_there = λ ds h. refl })
    alike-told alike-itself (serve_replicate (2 ^ 32) m r p l)

-- any test of questions
in_proportion : (x c w h t : ℕ) → h ≡ c * w → t ≡ x * w → x * h ≡ c * t
in_proportion x c w h t e f = ap (λ y. x * y) e ∙ mul_left_comm x c w ∙ ap (λ y. c * y) (sym f)

of_asks : (n m r : ℕ) → 0 < m → m ≤ n → (p : List ℕ → Bool) (many : ℕ) → how_many n (question_moduli m r) p many ≡ count p (asks m r) * ways n (question_moduli m r) many
of_asks n m r l k p many =
    shares n (question_moduli m r) (serve_replicate n m r l k) p many ∙ ap (λ xs. count p xs * ways n (question_moduli m r) many) (questions-all m r)

question_shares_of : (n m r : ℕ) → 0 < m → m ≤ n → (p : List ℕ → Bool) (many : ℕ) →
    m ^ r * how_many n (question_moduli m r) p many ≡ count p (asks m r) * how_many n (question_moduli m r) (λ _. true) many
question_shares_of n m r l k p many =
    in_proportion (m ^ r) (count p (asks m r)) (ways n (question_moduli m r) many) (how_many n (question_moduli m r) p many) (how_many n (question_moduli m r) (λ _. true) many)
    (of_asks n m r l k p many) (of_asks n m r l k (λ _. true) many ∙ ap (λ x. x * ways n (question_moduli m r) many) (count-all m r))

pub question_shares : QuestionShares
question_shares = question_shares_of (2 ^ 32)
