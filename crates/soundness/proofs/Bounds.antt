-- Over all ways to ask: at each point some question goes wrong, or two texts are at hand, or a plan that fits. Assumes nothing.
use Rattle.std.proofs.Common.{◌≡◌, ℕ, zero, suc, ◌+◌, ◌-◌, ◌*◌, ◌^◌, ◌<◌, ◌≤◌, Bool, true, false, cond, not, ◌&&◌, ◌||◌, T, ◌⊎◌, List, [], ◌∷◌, sym, refl, ap, ◌∙◌, subst, inl, inr, pow-suc, arith}
use native.Mathlib.Nat.{pow-zero}
use Rattle.std.specs.List.{flat_map}
use Rattle.std.proofs.lemmas.Bool.{and_parts, and_right, cases_Bool, cases_eq, lt-ltb, not-true, or_parts}
use Rattle.paths.specs.Plan.{Task, Plan, fits}
use Rattle.paths.specs.Cheat.{asks, count}
use Rattle.drawing.proofs.Sums.{sum_below}
use Rattle.drawing.proofs.Counts.{count_same, count-more}
use Rattle.drawing.proofs.Tests.{from_true}
use Rattle.tasks.specs.Task.{sound}
use Rattle.tasks.proofs.TaskLaws.{guarantees}
use Rattle.boxes.specs.Binding.{TwoTexts, collides}
use Rattle.round.specs.Line.{Event, heard, Other}
use Rattle.round.specs.Over.{Over, Leads, on, out}
use Rattle.asking.specs.Asking.{Ready, turn, meet}
use Rattle.asking.specs.Run.{Gone, boxed}
use Rattle.soundness.specs.Questioned.{run_on, asking_on}
use Rattle.soundness.specs.Texts.{points, texts_at, texts_along, texts_in, met}
use Rattle.soundness.specs.Sound.{is_content, passes, pairs_of, NoPlan, SoundAlong, Sound}
use Rattle.soundness.specs.Knows.{first_fit, plan_at, plans_along, plan_along, at_hand, OneEach, KnowsAlong}
use Rattle.soundness.proofs.Runs.{accepts, ready, by_round, by_task, on_out}
use Rattle.soundness.proofs.Hits.{hit, hit_append}
use Rattle.soundness.proofs.Points.{plan-fits}

-- Counts

count_none : (h : List ℕ → Bool) → ((x : List ℕ) → h x ≡ false) → (xs : List (List ℕ)) → count h xs ≡ 0
unfolding count
count_none h e [] = refl
count_none h e (x ∷ xs) = rw (e x) (omega (arith, count_none h e xs))

one_most : (b : Bool) → cond b 1 0 ≤ 1
one_most true = omega arith
one_most false = omega arith

-- those that pass a test, by whether they pass another
count_apart : (f g : List ℕ → Bool) (xs : List (List ℕ)) → count f xs ≤ count (λ x. f x && not (g x)) xs + count g xs
unfolding count
count_apart f g [] = omega arith
count_apart f g (x ∷ xs) = omega (arith, one (f x) (g x), count_apart f g xs)
  where
    one : (a b : Bool) → cond a 1 0 ≤ cond (a && not b) 1 0 + cond b 1 0
    one true true = omega arith
    one true false = omega arith
    one false b = omega arith

-- each of m numbers is b at most where it passes a test, and else 0: then all m pass, or one b is left over
abbrev Most : (ℕ → Bool) → ℕ → ℕ → ℕ → Type 0
Most w b m f = (((i : ℕ) → i < m → w i ≡ true) × (f ≤ m * b)) ⊎ (f + b ≤ m * b)

most_more : (w : ℕ → Bool) (b m f x : ℕ) → x ≤ cond (w m) b 0 → Most w b m f → Most w b (suc m) (f + x)
most_more w b m f x = go (w m) refl
  where
    go : (v : Bool) → w m ≡ v → x ≤ cond v b 0 → Most w b m f → Most w b (suc m) (f + x)
    go true e l (inl h) = inl (λ i k. elim (cases_eq i m) [ inl z ↦ ap w z ∙ e | inr n ↦ h.0 i (omega arith) ], omega arith)
    go true e l (inr h) = inr (omega arith)
    go false e l (inl h) = inr (omega arith)
    go false e l (inr h) = inr (omega arith)

most : (f : ℕ → ℕ) (w : ℕ → Bool) (b : ℕ) → ((i : ℕ) → f i ≤ cond (w i) b 0) → (m : ℕ) → Most w b m (sum_below f m)
unfolding sum_below
most f w b g zero = inl (λ i l. absurd (omega arith), omega arith)
most f w b g (suc m) = most_more w b m (sum_below f m) (f m) (g m) (most f w b g m)

-- What is at hand

fits-more : (t : Task) (p : Plan) (ps : List Plan) → fits t (first_fit t (p ∷ ps)) ≡ (fits t p || fits t (first_fit t ps))
unfolding first_fit
fits-more t p ps = go (fits t p) refl
  where
    go : (b : Bool) → fits t p ≡ b → fits t (cond b p (first_fit t ps)) ≡ (b || fits t (first_fit t ps))
    go true e = e
    go false e = refl

or_swap : (a b c d : Bool) → ((a || b) || (c || d)) ≡ ((a || c) || (b || d))
or_swap true b c d = refl
or_swap false true true d = refl
or_swap false true false d = refl
or_swap false false c d = refl

pub one_each : (H : List ℕ → List ℕ) (other : Other) → OneEach H other
unfolding plans_along points
one_each H other [] lead line = refl
one_each H other (i ∷ is) (out o) line = refl
one_each H other (i ∷ is) (on s) line = let g = boxed H other line record { ready = s; pair = i } in omega (arith, one_each H other is g.to g.line)

module _ (H : List ℕ → List ℕ) (other : Other) (t : Task) (good : sound t ≡ true) (r : ℕ) where
  abbrev won : Leads Ready → List Event → List ℕ → Bool
  won lead line is = passes (run_on H other is lead line)

  abbrev found : Leads Ready → List Event → List ℕ → Bool
  found lead line is = hit H (texts_along H other is lead line) || fits t (first_fit t (plans_along H other is lead line))

  abbrev luck : Leads Ready → List Event → List ℕ → Bool
  luck lead line is = won lead line is && not (found lead line is)

  abbrev rows : ℕ → List (List ℕ)
  rows left = asks (pairs_of t) left

  abbrev Bound : ℕ → Leads Ready → List Event → Type 0
  Bound left lead line = count (luck lead line) (rows left) ≤ (pairs_of t - 1) ^ left

  no_luck : (left : ℕ) (o : Over) (line : List Event) → is_content o.outcome ≡ false → count (luck (out o) line) (rows left) ≡ 0
  no_luck left o line e =
      count_none (luck (out o) line) (λ is. ap (λ x. passes x && not (found (out o) line is)) (on_out H other t r is o line) ∙ ap (λ b. b && not (found (out o) line is)) e) (rows left)

  -- Round n
  module _ (left n : ℕ) (later : (d : List ℕ) (line : List Event) → Bound left (turn (ready H other t r (n + 1) d)) line) (d : List ℕ) (line : List Event) where
    abbrev s : Ready
    s = ready H other t r n d

    abbrev gone : ℕ → Gone
    gone i = boxed H other line record { ready = s; pair = i }

    -- each question leads to at most what the later rounds have, where it is answered well
    abbrev Adds : ℕ → Gone → Type 0
    Adds i g = count (luck g.to g.line) (rows left) ≤ cond (accepts H other s line i) ((pairs_of t - 1) ^ left) 0

    one : (i : ℕ) → Adds i (gone i)
    one i = by_round H other t r n d line i (Adds i) (λ o l e. omega (arith, no_luck left o l e)) (λ e l a. rw a (later e l))

    abbrev here : Bool
    here = hit H (texts_at H other s line) || fits t (plan_at H other s line)

    -- at this point, or later
    found_more : (i : ℕ) (is : List ℕ) → found (on s) line (i ∷ is) ≡ (here || found (gone i).to (gone i).line is)
    unfolding texts_along plans_along
    found_more i is =
        let g = gone i in
        let ps = plans_along H other is g.to g.line in
        rw (hit_append H (texts_at H other s line) (texts_along H other is g.to g.line), fits-more t (plan_at H other s line) ps)
        (or_swap (hit H (texts_at H other s line)) (hit H (texts_along H other is g.to g.line)) (fits t (plan_at H other s line)) (fits t (first_fit t ps)))

    abbrev lucks : ℕ → ℕ
    lucks i = count (λ is. luck (on s) line (i ∷ is)) (rows left)

    -- with nothing at hand here
    one-here : (i : ℕ) → lucks i ≤ cond (not here && accepts H other s line i) ((pairs_of t - 1) ^ left) 0
    unfolding run_on
    one-here i = go here refl
      where
        go : (b : Bool) → here ≡ b → lucks i ≤ cond (not b && accepts H other s line i) ((pairs_of t - 1) ^ left) 0
        go true e =
            omega (
              arith,
              count_none (λ is. luck (on s) line (i ∷ is))
                  (λ is. and_right (won (on s) line (i ∷ is)) _ (ap not (found_more i is ∙ ap (λ b. b || found (gone i).to (gone i).line is) e))) (rows left),
            )
        go false e =
            omega (
              arith,
              one i,
              count_same (λ is. luck (on s) line (i ∷ is)) (luck (gone i).to (gone i).line)
                  (λ is. ap (λ b. won (gone i).to (gone i).line is && not b) (found_more i is ∙ ap (λ b. b || found (gone i).to (gone i).line is) e)) (rows left),
            )

    -- not all questions are answered well then
    some-ill : ((i : ℕ) → i < pairs_of t → (not here && accepts H other s line i) ≡ true) → ⊥
    some-ill h =
        let none = or_parts (hit H (texts_at H other s line)) _ (not-true here (and_parts (not here) _ (h 0 (omega (arith, (guarantees t good).some_pair)))).0) in
        subst T none.1 (plan-fits H other s good line none.0 (λ i l. (and_parts (not here) _ (h i l)).1))

    pub bound_round : Bound (suc left) (on s) line
    bound_round =
        rw (count-more (luck (on s) line) (pairs_of t) left)
        (elim (most lucks (λ i. not here && accepts H other s line i) ((pairs_of t - 1) ^ left) one-here (pairs_of t)) [
          | inl h ↦ absurd (some-ill h.0)
          | inr h ↦ omega (arith, pow-suc (pairs_of t - 1) left, ap (λ x. x * (pairs_of t - 1) ^ left) suc-pairs)
        ])
      where
        suc-pairs : pairs_of t ≡ suc (pairs_of t - 1)
        suc-pairs = omega (arith, (guarantees t good).some_pair)

  bound : (left n : ℕ) → n + left ≡ r → (d : List ℕ) (line : List Event) → Bound left (turn (ready H other t r n d)) line
  unfolding asks count
  bound zero n e d line = omega (arith, one_most (luck (turn (ready H other t r n d)) line []), pow-zero (pairs_of t - 1))
  bound (suc left) n e d line = rw (lt-ltb n r (omega arith)) (bound_round left n (bound left (n + 1) (omega arith)) d line)

  pub bound_whole : Bound r (meet H record { task = t; rounds = r } (other [])) (heard (other []) ∷ [])
  bound_whole =
      let line = heard (other []) ∷ [] in
      by_task H other t r (λ lead. Bound r lead line) (λ o e. omega (arith, no_luck r o line e)) (λ d. bound r 0 (omega arith) d line)

pub knows_along : KnowsAlong
knows_along H other t good r =
    let few = bound_whole H other t good r in
    record { blind = few; knows = omega (arith, few, count_apart (λ is. passes (asking_on H other t r is)) (at_hand H other t r) (asks (pairs_of t) r)) }

-- Where no plan fits, none is at hand
pub texts_alone : (H : List ℕ → List ℕ) (other : Other) (t : Task) → NoPlan t → (r : ℕ) (is : List ℕ) → at_hand H other t r is ≡ collides H (met H other t r is)
texts_alone H other t none r is = go (collides H (met H other t r is)) (fits t (plan_along H other t r is)) (fits_none _)
  where
    fits_none : (p : Plan) → fits t p ≡ false
    fits_none p = elim (cases_Bool (fits t p)) [ inl e ↦ absurd (none p (from_true _ e)) | inr e ↦ e ]

    go : (a b : Bool) → b ≡ false → (a || b) ≡ a
    go true b e = refl
    go false b e = e

pub sound-along : SoundAlong
sound-along H other t good none r =
    omega (arith, (knows_along H other t good r).knows, count_same (at_hand H other t r) (λ is. collides H (met H other t r is)) (texts_alone H other t none r) (asks (pairs_of t) r))

-- no row of questions finds anything where all together do not
joined-none : (H : List ℕ → List ℕ) (f : List ℕ → List TwoTexts) (xs : List (List ℕ)) → hit H (flat_map f xs) ≡ false → count (λ x. hit H (f x)) xs ≡ 0
unfolding count
joined-none H f [] e = refl
joined-none H f (x ∷ xs) e =
    let p = or_parts (hit H (f x)) (hit H (flat_map f xs)) (sym (hit_append H (f x) (flat_map f xs)) ∙ e) in
    rw p.0 (omega (arith, joined-none H f xs p.1))

pub sound-whole : Sound
sound-whole H other t good none r =
    elim (cases_Bool (hit H (flat_map (texts_in H other t r) (asks (pairs_of t) r)))) [
      | inl e ↦ inl e
      | inr e ↦ inr (omega (arith, sound-along H other t good none r, joined-none H (texts_in H other t r) (asks (pairs_of t) r) e))
    ]
