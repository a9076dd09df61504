-- Values aimed at other numbers: what they draw, and how to come back. Assumes nothing.
use Rattle.std.proofs.Common.{◌≡◌, ℕ, suc, ◌+◌, ◌*◌, ◌/◌, ◌%◌, ◌<◌, Bool, true, false, cond, ◌&&◌, T, ltb, List, [], ◌∷◌, ◌++◌, length, refl, ap, ◌∙◌, subst, mul-le-mul_right, mod-lt, mod-eq_of_lt, div-lt_iff_lt-mul, div-add-mod', arith, ltb→lt, lt→ltb}
use native.Mathlib.Nat.{mul-add-mod_self_right, mul-add-div_right, div-eq_of_lt}
use Rattle.std.proofs.lemmas.List.{append-nil}
use Rattle.std.proofs.lemmas.Bool.{ltb-true, lt-ltb}
use Rattle.paths.specs.Plan.{all_below}
use Rattle.drawing.specs.Drawing.{limit, Drawn, drew, short, more, draw, serve, in_range, aim, passed, kept}
use Rattle.drawing.specs.Uniform.{instead, Aims, AimsInTurn}
use Rattle.drawing.proofs.Tests.{first, second, both}
use Rattle.drawing.proofs.Sums.{limit_is}
use Rattle.drawing.proofs.Counts.{serve-first, serve-rest}

-- a used value aimed at d is used, has the remainder d and the same quotient
pub aimed_used : (n s v d : ℕ) → d < s → v < limit n s → v / s * s + d < limit n s
aimed_used n s v d l h =
    let p : 0 < s = omega arith in
    let k : v < n / s * s = omega (arith, limit_is n s) in
    let q : v / s < n / s = (div-lt_iff_lt-mul p).1 k in
    omega (arith, limit_is n s, mul-le-mul_right s q)

pub aimed-mod : (s v d : ℕ) → d < s → (v / s * s + d) % s ≡ d
aimed-mod s v d l = mul-add-mod_self_right (v / s) s d ∙ mod-eq_of_lt l

pub aimed-div : (s v d : ℕ) → d < s → (v / s * s + d) / s ≡ v / s
aimed-div s v d l = let p : 0 < s = omega arith in mul-add-div_right p (v / s) d ∙ omega (arith, div-eq_of_lt l)

used_test : (n s v d : ℕ) → d < s → ltb v (limit n s) ≡ true → ltb (v / s * s + d) (limit n s) ≡ true
used_test n s v d l e = lt-ltb (v / s * s + d) (limit n s) (aimed_used n s v d l (ltb-true v (limit n s) e))

instead-more : (d e : ℕ) (ds : List ℕ) (f : List ℕ → List ℕ) (r : Drawn) → more d (instead ds f r) ≡ instead (d ∷ ds) f (more e r)
instead-more d e ds f (drew es left) = refl
instead-more d e ds f short = refl

-- the step of each law at a value, used or passed over
module _ (n s v d : ℕ) (ss ds vs : List ℕ) (l : d < s) where
  draws-step : (ts fs : List ℕ) → draw n ss (aim n (ss ++ ts) (ds ++ fs) vs) ≡ instead ds (aim n ts fs) (draw n ss vs) →
      draw n (s ∷ ss) (aim n (s ∷ ss ++ ts) (d ∷ ds ++ fs) vs) ≡ instead (d ∷ ds) (aim n ts fs) (draw n (s ∷ ss) vs) →
      draw n (s ∷ ss) (aim n (s ∷ ss ++ ts) (d ∷ ds ++ fs) (v ∷ vs)) ≡ instead (d ∷ ds) (aim n ts fs) (draw n (s ∷ ss) (v ∷ vs))
  unfolding draw aim
  draws-step ts fs used pass = go (ltb v (limit n s)) refl
    where
      go : (t : Bool) → ltb v (limit n s) ≡ t →
          draw n (s ∷ ss) (cond t ((v / s * s + d) ∷ aim n (ss ++ ts) (ds ++ fs) vs) (v ∷ aim n (s ∷ ss ++ ts) (d ∷ ds ++ fs) vs))
          ≡ instead (d ∷ ds) (aim n ts fs) (cond t (more (v % s) (draw n ss vs)) (draw n (s ∷ ss) vs))
      go true e = simp (used_test n s v d l e, aimed-mod s v d l, used) (instead-more d (v % s) ds (aim n ts fs) (draw n ss vs))
      go false e = simp e pass

  kept_step : kept n ss (aim n ss ds vs) ≡ kept n ss vs → kept n (s ∷ ss) (aim n (s ∷ ss) (d ∷ ds) vs) ≡ kept n (s ∷ ss) vs →
      kept n (s ∷ ss) (aim n (s ∷ ss) (d ∷ ds) (v ∷ vs)) ≡ kept n (s ∷ ss) (v ∷ vs)
  unfolding kept aim
  kept_step used pass = go (ltb v (limit n s)) refl
    where
      go : (t : Bool) → ltb v (limit n s) ≡ t →
          kept n (s ∷ ss) (cond t ((v / s * s + d) ∷ aim n ss ds vs) (v ∷ aim n (s ∷ ss) (d ∷ ds) vs))
          ≡ cond t ((v / s) ∷ kept n ss vs) (v ∷ kept n (s ∷ ss) vs)
      go true e = simp (used_test n s v d l e, aimed-div s v d l, used)
      go false e = simp (e, pass)

  places-step : passed n ss (aim n ss ds vs) ≡ passed n ss vs → passed n (s ∷ ss) (aim n (s ∷ ss) (d ∷ ds) vs) ≡ passed n (s ∷ ss) vs →
      passed n (s ∷ ss) (aim n (s ∷ ss) (d ∷ ds) (v ∷ vs)) ≡ passed n (s ∷ ss) (v ∷ vs)
  unfolding passed aim
  places-step used pass = go (ltb v (limit n s)) refl
    where
      go : (t : Bool) → ltb v (limit n s) ≡ t →
          passed n (s ∷ ss) (cond t ((v / s * s + d) ∷ aim n ss ds vs) (v ∷ aim n (s ∷ ss) (d ∷ ds) vs))
          ≡ cond t (false ∷ passed n ss vs) (true ∷ passed n (s ∷ ss) vs)
      go true e = simp (used_test n s v d l e, used)
      go false e = simp (e, pass)

  below_step : all_below n (aim n ss ds vs) ≡ all_below n vs → all_below n (aim n (s ∷ ss) (d ∷ ds) vs) ≡ all_below n vs →
      all_below n (aim n (s ∷ ss) (d ∷ ds) (v ∷ vs)) ≡ all_below n (v ∷ vs)
  unfolding all_below aim
  below_step used pass = go (ltb v (limit n s)) refl
    where
      go : (t : Bool) → ltb v (limit n s) ≡ t →
          all_below n (cond t ((v / s * s + d) ∷ aim n ss ds vs) (v ∷ aim n (s ∷ ss) (d ∷ ds) vs)) ≡ (ltb v n && all_below n vs)
      go true e =
          let f : v < limit n s = ltb-true v (limit n s) e in
          let a : ltb (v / s * s + d) n ≡ true = lt-ltb (v / s * s + d) n (omega (arith, aimed_used n s v d l f)) in
          let b : ltb v n ≡ true = lt-ltb v n (omega arith) in
          simp (a, b, used)
      go false e = simp pass

  long-step : length (aim n ss ds vs) ≡ length vs → length (aim n (s ∷ ss) (d ∷ ds) vs) ≡ length vs → length (aim n (s ∷ ss) (d ∷ ds) (v ∷ vs)) ≡ length (v ∷ vs)
  unfolding aim
  long-step used pass = go (ltb v (limit n s))
    where
      go : (t : Bool) → length (cond t ((v / s * s + d) ∷ aim n ss ds vs) (v ∷ aim n (s ∷ ss) (d ∷ ds) vs)) ≡ suc (length vs)
      go true = ap suc used
      go false = ap suc pass

  -- aimed twice, the second aim counts
  twice-step : (e : ℕ) (es : List ℕ) → aim n ss es (aim n ss ds vs) ≡ aim n ss es vs → aim n (s ∷ ss) (e ∷ es) (aim n (s ∷ ss) (d ∷ ds) vs) ≡ aim n (s ∷ ss) (e ∷ es) vs →
      aim n (s ∷ ss) (e ∷ es) (aim n (s ∷ ss) (d ∷ ds) (v ∷ vs)) ≡ aim n (s ∷ ss) (e ∷ es) (v ∷ vs)
  unfolding aim
  twice-step e es used pass = go (ltb v (limit n s)) refl
    where
      go : (t : Bool) → ltb v (limit n s) ≡ t →
          aim n (s ∷ ss) (e ∷ es) (cond t ((v / s * s + d) ∷ aim n ss ds vs) (v ∷ aim n (s ∷ ss) (d ∷ ds) vs))
          ≡ cond t ((v / s * s + e) ∷ aim n ss es vs) (v ∷ aim n (s ∷ ss) (e ∷ es) vs)
      go true t = simp (used_test n s v d l t, aimed-div s v d l, used)
      go false t = simp (t, pass)

lower : (s d : ℕ) (ss ds : List ℕ) → T (in_range (s ∷ ss) (d ∷ ds)) → d < s
unfolding in_range
lower s d ss ds h = ltb→lt d s (first (ltb d s) (in_range ss ds) h)

rest : (s d : ℕ) (ss ds : List ℕ) → T (in_range (s ∷ ss) (d ∷ ds)) → T (in_range ss ds)
unfolding in_range
rest s d ss ds h = second (ltb d s) (in_range ss ds) h

-- the induction of all laws: on the values, with a value used or passed over
by_values : (P : List ℕ → List ℕ → List ℕ → Type 0) → ((vs : List ℕ) → P [] [] vs) → ((s d : ℕ) (ss ds : List ℕ) → P (s ∷ ss) (d ∷ ds) []) →
    ((s v d : ℕ) (ss ds vs : List ℕ) → d < s → P ss ds vs → P (s ∷ ss) (d ∷ ds) vs → P (s ∷ ss) (d ∷ ds) (v ∷ vs)) →
    (ss ds : List ℕ) → T (in_range ss ds) → (vs : List ℕ) → P ss ds vs
unfolding in_range
by_values P none end more [] [] h vs = none vs
by_values P none end more [] (d ∷ ds) h vs = absurd h
by_values P none end more (s ∷ ss) [] h vs = absurd h
by_values P none end more (s ∷ ss) (d ∷ ds) h [] = end s d ss ds
by_values P none end more (s ∷ ss) (d ∷ ds) h (v ∷ vs) =
    more s v d ss ds vs (lower s d ss ds h) (by_values P none end more ss ds (rest s d ss ds h) vs) (by_values P none end more (s ∷ ss) (d ∷ ds) h vs)

pub aim-in_turn : (n : ℕ) → AimsInTurn n
unfolding draw aim
aim-in_turn n =
    by_values (λ ss ds vs. (ts fs : List ℕ) → draw n ss (aim n (ss ++ ts) (ds ++ fs) vs) ≡ instead ds (aim n ts fs) (draw n ss vs)) (λ vs ts fs. refl)
    (λ s d ss ds ts fs. refl) (λ s v d ss ds vs l used pass ts fs. draws-step n s v d ss ds vs l ts fs (used ts fs) (pass ts fs))

pub aim-draws : (n : ℕ) (ss ds : List ℕ) → T (in_range ss ds) → (vs : List ℕ) → draw n ss (aim n ss ds vs) ≡ instead ds (λ left. left) (draw n ss vs)
unfolding aim
aim-draws n ss ds h vs = simp append-nil at (aim-in_turn n ss ds h vs [] [])

pub aim-places : (n : ℕ) (ss ds : List ℕ) → T (in_range ss ds) → (vs : List ℕ) → passed n ss (aim n ss ds vs) ≡ passed n ss vs
unfolding passed aim
aim-places n = by_values (λ ss ds vs. passed n ss (aim n ss ds vs) ≡ passed n ss vs) (λ vs. refl) (λ s d ss ds. refl) (places-step n)

pub aim_kept : (n : ℕ) (ss ds : List ℕ) → T (in_range ss ds) → (vs : List ℕ) → kept n ss (aim n ss ds vs) ≡ kept n ss vs
unfolding kept aim
aim_kept n = by_values (λ ss ds vs. kept n ss (aim n ss ds vs) ≡ kept n ss vs) (λ vs. refl) (λ s d ss ds. refl) (kept_step n)

pub aim-below : (n : ℕ) (ss ds : List ℕ) → T (in_range ss ds) → (vs : List ℕ) → all_below n (aim n ss ds vs) ≡ all_below n vs
unfolding aim
aim-below n = by_values (λ ss ds vs. all_below n (aim n ss ds vs) ≡ all_below n vs) (λ vs. refl) (λ s d ss ds. refl) (below_step n)

pub aim-long : (n : ℕ) (ss ds : List ℕ) → T (in_range ss ds) → (vs : List ℕ) → length (aim n ss ds vs) ≡ length vs
unfolding aim
aim-long n = by_values (λ ss ds vs. length (aim n ss ds vs) ≡ length vs) (λ vs. refl) (λ s d ss ds. refl) (long-step n)

-- aimed twice, the second aim counts
pub aim-twice : (n : ℕ) (ss ds : List ℕ) → T (in_range ss ds) → (vs es : List ℕ) → T (in_range ss es) → aim n ss es (aim n ss ds vs) ≡ aim n ss es vs
unfolding aim in_range
aim-twice n =
    by_values (λ ss ds vs. (es : List ℕ) → T (in_range ss es) → aim n ss es (aim n ss ds vs) ≡ aim n ss es vs) (λ vs es k. refl) (λ s d ss ds es k. refl)
    (λ s v d ss ds vs l used pass. elim [ [] ↦ λ k. absurd k | e ∷ es ↦ λ k. twice-step n s v d ss ds vs l e es (used es (rest s e ss es k)) (pass (e ∷ es) k) ])

-- aimed at what they draw, values stay
own_more : (d : ℕ) (r : Drawn) (e : ℕ) (es left : List ℕ) → more d r ≡ drew (e ∷ es) left → (d ≡ e) × (r ≡ drew es left)
own_more d (drew ds rest) e es left h = (cc, cc)
own_more d short e es left h = let z : ◌≡◌ {A = ℕ} 0 1 = cc in absurd (omega arith)

pub aim_own : (n : ℕ) (ss ds : List ℕ) → T (in_range ss ds) → (vs left : List ℕ) → draw n ss vs ≡ drew ds left → aim n ss ds vs ≡ vs
unfolding aim draw
aim_own n =
    by_values (λ ss ds vs. (left : List ℕ) → draw n ss vs ≡ drew ds left → aim n ss ds vs ≡ vs) (λ vs left h. refl) (λ s d ss ds left h. refl)
    (λ s v d ss ds vs l used pass left. go s v d ss ds vs used pass left (ltb v (limit n s)))
  where
    go : (s v d : ℕ) (ss ds vs : List ℕ) → ((left : List ℕ) → draw n ss vs ≡ drew ds left → aim n ss ds vs ≡ vs) →
        ((left : List ℕ) → draw n (s ∷ ss) vs ≡ drew (d ∷ ds) left → aim n (s ∷ ss) (d ∷ ds) vs ≡ vs) → (left : List ℕ) (t : Bool) →
        cond t (more (v % s) (draw n ss vs)) (draw n (s ∷ ss) vs) ≡ drew (d ∷ ds) left → cond t ((v / s * s + d) ∷ aim n ss ds vs) (v ∷ aim n (s ∷ ss) (d ∷ ds) vs) ≡ v ∷ vs
    go s v d ss ds vs used pass left true h =
        let p = own_more (v % s) (draw n ss vs) d ds left h in
        let q : v / s * s + d ≡ v = omega (arith, div-add-mod' v s, p.0) in
        let r = used left p.1 in
        cc
    go s v d ss ds vs used pass left false h = ap (λ xs. v ∷ xs) (pass left h)

-- what is drawn is in range
abbrev pub Within : List ℕ → Drawn → Type 0
Within ss (drew ds left) = T (in_range ss ds)
Within ss short = Unit {0}

within_more : (s v : ℕ) (ss : List ℕ) (r : Drawn) → 0 < s → Within ss r → Within (s ∷ ss) (more (v % s) r)
unfolding in_range
within_more s v ss (drew ds left) p h = both (ltb (v % s) s) (in_range ss ds) (lt→ltb (v % s) s (mod-lt v p)) h
within_more s v ss short p h = tt

pub draw-within : (n : ℕ) (ss : List ℕ) → T (serve n ss) → (vs : List ℕ) → Within ss (draw n ss vs)
unfolding draw serve in_range
draw-within n [] g vs = tt
draw-within n (s ∷ ss) g [] = tt
draw-within n (s ∷ ss) g (v ∷ vs) =
    go (ltb v (limit n s)) (within_more s v ss (draw n ss vs) (serve-first n s ss g) (draw-within n ss (serve-rest n s ss g) vs))
    (draw-within n (s ∷ ss) g vs)
  where
    go : (t : Bool) → Within (s ∷ ss) (more (v % s) (draw n ss vs)) → Within (s ∷ ss) (draw n (s ∷ ss) vs) → Within (s ∷ ss) (cond t (more (v % s) (draw n ss vs)) (draw n (s ∷ ss) vs))
    go true a b = a
    go false a b = b

pub aims : (n : ℕ) → Aims n
aims n ss g es h vs =
    record {
      draws = aim-draws n ss es h vs;
      long = aim-long n ss es h vs;
      below = aim-below n ss es h vs;
      places = aim-places n ss es h vs;
      keeps = aim_kept n ss es h vs;
      back = λ ds left e. let k : T (in_range ss ds) = subst (Within ss) e (draw-within n ss g vs) in aim-twice n ss es h vs ds k ∙ aim_own n ss ds k vs left e;
      stays = aim_own n ss es h vs;
    }
