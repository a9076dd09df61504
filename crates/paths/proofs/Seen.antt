-- What is seen of two plans with coins paired, by askers who may stop; and so wherever the same is told with coins that go with one another. Assumes nothing.
use Rattle.std.proofs.Common.{◌≡◌, ℕ, ◌<◌, Bool, true, false, cond, T, ltb, List, [], ◌∷◌, ◌++◌, length, sym, refl, ap, ◌∙◌, subst, arith, lt→ltb}
use lib.Ieee.Fits.{and_i}
use Rattle.std.proofs.lemmas.List.{append_assoc, map_push, append-nil, length-map}
use Rattle.std.proofs.lemmas.Bool.{ltb-true}
use Rattle.paths.specs.Plan.{Task, Plan, Good, fits, all_below}
use Rattle.paths.specs.Show.{Coin, Shown, round}
use Rattle.paths.specs.Promise.{Coins}
use Rattle.paths.specs.Pairing.{pair_coin, by_question, asked}
use Rattle.paths.specs.Stop.{Move, ask, stop, Stopper, Ending, complete, refused, Seen, Turn, goes, ends, turn, showing, seen, StopsAlike}
use Rattle.paths.proofs.Paired.{pair-paths, coin_round}
use Rattle.paths.proofs.Coins.{Undone, coins-back, pairs-undone, drop-by}

-- what a question and a coin show: as a plan shows it, or told otherwise
abbrev pub Teller : Type 0
Teller = ℕ → Coin → Shown

unfoldable pub telling : Task → Teller → Stopper → List Coin → List Shown → Seen
telling t g f [] so_far = record { shown = so_far; ending = complete }
telling t g f (c ∷ cs) so_far = elim (turn t (f so_far)) [ goes i ↦ telling t g f cs (so_far ++ (g i c ∷ [])) | ends e ↦ record { shown = so_far; ending = e } ]

-- the pairs asked for from here on
unfoldable asking : Task → Teller → Stopper → List Coin → List Shown → List ℕ
asking t g f [] so_far = []
asking t g f (c ∷ cs) so_far = elim (turn t (f so_far)) [ goes i ↦ i ∷ asking t g f cs (so_far ++ (g i c ∷ [])) | ends e ↦ [] ]

turn-goes : (t : Task) (m : Move) (i : ℕ) → turn t m ≡ goes i → i < length t.pairs
turn-goes t (ask j) i h = go (ltb j (length t.pairs)) refl h
  where
    go : (b : Bool) → ltb j (length t.pairs) ≡ b → cond b (goes j) (ends (refused j)) ≡ goes i → i < length t.pairs
    go true e g = let same : j ≡ i = cc in omega (arith, ltb-true j (length t.pairs) e)
    go false e g = let no : ◌≡◌ {A = ℕ} 0 1 = cc in absurd (omega arith)
turn-goes t stop i h = let no : ◌≡◌ {A = ℕ} 0 1 = cc in absurd (omega arith)

module _ (t : Task) (g : Teller) (f : Stopper) (c : Coin) (cs : List Coin) (ss : List Shown) where
  pub telling-goes : (i : ℕ) → turn t (f ss) ≡ goes i → telling t g f (c ∷ cs) ss ≡ telling t g f cs (ss ++ (g i c ∷ []))
  unfolding telling
  telling-goes i e = rw (e, telling)

  telling-ends : (x : Ending) → turn t (f ss) ≡ ends x → telling t g f (c ∷ cs) ss ≡ record { shown = ss; ending = x }
  unfolding telling
  telling-ends x e = rw (e, telling)

  asking-goes : (i : ℕ) → turn t (f ss) ≡ goes i → asking t g f (c ∷ cs) ss ≡ i ∷ asking t g f cs (ss ++ (g i c ∷ []))
  unfolding asking
  asking-goes i e = rw (e, asking)

  asking-ends : (x : Ending) → turn t (f ss) ≡ ends x → asking t g f (c ∷ cs) ss ≡ []
  unfolding asking
  asking-ends x e = rw (e, asking)

asked_telling : (t : Task) (g : Teller) → ((i : ℕ) (c : Coin) → (g i c).asked ≡ i) → (f : Stopper) (cs : List Coin) (ss : List Shown) →
    asked (telling t g f cs ss).shown ≡ asked ss ++ asking t g f cs ss
unfolding telling asking
asked_telling t g own f [] ss = sym (append-nil (asked ss))
asked_telling t g own f (c ∷ cs) ss = go (turn t (f ss)) refl (λ i. asked_telling t g own f cs (ss ++ (g i c ∷ [])))
  where
    go : (u : Turn) → turn t (f ss) ≡ u → ((i : ℕ) → asked (telling t g f cs (ss ++ (g i c ∷ []))).shown ≡ asked (ss ++ (g i c ∷ [])) ++ asking t g f cs (ss ++ (g i c ∷ []))) →
        asked (telling t g f (c ∷ cs) ss).shown ≡ asked ss ++ asking t g f (c ∷ cs) ss
    go (goes i) e below = rw (telling-goes t g f c cs ss i e, asking-goes t g f c cs ss i e) (below i ∙ simp (map_push, append_assoc, own))
    go (ends x) e below = rw (telling-ends t g f c cs ss x e, asking-ends t g f c cs ss x e) (sym (append-nil (asked ss)))

asking-below : (t : Task) (g : Teller) (f : Stopper) (cs : List Coin) (ss : List Shown) → T (all_below (length t.pairs) (asking t g f cs ss))
unfolding asking all_below
asking-below t g f [] ss = tt
asking-below t g f (c ∷ cs) ss = go (turn t (f ss)) refl (λ i. asking-below t g f cs (ss ++ (g i c ∷ [])))
  where
    go : (u : Turn) → turn t (f ss) ≡ u → ((i : ℕ) → T (all_below (length t.pairs) (asking t g f cs (ss ++ (g i c ∷ []))))) → T (all_below (length t.pairs) (asking t g f (c ∷ cs) ss))
    go (goes i) e below = rw (asking-goes t g f c cs ss i e) (and_i (ltb i (length t.pairs)) (all_below (length t.pairs) (asking t g f cs (ss ++ (g i c ∷ [])))) (lt→ltb i (length t.pairs) (turn-goes t (f ss) i e)) (below i))
    go (ends x) e below = rw (asking-ends t g f c cs ss x e) tt

-- two tellers that show the same with coins that go with one another, one to one
pub record Together (t : Task) (g h : Teller) (there back : ℕ → Coin → Coin) : Type 0 where
  pub own : (i : ℕ) (c : Coin) → (g i c).asked ≡ i
  pub own' : (i : ℕ) (c : Coin) → (h i c).asked ≡ i
  pub same : (i : ℕ) → i < length t.pairs → (c : Coin) → g i c ≡ h i (there i c)
  pub same' : (i : ℕ) → i < length t.pairs → (c : Coin) → h i c ≡ g i (back i c)
  pub undone : Undone t there back
  pub undone' : Undone t back there

-- step by step, the same is asked for and the same is seen
along : (t : Task) (g h : Teller) (there : ℕ → Coin → Coin) → ((i : ℕ) → i < length t.pairs → (c : Coin) → g i c ≡ h i (there i c)) → (f : Stopper) (cs : List Coin) (ss : List Shown) →
    (telling t g f cs ss ≡ telling t h f (by_question there (asking t g f cs ss) cs) ss) × (asking t h f (by_question there (asking t g f cs ss) cs) ss ≡ asking t g f cs ss)
unfolding telling asking by_question
along t g h there same f [] ss = (refl, refl)
along t g h there same f (c ∷ cs) ss = go (turn t (f ss)) refl (λ i. along t g h there same f cs (ss ++ (g i c ∷ [])))
  where
    Same : List Coin → List Shown → Type 0
    Same cs ss = (telling t g f cs ss ≡ telling t h f (by_question there (asking t g f cs ss) cs) ss) × (asking t h f (by_question there (asking t g f cs ss) cs) ss ≡ asking t g f cs ss)

    go : (u : Turn) → turn t (f ss) ≡ u → ((i : ℕ) → Same cs (ss ++ (g i c ∷ []))) → Same (c ∷ cs) ss
    go (goes i) e below =
        let next = ss ++ (g i c ∷ []) in
        let c' = there i c in
        let cs' = by_question there (asking t g f cs next) cs in
        let r = same i (turn-goes t (f ss) i e) c in
        rw (telling-goes t g f c cs ss i e, asking-goes t g f c cs ss i e, telling-goes t h f c' cs' ss i e, asking-goes t h f c' cs' ss i e, ← r) ((below i).0, ap (◌∷◌ i) (below i).1)
    go (ends x) e below = rw (asking-ends t g f c cs ss x e, telling-ends t g f c cs ss x e, telling-ends t h f c cs ss x e, asking-ends t h f c cs ss x e) (refl, refl)

-- the same is seen in two ways, with coins paired off one to one
pub record PairedOff (t : Task) (r : ℕ) {A : Type 0} (see see' : List Coin → A) (there back : List Coin → List Coin) : Type 0 where
  pub there_fits : (cs : List Coin) → Coins t r cs → Coins t r (there cs)
  pub back_fits : (cs : List Coin) → Coins t r cs → Coins t r (back cs)
  pub back_there : (cs : List Coin) → Coins t r cs → back (there cs) ≡ cs
  pub there_back : (cs : List Coin) → Coins t r cs → there (back cs) ≡ cs
  pub same : (cs : List Coin) → see cs ≡ see' (there cs)

-- by the questions put where all is told so
abbrev pub by_asked : (ℕ → Coin → Coin) → (List Coin → List Shown) → List Coin → List Coin
by_asked there see cs = by_question there (asked (see cs)) cs

module _ (t : Task) (f : Stopper) where
  abbrev pub seen_by : Teller → List Coin → Seen
  seen_by g cs = telling t g f cs []

  abbrev pub shown_by : Teller → List Coin → List Shown
  shown_by g cs = (seen_by g cs).shown

  module _ (g h : Teller) (there back : ℕ → Coin → Coin) (k : Together t g h there back) (r : ℕ) where
    by_is : (cs : List Coin) → by_asked there (shown_by g) cs ≡ by_question there (asking t g f cs []) cs
    by_is cs = rw (asked_telling t g k.own f cs [])

    seen-fits : (cs : List Coin) → Coins t r cs → Coins t r (by_asked there (shown_by g) cs)
    seen-fits cs c = rw (by_is cs) (coins-back t there back k.undone (asking t g f cs []) (asking-below t g f cs []) r cs c).0

    seen_back : (cs : List Coin) → Coins t r cs → by_asked back (shown_by h) (by_asked there (shown_by g) cs) ≡ cs
    seen_back cs c =
        rw (by_is cs, asked_telling t h k.own' f (by_question there (asking t g f cs []) cs) [], (along t g h there k.same f cs []).1)
        (coins-back t there back k.undone (asking t g f cs []) (asking-below t g f cs []) r cs c).1

    seen_same : (cs : List Coin) → seen_by g cs ≡ seen_by h (by_asked there (shown_by g) cs)
    seen_same cs = rw (by_is cs) (along t g h there k.same f cs []).0

pub turned : (t : Task) (g h : Teller) (there back : ℕ → Coin → Coin) → Together t g h there back → Together t h g back there
turned t g h there back k = record { own = k.own'; own' = k.own; same = k.same'; same' = k.same; undone = k.undone'; undone' = k.undone }

pub seen_together : (t : Task) (g h : Teller) (there back : ℕ → Coin → Coin) → Together t g h there back → (f : Stopper) (r : ℕ) →
    PairedOff t r (seen_by t f g) (seen_by t f h) (by_asked there (shown_by t f g)) (by_asked back (shown_by t f h))
seen_together t g h there back k f r =
    let k' = turned t g h there back k in
    record {
      there_fits = seen-fits t f g h there back k r;
      back_fits = seen-fits t f h g back there k' r;
      back_there = seen_back t f g h there back k r;
      there_back = seen_back t f h g back there k' r;
      same = seen_same t f g h there back k r;
    }

-- what plans show
abbrev pub by_plan : Task → Plan → Teller
by_plan t p i c = round t p c i

pub plans-together : (t : Task) → Good t → (p q : Plan) → T (fits t p) → T (fits t q) → Together t (by_plan t p) (by_plan t q) (pair_coin t p q) (pair_coin t q p)
plans-together t good p q fp fq =
    let hp = pair-paths t good p fp in
    let hq = pair-paths t good q fq in
    record {
      own = λ i c. refl;
      own' = λ i c. refl;
      same = λ i l. coin_round t i p q (hp i l) (hq i l);
      same' = λ i l. coin_round t i q p (hq i l) (hp i l);
      undone = pairs-undone t good p q fp fq;
      undone' = pairs-undone t good q p fq fp;
    }

told : (t : Task) (p : Plan) (f : Stopper) (cs : List Coin) (ss : List Shown) → telling t (by_plan t p) f cs ss ≡ showing t p f cs ss
unfolding showing telling
told t p f [] ss = refl
told t p f (c ∷ cs) ss = λ j. elim (turn t (f ss)) [ goes i ↦ told t p f cs (ss ++ (round t p c i ∷ [])) j | ends e ↦ record { shown = ss; ending = e } ]

pub stops-alike : StopsAlike
stops-alike t good p q fp fq f r = record {
  there_fits = s.there_fits;
  back_fits = s.back_fits;
  back_there = s.back_there;
  there_back = s.there_back;
  same = λ cs h. s.same cs;
  later = λ cs. rw (← length-map (seen t p f cs).shown (λ s. s.asked)) (drop-by (pair_coin t p q) (asked (seen t p f cs).shown) cs);
}
  where
    Seen-as : (List Coin → Seen) → (List Coin → Seen) → Type 0
    Seen-as see see' = PairedOff t r see see' (by_asked (pair_coin t p q) (λ cs. (see cs).shown)) (by_asked (pair_coin t q p) (λ cs. (see' cs).shown))

    s : Seen-as (seen t p f) (seen t q f)
    s =
        subst (λ see. Seen-as see (seen t q f)) (λ j cs. told t p f cs [] j)
        (subst (Seen-as (seen_by t f (by_plan t p))) (λ j cs. told t q f cs [] j) (seen_together t _ _ _ _ (plans-together t good p q fp fq) f r))
