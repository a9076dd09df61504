-- What an asker sees of a run is what is told with the plan's answers alone, and so what is told without a plan. Assumes nothing.
use Rattle.std.proofs.Common.{◌≡◌, ℕ, zero, suc, ◌+◌, ◌*◌, ◌/◌, ◌<◌, Bool, true, false, T, List, [], ◌∷◌, map, length, sym, refl, ap, ◌∙◌, arith, lt→ltb}
use lib.Ieee.Fits.{and_i}
use Rattle.std.proofs.lemmas.List.{length-map}
use Rattle.std.proofs.lemmas.Bool.{lt-ltb, le-ltb}
use Rattle.paths.specs.Plan.{Task, Good, Plan, at, fits, all_below}
use Rattle.paths.specs.Pairing.{by_question}
use Rattle.paths.specs.Paired.{PairedCoin}
use Rattle.paths.specs.Simulated.{pretend}
use Rattle.paths.proofs.Paired.{fits-parts, pair-paths, paired_at}
use Rattle.paths.proofs.Simulated.{pretend_at, pretend_fits}
use Rattle.boxes.proofs.Boxes.{length-boxes}
use Rattle.tasks.specs.Reading.{Got, got, refused}
use Rattle.tasks.specs.Writing.{task_bytes}
use Rattle.lots.specs.Lots.{Lot, coin_of_lot}
use Rattle.words.specs.Said.{Said}
use Rattle.words.specs.Writing.{boxes_head, said_bytes}
use Rattle.round.specs.Round.{held, boxes_for, opened_for}
use Rattle.round.specs.Line.{Event, sent, heard, Other}
use Rattle.round.specs.Over.{Over, Leads, on, out, content, not_content, fault}
use Rattle.planning.specs.Planning.{Ready, turn, ask_in, end_in, hear, settle}
use Rattle.planning.specs.Run.{and_on}
use Rattle.secrecy.specs.View.{hide, unaware, view_of}
use Rattle.secrecy.specs.Lots.{close_lot, run_lots, asked_lots, show_lots, lots_in, asked, pair_lot}
use Rattle.secrecy.specs.Simulated.{Told, ends, by_end, telling, opened_anyhow, simulation, simulated, to_simulated, from_simulated, Simulates}
use Rattle.secrecy.proofs.ByLots.{lots-out, opened_by, by_lots-all}
use Rattle.secrecy.proofs.Pairs.{Undone, by-long, by_fits, by-back, paired-undone}
use Rattle.secrecy.proofs.Twins.{asked-there, run-opens, asked-opens, run_ends, asked-ends}
use Rattle.secrecy.proofs.Drawn.{Reorders, reorder_by, lots-by, often_by}

-- where nothing more is done, nothing is asked for
asked_out : (H : List ℕ → List ℕ) (other : Other) (left : ℕ) (o : Over) (ls : List Lot) (line : List Event) → asked_lots H other left (out o) ls line ≡ []
unfolding asked_lots
asked_out H other zero o ls line = refl
asked_out H other (suc left) o ls line = refl

-- the answers of a plan
abbrev planned : Task → Plan → ℕ → Lot → ℕ → Said
planned t p n l i = opened_for t n p l i

module _ (H : List ℕ → List ℕ) (size : (x : List ℕ) → length (H x) ≡ 32) (t : Task) (p : Plan) (long : length p ≡ t.trains) (r : ℕ) (f : Other) where
  abbrev other : Other
  other = unaware f

  abbrev state : ℕ → List ℕ → Ready
  state n d = record { task = t; plan = p; rounds = r; round = n; digest = d }

  -- the run from here on is what is told so, its line without digests
  abbrev Tells : ℕ → ℕ → Leads Ready → List Lot → List Event → List Event → Type 0
  Tells left n a ls line hl =
      let x = telling (planned t p) f t left n ls hl in
      (view_of (run_lots H other left a ls line) ≡ x.seen) × (asked_lots H other left a ls line ≡ x.asked)

  head-of : (n : ℕ) (l : Lot) → hide (sent (said_bytes (boxes_for H n p l))) ≡ sent (boxes_head n t.trains)
  head-of n l =
      let b = length-boxes H n size (held p l.order) l.chances 0 in
      let k : length (held p l.order) ≡ t.trains = length-map p (at l.order) ∙ long in
      ap (λ j. sent (boxes_head n j)) (ap (λ j. j / 32) (b ∙ ap (λ j. 32 * j) k) ∙ omega arith)

  abbrev Goes : ℕ → Type 0
  Goes left = (n : ℕ) → n + left ≡ r → (d : List ℕ) (ls : List Lot) (line hl : List Event) → map hide line ≡ hl → Tells left n (turn (state n d)) ls line hl

  -- one round, with a lot
  module _ (left n : ℕ) (d : List ℕ) (l : Lot) (ls : List Lot) (line hl : List Event) (e : map hide line ≡ hl) where
    abbrev closed : List Event
    closed = sent (boxes_head n t.trains) ∷ hl

    abbrev w : List ℕ
    w = f closed

    first-hidden : map hide (sent (close_lot H (state n d) l).boxes ∷ line) ≡ closed
    first-hidden = let a = head-of n l in λ j. a j ∷ e j

    abbrev shown : ℕ → List Event
    shown i = sent (said_bytes (opened_for t n p l i)) ∷ heard w ∷ closed

    abbrev second : ℕ → List Event
    second i = sent (said_bytes (opened_for t n p l i)) ∷ heard w ∷ sent (close_lot H (state n d) l).boxes ∷ line

    second-hidden : (i : ℕ) → map hide (second i) ≡ shown i
    second-hidden i = ap (λ xs. sent (said_bytes (opened_for t n p l i)) ∷ heard w ∷ xs) first-hidden

    by-end : Goes left → suc (n + left) ≡ r → (i : ℕ) (g : Got Bool) → end_in t n (f (shown i)) ≡ g →
        let v = f (shown i) in
        let a = and_on (hear (opened_by (close_lot H (state n d) l) w i) v) (settle H) in
        let x = by_end g n (heard v ∷ shown i) (telling (planned t p) f t left (n + 1) ls (heard v ∷ shown i)) in
        (view_of (run_lots H other left a ls (heard v ∷ second i)) ≡ x.seen) × (asked_lots H other left a ls (heard v ∷ second i) ≡ x.asked)
    by-end more k i (got true) h = rw h (more (n + 1) (omega arith) _ ls _ _ (ap (λ xs. heard (f (shown i)) ∷ xs) (second-hidden i)))
    by-end more k i (got false) h =
        rw (h, lots-out H other left _ ls _, asked_out H other left _ ls _) (let a = second-hidden i in λ j. record { line = heard (f (shown i)) ∷ a j; outcome = not_content n }, refl)
    by-end more k i (refused m) h =
        rw (h, lots-out H other left _ ls _, asked_out H other left _ ls _) (let a = second-hidden i in λ j. record { line = heard (f (shown i)) ∷ a j; outcome = fault m n }, refl)

    by-ask : Goes left → suc (n + left) ≡ r → (g : Got ℕ) → ask_in t n w ≡ g → Tells (suc left) n (on (state n d)) (l ∷ ls) line hl
    unfolding telling
    by-ask more k (got i) h =
        let x = by-end more k i _ refl in
        let o = ap f first-hidden in
        let v = ap f (second-hidden i) in
        rw (h, run-opens H other left (state n d) l ls line w i _ o h v, asked-opens H other left (state n d) l ls line w i _ o h v) (x.0, ap (λ is. i ∷ is) x.1)
    by-ask more k (refused m) h =
        let o = ap f first-hidden in
        rw (h, run_ends H other left (state n d) l ls line w m o h, asked-ends H other left (state n d) l ls line w m o h) (let a = first-hidden in λ j. record { line = heard w ∷ a j; outcome = fault m n }, refl)

  tells : (left : ℕ) → Goes left
  unfolding run_lots asked_lots telling
  tells zero n k d ls line hl e = rw (le-ltb n r (omega arith)) ((let s : r ≡ n = omega arith in λ j. record { line = e j; outcome = content (s j) }), refl)
  tells (suc left) n k d [] line hl e = rw (lt-ltb n r (omega arith)) (λ j. record { line = e j; outcome = fault 11 n }, refl)
  tells (suc left) n k d (l ∷ ls) line hl e = rw (lt-ltb n r (omega arith)) (by-ask left n d l ls line hl e (tells left) (omega arith) _ refl)

-- told with two kinds of answers that are the same with lots that go with one another
module _ (t : Task) (f : Other) where
  -- the same is seen and asked for
  record Same (x y : Told) : Type 0 where
    seen : y.seen ≡ x.seen
    asked : y.asked ≡ x.asked
    below : T (all_below (length t.pairs) x.asked)

  module _ (given : ℕ → Lot → ℕ → Said) (left n : ℕ) (l : Lot) (ls : List Lot) (line : List Event) where
    abbrev put : List Event
    put = let closed = sent (boxes_head n t.trains) ∷ line in heard (f closed) ∷ closed

    abbrev rest : Said → Told
    rest o =
        let shown = sent (said_bytes o) ∷ put in
        by_end (end_in t n (f shown)) n (heard (f shown) ∷ shown) (telling given f t left (n + 1) ls (heard (f shown) ∷ shown))

    telling-asks : (i : ℕ) → ask_in t n (f (sent (boxes_head n t.trains) ∷ line)) ≡ got i →
        telling given f t (suc left) n (l ∷ ls) line ≡ record { seen = (rest (given n l i)).seen; asked = i ∷ (rest (given n l i)).asked }
    unfolding telling
    telling-asks i h = rw h refl

    telling-ends : (m : ℕ) → ask_in t n (f (sent (boxes_head n t.trains) ∷ line)) ≡ refused m → telling given f t (suc left) n (l ∷ ls) line ≡ ends (fault m n) put
    unfolding telling
    telling-ends m h = rw h refl

  module _ (given given' : ℕ → Lot → ℕ → Said) (there : ℕ → Lot → Lot) (same : (n i : ℕ) → i < length t.pairs → (l : Lot) → given n l i ≡ given' n (there i l) i) where
    abbrev Along : ℕ → Type 0
    Along left = (n : ℕ) (ls : List Lot) (line : List Event) → let x = telling given f t left n ls line in Same x (telling given' f t left n (by_question there x.asked ls) line)

    along-end : (left : ℕ) → Along left → (n : ℕ) (ls : List Lot) (line : List Event) (g : Got Bool) →
        let x = by_end g n line (telling given f t left (n + 1) ls line) in Same x (by_end g n line (telling given' f t left (n + 1) (by_question there x.asked ls) line))
    unfolding all_below
    along-end left more n ls line (got true) = more (n + 1) ls line
    along-end left more n ls line (got false) = record { seen = refl; asked = refl; below = tt }
    along-end left more n ls line (refused m) = record { seen = refl; asked = refl; below = tt }

    along : (left : ℕ) → Along left
    unfolding telling by_question all_below
    along zero n ls line = record { seen = refl; asked = refl; below = tt }
    along (suc left) n [] line = record { seen = refl; asked = refl; below = tt }
    along (suc left) n (l ∷ ls) line = go (ask_in t n (f (sent (boxes_head n t.trains) ∷ line))) refl (along left)
      where
        go : (g : Got ℕ) → ask_in t n (f (sent (boxes_head n t.trains) ∷ line)) ≡ g → Along left →
            let x = telling given f t (suc left) n (l ∷ ls) line in Same x (telling given' f t (suc left) n (by_question there x.asked (l ∷ ls)) line)
        go (got i) h more =
            let k = asked-there t n i (f (sent (boxes_head n t.trains) ∷ line)) h in
            let shown = sent (said_bytes (given n l i)) ∷ put given left n l ls line in
            let z = along-end left more n ls (heard (f shown) ∷ shown) (end_in t n (f shown)) in
            let ms = by_question there (rest given left n l ls line (given n l i)).asked ls in
            rw (telling-asks given left n l ls line i h, telling-asks given' left n (there i l) ms line i h, ← same n i k l)
            record { seen = z.seen; asked = ap (λ is. i ∷ is) z.asked; below = and_i _ _ (lt→ltb i (length t.pairs) k) z.below }
        go (refused m) h more = rw (telling-ends given left n l ls line m h, telling-ends given' left n l ls line m h) record { seen = refl; asked = refl; below = tt }

module _ (H : List ℕ → List ℕ) (size : (x : List ℕ) → length (H x) ≡ 32) (t : Task) (good : Good t) (p : Plan) (fp : T (fits t p)) (f : Other) (r : ℕ) where
  -- the run of the plan, told
  abbrev run_told : List Lot → Told
  run_told ls = telling (planned t p) f t r 0 ls (sent (task_bytes t) ∷ [])

  run-tells : (ls : List Lot) → (view_of (show_lots H (unaware f) t p r ls) ≡ (run_told ls).seen) × (asked H (unaware f) t p r ls ≡ (run_told ls).asked)
  run-tells ls = tells H size t p (fits-parts t p fp).0 r f r 0 (omega arith) _ ls _ _ refl

  abbrev there : ℕ → Lot → Lot
  there i = pair_lot t p (pretend t i) i

  abbrev back : ℕ → Lot → Lot
  back i = pair_lot t (pretend t i) p i

  coin_there : (i : ℕ) → i < length t.pairs → PairedCoin t p (pretend t i) i
  coin_there i k = paired_at t i p (pretend t i) (pair-paths t good p fp i k) (pretend_fits t good p fp i k)

  coin_back : (i : ℕ) → i < length t.pairs → PairedCoin t (pretend t i) p i
  coin_back i k = paired_at t i (pretend t i) p (pretend_fits t good p fp i k) (pair-paths t good p fp i k)

  answers : (n i : ℕ) → i < length t.pairs → (l : Lot) → planned t p n l i ≡ opened_anyhow t n (there i l) i
  answers n i k l =
      let e = pretend_at t good p fp i k in
      let c = coin_there i k in
      let one = sym (c.first_order (coin_of_lot t l)) ∙ ap (at (there i l).order) e.0 in
      let two = sym (c.second_order (coin_of_lot t l)) ∙ ap (at (there i l).order) e.1 in
      rw (one, two) refl

  answers-back : (n i : ℕ) → i < length t.pairs → (l : Lot) → opened_anyhow t n l i ≡ planned t p n (back i l) i
  answers-back n i k l =
      let e = pretend_at t good p fp i k in
      let c = coin_back i k in
      let one = c.first_order (coin_of_lot t l) ∙ ap (at l.order) e.0 in
      let two = c.second_order (coin_of_lot t l) ∙ ap (at l.order) e.1 in
      rw (one, two) refl

  goes-there : (ls : List Lot) → Same t f (run_told ls) (simulation f t r (to_simulated H f t p r ls))
  goes-there ls = rw (run-tells ls).1 (along t f (planned t p) (opened_anyhow t) there answers r 0 ls _)

  goes-back : (ls : List Lot) → Same t f (simulation f t r ls) (run_told (from_simulated f t p r ls))
  goes-back ls = along t f (opened_anyhow t) (planned t p) back answers-back r 0 ls _

  undone : Undone t there back
  undone = paired-undone t (λ i. p) (pretend t) coin_there

  undone-back : Undone t back there
  undone-back = paired-undone t (pretend t) (λ i. p) coin_back

  run-below : (ls : List Lot) → T (all_below (length t.pairs) (asked H (unaware f) t p r ls))
  run-below ls = rw (run-tells ls).1 (goes-there ls).below

  pub reorders-there : Reorders t (to_simulated H f t p r) (from_simulated f t p r)
  reorders-there = record {
    fitting = λ ls h. by_fits t there back undone _ (run-below ls) ls h;
    as_many = λ ls. by-long there _ ls;
    orders_alone = λ ls. reorder_by there (λ i l. refl) _ ls;
    undo = λ ls h. rw ((goes-there ls).asked ∙ sym (run-tells ls).1) (by-back t there back undone _ (run-below ls) ls h);
  }

  pub reorders-back : Reorders t (from_simulated f t p r) (to_simulated H f t p r)
  reorders-back = record {
    fitting = λ ls h. by_fits t back there undone-back _ (goes-back ls).below ls h;
    as_many = λ ls. by-long back _ ls;
    orders_alone = λ ls. reorder_by back (λ i l. refl) _ ls;
    undo = λ ls h. rw ((run-tells (from_simulated f t p r ls)).1 ∙ (goes-back ls).asked) (by-back t back there undone-back _ (goes-back ls).below ls h);
  }

  pub same-there : (ls : List Lot) → view_of (show_lots H (unaware f) t p r ls) ≡ simulated f t r (to_simulated H f t p r ls)
  same-there ls = (run-tells ls).0 ∙ sym (goes-there ls).seen

pub simulates : (H : List ℕ → List ℕ) → ((x : List ℕ) → length (H x) ≡ 32) → Simulates H
simulates H size t good few p fp f r = record {
  same = same;
  there_fits = u.fitting;
  back_fits = v.fitting;
  as_many = u.as_many;
  back_there = u.undo;
  there_back = v.undo;
  as_often = λ test many. often_by t few r _ _ u v many _ (λ bs. test (simulated f t r (lots_in t r bs))) (λ bs b.
      ap test (ap view_of ((by_lots-all t r bs).run H (unaware f) p) ∙ (same (lots_in t r bs) ∙ ap (simulated f t r) (sym (lots-by t few r _ _ u bs b)))));
}
  where
    u : Reorders t (to_simulated H f t p r) (from_simulated f t p r)
    u = reorders-there H size t good p fp f r

    v : Reorders t (from_simulated f t p r) (to_simulated H f t p r)
    v = reorders-back H size t good p fp f r

    same : (ls : List Lot) → view_of (show_lots H (unaware f) t p r ls) ≡ simulated f t r (to_simulated H f t p r ls)
    same = same-there H size t good p fp f r
