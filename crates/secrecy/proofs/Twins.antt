-- With lots paired, the lines of two showings differ only in boxes that stay closed. Assumes nothing.
use Rattle.std.proofs.Common.{◌≡◌, ℕ, zero, suc, ◌+◌, ◌/◌, ◌<◌, ◌≤◌, Bool, true, false, T, ltb, List, [], ◌∷◌, ◌++◌, map, length, take, drop, sym, refl, ap, ◌∙◌, subst, zero-add, arith, lt→ltb}
use mathlib.Core.List.{reverse_aux}
use lib.Ieee.Fits.{and_i}
use Rattle.std.proofs.Math.Seq.{drop-append-add}
use Rattle.std.proofs.lemmas.List.{get_or-map, length-map, length-append, take-append-le}
use Rattle.std.proofs.lemmas.Bool.{ltb-true}
use Rattle.paths.specs.Plan.{Task, Good, Plan, at, fits, all_below}
use Rattle.paths.specs.Pairing.{by_question}
use Rattle.paths.proofs.Paired.{fits-parts, pairs_coin}
use Rattle.tasks.specs.Reading.{Got, got, refused, and_then}
use Rattle.sha256.specs.Sha256.{bytes}
use Rattle.sha256.proofs.Bytes.{length-bytes}
use Rattle.boxes.specs.Box.{box_text, boxes_of}
use Rattle.tasks.proofs.Units.{then_got, cond-got}
use Rattle.fitting.specs.Pairs.{asked_pair}
use Rattle.boxes.proofs.Boxes.{length-boxes, laid}
use Rattle.lots.specs.Lots.{Lot, coin_of_lot}
use Rattle.words.specs.Said.{Said}
use Rattle.words.specs.Reading.{read_word}
use Rattle.words.specs.Awaited.{on_ask as on_this_ask}
use Rattle.words.specs.Writing.{boxes_head, said_bytes}
use Rattle.round.specs.Round.{held, part_of, boxes_for, opened_for}
use Rattle.round.specs.Line.{Event, sent, heard, Other, Ran}
use Rattle.round.specs.Over.{Over, Leads, on, out}
use Rattle.planning.specs.Planning.{Ready, Closed, stops, turn, on_ask, ask_in, end_in, hear, settle}
use Rattle.planning.specs.Run.{and_on}
use Rattle.secrecy.specs.View.{hide}
use Rattle.secrecy.specs.Lots.{close_lot, run_lots, asked_lots, pair_lot, pair_lots}
use Rattle.secrecy.specs.Twins.{Digests, OnlyNumbers, Twins, begun, told, closed, opened}
use Rattle.secrecy.proofs.ByLots.{lots-out, opened_by}

-- a question that was taken is for a pair that is there
on-asked : (t : Task) (n i : ℕ) (x : Said) → on_ask t n x ≡ got i → i < length t.pairs
on-asked t n i x e =
    let p = then_got (on_this_ask n x) (λ j. and_then (asked_pair t j) (λ _. got j)) i e in
    let q = then_got (asked_pair t p.0) (λ _. got p.0) i p.2 in
    let same : p.0 ≡ i = cc q.2 in
    omega (arith, ltb-true _ _ (cond-got (ltb p.0 (length t.pairs)) 7 _ q.0 q.1).0)

pub asked-there : (t : Task) (n i : ℕ) (w : List ℕ) → ask_in t n w ≡ got i → i < length t.pairs
asked-there t n i w e = go (read_word t w) e
  where
    go : (g : Got Said) → and_then g (on_ask t n) ≡ got i → i < length t.pairs
    go (got x) q = on-asked t n i x q
    go (refused f) q = cc

pub digests : (H : List ℕ → List ℕ) → ((x : List ℕ) → length (H x) ≡ 32) → Digests H
digests H size n p l j k =
    let e = (laid H size).each n 0 (held p l.order) l.chances j (rw length-map k) in
    let v : at (held p l.order) j ≡ at l.order (at p j) = get_or-map (at l.order) p j 0 0 k in
    e ∙ rw (zero-add j, v) refl

module _ (H : List ℕ → List ℕ) (size : (x : List ℕ) → length (H x) ≡ 32) (p q : Plan) (long : length p ≡ length q) where
  as-long : (n : ℕ) (l m : Lot) → length (boxes_of H n 0 (held p l.order) l.chances) ≡ length (boxes_of H n 0 (held q m.order) m.chances)
  as-long n l m =
      let a = length-boxes H n size (held p l.order) l.chances 0 in
      let b = length-boxes H n size (held q m.order) m.chances 0 in
      omega (arith, a, b, length-map p (at l.order), length-map q (at m.order))

-- a text up to its number, and behind it
module _ (n j : ℕ) where
  head-long : length (bytes 4 n ++ bytes 2 j) ≡ 6
  head-long = simp (length-append, length-bytes)

  heads_alike : (a b : ℕ) (c d : List ℕ) → take 6 (box_text n j a c) ≡ take 6 (box_text n j b d)
  heads_alike a b c d =
      let k : 6 ≤ length (bytes 4 n ++ bytes 2 j) = omega (arith, head-long) in
      take-append-le 6 (bytes 4 n ++ bytes 2 j) (a ∷ c) k ∙ sym (take-append-le 6 (bytes 4 n ++ bytes 2 j) (b ∷ d) k)

  behind_number : (a : ℕ) (c : List ℕ) → drop 7 (box_text n j a c) ≡ c
  behind_number a c = subst (λ k. drop (k + 1) (bytes 4 n ++ bytes 2 j ++ a ∷ c) ≡ c) head-long (drop-append-add (bytes 4 n ++ bytes 2 j) (a ∷ c) 1)

pub only_numbers : (H : List ℕ → List ℕ) → ((x : List ℕ) → length (H x) ≡ 32) → OnlyNumbers H
only_numbers H size = record {
  texts = λ n p q l m j e. (heads_alike n j _ _ _ _, behind_number n j _ _ ∙ (ap (λ cs. part_of cs j) e ∙ sym (behind_number n j _ _)));
  digests = λ n p q l m j k h e s. digests H size n p l j k ∙ (rw (e, s) refl ∙ sym (digests H size n q m j h));
  heads = λ n p q l m e. ap (λ k. boxes_head n (k / 32)) (as-long H size p q e n l m);
}

-- digests left out, twins are the same
module _ (H : List ℕ → List ℕ) (size : (x : List ℕ) → length (H x) ≡ 32) (t : Task) (p q : Plan) (long : length p ≡ length q) where
  head_same : (n : ℕ) (l m : Lot) → hide (sent (said_bytes (boxes_for H n p l))) ≡ hide (sent (said_bytes (boxes_for H n q m)))
  head_same n l m = ap (λ k. sent (boxes_head n (k / 32))) (as-long H size p q long n l m)

  pub twins-hidden : (ls ms : List Lot) (xs ys : List Event) → Twins H t p q ls ms xs ys → map hide xs ≡ map hide ys
  twins-hidden _ _ _ _ begun = refl
  twins-hidden _ _ _ _ (told w ls ms xs ys s) = ap (λ l. heard w ∷ l) (twins-hidden ls ms xs ys s)
  twins-hidden _ _ _ _ (closed n l m c ls ms xs ys k s) = let a = head_same n l m in let b = twins-hidden ls ms xs ys s in λ j. a j ∷ b j
  twins-hidden _ _ _ _ (opened n l m c i k a e w ls ms xs ys _ s) =
      let o : said_bytes (opened_for t n p l i) ≡ said_bytes (opened_for t n q m i) = rw (c, a, e) in
      let h = head_same n l m in
      let b = twins-hidden ls ms xs ys s in
      λ j. hide (sent (o j)) ∷ heard w ∷ h j ∷ b j

-- one round of the run: a pair is opened, or it ends
module _ (H : List ℕ → List ℕ) (other : Other) (left : ℕ) (s : Ready) (l : Lot) (ls : List Lot) (line : List Event) (w : List ℕ) where
  abbrev first : List Event
  first = sent (close_lot H s l).boxes ∷ line

  abbrev second : ℕ → List Event
  second i = sent (opened_by (close_lot H s l) w i).opened ∷ heard w ∷ first

  abbrev next : ℕ → List ℕ → Leads Ready
  next i v = and_on (hear (opened_by (close_lot H s l) w i) v) (settle H)

  pub run-opens : (i : ℕ) (v : List ℕ) → other first ≡ w → ask_in s.task s.round w ≡ got i → other (second i) ≡ v →
      run_lots H other (suc left) (on s) (l ∷ ls) line ≡ run_lots H other left (next i v) ls (heard v ∷ second i)
  unfolding run_lots
  run-opens i v e k g = rw (e, k, g) refl

  pub asked-opens : (i : ℕ) (v : List ℕ) → other first ≡ w → ask_in s.task s.round w ≡ got i → other (second i) ≡ v →
      asked_lots H other (suc left) (on s) (l ∷ ls) line ≡ i ∷ asked_lots H other left (next i v) ls (heard v ∷ second i)
  unfolding asked_lots
  asked-opens i v e k g = rw (e, k, g) refl

  pub run_ends : (f : ℕ) → other first ≡ w → ask_in s.task s.round w ≡ refused f → run_lots H other (suc left) (on s) (l ∷ ls) line ≡ record { line = heard w ∷ first; over = stops s f }
  unfolding run_lots
  run_ends f e k = rw (e, k) (lots-out H other left _ ls _)

  pub asked-ends : (f : ℕ) → other first ≡ w → ask_in s.task s.round w ≡ refused f → asked_lots H other (suc left) (on s) (l ∷ ls) line ≡ []
  unfolding asked_lots
  asked-ends f e k = rw (e, k) refl

-- two showings of p and q against one asker that doesn't look into the digests
module _ (H : List ℕ → List ℕ) (size : (x : List ℕ) → length (H x) ≡ 32) (t : Task) (good : Good t) (p q : Plan) (fp : T (fits t p)) (fq : T (fits t q)) (r : ℕ) (other : Other) (blind : (xs ys : List Event) → map hide xs ≡ map hide ys → other xs ≡ other ys) where
  abbrev pub state : Plan → ℕ → List ℕ → Ready
  state p n d = record { task = t; plan = p; rounds = r; round = n; digest = d }

  -- both are before the same round, or over alike
  pub data Two : ℕ → Leads Ready → Leads Ready → Type 0 where
    both : (n : ℕ) (d e : List ℕ) → Two n (on (state p n d)) (on (state q n e))
    over : (n : ℕ) (x y : Over) → x.outcome ≡ y.outcome → Two n (out x) (out y)

  pub two-turn : (n : ℕ) (d e : List ℕ) → Two n (turn (state p n d)) (turn (state q n e))
  two-turn n d e = go (ltb n r) refl
    where
      go : (b : Bool) → ltb n r ≡ b → Two n (turn (state p n d)) (turn (state q n e))
      go true h = rw h (both n d e)
      go false h = rw h (over n _ _ refl)

  -- the same ran after some rounds with lots us and vs, and the same was asked for
  pub record Same (us vs ls ms : List Lot) (a b : Ran) (is js : List ℕ) : Type 0 where
    pub rounds : ℕ
    pub twins : Twins H t p q (reverse_aux (take rounds ls) us) (reverse_aux (take rounds ms) vs) a.line b.line
    pub outcome : a.over.outcome ≡ b.over.outcome
    pub asked : js ≡ is
    pub below : T (all_below (length t.pairs) is)

  abbrev pub Shows : ℕ → List Lot → List Lot → Leads Ready → Leads Ready → List Lot → List Event → List Event → Type 0
  Shows left us vs a b ls xs ys =
      let is = asked_lots H other left a ls xs in
      let ms = pair_lots t p q is ls in
      Same us vs ls ms (run_lots H other left a ls xs) (run_lots H other left b ms ys) is (asked_lots H other left b ms ys)

  abbrev pub Goes : ℕ → Type 0
  Goes left = (n : ℕ) (us vs : List Lot) → length us ≡ n → (a b : Leads Ready) → Two n a b → (ls : List Lot) (xs ys : List Event) → Twins H t p q us vs xs ys → Shows left us vs a b ls xs ys

  long : length p ≡ length q
  long = (fits-parts t p fp).0 ∙ sym (fits-parts t q fq).0

  -- they say the same
  says : (us vs : List Lot) (xs ys : List Event) → Twins H t p q us vs xs ys → other ys ≡ other xs
  says us vs xs ys s = blind ys xs (sym (twins-hidden H size t p q long us vs xs ys s))

  -- one round, with a lot and another
  module _ (n : ℕ) (d e : List ℕ) (l m : Lot) where
    abbrev mine : Closed
    mine = close_lot H (state p n d) l

    abbrev yours : Closed
    yours = close_lot H (state q n e) m

    ends : (i : ℕ) (w v : List ℕ) → Two (n + 1) (and_on (hear (opened_by mine w i) v) (settle H)) (and_on (hear (opened_by yours w i) v) (settle H))
    ends i w v = go (end_in t n v) refl
      where
        go : (g : Got Bool) → end_in t n v ≡ g → Two (n + 1) (and_on (hear (opened_by mine w i) v) (settle H)) (and_on (hear (opened_by yours w i) v) (settle H))
        go (got true) h = rw h (two-turn (n + 1) _ _)
        go (got false) h = rw h (over (n + 1) _ _ refl)
        go (refused f) h = rw h (over (n + 1) _ _ refl)

  by_ask : (left : ℕ) → Goes left → (n : ℕ) (us vs : List Lot) → length us ≡ n → (d e : List ℕ) (l : Lot) (ls : List Lot) (xs ys : List Event) → Twins H t p q us vs xs ys →
      (g : Got ℕ) → ask_in t n (other (sent (close_lot H (state p n d) l).boxes ∷ xs)) ≡ g → Shows (suc left) us vs (on (state p n d)) (on (state q n e)) (l ∷ ls) xs ys
  unfolding by_question all_below
  by_ask left more n us vs u d e l ls xs ys s (refused f) k =
      let z = closed n l l refl us vs xs ys u s in
      let g = says _ _ _ _ z in
      rw (
        asked-ends H other left (state p n d) l ls xs _ f refl k,
        asked-ends H other left (state q n e) l ls ys _ f g k,
        run_ends H other left (state p n d) l ls xs _ f refl k,
        run_ends H other left (state q n e) l ls ys _ f g k,
      )
      record { rounds = 1; twins = told _ _ _ _ _ z; outcome = refl; asked = refl; below = tt }
  by_ask left more n us vs u d e l ls xs ys s (got i) k =
      let m = pair_lot t p q i l in
      let w = other (sent (close_lot H (state p n d) l).boxes ∷ xs) in
      let j = asked-there t n i w k in
      let line = second H other left (state p n d) l ls xs w i in
      let v = other line in
      let ms = pair_lots t p q (asked_lots H other left (next H other left (state p n d) l ls xs w i v) ls (heard v ∷ line)) ls in
      let c = pairs_coin t good p q fp fq i j in
      let g = says _ _ _ _ (closed n l m refl us vs xs ys u s) in
      let z = opened n l m refl i j (sym (c.first_order (coin_of_lot t l))) (sym (c.second_order (coin_of_lot t l))) w us vs xs ys u s in
      let h = says _ _ _ _ z in
      let y = more (n + 1) (l ∷ us) (m ∷ vs) (omega arith) _ _ (ends n d e l m i w v) ls _ _ (told v _ _ _ _ z) in
      rw (
        asked-opens H other left (state p n d) l ls xs w i v refl k refl,
        asked-opens H other left (state q n e) m ms ys w i v g k h,
        run-opens H other left (state p n d) l ls xs w i v refl k refl,
        run-opens H other left (state q n e) m ms ys w i v g k h,
      )
      record { rounds = suc y.rounds; twins = y.twins; outcome = y.outcome; asked = ap (λ is. i ∷ is) y.asked; below = and_i _ _ (lt→ltb i _ j) y.below }

  pub goes : (left : ℕ) → Goes left
  unfolding run_lots asked_lots all_below by_question
  goes zero _ us vs u _ _ (both n d e) ls xs ys s = record { rounds = 0; twins = s; outcome = refl; asked = refl; below = tt }
  goes zero _ us vs u _ _ (over n x y h) ls xs ys s = record { rounds = 0; twins = s; outcome = h; asked = refl; below = tt }
  goes (suc left) _ us vs u _ _ (over n x y h) ls xs ys s = record { rounds = 0; twins = s; outcome = h; asked = refl; below = tt }
  goes (suc left) _ us vs u _ _ (both n d e) [] xs ys s = record { rounds = 0; twins = s; outcome = refl; asked = refl; below = tt }
  goes (suc left) _ us vs u _ _ (both n d e) (l ∷ ls) xs ys s = by_ask left (goes left) n us vs u d e l ls xs ys s _ refl
