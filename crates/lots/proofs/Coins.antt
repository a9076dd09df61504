-- Lots as coins, and lots and questions drawn in turn. Assumes nothing.
use Rattle.std.proofs.Common.{◌≡◌, ℕ, zero, suc, ◌+◌, ◌-◌, ◌*◌, ◌/◌, ◌^◌, ◌<◌, Bool, true, false, cond, T, ltb, leb, List, [], ◌∷◌, ◌++◌, map, length, take, drop, replicate, sym, refl, ap, ◌∙◌, subst, arith, ltb→lt}
use lib.ListN.{length-replicate}
use Rattle.std.proofs.lemmas.List.{take_at, drop_at, drop-drop, length-take-le}
use Rattle.std.proofs.lemmas.Bool.{leb-true}
use Rattle.paths.specs.Plan.{Task, at, all_below}
use Rattle.drawing.specs.Drawing.{Drawn, drew, short, onto, and_then, draw, values_of, in_range, order_moduli, order_of, times, parts, chance_moduli, coin_moduli, coin_of}
use Rattle.drawing.proofs.Tests.{first}
use Rattle.drawing.proofs.Aiming.{Within, draw-within}
use Rattle.drawing.proofs.Even.{serve-order, serve_replicate}
use Rattle.drawing.proofs.Orders.{order_is}
use Rattle.tasks.specs.Reading as reading
use Rattle.tasks.specs.Reading.{Got, got, refused}
use Rattle.lots.specs.Lots.{on_bytes, drawn, Had, had_by, chances_in, lot_in, question_in, coin_of_lot, each_as, in_turn}
use Rattle.lots.specs.Laws.{LotsAreCoins, LotsInTurn, QuestionsInTurn, LotHad, LotsHad, QuestionHad, QuestionsHad}
use Rattle.lots.proofs.Draws.{OfDrawn, drawn-none, drawn-long, bytes-in_turn}
use Rattle.lots.proofs.Steps.{had_onto, had_same, chances_had}
use Rattle.lots.proofs.Chances.{below-drop, below-take, drawn-chances, chance_numbers}

-- the chances after an order, as those of a coin
module _ (t : Task) (ds left : List ℕ) (l : length ds ≡ length (order_moduli t.paths)) (b : T (all_below 256 left)) where
  chances_coin : each_as (coin_of_lot t) (chances_in t.trains (order_of t.paths ds) left) ≡ had_by (coin_of t) (onto ds (drawn (times t.trains chance_moduli) left))
  chances_coin = go (leb (32 * t.trains) (length left)) refl ∙ ap (λ r. had_by (coin_of t) (onto ds r)) (sym (drawn-chances t.trains left b))
    where
      go : (enough : Bool) → leb (32 * t.trains) (length left) ≡ enough →
          each_as (coin_of_lot t) (cond enough (got record { what = record { order = order_of t.paths ds; chances = take (32 * t.trains) left }; left = drop (32 * t.trains) left }) (refused 11))
          ≡ had_by (coin_of t) (onto ds (cond enough (drew (values_of 256 (take (32 * t.trains) left)) (drop (32 * t.trains) left)) short))
      go true e =
          let n = chance_numbers t.trains (take (32 * t.trains) left) (length-take-le (32 * t.trains) left (leb-true _ _ e)) in
          let p = take_at ds (values_of 256 (take (32 * t.trains) left)) (length (order_moduli t.paths)) l in
          let q = drop_at ds (values_of 256 (take (32 * t.trains) left)) (length (order_moduli t.paths)) l in
          simp (p, q, n)
      go false e = refl

-- what is left over are bytes
left_below : (bs left : List ℕ) → T (all_below 256 bs) → ((k : ℕ) × (left ≡ drop k bs)) → T (all_below 256 left)
left_below bs left h (k, e) = subst (λ xs. T (all_below 256 xs)) (sym e) (below-drop 256 k bs h)

pub lot_coin : LotsAreCoins
lot_coin t bs h =
    go (drawn (order_moduli t.paths) bs) (drawn-long (order_moduli t.paths) bs)
    ∙ ap (had_by (coin_of t)) (sym (bytes-in_turn (order_moduli t.paths) (times t.trains chance_moduli) bs))
  where
    go : (r : Drawn) → OfDrawn (λ ds left. (length ds ≡ length (order_moduli t.paths)) × ((k : ℕ) × (left ≡ drop k bs))) r →
        each_as (coin_of_lot t) (reading.and_then (had_by (order_of t.paths) r) (λ o. chances_in t.trains o.what o.left))
        ≡ had_by (coin_of t) (and_then r (drawn (times t.trains chance_moduli)))
    go (drew ds left) w = chances_coin t ds left w.0 (left_below bs left h w.1)
    go short w = refl

-- drawn in turn: things of one kind, each by the same moduli
each_had : {A B : Type 0} (f : A → B) (read : List ℕ → A) (r : Drawn) → each_as f (had_by read r) ≡ had_by (λ ds. f (read ds)) r
each_had f read (drew ds left) = refl
each_had f read short = refl

module _ {A : Type 0} (Is : List ℕ → Type 0) (rest : (k : ℕ) (bs : List ℕ) → Is bs → Is (drop k bs)) (one : List ℕ → Got (Had A)) (read : List ℕ → A) (ss : List ℕ)
    (single : (bs : List ℕ) → Is bs → one bs ≡ had_by read (drawn ss bs)) where
  part_more : (r : ℕ) (ds : List ℕ) → length ds ≡ length ss → (es : List ℕ) → read ds ∷ parts read (length ss) r es ≡ parts read (length ss) (suc r) (ds ++ es)
  unfolding parts
  part_more r ds l es = let p = take_at ds es (length ss) l in let q = drop_at ds es (length ss) l in cc

  turns : (r : ℕ) (bs : List ℕ) → Is bs → in_turn one r bs ≡ had_by (parts read (length ss) r) (drawn (times r ss) bs)
  unfolding in_turn times parts
  turns zero bs h = sym (ap (had_by (λ _. [])) (drawn-none bs))
  turns (suc r) bs h =
      ap (λ g. reading.and_then g (λ h. each_as (λ xs. h.what ∷ xs) (in_turn one r h.left))) (single bs h)
      ∙ go (turns r) (drawn ss bs) (drawn-long ss bs)
      ∙ ap (had_by (parts read (length ss) (suc r))) (sym (bytes-in_turn ss (times r ss) bs))
    where
      go : ((left : List ℕ) → Is left → in_turn one r left ≡ had_by (parts read (length ss) r) (drawn (times r ss) left)) →
          (q : Drawn) → OfDrawn (λ ds left. (length ds ≡ length ss) × ((k : ℕ) × (left ≡ drop k bs))) q →
          reading.and_then (had_by read q) (λ h. each_as (λ xs. h.what ∷ xs) (in_turn one r h.left)) ≡ had_by (parts read (length ss) (suc r)) (and_then q (drawn (times r ss)))
      go ih (drew ds left) w =
          ap (each_as (λ xs. read ds ∷ xs)) (ih left (subst Is (sym w.1.1) (rest w.1.0 bs h)))
          ∙ each_had (λ xs. read ds ∷ xs) (parts read (length ss) r) (drawn (times r ss) left)
          ∙ had_same _ _ (part_more r ds w.0) (drawn (times r ss) left)
          ∙ sym (had_onto (parts read (length ss) (suc r)) ds (drawn (times r ss) left))
      go ih short w = refl

module _ {A B : Type 0} (f : A → B) (one : List ℕ → Got (Had A)) where
  each_more : (x : A) (g : Got (Had (List A))) → each_as (map f) (each_as (λ xs. x ∷ xs) g) ≡ each_as (λ ys. f x ∷ ys) (each_as (map f) g)
  each_more x (got h) = refl
  each_more x (refused n) = refl

  each_turn : (r : ℕ) (bs : List ℕ) → each_as (map f) (in_turn one r bs) ≡ in_turn (λ bs. each_as f (one bs)) r bs
  unfolding in_turn
  each_turn zero bs = refl
  each_turn (suc r) bs = go (each_turn r) (one bs)
    where
      go : ((left : List ℕ) → each_as (map f) (in_turn one r left) ≡ in_turn (λ bs. each_as f (one bs)) r left) → (g : Got (Had A)) →
          each_as (map f) (reading.and_then g (λ h. each_as (λ xs. h.what ∷ xs) (in_turn one r h.left)))
          ≡ reading.and_then (each_as f g) (λ h. each_as (λ xs. h.what ∷ xs) (in_turn (λ bs. each_as f (one bs)) r h.left))
      go ih (got h) = each_more h.what (in_turn one r h.left) ∙ ap (each_as (λ ys. f h.what ∷ ys)) (ih h.left)
      go ih (refused n) = refl

pub lots_in-turn : LotsInTurn
lots_in-turn t r bs h =
    each_turn (coin_of_lot t) (lot_in t) r bs
    ∙ turns (λ xs. T (all_below 256 xs)) (below-drop 256) (λ xs. each_as (coin_of_lot t) (lot_in t xs)) (coin_of t) (coin_moduli t) (lot_coin t) r bs h

-- questions: one number for each
ones_times : (m r : ℕ) → times r (m ∷ []) ≡ replicate r m
unfolding times
ones_times m zero = refl
ones_times m (suc r) = ap (λ xs. m ∷ xs) (ones_times m r)

ones_parts : (r : ℕ) (ds : List ℕ) → length ds ≡ r → parts (λ es. at es 0) 1 r ds ≡ ds
unfolding parts
ones_parts zero [] l = refl
ones_parts zero (d ∷ ds) l = absurd (omega arith)
ones_parts (suc r) [] l = absurd (omega arith)
ones_parts (suc r) (d ∷ ds) l = ap (λ xs. d ∷ xs) (ones_parts r ds (omega arith))

first_in : (m : ℕ) (ds : List ℕ) → T (in_range (m ∷ []) ds) → at ds 0 < m
unfolding in_range
first_in m [] h = absurd h
first_in m (d ∷ ds) h = ltb→lt d m (first (ltb d m) (in_range [] ds) h)

pub questions_in-turn : QuestionsInTurn
questions_in-turn t r bs =
    turns (λ _. Unit {0}) (λ _ _ _. tt) (question_in t) (λ ds. at ds 0) (length t.pairs ∷ []) (λ _ _. refl) r bs tt
    ∙ ap (λ ss. had_by (parts (λ ds. at ds 0) 1 r) (drawn ss bs)) (ones_times (length t.pairs) r)
    ∙ go (drawn (replicate r (length t.pairs)) bs) (drawn-long (replicate r (length t.pairs)) bs)
  where
    go : (q : Drawn) → OfDrawn (λ ds left. (length ds ≡ length (replicate r (length t.pairs))) × ((k : ℕ) × (left ≡ drop k bs))) q →
        had_by (parts (λ ds. at ds 0) 1 r) q ≡ had_by (λ is. is) q
    go (drew ds left) w = ap (λ is. got record { what = is; left = left }) (ones_parts r ds (w.0 ∙ length-replicate r (length t.pairs)))
    go short w = refl

-- a lot that was had
pub lots_had : LotsHad
lots_had t l bs b h =
    go (draw (2 ^ 32) (order_moduli t.paths) (values_of 256 bs)) (draw-within (2 ^ 32) (order_moduli t.paths) (serve-order (2 ^ 32) t.paths l) (values_of 256 bs))
  where
    go : (r : Drawn) → Within (order_moduli t.paths) r →
        reading.and_then (had_by (order_of t.paths) (on_bytes bs r)) (λ o. chances_in t.trains o.what o.left) ≡ got h → LotHad t bs h
    go (drew ds left) w e =
        let at = 4 * (length bs / 4 - length left) in
        let p = chances_had t.trains (order_of t.paths ds) (drop at bs) h e in
        subst (LotHad t bs) p.1
        record {
          order = order_is t.paths ds w;
          chances = length-take-le (32 * t.trains) (drop at bs) p.0;
          bytes = below-take 256 (32 * t.trains) (drop at bs) (below-drop 256 at bs b);
          rest = (at + 32 * t.trains, drop-drop (32 * t.trains) at bs);
        }
    go short w e = let z : ◌≡◌ {A = ℕ} 0 1 = cc in absurd (omega arith)

-- a question that was had
pub questions_had : QuestionsHad
questions_had t p l bs h =
    go (draw (2 ^ 32) (length t.pairs ∷ []) (values_of 256 bs)) (draw-within (2 ^ 32) (length t.pairs ∷ []) (serve_replicate (2 ^ 32) (length t.pairs) 1 p l) (values_of 256 bs))
  where
    go : (r : Drawn) → Within (length t.pairs ∷ []) r → had_by (λ ds. at ds 0) (on_bytes bs r) ≡ got h → QuestionHad t bs h
    go (drew ds left) w e =
        let i : ◌≡◌ {A = Had ℕ} (record { what = at ds 0; left = drop (4 * (length bs / 4 - length left)) bs }) h = cc in
        subst (QuestionHad t bs) i record { pair = first_in (length t.pairs) ds w; rest = (_, refl) }
    go short w e = let z : ◌≡◌ {A = ℕ} 0 1 = cc in absurd (omega arith)
