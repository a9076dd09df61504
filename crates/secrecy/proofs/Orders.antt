-- The bytes of lots aimed at other orders: the lots that they give then, and aimed back. Assumes nothing.
use Rattle.std.proofs.Common.{◌≡◌, ℕ, zero, suc, ◌+◌, ◌-◌, ◌*◌, ◌/◌, ◌^◌, ◌<◌, ◌≤◌, Bool, true, false, cond, T, ltb, List, [], ◌∷◌, ◌++◌, map, length, take, drop, sym, refl, ap, ◌∙◌, subst, arith}
use lib.Ieee.Fits.{and_i, and_l, and_r}
use Rattle.std.proofs.lemmas.List.{length-append, take-append-drop}
use Rattle.paths.specs.Plan.{Task, all_below}
use Rattle.drawing.specs.Drawing.{Drawn, drew, short, draw, values_of, in_range, order_moduli, order_of, row_of}
use Rattle.drawing.specs.Uniform.{IsOrder, instead}
use Rattle.drawing.proofs.Aiming.{Within, draw-within}
use Rattle.drawing.proofs.Even.{serve-order}
use Rattle.drawing.proofs.Orders.{row_in, order_row, row_order}
use Rattle.tasks.specs.Reading.{Got, got, refused, and_then}
use Rattle.lots.specs.Lots.{on_bytes, drawn, Had, had_by, Lot, chances_in, lot_in, in_turn, each_as}
use Rattle.lots.proofs.Chances.{below-drop, below-take}
use Rattle.lots.proofs.Coins.{lots_had}
use Rattle.lots.proofs.Steps.{chances_had}
use Rattle.secrecy.specs.Lots.{lots_in, and_lots, Lots}
use Rattle.secrecy.specs.Drawn.{Pen, aimed, rewrite_lots}
use Rattle.secrecy.proofs.Aiming.{aim-draws, aim-first, aim_own, aim-long, aim-below}

-- the bytes of lots, aimed at these orders
abbrev pub aim_lots : Task → List (List ℕ) → List ℕ → List ℕ
aim_lots = rewrite_lots aimed

-- orders of so many paths
unfoldable pub Orders : Task → List (List ℕ) → Type 0
Orders t [] = Unit {0}
Orders t (o ∷ os) = IsOrder t.paths o × Orders t os

abbrev pub orders_of : List Lot → List (List ℕ)
orders_of ls = map (λ l. l.order) ls

pub orders_of_lem : (t : Task) (ls : List Lot) → Lots t ls → Orders t (orders_of ls)
unfolding Orders Lots
orders_of_lem t [] h = tt
orders_of_lem t (l ∷ ls) h = (h.0.order, orders_of_lem t ls h.1)

-- the front of a list, with something else behind it
halves : (n : ℕ) (xs ys : List ℕ) → length ys ≡ length (drop n xs) → (take n (take n xs ++ ys) ≡ take n xs) × (drop n (take n xs ++ ys) ≡ ys)
halves zero xs ys h = (refl, refl)
halves (suc n) [] [] h = (refl, refl)
halves (suc n) [] (y ∷ ys) h = absurd (omega arith)
halves (suc n) (x ∷ xs) ys h = let g = halves n xs ys h in (ap (λ zs. x ∷ zs) g.0, g.1)

halves_long : (n : ℕ) (xs ys : List ℕ) → length ys ≡ length (drop n xs) → length (take n xs ++ ys) ≡ length xs
halves_long n xs ys h = let g = simp length-append at (ap length (take-append-drop n xs)) in simp length-append (omega arith)

below-append : (n : ℕ) (xs ys : List ℕ) → T (all_below n xs) → T (all_below n ys) → T (all_below n (xs ++ ys))
unfolding all_below
below-append n [] ys g h = h
below-append n (x ∷ xs) ys g h = and_i _ _ (and_l (ltb x n) _ g) (below-append n xs ys (and_r (ltb x n) _ g) h)

-- the row of numbers has one for each modulus, also of what is no order
row_long : (k : ℕ) (o : List ℕ) → length (row_of k o) ≡ length (order_moduli k)
unfolding row_of order_moduli
row_long zero o = refl
row_long (suc zero) o = refl
row_long (suc (suc i)) o = ap suc (row_long (suc i) _)

module _ (t : Task) where
  -- what becomes of the bytes behind an order
  abbrev behind : List (List ℕ) → List ℕ → List ℕ
  behind os left = take (32 * t.trains) left ++ aim_lots t os (drop (32 * t.trains) left)

  abbrev row : (o : List ℕ) → IsOrder t.paths o → T (in_range (order_moduli t.paths) (row_of t.paths o))
  row o h = row_in t.paths o h

  pub lots-long : (os : List (List ℕ)) → Orders t os → (bs : List ℕ) → length (aim_lots t os bs) ≡ length bs
  unfolding rewrite_lots Orders
  lots-long [] h bs = refl
  lots-long (o ∷ os) h bs =
      let more = lots-long os h.1 in
      aim-long (behind os) (λ left. halves_long (32 * t.trains) left _ (more _)) _ _ (row o h.0) bs

  pub lots-below : (os : List (List ℕ)) → Orders t os → (bs : List ℕ) → T (all_below 256 bs) → T (all_below 256 (aim_lots t os bs))
  unfolding rewrite_lots Orders
  lots-below [] h bs b = b
  lots-below (o ∷ os) h bs b =
      let more = lots-below os h.1 in
      aim-below (behind os) (λ left k. below-append 256 _ _ (below-take 256 _ left k) (more _ (below-drop 256 _ left k))) _ _ (row o h.0) bs b

  -- written anew by the quotients alone, it makes no difference whether they were aimed before
  pub lots-first : (pen : Pen) → ((s x v e : ℕ) → e < s → pen s x (v / s * s + e) ≡ pen s x v) → (os ps : List (List ℕ)) → Orders t os → length os ≡ length ps → (bs : List ℕ) →
      rewrite_lots pen t ps (aim_lots t os bs) ≡ rewrite_lots pen t ps bs
  unfolding rewrite_lots Orders
  lots-first pen same [] ps h l bs = refl
  lots-first pen same (o ∷ os) [] h l bs = absurd (omega arith)
  lots-first pen same (o ∷ os) (p ∷ ps) h l bs =
      let size = 32 * t.trains in
      let more = lots-first pen same os ps h.1 (omega arith) in
      let next : List ℕ → List ℕ = λ left. take size left ++ rewrite_lots pen t ps (drop size left) in
      aim-first pen same (behind os) next next (λ left. let g = halves size left _ (lots-long os h.1 (drop size left)) in rw (g.0, g.1, more (drop size left)) refl) _ _ (row o h.0) bs _
      (row_long t.paths p)

-- other orders in the place of those of lots
unfoldable pub reorder : List (List ℕ) → List Lot → List Lot
reorder os [] = []
reorder [] (l ∷ ls) = l ∷ ls
reorder (o ∷ os) (l ∷ ls) = record { order = o; chances = l.chances } ∷ reorder os ls

reorder_none : (ls : List Lot) → reorder [] ls ≡ ls
unfolding reorder
reorder_none [] = refl
reorder_none (l ∷ ls) = refl

-- another order in the place of that of a lot, and other bytes left over
abbrev aimed_lot : List ℕ → (List ℕ → List ℕ) → Got (Had Lot) → Got (Had Lot)
aimed_lot o next (got h) = got record { what = record { order = o; chances = h.what.chances }; left = next h.left }
aimed_lot o next (refused f) = refused f

module _ (t : Task) where
  abbrev reading : Drawn → Got (Had Lot)
  reading r = and_then (had_by (order_of t.paths) r) (λ o. chances_in t.trains o.what o.left)

  lot-aimed : (o : List ℕ) (os : List (List ℕ)) → IsOrder t.paths o → Orders t os → (bs : List ℕ) → lot_in t (aim_lots t (o ∷ os) bs) ≡ aimed_lot o (aim_lots t os) (lot_in t bs)
  unfolding rewrite_lots
  lot-aimed o os h hs bs = ap reading (aim-draws (behind t os) _ _ (row t o h) bs) ∙ go (drawn (order_moduli t.paths) bs)
    where
      pick : (ds left : List ℕ) (b : Bool) → cond b (got record { what = record { order = o; chances = take (32 * t.trains) left }; left = aim_lots t os (drop (32 * t.trains) left) }) (refused 11)
          ≡ aimed_lot o (aim_lots t os) (cond b (got record { what = record { order = ds; chances = take (32 * t.trains) left }; left = drop (32 * t.trains) left }) (refused 11))
      pick ds left true = refl
      pick ds left false = refl

      chances : (ds left : List ℕ) → chances_in t.trains o (behind t os left) ≡ aimed_lot o (aim_lots t os) (chances_in t.trains ds left)
      chances ds left =
          let l = lots-long t os hs (drop (32 * t.trains) left) in
          let g = halves (32 * t.trains) left (aim_lots t os (drop (32 * t.trains) left)) l in
          rw (halves_long (32 * t.trains) left (aim_lots t os (drop (32 * t.trains) left)) l, g.0, g.1) (pick ds left _)

      go : (r : Drawn) → reading (instead (row_of t.paths o) (behind t os) r) ≡ aimed_lot o (aim_lots t os) (reading r)
      go (drew ds left) = rw (order_row t.paths o h) (chances _ left)
      go short = refl

  -- the lots that aimed bytes give
  pub lots-aimed : (r : ℕ) (os : List (List ℕ)) → Orders t os → (bs : List ℕ) → lots_in t r (aim_lots t os bs) ≡ reorder os (lots_in t r bs)
  unfolding lots_in reorder Orders rewrite_lots
  lots-aimed r [] h bs = sym (reorder_none (lots_in t r bs))
  lots-aimed zero (o ∷ os) h bs = refl
  lots-aimed (suc r) (o ∷ os) h bs = ap (λ g. and_lots g (lots_in t r)) (lot-aimed o os h.0 h.1 bs) ∙ go (lot_in t bs) (lots-aimed r os h.1)
    where
      go : (g : Got (Had Lot)) → ((bs : List ℕ) → lots_in t r (aim_lots t os bs) ≡ reorder os (lots_in t r bs)) → and_lots (aimed_lot o (aim_lots t os) g) (lots_in t r) ≡ reorder (o ∷ os) (and_lots g (lots_in t r))
      go (got h) more = ap (λ ls. record { order = o; chances = h.what.chances } ∷ ls) (more h.left)
      go (refused f) more = refl

  -- and what is left over
  each-each : {A B C : Type 0} (f : A → B) (g : B → C) (x : Got (Had A)) → each_as g (each_as f x) ≡ each_as (λ y. g (f y)) x
  each-each f g (got h) = refl
  each-each f g (refused n) = refl

  each_none : (y : Got (Had (List Lot))) → y ≡ each_as (reorder []) y
  each_none (got h) = ap (λ ls. got record { what = ls; left = h.left }) (sym (reorder_none h.what))
  each_none (refused n) = refl

  pub turns_aimed : (r : ℕ) (os : List (List ℕ)) → length os ≤ r → Orders t os → (bs : List ℕ) → in_turn (lot_in t) r (aim_lots t os bs) ≡ each_as (reorder os) (in_turn (lot_in t) r bs)
  unfolding in_turn reorder Orders rewrite_lots
  turns_aimed r [] l h bs = each_none (in_turn (lot_in t) r bs)
  turns_aimed zero (o ∷ os) l h bs = absurd (omega arith)
  turns_aimed (suc r) (o ∷ os) l h bs =
      ap (λ g. and_then g (λ h. each_as (λ xs. h.what ∷ xs) (in_turn (lot_in t) r h.left))) (lot-aimed o os h.0 h.1 bs) ∙ go (lot_in t bs) (turns_aimed r os (omega arith) h.1)
    where
      go : (g : Got (Had Lot)) → ((bs : List ℕ) → in_turn (lot_in t) r (aim_lots t os bs) ≡ each_as (reorder os) (in_turn (lot_in t) r bs)) →
          and_then (aimed_lot o (aim_lots t os) g) (λ h. each_as (λ xs. h.what ∷ xs) (in_turn (lot_in t) r h.left))
          ≡ each_as (reorder (o ∷ os)) (and_then g (λ h. each_as (λ xs. h.what ∷ xs) (in_turn (lot_in t) r h.left)))
      go (got h) more =
          let x = in_turn (lot_in t) r h.left in
          ap (each_as (λ xs. record { order = o; chances = h.what.chances } ∷ xs)) (more h.left) ∙ (each-each (reorder os) _ x ∙ sym (each-each (λ xs. h.what ∷ xs) (reorder (o ∷ os)) x))
      go (refused f) more = refl

-- what drawn bytes give: lots of the task
module _ (t : Task) (k : t.paths ≤ 2 ^ 32) where
  pub lots_are : (r : ℕ) (bs : List ℕ) → T (all_below 256 bs) → Lots t (lots_in t r bs)
  unfolding lots_in Lots
  lots_are zero bs b = tt
  lots_are (suc r) bs b = go (lot_in t bs) refl (lots_are r)
    where
      go : (g : Got (Had Lot)) → lot_in t bs ≡ g → ((bs : List ℕ) → T (all_below 256 bs) → Lots t (lots_in t r bs)) → Lots t (and_lots g (lots_in t r))
      go (got h) e more =
          let l = lots_had t k bs b h e in
          (record { order = l.order; chances = l.chances; bytes = l.bytes }, more h.left (rw l.rest.1 (below-drop 256 _ bs b)))
      go (refused f) e more = tt

  -- the order that was drawn, aimed at itself
  own_order : (bs : List ℕ) → T (all_below 256 bs) → (h : Had Lot) (os : List (List ℕ)) → lot_in t bs ≡ got h → aim_lots t os h.left ≡ h.left → aim_lots t (h.what.order ∷ os) bs ≡ bs
  unfolding rewrite_lots
  own_order bs b h os e own = go (draw (2 ^ 32) (order_moduli t.paths) (values_of 256 bs)) refl (draw-within (2 ^ 32) _ (serve-order (2 ^ 32) t.paths k) (values_of 256 bs)) e
    where
      go : (r : Drawn) → draw (2 ^ 32) (order_moduli t.paths) (values_of 256 bs) ≡ r → Within (order_moduli t.paths) r → reading t (on_bytes bs r) ≡ got h → aim_lots t (h.what.order ∷ os) bs ≡ bs
      go (drew ds left) d w g =
          let rest = drop (4 * (length bs / 4 - length left)) bs in
          let c = chances_had t.trains (order_of t.paths ds) rest h g in
          subst (λ (x : Had Lot). aim_lots t os x.left ≡ x.left → aim_lots t (x.what.order ∷ os) bs ≡ bs) c.1
          (λ own. rw (row_order t.paths ds w) (aim_own (behind t os) _ ds w bs rest b (ap (on_bytes bs) d) (ap (λ xs. take (32 * t.trains) rest ++ xs) own ∙ take-append-drop (32 * t.trains) rest)))
          own
      go short d w g = cc

  pub lots_own : (r : ℕ) (bs : List ℕ) → T (all_below 256 bs) → aim_lots t (orders_of (lots_in t r bs)) bs ≡ bs
  unfolding lots_in rewrite_lots
  lots_own zero bs b = refl
  lots_own (suc r) bs b = go (lot_in t bs) refl (lots_own r)
    where
      go : (g : Got (Had Lot)) → lot_in t bs ≡ g → ((bs : List ℕ) → T (all_below 256 bs) → aim_lots t (orders_of (lots_in t r bs)) bs ≡ bs) → aim_lots t (orders_of (and_lots g (lots_in t r))) bs ≡ bs
      go (got h) e more = own_order bs b h _ e (more h.left (rw (lots_had t k bs b h e).rest.1 (below-drop 256 _ bs b)))
      go (refused f) e more = refl
