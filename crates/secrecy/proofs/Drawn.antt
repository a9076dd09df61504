-- Secrecy over drawn bytes. Assumes nothing.
use Rattle.std.proofs.Common.{◌≡◌, ℕ, zero, suc, ◌^◌, ◌≤◌, Bool, T, eqb, List, [], ◌∷◌, length, sym, refl, ap, ◌∙◌, subst, arith}
use lib.Ieee.Fits.{and_i, and_l, and_r}
use Rattle.std.proofs.lemmas.List.{length-map}
use Rattle.paths.specs.Plan.{Task, Good, Plan, fits, all_below}
use Rattle.paths.specs.Pairing.{by_question}
use Rattle.paths.specs.Cheat.{count, asks}
use Rattle.paths.specs.Count.{is_row}
use Rattle.tasks.specs.Reading.{Got, got, refused}
use Rattle.lots.specs.Lots.{Had, Lot, lot_in, in_turn, each_as}
use Rattle.round.specs.Line.{Other}
use Rattle.planning.specs.Run.{showing}
use Rattle.secrecy.specs.View.{unaware, View, view_of}
use Rattle.secrecy.specs.Lots.{Lots, and_lots, lots_in, show_lots, pair_lot}
use Rattle.secrecy.specs.Secret.{paired, SameByLots}
use Rattle.secrecy.specs.Drawn.{paired_bytes, SameByBytes, SecretByBytes}
use Rattle.secrecy.proofs.ByLots.{by_lots-all}
use Rattle.secrecy.proofs.Secret.{keeps_secret}
use Rattle.secrecy.proofs.Aiming.{aimed_quotient}
use Rattle.secrecy.proofs.Often.{as_often}
use Rattle.secrecy.proofs.Orders.{Orders, aim_lots, orders_of, orders_of_lem, reorder, lots-long, lots-below, lots-first, lots-aimed, turns_aimed, lots_are, lots_own}

-- lots whose orders alone are changed are lots with other orders
pub reorder_by : (f : ℕ → Lot → Lot) → ((i : ℕ) (l : Lot) → (f i l).chances ≡ l.chances) → (is : List ℕ) (ls : List Lot) → reorder (orders_of (by_question f is ls)) ls ≡ by_question f is ls
unfolding reorder by_question
reorder_by f e is [] = refl
reorder_by f e [] (l ∷ ls) = ap (λ ms. l ∷ ms) (own ls)
  where
    own : (ls : List Lot) → reorder (orders_of ls) ls ≡ ls
    own [] = refl
    own (l ∷ ls) = ap (λ ms. l ∷ ms) (own ls)
reorder_by f e (i ∷ is) (l ∷ ls) = let c = sym (e i l) in let more = reorder_by f e is ls in λ j. record { order = (f i l).order; chances = c j } ∷ more j

lots-few : (t : Task) (r : ℕ) (bs : List ℕ) → length (lots_in t r bs) ≤ r
unfolding lots_in
lots-few t zero bs = omega arith
lots-few t (suc r) bs = go (lot_in t bs) (lots-few t r)
  where
    go : (g : Got (Had Lot)) → ((bs : List ℕ) → length (lots_in t r bs) ≤ r) → length (and_lots g (lots_in t r)) ≤ suc r
    go (got h) more = let k = more h.left in omega arith
    go (refused f) more = omega arith

-- a change of lots to others that differ in their orders alone, undone by the other
pub record Reorders (t : Task) (there back : List Lot → List Lot) : Type 0 where
  pub fitting : (ls : List Lot) → Lots t ls → Lots t (there ls)
  pub as_many : (ls : List Lot) → length (there ls) ≡ length ls
  pub orders_alone : (ls : List Lot) → reorder (orders_of (there ls)) ls ≡ there ls
  pub undo : (ls : List Lot) → Lots t ls → back (there ls) ≡ ls

-- the drawn bytes aimed at the orders of the lots that theirs are changed to
abbrev pub bytes_by : Task → ℕ → (List Lot → List Lot) → List ℕ → List ℕ
bytes_by t r there bs = aim_lots t (orders_of (there (lots_in t r bs))) bs

module _ (t : Task) (few : t.paths ≤ 2 ^ 32) (r : ℕ) where
  module _ (there back : List Lot → List Lot) (u : Reorders t there back) (bs : List ℕ) (b : T (all_below 256 bs)) where
    abbrev lots : List Lot
    lots = lots_in t r bs

    pub orders-by : Orders t (orders_of (there lots))
    orders-by = orders_of_lem t _ (u.fitting lots (lots_are t few r bs b))

    pub lots-by : lots_in t r (bytes_by t r there bs) ≡ there lots
    lots-by = lots-aimed t r _ orders-by bs ∙ u.orders_alone lots

    pub many-by : length (orders_of (there lots)) ≡ length lots
    many-by = length-map _ _ ∙ u.as_many lots

    pub bytes-back : bytes_by t r back (bytes_by t r there bs) ≡ bs
    bytes-back =
        ap (λ ls. aim_lots t (orders_of (back ls)) (bytes_by t r there bs)) lots-by
        ∙ (ap (λ ls. aim_lots t (orders_of ls) (bytes_by t r there bs)) (u.undo lots (lots_are t few r bs b))
        ∙ (lots-first t _ aimed_quotient _ _ orders-by (many-by ∙ sym (length-map _ _)) bs ∙ lots_own t few r bs b))

    -- the same bytes are left over
    left_same : (g : Got (Had (List Lot))) → ((h : Had (List Lot)) → g ≡ got h → lots ≡ h.what) → each_as (reorder (orders_of (there lots))) g ≡ each_as there g
    left_same (got h) e =
        let s = e h refl in
        ap (λ (ls : List Lot). got record { what = ls; left = h.left }) (ap (reorder (orders_of (there lots))) (sym s) ∙ (u.orders_alone lots ∙ ap there s))
    left_same (refused n) e = refl

    pub left_by : in_turn (lot_in t) r (bytes_by t r there bs) ≡ each_as there (in_turn (lot_in t) r bs)
    left_by = turns_aimed t r _ (omega (arith, many-by, lots-few t r bs)) orders-by bs ∙ left_same _ (by_lots-all t r bs).enough

    -- bytes of this length go with bytes of this length
    row-by : (many : ℕ) → T (is_row 256 many bs) → T (is_row 256 many (bytes_by t r there bs)) × (bytes_by t r back (bytes_by t r there bs) ≡ bs)
    row-by many h = (and_i _ _ (subst (λ n. T (eqb n many)) (sym (lots-long t _ orders-by bs)) (and_l _ _ h)) (lots-below t _ orders-by bs b), bytes-back)

  -- what is tested of bytes passes as often where they are changed so
  pub often_by : (there back : List Lot → List Lot) → Reorders t there back → Reorders t back there → (many : ℕ) (h g : List ℕ → Bool) →
      ((bs : List ℕ) → T (all_below 256 bs) → h bs ≡ g (bytes_by t r there bs)) → count h (asks 256 many) ≡ count g (asks 256 many)
  often_by there back u v many h g e =
      as_often 256 many g (bytes_by t r there) (bytes_by t r back) (λ bs k. row-by there back u bs (bytes_of bs k) many k) (λ bs k. row-by back there v bs (bytes_of bs k) many k) h
      (λ bs k. e bs (bytes_of bs k))
    where
      bytes_of : (bs : List ℕ) → T (is_row 256 many bs) → T (all_below 256 bs)
      bytes_of bs k = and_r (eqb (length bs) many) _ k

module _ (H : List ℕ → List ℕ) (size : (x : List ℕ) → length (H x) ≡ 32) (t : Task) (good : Good t) (few : t.paths ≤ 2 ^ 32) (f : Other) (r : ℕ) where
  abbrev secret : (p q : Plan) → T (fits t p) → T (fits t q) → SameByLots H t p q f r
  secret p q fp fq = keeps_secret H size t good p q fp fq f r

  pub paired-reorders : (p q : Plan) → T (fits t p) → T (fits t q) → Reorders t (paired H f t p q r) (paired H f t q p r)
  paired-reorders p q fp fq =
      let s = secret p q fp fq in
      record { fitting = s.fitting; as_many = s.as_many; orders_alone = λ ls. reorder_by (pair_lot t p q) (λ i l. refl) _ ls; undo = s.back_there }

  pub secret_drawn : (p q : Plan) → T (fits t p) → T (fits t q) → (bs : List ℕ) → T (all_below 256 bs) → SameByBytes H t p q f r bs
  secret_drawn p q fp fq bs b =
      let u = paired-reorders p q fp fq in
      let v = paired-reorders q p fq fp in
      let o = orders-by t few r _ _ u bs b in
      let s = secret p q fp fq in
      let m = many-by t few r _ _ u bs b in
      let l = lots-by t few r _ _ u bs b in
      let x = (by_lots-all t r bs).run H (unaware f) p in
      let y = (by_lots-all t r (paired_bytes H f t p q r bs)).run H (unaware f) q ∙ ap (show_lots H (unaware f) t q r) l in
      record {
        as_many = lots-long t _ o bs;
        bytes = lots-below t _ o bs b;
        lots = l;
        left = left_by t few r _ _ u bs b;
        places = λ os k. lots-first t _ (λ s x v e l. refl) _ os o (m ∙ sym k) bs;
        quotients = λ os k. lots-first t _ aimed_quotient _ os o (m ∙ sym k) bs;
        back_there = bytes-back t few r _ _ u bs b;
        there_back = bytes-back t few r _ _ v bs b;
        same = ap view_of x ∙ (s.same (lots_in t r bs) ∙ ap view_of (sym y));
        twins = rw (x, y, l) (s.twins (lots_in t r bs));
      }

pub keeps_secret_drawn : (H : List ℕ → List ℕ) → ((x : List ℕ) → length (H x) ≡ 32) → SecretByBytes H
keeps_secret_drawn H size t good few p q fp fq f r = record { drawn = there; as_often = often }
  where
    there : (bs : List ℕ) → T (all_below 256 bs) → SameByBytes H t p q f r bs
    there = secret_drawn H size t good few f r p q fp fq

    often : (test : View → Bool) (many : ℕ) → count (λ bs. test (view_of (showing H (unaware f) t p r bs))) (asks 256 many) ≡ count (λ bs. test (view_of (showing H (unaware f) t q r bs))) (asks 256 many)
    often test many =
        often_by t few r _ _ (paired-reorders H size t good few f r p q fp fq) (paired-reorders H size t good few f r q p fq fp) many _ (λ bs. test (view_of (showing H (unaware f) t q r bs)))
        (λ bs b. ap test (there bs b).same)
