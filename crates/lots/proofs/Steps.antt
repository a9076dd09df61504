-- The steps of drawing: a value is used, passed over, or not all there; and an exchange before those that are left. Assumes nothing.
use Rattle.std.proofs.Common.{◌≡◌, ℕ, zero, suc, ◌+◌, ◌-◌, ◌*◌, ◌%◌, ◌^◌, ◌<◌, ◌≤◌, Bool, true, false, cond, ltb, leb, List, [], ◌∷◌, ◌++◌, length, take, drop, set, None, Some, Option, sym, refl, ap, ◌∙◌, subst, le_trans, add_assoc, add-one, arith, lit≤}
use Rattle.std.proofs.lemmas.List.{drop_more, drop-drop, take_more_set}
use Rattle.std.proofs.lemmas.Bool.{lt-ltb, le-ltb, le-leb, leb-true, and_from}
use Rattle.paths.specs.Plan.{at, all_below, different}
use Rattle.paths.specs.Order.{is_order, order_of as codeOrder}
use Rattle.paths.specs.declared.order.Order.{Order}
use Rattle.std.specs.Option.{IsSome, option_map}
use Rattle.std.specs.Bool.{then_some}
use Rattle.std.specs.Int.{w32, from_be_bytes}
use Rattle.paths.specs.Cheat.{up_to}
use Rattle.drawing.specs.Drawing.{limit, Drawn, drew, short, more, onto, and_then, draw, values_of, exchange, exchanges, order_moduli, order_of}
use Rattle.drawing.specs.Uniform.{IsOrder}
use Rattle.drawing.proofs.Tests.{is_true}
use Rattle.drawing.proofs.Aiming.{Within, draw-within}
use Rattle.drawing.proofs.Even.{serve-order}
use Rattle.drawing.proofs.Exchanges.{length-up_to}
use Rattle.drawing.proofs.Orders.{order_is}
use Rattle.tasks.specs.Reading as reading
use Rattle.tasks.specs.Reading.{Got, got, refused}
use Rattle.lots.specs.Lots.{on_bytes, drawn, Had, had_by, number_in, exchanged_in, order_in, Lot, chances_in}
use Rattle.lots.specs.Views.{value_at, EndOf}
use Rattle.lots.proofs.Draws.{OfDrawn, drawn-none, drawn-short, drawn-four, drawn-long, bytes-in_turn}

four-at : (bs : List ℕ) (i : ℕ) → i + 4 ≤ length bs → drop i bs ≡ at bs i ∷ at bs (i + 1) ∷ at bs (i + 2) ∷ at bs (i + 3) ∷ drop (i + 4) bs
four-at bs i l =
    let a = drop_more bs i 0 (omega arith) in
    let b = drop_more bs (i + 1) 0 (omega arith) in
    let c = drop_more bs (i + 2) 0 (omega arith) in
    let d = drop_more bs (i + 3) 0 (omega arith) in
    let e = add_assoc i 1 1 in
    let f = add_assoc i 2 1 in
    let g = add_assoc i 3 1 in
    cc

pub value_read : (bs : List ℕ) → 4 ≤ length bs → from_be_bytes w32 (take 4 bs) ≡ value_at bs 0
value_read (a ∷ b ∷ c ∷ d ∷ bs) l = omega arith
value_read [] l = absurd (omega arith)
value_read (a ∷ []) l = absurd (omega arith)
value_read (a ∷ b ∷ []) l = absurd (omega arith)
value_read (a ∷ b ∷ c ∷ []) l = absurd (omega arith)

module _ (s : ℕ) (bs : List ℕ) (i : ℕ) where
  four-drawn : i + 4 ≤ length bs →
      drawn (s ∷ []) (drop i bs) ≡ cond (ltb (value_at bs i) (limit (2 ^ 32) s)) (more (value_at bs i % s) (drawn [] (drop (i + 4) bs))) (drawn (s ∷ []) (drop (i + 4) bs))
  four-drawn l = ap (drawn (s ∷ [])) (four-at bs i l) ∙ drawn-four s [] (at bs i) (at bs (i + 1)) (at bs (i + 2)) (at bs (i + 3)) (drop (i + 4) bs)

  pub number_used : i + 4 ≤ length bs → value_at bs i < limit (2 ^ 32) s → number_in s (drop i bs) ≡ got record { what = value_at bs i % s; left = drop (i + 4) bs }
  number_used l u =
      ap (had_by (λ ds. at ds 0)) (four-drawn l ∙ ap (λ t. cond t (more (value_at bs i % s) (drawn [] (drop (i + 4) bs))) (drawn (s ∷ []) (drop (i + 4) bs))) (lt-ltb _ _ u)
      ∙ ap (more (value_at bs i % s)) (drawn-none (drop (i + 4) bs)))

  pub number-over : i + 4 ≤ length bs → limit (2 ^ 32) s ≤ value_at bs i → number_in s (drop i bs) ≡ number_in s (drop (i + 4) bs)
  number-over l u =
      ap (had_by (λ ds. at ds 0)) (four-drawn l ∙ ap (λ t. cond t (more (value_at bs i % s) (drawn [] (drop (i + 4) bs))) (drawn (s ∷ []) (drop (i + 4) bs))) (le-ltb _ _ u))

-- the next four bytes, used or passed over; and fewer than four
module _ (s : ℕ) (bs four left : List ℕ) (v : ℕ) (f : four ≡ take 4 bs) (l : left ≡ drop 4 bs) (n : 4 ≤ length bs) (e : v ≡ from_be_bytes w32 four) where
  value : v ≡ value_at bs 0
  value = e ∙ ap (from_be_bytes w32) f ∙ value_read bs n

  pub four_used : v < limit (2 ^ 32) s → got record { what = v % s; left = left } ≡ number_in s bs
  four_used u = rw (value, l) (sym (number_used s bs 0 n (subst (λ x. x < limit (2 ^ 32) s) value u)))

  pub four-over : limit (2 ^ 32) s ≤ v → number_in s left ≡ number_in s bs
  four-over u = rw l (sym (number-over s bs 0 n (subst (λ x. limit (2 ^ 32) s ≤ x) value u)))

pub number-none : (s : ℕ) (bs : List ℕ) → length bs < 4 → number_in s bs ≡ refused 11
number-none s bs l = ap (had_by (λ ds. at ds 0)) (drawn-short s [] bs l)

-- the last of the last of the bytes
pub end_more : (n : ℕ) (bs rest left : List ℕ) → EndOf bs rest → left ≡ drop n rest → EndOf bs left
end_more n bs rest left (k, e) f = (k + n, f ∙ ap (drop n) e ∙ drop-drop n k bs)

pub end_end : (bs rest left : List ℕ) → EndOf bs rest → EndOf rest left → EndOf bs left
end_end bs rest left e (n, f) = end_more n bs rest left e f

-- what is read after numbers that were drawn before
pub had_onto : {A : Type 0} (read : List ℕ → A) (ds : List ℕ) (r : Drawn) → had_by read (onto ds r) ≡ had_by (λ es. read (ds ++ es)) r
had_onto read ds (drew es left) = refl
had_onto read ds short = refl

pub had_same : {A : Type 0} (f g : List ℕ → A) → ((ds : List ℕ) → f ds ≡ g ds) → (r : Drawn) → had_by f r ≡ had_by g r
had_same f g e (drew ds left) = ap (λ x. got record { what = x; left = left }) (e ds)
had_same f g e short = refl

exchanges-first : (d : ℕ) (js : List ℕ) (i : ℕ) (row : List ℕ) → exchanges (d ∷ js) i row ≡ exchanges js (i - 1) (exchange i d row)
unfolding exchanges
exchanges-first d js i row = refl

-- a first exchange, drawn by a number below the number of places, and then the others
pub exchange-more : (i : ℕ) (row bs : List ℕ) →
    exchanged_in (suc (suc i)) row bs ≡ reading.and_then (number_in (suc (suc i)) bs) (λ h. exchanged_in (suc i) (exchange (suc i) h.what row) h.left)
unfolding order_moduli
exchange-more i row bs =
    ap (had_by (λ js. exchanges js (suc (suc i) - 1) row)) (bytes-in_turn (suc (suc i) ∷ []) (order_moduli (suc i)) bs)
    ∙ go (drawn (suc (suc i) ∷ []) bs) (drawn-long (suc (suc i) ∷ []) bs)
  where
    down : suc (suc i) - 1 ≡ suc i
    down = omega arith

    after : (d : ℕ) (js : List ℕ) → exchanges (d ∷ js) (suc (suc i) - 1) row ≡ exchanges js (suc i - 1) (exchange (suc i) d row)
    after d js = ap (λ k. exchanges (d ∷ js) k row) down ∙ exchanges-first d js (suc i) row

    go : (r : Drawn) → OfDrawn (λ ds left. (length ds ≡ 1) × ((k : ℕ) × (left ≡ drop k bs))) r →
        had_by (λ js. exchanges js (suc (suc i) - 1) row) (and_then r (drawn (order_moduli (suc i))))
        ≡ reading.and_then (had_by (λ ds. at ds 0) r) (λ h. exchanged_in (suc i) (exchange (suc i) h.what row) h.left)
    go (drew [] left) h = absurd (omega (arith, h.0))
    go (drew (d ∷ []) left) h = had_onto (λ js. exchanges js (suc (suc i) - 1) row) (d ∷ []) (drawn (order_moduli (suc i)) left) ∙ had_same _ _ (after d) (drawn (order_moduli (suc i)) left)
    go (drew (d ∷ e ∷ ds) left) h = absurd (omega (arith, h.0))
    go short h = refl

pub exchange-none : (k : ℕ) (row bs : List ℕ) → k < 2 → exchanged_in k row bs ≡ got record { what = row; left = bs }
unfolding order_moduli exchanges
exchange-none zero row bs l = ap (had_by (λ js. exchanges js (0 - 1) row)) (drawn-none bs)
exchange-none (suc zero) row bs l = ap (had_by (λ js. exchanges js (1 - 1) row)) (drawn-none bs)
exchange-none (suc (suc k)) row bs l = absurd (omega arith)

-- the same for the place k - 1 of the code
module _ (k : ℕ) (row bs : List ℕ) (l : 1 < k) where
  exchange_then : exchanged_in k row bs ≡ reading.and_then (number_in (k - 1 + 1) bs) (λ h. exchanged_in (k - 1) (exchange (k - 1) h.what row) h.left)
  exchange_then =
      let e : k ≡ suc (suc (k - 2)) = omega arith in
      let f : suc (suc (k - 2)) ≡ k - 1 + 1 = omega arith in
      let g : suc (k - 2) ≡ k - 1 = omega arith in
      ap (λ j. exchanged_in j row bs) e ∙ exchange-more (k - 2) row bs
      ∙ ap (λ j. reading.and_then (number_in j bs) (λ h. exchanged_in (suc (k - 2)) (exchange (suc (k - 2)) h.what row) h.left)) f
      ∙ ap (λ j. reading.and_then (number_in (k - 1 + 1) bs) (λ h. exchanged_in j (exchange j h.what row) h.left)) g

  after-number : (g : Got (Had ℕ)) → g ≡ number_in (k - 1 + 1) bs → reading.and_then g (λ h. exchanged_in (k - 1) (exchange (k - 1) h.what row) h.left) ≡ exchanged_in k row bs
  after-number g e = ap (λ g. reading.and_then g (λ h. exchanged_in (k - 1) (exchange (k - 1) h.what row) h.left)) e ∙ sym exchange_then

  pub exchange-step : (j : ℕ) (left after : List ℕ) → got record { what = j; left = left } ≡ number_in (k - 1 + 1) bs → after ≡ exchange (k - 1) j row →
      exchanged_in (k - 1) after left ≡ exchanged_in k row bs
  exchange-step j left after h e = ap (λ xs. exchanged_in (k - 1) xs left) e ∙ after-number (got record { what = j; left = left }) h

  pub exchange-refused : (f : ℕ) → refused f ≡ number_in (k - 1 + 1) bs → refused f ≡ exchanged_in k row bs
  exchange-refused f h = after-number (refused f) h

-- the row of all paths, one more
pub up_more : (row : List ℕ) (i : ℕ) → i < length row → take i row ≡ up_to i → take (i + 1) (set row i i) ≡ up_to (i + 1)
unfolding up_to
up_more row i l h = take_more_set row i i l ∙ ap (λ xs. xs ++ i ∷ []) h ∙ ap up_to (sym (add-one i))

-- what was drawn is an order
pub order_had : (k : ℕ) (bs : List ℕ) (h : Had (List ℕ)) → k ≤ 2 ^ 32 → got h ≡ order_in k bs → IsOrder k h.what
order_had k bs h l = go (draw (2 ^ 32) (order_moduli k) (values_of 256 bs)) (draw-within (2 ^ 32) (order_moduli k) (serve-order (2 ^ 32) k l) (values_of 256 bs))
  where
    go : (r : Drawn) → Within (order_moduli k) r → got h ≡ had_by (order_of k) (on_bytes bs r) → IsOrder k h.what
    go (drew ds left) w e = let f : order_of k ds ≡ h.what = cc in subst (IsOrder k) f (order_is k ds w)
    go short w e = let z : ◌≡◌ {A = ℕ} 0 1 = cc in absurd (omega arith)

some_order : (r : Option Order) (row : List ℕ) → option_map codeOrder r ≡ Some row → IsSome r
some_order None row e = cc
some_order (Some x) row e = refl

-- so an order is made of the row
pub order_made : (k : ℕ) (up row left bs : List ℕ) (r : Option Order) → 1 ≤ k → k ≤ 64 → up ≡ up_to k → got record { what = row; left = left } ≡ exchanged_in (length up) up bs →
    option_map codeOrder r ≡ then_some (is_order row) row → IsSome r
order_made k up row left bs r l m u e n =
    let h = order_had k bs (record { what = row; left = left }) (le_trans m (lit≤ tt)) (e ∙ ap (λ xs. exchanged_in (length xs) xs bs) u ∙ ap (λ n. exchanged_in n (up_to k) bs) (length-up_to k)) in
    let w = h.0 in
    let i : is_order row ≡ true = simp w (and_from _ _ (and_from _ _ (le-leb 1 k l) (le-leb k 64 m)) (and_from _ _ (is_true (different row) h.1) (is_true (all_below k row) h.2))) in
    some_order r row (n ∙ ap (λ b. then_some b row) i)

-- and the other way: a lot that was had
pub chances_had : (n : ℕ) (order bs : List ℕ) (h : Had Lot) → chances_in n order bs ≡ got h →
    (32 * n ≤ length bs) × (◌≡◌ {A = Had Lot} (record { what = record { order = order; chances = take (32 * n) bs }; left = drop (32 * n) bs }) h)
chances_had n order bs h = go (leb (32 * n) (length bs)) refl
  where
    go : (enough : Bool) → leb (32 * n) (length bs) ≡ enough →
        cond enough (got record { what = record { order = order; chances = take (32 * n) bs }; left = drop (32 * n) bs }) (refused 11) ≡ got h →
        (32 * n ≤ length bs) × (◌≡◌ {A = Had Lot} (record { what = record { order = order; chances = take (32 * n) bs }; left = drop (32 * n) bs }) h)
    go true l e = (leb-true _ _ l, cc)
    go false l e = let z : ◌≡◌ {A = ℕ} 0 1 = cc in absurd (omega arith)
