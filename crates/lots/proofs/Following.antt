-- Bytes that follow change nothing. Assumes nothing.
use Rattle.std.proofs.Common.{◌≡◌, ℕ, ◌*◌, ◌%◌, ◌^◌, ◌<◌, ◌≤◌, Bool, true, false, cond, ltb, List, [], ◌∷◌, ◌++◌, length, take, drop, sym, refl, ap, ◌∙◌, subst, arith, length-append}
use Rattle.std.proofs.lemmas.List.{take-append-le, drop-append-le}
use Rattle.std.proofs.lemmas.Bool.{le-leb}
use Rattle.paths.specs.Plan.{Task, at}
use Rattle.drawing.specs.Drawing.{limit, Drawn, drew, short, more, order_moduli, order_of}
use Rattle.tasks.specs.Reading as reading
use Rattle.tasks.specs.Reading.{Got, got, refused}
use Rattle.lots.specs.Lots.{drawn, Had, had_by, Lot, order_in, chances_in, lot_in, question_in}
use Rattle.lots.specs.Laws.{Follows}
use Rattle.lots.proofs.Draws.{value, drawn-none, drawn-short, drawn-four}
use Rattle.lots.proofs.Steps.{chances_had}

-- the same with more left over
abbrev Ahead : List ℕ → Drawn → Drawn → Type 0
Ahead after (drew ds left) r = r ≡ drew ds (left ++ after)
Ahead after short r = Unit {0}

module _ (after : List ℕ) where
  ahead_short : (s : ℕ) (ss bs : List ℕ) (r : Drawn) → length bs < 4 → Ahead after (drawn (s ∷ ss) bs) r
  ahead_short s ss bs r l = subst (λ q. Ahead after q r) (sym (drawn-short s ss bs l)) tt

  ahead_more : (d : ℕ) (q r : Drawn) → Ahead after q r → Ahead after (more d q) (more d r)
  ahead_more d (drew ds left) r h = ap (more d) h
  ahead_more d short r h = tt

  ahead_cond : (t : Bool) (d : ℕ) (q r x y : Drawn) → Ahead after q x → Ahead after r y → Ahead after (cond t (more d q) r) (cond t (more d x) y)
  ahead_cond true d q r x y g h = ahead_more d q x g
  ahead_cond false d q r x y g h = h

  ahead : (ss bs : List ℕ) → Ahead after (drawn ss bs) (drawn ss (bs ++ after))
  ahead [] bs = subst (λ q. Ahead after q (drawn [] (bs ++ after))) (sym (drawn-none bs)) (drawn-none (bs ++ after))
  ahead (s ∷ ss) [] = ahead_short s ss [] _ (omega arith)
  ahead (s ∷ ss) (a ∷ []) = ahead_short s ss (a ∷ []) _ (omega arith)
  ahead (s ∷ ss) (a ∷ b ∷ []) = ahead_short s ss (a ∷ b ∷ []) _ (omega arith)
  ahead (s ∷ ss) (a ∷ b ∷ c ∷ []) = ahead_short s ss (a ∷ b ∷ c ∷ []) _ (omega arith)
  ahead (s ∷ ss) (a ∷ b ∷ c ∷ d ∷ bs) =
      rw (drawn-four s ss a b c d bs, drawn-four s ss a b c d (bs ++ after))
      (ahead_cond (ltb (value a b c d) (limit (2 ^ 32) s)) (value a b c d % s) (drawn ss bs) (drawn (s ∷ ss) bs) (drawn ss (bs ++ after)) (drawn (s ∷ ss) (bs ++ after)) (ahead ss bs) (ahead (s ∷ ss) bs))

pub had_follows : {A : Type 0} (read : List ℕ → A) (ss : List ℕ) → Follows (λ bs. had_by read (drawn ss bs))
had_follows {A} read ss bs h e after = go (drawn ss bs) (drawn ss (bs ++ after)) e (ahead after ss bs)
  where
    go : (q r : Drawn) → had_by read q ≡ got h → Ahead after q r → had_by read r ≡ got record { what = h.what; left = h.left ++ after }
    go (drew ds left) r e f =
        let i : ◌≡◌ {A = Had A} (record { what = read ds; left = left }) h = cc in
        ap (had_by read) f ∙ ap (λ (x : Had A). got record { what = x.what; left = x.left ++ after }) i
    go short r e f = let z : ◌≡◌ {A = ℕ} 0 1 = cc in absurd (omega arith)

pub question_follows : (t : Task) → Follows (question_in t)
question_follows t = had_follows (λ ds. at ds 0) (length t.pairs ∷ [])

pub lot_follows : (t : Task) → Follows (lot_in t)
lot_follows t bs h e after = go (order_in t.paths bs) refl e
  where
    chances : (order left : List ℕ) → chances_in t.trains order left ≡ got h → chances_in t.trains order (left ++ after) ≡ got record { what = h.what; left = h.left ++ after }
    chances order left e =
        let p = chances_had t.trains order left h e in
        let l : 32 * t.trains ≤ length left = p.0 in
        let m = le-leb (32 * t.trains) (length (left ++ after)) (simp length-append (omega arith)) in
        ap (λ enough. cond enough (got record { what = record { order = order; chances = take (32 * t.trains) (left ++ after) }; left = drop (32 * t.trains) (left ++ after) }) (refused 11)) m
        ∙ rw (take-append-le, drop-append-le) (ap (λ (x : Had Lot). got record { what = x.what; left = x.left ++ after }) p.1)

    go : (g : Got (Had (List ℕ))) → order_in t.paths bs ≡ g → reading.and_then g (λ o. chances_in t.trains o.what o.left) ≡ got h →
        lot_in t (bs ++ after) ≡ got record { what = h.what; left = h.left ++ after }
    go (got o) f e =
        ap (λ g. reading.and_then g (λ o. chances_in t.trains o.what o.left)) (had_follows (order_of t.paths) (order_moduli t.paths) bs o f after)
        ∙ chances o.what o.left e
    go (refused n) f e = let z : ◌≡◌ {A = ℕ} 0 1 = cc in absurd (omega arith)
