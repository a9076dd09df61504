-- What a plan that fits and its lot give is accepted. Assumes nothing.
use Rattle.std.proofs.Common.{◌≡◌, ℕ, ◌<◌, true, T, List, length, refl, zero-add, arith}
use Rattle.std.proofs.lemmas.List.{get_or-map, length-map}
use Rattle.std.proofs.lemmas.Bool.{lt-ltb, eq-eqb, ne_eqb, and_parts, eqb-true}
use Rattle.paths.specs.Plan.{Plan, at, fits}
use Rattle.paths.specs.Show.{pair_at}
use Rattle.paths.proofs.Rows.{below_at, pairs-at, same_place}
use Rattle.paths.proofs.Paired.{pair-paths}
use Rattle.tasks.specs.Task.{lowest}
use Rattle.boxes.specs.Box.{box_text, boxes_of}
use Rattle.boxes.proofs.Boxes.{laid}
use Rattle.paths.proofs.Same.{same_itself}
use Rattle.lots.specs.Lots.{Lot}
use Rattle.round.specs.Round.{held, part_of, opening_for, opens_in, Complete}

module _ (H : List ℕ → List ℕ) (h : (x : List ℕ) → length (H x) ≡ 32) where
  -- a train's opening opens its box
  opens_own : (n : ℕ) (p : Plan) (l : Lot) (i : ℕ) → i < length p → opens_in H n (boxes_of H n 0 (held p l.order) l.chances) (opening_for p l i) ≡ true
  opens_own n p l i k =
      let e = (laid H h).each n 0 (held p l.order) l.chances i (rw length-map k) in
      let v : at (held p l.order) i ≡ at l.order (at p i) = get_or-map (at l.order) p i 0 0 k in
      rw (e, zero-add i, v) (same_itself (H (box_text n i (at l.order (at p i)) (part_of l.chances i))))

  pub complete : Complete H
  complete t good p fp l o n i k =
      let a = (pair_at t i).a in
      let e = (pair_at t i).e in
      let s = pairs-at t.trains t.pairs lowest good.0 i k in
      let f : T (fits t p) = rw fp tt in
      let g = pair-paths t good p f i k in
      let m : length p ≡ t.trains = eqb-true _ _ (and_parts _ _ (and_parts _ _ fp).0).0 in
      let x : at p a < length l.order = omega (arith, g.1, o.0) in
      let y : at p e < length l.order = omega (arith, g.2, o.0) in
      let b = below_at t.paths l.order o.2 (at p a) x in
      let d = below_at t.paths l.order o.2 (at p e) y in
      let ne = ne_eqb (at l.order (at p a)) (at l.order (at p e)) (λ q. g.0 (same_place l.order o.1 (at p a) (at p e) x y q)) in
      rw (
        lt-ltb a t.trains s.0,
        lt-ltb e t.trains s.1,
        eq-eqb n n refl,
        eq-eqb a a refl,
        eq-eqb e e refl,
        opens_own n p l a (omega (arith, s.0)),
        opens_own n p l e (omega (arith, s.1)),
        lt-ltb _ _ b,
        lt-ltb _ _ d,
        ne,
      )
      refl
