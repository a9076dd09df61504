-- How long each word is.
use Rattle.std.proofs.Common.{◌≡◌, ℕ, ◌+◌, ◌*◌, true, ◌&&◌, eqb, ltb, List, length, arith, length-append}
use Rattle.std.proofs.lemmas.Bool.{and_parts, eqb-true}
use Rattle.paths.specs.Plan.{Task, Plan}
use Rattle.boxes.specs.Box.{Opening}
use Rattle.words.specs.Said.{plan, boxes, opened}
use Rattle.words.specs.Writing.{said_bytes, is_said, is_round, is_opening}

pub opened-size : (r : ℕ) (x y : Opening) → length x.chance ≡ 32 → length y.chance ≡ 32 → length (said_bytes (opened r x y)) ≡ 75
opened-size r x y h g = simp length-append (omega arith)

module _ (t : Task) where
  pub plan-length : (p : Plan) → is_said t (plan p) ≡ true → length (said_bytes (plan p)) ≡ 3 + t.trains
  plan-length p h = omega (arith, eqb-true _ _ (and_parts (eqb (length p) t.trains) _ h).0)

  pub boxes-length : (r : ℕ) (ds : List ℕ) → is_said t (boxes r ds) ≡ true → length (said_bytes (boxes r ds)) ≡ 7 + 32 * t.trains
  boxes-length r ds h = omega (arith, eqb-true _ _ (and_parts (is_round r) (eqb (length ds) (32 * t.trains)) h).1)

  chance-length : (o : Opening) → is_opening o ≡ true → length o.chance ≡ 32
  chance-length o h = eqb-true _ _ (and_parts (ltb o.train 65536) (eqb (length o.chance) 32) h).1

  pub opened-length : (r : ℕ) (x y : Opening) → is_said t (opened r x y) ≡ true → length (said_bytes (opened r x y)) ≡ 75
  opened-length r x y h =
      let q = and_parts (is_opening x) (is_opening y) (and_parts (is_round r) (is_opening x && is_opening y) h).1 in
      opened-size r x y (chance-length x q.0) (chance-length y q.1)
