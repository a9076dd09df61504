-- Numbers of paths, pairs that are not there, and boxes that are not there. Assumes nothing.
use Rattle.std.proofs.Common.{◌≡◌, ℕ, ◌+◌, ◌*◌, ◌/◌, ◌<◌, ◌≤◌, Bool, true, false, ◌&&◌, T, leb, ltb, ◌⊎◌, None, Some, Option, Ok, Err, Result, get_or, List, [], ◌∷◌, ◌++◌, length, drop, unwrap_or, sym, refl, ap, ◌∙◌, inl, inr, arith}
use denote.Ref.{Bor}
use Rattle.std.specs.Bool.{then_some}
use Rattle.std.specs.Option.{MatchOption, is_some, option_copied, option_map}
use Rattle.std.specs.Result.{result_ok}
use Rattle.std.specs.Simd.{first_chunks}
use Rattle.std.proofs.lemmas.List.{length-drop, length-map, length-take}
use Rattle.std.proofs.lemmas.Bool.{cases_Bool, ltb-true, ltb-false, leb-false, cond-true, eq-eqb, ne_eqb, le-leb, lt-leb, and_parts, cond-false}
use Rattle.paths.specs.Plan.{Pair, Task, at, pairs_in}
use Rattle.paths.specs.Show.{pair_at}
use Rattle.paths.proofs.Rows.{pairs-at}
use Rattle.paths.specs.Count.{same_row}
use Rattle.tasks.specs.declared.fault.Fault.{Fault}
use Rattle.tasks.specs.declared.pair.Pair.{Pair as CodePair}
use Rattle.tasks.specs.Pair.{pair_of}
use Rattle.tasks.specs.Reading.{got, refused, gives}
use Rattle.tasks.specs.Task.{lowest, is_there, rises, rising}
use Rattle.fitting.specs.Pairs.{asked_pair}
use Rattle.sha256.specs.Sha256.{sha256}
use Rattle.boxes.specs.Box.{Opening, text_of, boxes_of, opens_box}
use Rattle.boxes.proofs.Boxes.{length-boxes}
use Rattle.boxes.proofs.Parts.{first_chunks_at}
use Rattle.boxes.proofs.Digests.{length-sha256}
use Rattle.paths.proofs.Same.{same_decides}
use Rattle.words.specs.Said.{boxes}
use Rattle.words.specs.Writing.{said_bytes, wrote, no_room}
use Rattle.words.proofs.Puts.{write-all, write-none}
use Rattle.round.specs.Round.{held, write_boxes, part_of, opens_in}

-- The Boxes, put as the code puts them: the head, and the boxes behind it
module _ (n : ℕ) (p order chances : List ℕ) where
  abbrev all : List ℕ
  all = boxes_of sha256 n 0 (held p order) chances

  boxes-long : length all ≡ 32 * length p
  boxes-long = length-boxes sha256 n length-sha256 (held p order) chances 0 ∙ ap (λ k. 32 * k) (length-map p (at order))

  pub boxes-size : length (said_bytes (boxes n all)) ≡ 7 + 32 * length p
  boxes-size = omega (arith, boxes-long)

  pub boxes_written : (out after : List ℕ) (k : ℕ) → k ≡ length p → length chances + 7 ≡ 7 + 32 * k → 7 + 32 * k ≤ length out →
      after ≡ said_bytes (boxes n all) ++ drop (7 + 32 * length p) out → wrote (7 + 32 * k) after ≡ write_boxes sha256 n p (record { order = order; chances = chances }) out
  boxes_written out after k e l h a =
      rw (e, eq-eqb (length chances) (32 * length p) (omega arith)) (write-all (said_bytes (boxes n all)) out after _ boxes-size (omega arith) a)

  pub boxes-refused : (out : List ℕ) (k : ℕ) → k ≡ length p → (length chances + 7 ≡ 7 + 32 * k → ⊥) ⊎ ((length chances + 7 ≡ 7 + 32 * k) × (length out < 7 + 32 * k)) →
      no_room out ≡ write_boxes sha256 n p (record { order = order; chances = chances }) out
  boxes-refused out k e (inl ne) = rw (ne_eqb (length chances) (32 * length p) (λ x. ne (omega arith))) refl
  boxes-refused out k e (inr h) = rw (eq-eqb (length chances) (32 * length p) (omega arith)) (write-none (said_bytes (boxes n all)) out _ boxes-size (omega arith))

-- part i of 32 bytes, as the library's chunk
pub part-is : (bs : List ℕ) (chunks : List (List ℕ)) (i : ℕ) (r : Option (Bor (List ℕ))) → chunks ≡ first_chunks 32 (length bs / 32) bs → length chunks ≡ length bs / 32 →
    is_some r ≡ ltb i (length chunks) → ((d : List ℕ) → unwrap_or (option_map (λ x. x.now) r) d ≡ get_or chunks i d) →
    option_copied r ≡ then_some (leb (32 * i + 32) (length bs)) (part_of bs i)
part-is bs chunks i None e l h g =
    let m = ltb-false i (length chunks) (sym h) in
    rw (lt-leb (32 * i + 32) (length bs) (omega arith)) refl
part-is bs chunks i (Some x) e l h g =
    let m = ltb-true i (length chunks) (sym h) in
    let c = ap (λ xs. get_or xs i []) e ∙ first_chunks_at 32 (length bs / 32) bs i (omega arith) in
    rw (le-leb (32 * i + 32) (length bs) (omega arith)) (ap Some (g [] ∙ c))

no_part : (b : Bool) (x : List ℕ) → None ≡ then_some b x → b ≡ false
no_part true x e = cc
no_part false x e = refl

had_part : (b : Bool) (x d : List ℕ) → Some d ≡ then_some b x → d ≡ x
had_part true x d e = cc
had_part false x d e = cc

pub not_same : (xs ys : List ℕ) → (length xs ≡ length ys → ⊥) → false ≡ same_row xs ys
not_same xs ys h = go (cases_Bool (same_row xs ys))
  where
    go : (same_row xs ys ≡ true) ⊎ (same_row xs ys ≡ false) → false ≡ same_row xs ys
    go (inl e) = absurd (h (ap length ((same_decides xs ys).0 e)))
    go (inr e) = sym e

-- a box that isn't there is not opened
pub opens-none : (H : List ℕ → List ℕ) → ((x : List ℕ) → length (H x) ≡ 32) → (n : ℕ) (digests : List ℕ) (x : Opening) → length digests < 32 * x.train + 32 →
    false ≡ opens_in H n digests x
opens-none H h n digests x l =
    let short : length (part_of digests x.train) < 32 = simp (length-take, length-drop) (omega arith) in
    not_same (H (text_of n x)) (part_of digests x.train) (λ e. omega (arith, h (text_of n x), e, short))

-- so a train's box is looked for, and then opened
pub opens-part : (n : ℕ) (digests : List ℕ) (x : Opening) (part : Option (List ℕ)) (r : Bool) → part ≡ then_some (leb (32 * x.train + 32) (length digests)) (part_of digests x.train) →
    MatchOption part (r ≡ false) (λ d. r ≡ opens_box sha256 d n x) → r ≡ opens_in sha256 n digests x
opens-part n digests x None r e m = m ∙ opens-none sha256 length-sha256 n digests x (leb-false _ _ (no_part _ _ e))
opens-part n digests x (Some d) r e m = m ∙ ap (λ y. opens_box sha256 y n x) (had_part _ _ d e)

-- the trains of a pair that is there are there
pub rising_in : (n : ℕ) (last : Pair) (xs : List Pair) → rising n last xs ≡ true → T (pairs_in n xs)
unfolding rising pairs_in
rising_in n last [] h = tt
rising_in n last (x ∷ xs) h =
    let p = and_parts (is_there n x && rises last x) (rising n x xs) h in
    rw (and_parts (is_there n x) (rises last x) p.0).0 (rising_in n x xs p.1)

pub asked-there : (t : Task) (i : ℕ) (x : Pair) → rising t.trains lowest t.pairs ≡ true → got x ≡ asked_pair t i → (x.a < t.trains) × (x.e < t.trains)
asked-there t i x r h = go (cases_Bool (ltb i (length t.pairs)))
  where
    go : (ltb i (length t.pairs) ≡ true) ⊎ (ltb i (length t.pairs) ≡ false) → (x.a < t.trains) × (x.e < t.trains)
    go (inl e) =
        let g = cond-true _ (got (pair_at t i)) (refused 7) e in
        let y : x ≡ pair_at t i = cc in
        rw y (pairs-at t.trains t.pairs lowest (rising_in t.trains lowest t.pairs r) i (ltb-true _ _ e))
    go (inr e) = let g = cond-false _ (got (pair_at t i)) (refused 7) e in let z : ◌≡◌ {A = ℕ} 0 1 = cc in absurd (omega arith)

pub asked_code : (t : Task) (i : ℕ) (r : Result CodePair Fault) (x : CodePair) → rising t.trains lowest t.pairs ≡ true → gives pair_of r ≡ asked_pair t i → Some x ≡ result_ok r →
    ((pair_of x).a < t.trains) × ((pair_of x).e < t.trains)
asked_code t i (Ok y) x h g e = let z : x ≡ y = cc in asked-there t i (pair_of x) h (ap (λ p. got (pair_of p)) z ∙ g)
asked_code t i (Err f) x h g e = cc
