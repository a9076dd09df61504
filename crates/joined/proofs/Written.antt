-- The words of a round that a plan and a lot give are read as they were written, and the Opened is accepted. Assumes nothing.
use Rattle.std.proofs.Common.{◌≡◌, ℕ, ◌*◌, ◌^◌, ◌<◌, ◌≤◌, Bool, true, cond, T, eqb, ltb, List, length, refl, ap, ◌∙◌, arith, length-drop, length-take}
use Rattle.std.proofs.lemmas.List.{length-map}
use Rattle.std.proofs.lemmas.Bool.{lt-ltb, eq-eqb, eqb-true, ltb-true, and_parts, and_from}
use Rattle.paths.specs.Plan.{Task, Plan, Good, at, fits, all_below}
use Rattle.paths.proofs.Rows.{pairs-at}
use Rattle.tasks.specs.Reading.{Got, got, refused, and_then}
use Rattle.tasks.specs.Task.{sound, lowest}
use Rattle.tasks.specs.Writing.{task_bytes}
use Rattle.tasks.proofs.TaskLaws.{guarantees, task_law}
use Rattle.tasks.proofs.Units.{then_got, cond-got}
use Rattle.fitting.specs.Pairs.{asked_pair}
use Rattle.book.specs.Chain.{Sized}
use Rattle.boxes.specs.Box.{boxes_of}
use Rattle.boxes.proofs.Boxes.{laid}
use Rattle.lots.specs.Lots.{Had, Lot, lot_in}
use Rattle.lots.specs.Laws.{LotHad}
use Rattle.lots.proofs.Coins.{lots_had}
use Rattle.words.specs.Said.{Said, task, plan, boxes, ask, opened, end}
use Rattle.words.specs.Reading.{read_word}
use Rattle.words.specs.Writing.{is_got, said_bytes, WordLaw, is_round, is_opening}
use Rattle.words.proofs.Laws.{word_law}
use Rattle.round.specs.Round.{held, part_of, boxes_for, opening_for, opened_for, test_opened}
use Rattle.round.proofs.Rounds.{rising_in}
use Rattle.round.proofs.Complete.{complete}
use Rattle.planning.specs.Planning.{on_ask}

-- the Ask that is answered
pub ask_had : (t : Task) (n i : ℕ) (g : Got Said) → and_then g (on_ask t n) ≡ got i → (g ≡ got (ask n i)) × (i < length t.pairs)
ask_had t n i (refused f) e = cc
ask_had t n i (got (task bs)) e = cc
ask_had t n i (got (plan p)) e = cc
ask_had t n i (got (boxes r ds)) e = cc
ask_had t n i (got (opened r x y)) e = cc
ask_had t n i (got (end r c)) e = cc
ask_had t n i (got (ask r j)) e =
    let p = then_got (cond (eqb r n) (got j) (refused 6)) (λ j. and_then (asked_pair t j) (λ _. got j)) i e in
    let q = then_got (asked_pair t p.0) (λ _. got p.0) i p.2 in
    let a = cond-got (eqb r n) 6 _ p.0 p.1 in
    let r-is = eqb-true r n a.0 in
    let j-is : j ≡ p.0 = cc a.1 in
    let i-is : p.0 ≡ i = cc q.2 in
    (cc, omega (arith, ltb-true _ _ (cond-got (ltb p.0 (length t.pairs)) 7 _ q.0 q.1).0))

-- and an Ask of this round for a pair that is there is answered
pub asked_for : (t : Task) (n i : ℕ) → i < length t.pairs → on_ask t n (ask n i) ≡ got i
asked_for t n i k = rw (eq-eqb n n refl, lt-ltb i _ k) refl

module _ (H : List ℕ → List ℕ) (sized : Sized H) (t : Task) (good : sound t ≡ true) (p : Plan) (fp : fits t p ≡ true) (r : ℕ) (few : r ≤ 2 ^ 32) where
  law : WordLaw t
  law = word_law t (omega (arith, (guarantees t good).few_trains))

  good_task : Good t
  good_task = (rising_in t.trains lowest t.pairs (guarantees t good).rises, (guarantees t good).some_pair, (guarantees t good).some_path)

  for_each : length p ≡ t.trains
  for_each = eqb-true _ _ (and_parts _ _ (and_parts _ _ fp).0).0

  is_round_lem : (n : ℕ) → n < r → is_round n ≡ true
  is_round_lem n k = lt-ltb n 4294967296 (omega arith)

  pub lot_had : (drawn : List ℕ) → T (all_below 256 drawn) → (h : Had Lot) → lot_in t drawn ≡ got h → LotHad t drawn h
  lot_had = lots_had t (omega (arith, (guarantees t good).few_paths))

  pub task-reads : read_word t (task_bytes t) ≡ got (task (task_bytes t))
  task-reads = law.reads (task (task_bytes t)) (ap is_got (task_law.reads t good))

  pub ask-reads : (n i : ℕ) → n < r → i < length t.pairs → read_word t (said_bytes (ask n i)) ≡ got (ask n i)
  ask-reads n i k l = law.reads (ask n i) (and_from _ _ (is_round_lem n k) (lt-ltb i 65536 (omega (arith, (guarantees t good).few_pairs))))

  pub end_reads : (n : ℕ) (c : Bool) → n < r → read_word t (said_bytes (end n c)) ≡ got (end n c)
  end_reads n c k = law.reads (end n c) (is_round_lem n k)

  pub boxes-reads : (n : ℕ) (l : Lot) → n < r → read_word t (said_bytes (boxes_for H n p l)) ≡ got (boxes_for H n p l)
  boxes-reads n l k =
      let long : length (boxes_of H n 0 (held p l.order) l.chances) ≡ 32 * t.trains =
      (laid H sized).long n 0 (held p l.order) l.chances ∙ ap (λ m. 32 * m) (length-map p (at l.order) ∙ for_each) in
      law.reads (boxes_for H n p l) (and_from _ _ (is_round_lem n k) (eq-eqb _ _ long))

  is_opening_lem : (l : Lot) → length l.chances ≡ 32 * t.trains → (i : ℕ) → i < t.trains → is_opening (opening_for p l i) ≡ true
  is_opening_lem l c i k =
      let long : length (part_of l.chances i) ≡ 32 = simp (length-take, length-drop) (omega arith) in
      and_from _ _ (lt-ltb i 65536 (omega (arith, (guarantees t good).few_trains))) (eq-eqb _ _ long)

  pub opened-reads : (n : ℕ) (l : Lot) → length l.chances ≡ 32 * t.trains → (i : ℕ) → n < r → i < length t.pairs →
      read_word t (said_bytes (opened_for t n p l i)) ≡ got (opened_for t n p l i)
  opened-reads n l c i k there =
      let s = pairs-at t.trains t.pairs lowest good_task.0 i there in
      law.reads (opened_for t n p l i) (and_from _ _ (is_round_lem n k) (and_from _ _ (is_opening_lem l c _ s.0) (is_opening_lem l c _ s.1)))

  pub accepted : (drawn : List ℕ) (h : Had Lot) → LotHad t drawn h → (n i : ℕ) → i < length t.pairs →
      test_opened H t n i (boxes_of H n 0 (held p h.what.order) h.what.chances) (opened_for t n p h.what i) ≡ got tt
  accepted drawn h had n i k = complete H sized t good_task p fp h.what had.order n i k
