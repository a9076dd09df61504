-- The words of an honest planner pass. Assumes nothing.
use Rattle.std.proofs.Common.{◌≡◌, ℕ, zero, suc, ◌+◌, ◌*◌, ◌^◌, ◌<◌, ◌≤◌, Bool, true, false, T, List, [], ◌∷◌, map, reverse, length, take, drop, Some, None, sym, refl, ap, ◌∙◌, arith}
use Rattle.std.proofs.lemmas.List.{length-map, length-drop, length-take-le}
use Rattle.std.proofs.lemmas.Bool.{lt-ltb, eq-eqb, eqb-true, and_parts, and_from}
use Rattle.paths.specs.Plan.{Task, Plan, Good, fits, at, all_below}
use Rattle.paths.specs.Show.{pair_at}
use Rattle.paths.specs.Count.{same_row}
use Rattle.paths.proofs.Rows.{pairs-at}
use Rattle.tasks.specs.Reading.{got, refused, and_then}
use Rattle.tasks.specs.Task.{sound, lowest}
use Rattle.tasks.specs.Writing.{task_bytes}
use Rattle.tasks.proofs.TaskLaws.{Guarantees, guarantees}
use Rattle.fitting.specs.Pairs.{asked_pair}
use Rattle.boxes.specs.Box.{boxes_of}
use Rattle.boxes.proofs.Boxes.{length-boxes}
use Rattle.paths.proofs.Same.{same_itself}
use Rattle.book.specs.Chain.{Sized, after}
use Rattle.lots.specs.Lots.{Had, Lot, lot_in}
use Rattle.lots.specs.Laws.{LotHad}
use Rattle.lots.proofs.Chances.{below-drop}
use Rattle.lots.proofs.Coins.{lots_had}
use Rattle.words.specs.Said.{Said, boxes, ask, end}
use Rattle.words.specs.Reading.{read_word}
use Rattle.words.specs.Writing.{said_bytes, is_said, is_round, is_opening}
use Rattle.words.proofs.Laws.{word_law}
use Rattle.words.proofs.Lengths.{opened-size}
use Rattle.round.specs.Round.{held, part_of, opening_for, opened_for, test_opened}
use Rattle.round.proofs.Complete.{complete}
use Rattle.round.proofs.Rounds.{rising_in}
use Rattle.judging.specs.Verdict.{Content, not_content, agrees, first_of, first_drawn}
use Rattle.cutting.specs.Cutting.{Round, text_of, for_boxes, for_nothing, behind, cut_into, also_round, cut_from, cut}
use Rattle.judging.specs.Judging.{look, if_content, content_from, first_from, other_box, other_answer, other_train, or_else, differs_at, compared_in, redrawn_in, redrawn_from, left_in, left_over, book_of, judge}
use Rattle.judging.specs.Honest.{boxes_word, ask_word, opened_word, end_word, Honest, over, round1, round0, short0, HonestPasses}
use Rattle.cutting.proofs.Cuts.{round_with, cut-whole, cut_short_lem}

-- no box differs from itself
first_same : (ds : List ℕ) (i m : ℕ) → first_from (other_box ds ds) i m ≡ None
unfolding first_from
first_same ds i zero = refl
first_same ds i (suc m) = rw (same_itself (part_of ds i)) (first_same ds (i + 1) m)

module _ (H : List ℕ → List ℕ) (sized : Sized H) (t : Task) (s : sound t ≡ true) (p : Plan) (fp : fits t p ≡ true) where
  g : Guarantees t
  g = guarantees t s

  good : Good t
  good = (rising_in t.trains lowest t.pairs g.rises, omega (arith, g.some_pair), omega (arith, g.some_path))

  trains : length p ≡ t.trains
  trains = eqb-true _ _ (and_parts _ _ (and_parts _ _ fp).0).0

  -- a round with a lot that was drawn
  module _ (n : ℕ) (few : n < 2 ^ 24) (drawn : List ℕ) (h : Had Lot) (e : lot_in t drawn ≡ got h) (had : LotHad t drawn h) (i : ℕ) (there : i < length t.pairs) where
    abbrev digests : List ℕ
    digests = boxes_of H n 0 (held p h.what.order) h.what.chances

    reads : (w : Said) → is_said t w ≡ true → read_word t (said_bytes w) ≡ got w
    reads = (word_law t (omega (arith, g.few_trains))).reads

    round-said : is_round n ≡ true
    round-said = lt-ltb n 4294967296 (omega arith)

    read_boxes_lem : read_word t (boxes_word H t p n h.what) ≡ got (boxes n digests)
    read_boxes_lem =
        let l : length digests ≡ 32 * t.trains = length-boxes H n sized (held p h.what.order) h.what.chances 0 ∙ ap (λ k. 32 * k) (length-map p (at h.what.order) ∙ trains) in
        reads (boxes n digests) (and_from _ _ round-said (eq-eqb _ _ l))

    read_ask_lem : read_word t (ask_word H t p n i) ≡ got (ask n i)
    read_ask_lem = reads (ask n i) (and_from _ _ round-said (lt-ltb i 65536 (omega (arith, g.few_pairs))))

    read_end_lem : (c : Bool) → read_word t (end_word H t p n c) ≡ got (end n c)
    read_end_lem c = reads (end n c) round-said

    opening : (j : ℕ) → j < t.trains → (is_opening (opening_for p h.what j) ≡ true) × (length (part_of h.what.chances j) ≡ 32)
    opening j k =
        let l : length (part_of h.what.chances j) ≡ 32 = length-take-le 32 _ (simp length-drop (omega (arith, had.chances))) in
        (and_from _ _ (lt-ltb j 65536 (omega (arith, g.few_trains))) (eq-eqb _ _ l), l)

    pair_there : ((pair_at t i).a < t.trains) × ((pair_at t i).e < t.trains)
    pair_there = pairs-at t.trains t.pairs lowest good.0 i there

    opened-long : length (opened_word H t p n h.what i) ≡ 75
    opened-long = opened-size n (opening_for p h.what (pair_at t i).a) (opening_for p h.what (pair_at t i).e) (opening (pair_at t i).a pair_there.0).1 (opening (pair_at t i).e pair_there.1).1

    read_opened_lem : read_word t (opened_word H t p n h.what i) ≡ got (opened_for t n p h.what i)
    read_opened_lem =
        reads (opened_for t n p h.what i) (and_from _ _ round-said (and_from _ _ (opening (pair_at t i).a pair_there.0).0 (opening (pair_at t i).e pair_there.1).0))

    abbrev whole : Bool → Round
    whole c = round_with t n few (boxes_word H t p n h.what) digests (ask_word H t p n i) i read_boxes_lem read_ask_lem (end_word H t p n c) (opened_word H t p n h.what i) c

    abbrev short : Round
    short = round_with t n few (boxes_word H t p n h.what) digests (ask_word H t p n i) i read_boxes_lem read_ask_lem (end_word H t p n false) [] false

    asked : asked_pair t i ≡ got (pair_at t i)
    asked = rw (lt-ltb i (length t.pairs) there) refl

    look_good : (c : Bool) → look H t n (whole c) ≡ got tt
    look_good c =
        ap (λ a. and_then a (λ _. and_then (read_word t (opened_word H t p n h.what i)) (test_opened H t n i digests))) asked
        ∙ ap (λ w. and_then w (test_opened H t n i digests)) read_opened_lem ∙ complete H sized t good p fp h.what had.order n i there

    look-short : look H t n short ≡ refused 1
    look-short = ap (λ a. and_then a (λ _. and_then (read_word t []) (test_opened H t n i digests))) asked

    again : (r : Round) → other_train H t n p h.what r ≡ None → redrawn_in H t (Some p) n r drawn ≡ agrees
    again r o = ap (compared_in H t n p r) e ∙ ap (differs_at n) o

    whole_again : (c : Bool) → redrawn_in H t (Some p) n (whole c) drawn ≡ agrees
    whole_again c =
        let word = opened_word H t p n h.what i in
        let a : other_answer t n p h.what (whole c) ≡ None =
        rw (eq-eqb (length word) 75 opened-long, lt-ltb i (length t.pairs) there, same_itself (take 35 (drop 5 word)), same_itself (take 35 (drop 40 word))) refl in
        again (whole c) (ap (λ o. or_else o (other_answer t n p h.what (whole c))) (first_same digests 0 t.trains) ∙ a)

    short_again : redrawn_in H t (Some p) n short drawn ≡ agrees
    short_again = again short (ap (λ o. or_else o None) (first_same digests 0 t.trains))

    cut-round : (c : Bool) (ws : List (List ℕ)) →
        cut_from t n for_boxes (boxes_word H t p n h.what ∷ ask_word H t p n i ∷ opened_word H t p n h.what i ∷ end_word H t p n c ∷ ws)
        ≡ also_round (whole c) (cut_from t (n + 1) (behind (whole c)) ws)
    cut-round c ws =
        cut-whole t n few (boxes_word H t p n h.what) digests (ask_word H t p n i) i read_boxes_lem read_ask_lem (end_word H t p n c) (opened_word H t p n h.what i)
        (opening_for p h.what (pair_at t i).a) (opening_for p h.what (pair_at t i).e) c read_opened_lem (read_end_lem c) ws

    cut_last : cut_from t n for_boxes (boxes_word H t p n h.what ∷ ask_word H t p n i ∷ end_word H t p n false ∷ []) ≡ also_round short (cut_from t (n + 1) for_nothing [])
    cut_last = cut_short_lem t n few (boxes_word H t p n h.what) digests (ask_word H t p n i) i read_boxes_lem read_ask_lem (end_word H t p n false) (read_end_lem false) []

  -- what is found of the rounds from n on
  record Found (n : ℕ) (drawn : List ℕ) (ws texts : List (List ℕ)) (c : Content) : Type 0 where
    rounds : List Round
    cuts : cut_from t n for_boxes ws ≡ cut_into rounds
    told : map text_of rounds ≡ texts
    content : content_from H t n rounds ≡ c
    redrawn : redrawn_from H t (Some p) n drawn rounds ≡ agrees

  had_from : (drawn : List ℕ) (h : Had Lot) → T (all_below 256 drawn) → lot_in t drawn ≡ got h → LotHad t drawn h
  had_from drawn h b e = lots_had t (omega (arith, g.few_paths)) drawn b h e

  found : (n : ℕ) (drawn : List ℕ) (ws texts : List (List ℕ)) (c : Content) → Honest H t p n drawn ws texts c → T (all_below 256 drawn) → n + length texts ≤ 2 ^ 24 →
      Found n drawn ws texts c
  unfolding cut_from content_from redrawn_from
  found n drawn ws texts c (over n' drawn') b k = record { rounds = []; cuts = refl; told = refl; content = refl; redrawn = refl }
  found n drawn ws texts c (round1 n' drawn' h i ws' texts' c' e there rest) b k =
      let had = had_from drawn h b e in
      let few : n < 2 ^ 24 = omega arith in
      let f = found (n + 1) h.left ws' texts' c rest (rw had.rest.1 (below-drop 256 had.rest.0 drawn b)) (omega arith) in
      let r = whole n few drawn h e had i there true in
      record {
        rounds = r ∷ f.rounds;
        cuts = cut-round n few drawn h e had i there true ws' ∙ ap (also_round r) f.cuts;
        told = ap (λ ts. text_of r ∷ ts) f.told;
        content = ap (λ x. first_of (if_content n x) (content_from H t (n + 1) f.rounds)) (look_good n few drawn h e had i there true) ∙ f.content;
        redrawn =
            ap (λ x. first_drawn x (redrawn_from H t (Some p) (n + 1) (left_over t drawn) f.rounds)) (whole_again n few drawn h e had i there true)
            ∙ ap (λ left. redrawn_from H t (Some p) (n + 1) left f.rounds) (ap left_in e) ∙ f.redrawn;
      }
  found n drawn ws texts c (round0 n' drawn' h i e there) b k =
      let had = had_from drawn h b e in
      let few : n < 2 ^ 24 = omega arith in
      record {
        rounds = whole n few drawn h e had i there false ∷ [];
        cuts = cut-round n few drawn h e had i there false [];
        told = refl;
        content = ap (not_content n) (look_good n few drawn h e had i there false);
        redrawn = ap (λ x. first_drawn x agrees) (whole_again n few drawn h e had i there false);
      }
  found n drawn ws texts c (short0 n' drawn' h i e there) b k =
      let had = had_from drawn h b e in
      let few : n < 2 ^ 24 = omega arith in
      record {
        rounds = short n few drawn h e had i there ∷ [];
        cuts = cut_last n few drawn h e had i there;
        told = refl;
        content = ap (not_content n) (look-short n few drawn h e had i there);
        redrawn = ap (λ x. first_drawn x agrees) (short_again n few drawn h e had i there);
      }

-- the words are cut into the rounds that they were made of
pub honest_cut : (H : List ℕ → List ℕ) → Sized H → (t : Task) → sound t ≡ true → (p : Plan) → fits t p ≡ true → (drawn : List ℕ) → all_below 256 drawn ≡ true →
    (ws texts : List (List ℕ)) (c : Content) → Honest H t p 0 drawn ws texts c → length texts ≤ 2 ^ 24 → (rs : List Round) × (cut t ws ≡ cut_into rs) × (map text_of rs ≡ texts)
honest_cut H sized t s p fp drawn b ws texts c run k =
    let f = found H sized t s p fp 0 drawn ws texts c run (rw b tt) (omega arith) in
    (f.rounds, f.cuts, f.told)

pub honest_passes : (H : List ℕ → List ℕ) → Sized H → HonestPasses H
honest_passes H sized t s p fp drawn b ws texts c run k =
    let f = found H sized t s p fp 0 drawn ws texts c run (rw b tt) (omega arith) in
    let digest = after H (task_bytes t) (reverse texts) in
    let same : same_row (book_of H t f.rounds) digest ≡ true = rw f.told (same_itself digest) in
    let n : length f.rounds ≡ length texts = sym (length-map f.rounds text_of) ∙ ap length f.told in
    ap (judge H t (Some p) drawn digest) f.cuts ∙ rw (same, n, f.content, f.redrawn) refl
