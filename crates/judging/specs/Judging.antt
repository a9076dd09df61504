-- What the judge is to tell of the words of a showing, whatever they are, and of a plan and drawn bytes, if they are handed over. H is any function in the
-- place of SHA-256. Assumes nothing.
use Rattle.std.specs.Prelude.{ℕ, zero, suc, ◌+◌, Bool, cond, not, List, [], ◌∷◌, map, reverse, length, take, drop, Some, None, Option, ◌==◌, nat_lt}
use Rattle.paths.specs.Plan.{Task, Plan}
use Rattle.paths.specs.Show.{pair_at}
use Rattle.paths.specs.Count.{same_row}
use Rattle.tasks.specs.Reading.{Got, Looked, got, refused, and_then}
use Rattle.tasks.specs.Writing.{task_bytes}
use Rattle.fitting.specs.Pairs.{asked_pair}
use Rattle.boxes.specs.Box.{boxes_of}
use Rattle.book.specs.Chain.{after}
use Rattle.lots.specs.Lots.{Had, Lot, lot_in}
use Rattle.words.specs.Reading.{read_word}
use Rattle.words.specs.Writing.{said_bytes}
use Rattle.round.specs.Round.{held, part_of, opened_for, test_opened}
use Rattle.judging.specs.Verdict.{Content, content_all, not_content, content_but, Redrawn, not_handed, agrees, drawn_out, differs, Verdict, bad_words, other_words, judged, first_of, first_drawn}
use Rattle.cutting.specs.Cutting.{Round, text_of, Cut, cut_into, fault_in, cut}

-- the digests of the round's Boxes, behind its head
abbrev pub digests_of : Round → List ℕ
digests_of r = drop 7 r.asked.boxes

-- the opening of round n looked at again: 7 where the Ask names no pair, 1 where there is no Opened
abbrev pub look : (List ℕ → List ℕ) → Task → ℕ → Round → Got Looked
look H t n r =
    and_then (asked_pair t r.asked.pair) (λ _. and_then (read_word t r.opened) (test_opened H t n r.asked.pair (digests_of r)))

-- an End with 1 stands over this opening
abbrev pub if_content : ℕ → Got Looked → Content
if_content n (got x) = content_all
if_content n (refused f) = content_but n f

abbrev pub content_in : (List ℕ → List ℕ) → Task → ℕ → Round → Content
content_in H t n r = cond r.content (if_content n (look H t n r)) (not_content n (look H t n r))

-- of the rounds from n on, the first finding
unfoldable pub content_from : (List ℕ → List ℕ) → Task → ℕ → List Round → Content
content_from H t n [] = content_all
content_from H t n (r ∷ rs) = first_of (content_in H t n r) (content_from H t (n + 1) rs)

-- the first of m numbers from i on for which this holds
unfoldable pub first_from : (ℕ → Bool) → ℕ → ℕ → Option ℕ
first_from is i zero = None
first_from is i (suc m) = cond (is i) (Some i) (first_from is (i + 1) m)

-- is the box of train i another than this digest
abbrev pub other_box : List ℕ → List ℕ → ℕ → Bool
other_box digests given i = not (same_row (part_of digests i) (part_of given i))

-- the bytes of an Opened's opening that begins at this place
abbrev pub opening_in : ℕ → List ℕ → List ℕ
opening_in i word = take 35 (drop i word)

-- the first of two trains whose opening in this Opened is another than in that
abbrev pub other_opening : ℕ → ℕ → List ℕ → List ℕ → Option ℕ
other_opening a e word given =
    cond (same_row (opening_in 5 word) (opening_in 5 given)) (cond (same_row (opening_in 40 word) (opening_in 40 given)) None (Some e)) (Some a)

-- of an Opened, if there is one: train 0 stands for a pair that isn't there
abbrev pub other_answer : Task → ℕ → Plan → Lot → Round → Option ℕ
other_answer t n p l r =
    let i = r.asked.pair in
    cond (length r.opened == 75)
    (cond (nat_lt i (length t.pairs)) (other_opening (pair_at t i).a (pair_at t i).e r.opened (said_bytes (opened_for t n p l i))) (Some 0))
    None

abbrev pub or_else : Option ℕ → Option ℕ → Option ℕ
or_else (Some i) later = Some i
or_else None later = later

-- the first train for which the plan and the lot give another box than the round has, or else another opening
abbrev pub other_train : (List ℕ → List ℕ) → Task → ℕ → Plan → Lot → Round → Option ℕ
other_train H t n p l r =
    or_else (first_from (other_box (digests_of r) (boxes_of H n 0 (held p l.order) l.chances)) 0 t.trains) (other_answer t n p l r)

abbrev pub differs_at : ℕ → Option ℕ → Redrawn
differs_at n (Some train) = differs n train
differs_at n None = agrees

abbrev pub compared_in : (List ℕ → List ℕ) → Task → ℕ → Plan → Round → Got (Had Lot) → Redrawn
compared_in H t n p r (got h) = differs_at n (other_train H t n p h.what r)
compared_in H t n p r (refused f) = drawn_out n

-- round n drawn again with the plan, if there is one, from these bytes
abbrev pub redrawn_in : (List ℕ → List ℕ) → Task → Option Plan → ℕ → Round → List ℕ → Redrawn
redrawn_in H t None n r drawn = not_handed
redrawn_in H t (Some p) n r drawn = compared_in H t n p r (lot_in t drawn)

-- the drawn bytes that a round's lot leaves over, and none where they were too few for it
abbrev pub left_in : {A : Type 0} → Got (Had A) → List ℕ
left_in (got h) = h.left
left_in (refused f) = []

abbrev pub left_over : Task → List ℕ → List ℕ
left_over t drawn = left_in (lot_in t drawn)

abbrev pub nothing_yet : Option Plan → Redrawn
nothing_yet None = not_handed
nothing_yet (Some p) = agrees

-- of the rounds from n on, the first finding
unfoldable pub redrawn_from : (List ℕ → List ℕ) → Task → Option Plan → ℕ → List ℕ → List Round → Redrawn
redrawn_from H t p n drawn [] = nothing_yet p
redrawn_from H t p n drawn (r ∷ rs) = first_drawn (redrawn_in H t p n r drawn) (redrawn_from H t p (n + 1) (left_over t drawn) rs)

-- the digest at the end of the book of these rounds
abbrev pub book_of : (List ℕ → List ℕ) → Task → List Round → List ℕ
book_of H t rs = after H (task_bytes t) (reverse (map text_of rs))

-- nothing is told of rounds that don't fit the digest
abbrev pub judge : (List ℕ → List ℕ) → Task → Option Plan → List ℕ → List ℕ → Cut → Verdict
judge H t p drawn digest (fault_in f n) = bad_words f n
judge H t p drawn digest (cut_into rs) =
    cond (same_row (book_of H t rs) digest) (judged (length rs) (content_from H t 0 rs) (redrawn_from H t p 0 drawn rs)) other_words

-- what is told of these words
abbrev pub verdict : (List ℕ → List ℕ) → Task → Option Plan → List ℕ → List ℕ → List (List ℕ) → Verdict
verdict H t p drawn digest ws = judge H t p drawn digest (cut t ws)
