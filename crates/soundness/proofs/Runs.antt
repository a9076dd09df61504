-- A round of the asker whose question is given ends the run, or leads to the next round; so a run over drawn bytes is a run over the questions in them.
-- Assumes nothing.
use Rattle.std.proofs.Common.{◌≡◌, ℕ, zero, suc, ◌+◌, ◌<◌, Bool, true, false, cond, List, [], ◌∷◌, length, drop, sym, refl, ap, ◌∙◌, subst, arith}
use Rattle.std.proofs.lemmas.Bool.{lt-ltb, le-ltb}
use Rattle.paths.specs.Plan.{Task}
use Rattle.tasks.specs.Reading.{Got, Looked, got, refused, and_then}
use Rattle.tasks.specs.Writing.{task_bytes}
use Rattle.book.specs.Chain.{next_digest}
use Rattle.book.specs.Lengths.{round_text}
use Rattle.lots.specs.Lots.{Had, question_in, in_turn, each_as}
use Rattle.words.specs.Said.{ask, end}
use Rattle.words.specs.Reading.{read_word}
use Rattle.words.specs.Awaited.{on_boxes}
use Rattle.words.specs.Writing.{said_bytes, is_got}
use Rattle.round.specs.Line.{Event, sent, heard, Other}
use Rattle.round.specs.Over.{Over, fault, Leads, on, out}
use Rattle.round.specs.Round.{test_opened}
use Rattle.asking.specs.Asking.{Ready, led, turn, begun, meet, on_task, is_opened_of, settled}
use Rattle.asking.specs.Run.{Gone, going_on, asked, boxed, left_in, run, asking}
use Rattle.asking.proofs.Refusals.{too_few}
use Rattle.soundness.specs.Questioned.{run_on, asking_on, then_more, questions_in, RunsOn}
use Rattle.soundness.specs.Texts.{answer}
use Rattle.soundness.specs.Sound.{is_content, passes}

-- does the asker's test accept what is said to the question for pair i at this point
abbrev pub accepts : (List ℕ → List ℕ) → Other → Ready → List Event → ℕ → Bool
accepts H other s line i = is_got (and_then (answer other s line i) (test_opened H s.task s.round i (drop 7 (other line))))

module _ (H : List ℕ → List ℕ) (other : Other) (t : Task) (r : ℕ) where
  -- before round n, with the book at this digest
  abbrev pub ready : ℕ → List ℕ → Ready
  ready n d = record { task = t; rounds = r; round = n; digest = d }

  -- what holds of an end without content, and of the turn to the next round where the answer is accepted, holds of the round
  module _ (n : ℕ) (d : List ℕ) (line : List Event) (i : ℕ) (P : Gone → Type 0)
      (ends : (o : Over) (l : List Event) → is_content o.outcome ≡ false → P record { to = out o; line = l })
      (goes : (e : List ℕ) (l : List Event) → accepts H other (ready n d) line i ≡ true → P record { to = turn (ready (n + 1) e); line = l }) where
    abbrev asks : List ℕ
    asks = said_bytes (ask n i)

    abbrev says : List ℕ
    says = other (sent asks ∷ heard (other line) ∷ line)

    tested : (g : Got Looked) → and_then (read_word t says) (test_opened H t n i (drop 7 (other line))) ≡ g →
        P record {
          to = settled (ready n d) (next_digest H d (round_text (other line) asks (cond (is_opened_of n (read_word t says)) says []) (said_bytes (end n (is_got g))))) g;
          line = sent (said_bytes (end n (is_got g))) ∷ heard says ∷ sent asks ∷ heard (other line) ∷ line;
        }
    tested (got u) e = goes _ _ (ap is_got e)
    tested (refused f) e = ends _ _ refl

    came : (g : Got Looked) →
        P (going_on (led (ready n d) (and_then g (λ _. got record { drawn = record { ready = ready n d; pair = i }; boxes = other line; ask = asks })))
        (heard (other line) ∷ line) (asked H other (heard (other line) ∷ line)))
    came (got u) = tested (and_then (read_word t says) (test_opened H t n i (drop 7 (other line)))) refl
    came (refused f) = ends _ _ refl

    pub by_round : P (boxed H other line record { ready = ready n d; pair = i })
    by_round = came (and_then (read_word t (other line)) (on_boxes n))

  -- what holds of an end without content, and of the turn to round 0, holds of the answer to the Task
  pub by_task : (P : Leads Ready → Type 0) → ((o : Over) → is_content o.outcome ≡ false → P (out o)) → ((d : List ℕ) → P (turn (ready 0 d))) →
      P (meet H record { task = t; rounds = r } (other []))
  by_task P ends goes = go (and_then (read_word t (other [])) (on_task (task_bytes t)))
    where
      go : (g : Got Looked) → P (begun H record { task = t; rounds = r } g)
      go (got u) = goes _
      go (refused f) = ends _ refl

  -- after the end nothing more comes
  run_out : (left : ℕ) (drawn : List ℕ) (o : Over) (line : List Event) → run H other left drawn (out o) line ≡ record { line = line; over = o }
  unfolding run
  run_out zero drawn o line = refl
  run_out (suc left) drawn o line = refl

  pub on_out : (is : List ℕ) (o : Over) (line : List Event) → run_on H other is (out o) line ≡ record { line = line; over = o }
  unfolding run_on
  on_out [] o line = refl
  on_out (i ∷ is) o line = refl

  -- The run over drawn bytes
  abbrev Same : ℕ → List ℕ → Leads Ready → List Event → Type 0
  Same left drawn lead line = run H other left drawn lead line ≡ run_on H other (questions_in t left drawn) lead line

  same_out : (left : ℕ) (drawn : List ℕ) (o : Over) (line : List Event) → Same left drawn (out o) line
  same_out left drawn o line = run_out left drawn o line ∙ sym (on_out (questions_in t left drawn) o line)

  module _ (left n : ℕ) (later : (drawn d : List ℕ) (line : List Event) → Same left drawn (turn (ready (n + 1) d)) line) (drawn d : List ℕ) (line : List Event) where
    abbrev begins : Got (Had ℕ) → Gone
    begins g = going_on (led (ready n d) (and_then g (λ h. got record { ready = ready n d; pair = h.what }))) line (boxed H other line)

    same-round : (g : Got (Had ℕ)) → question_in t drawn ≡ g →
        run H other left (left_in g) (begins g).to (begins g).line ≡ run_on H other (then_more g (questions_in t left)) (on (ready n d)) line
    unfolding run_on
    same-round (got h) q = by_round n d line h.what (λ g. Same left h.left g.to g.line) (λ o l e. same_out left h.left o l) (λ e l a. later h.left e l)
    same-round (refused f) q = run_out left [] _ line ∙ ap (λ f. record { line = line; over = record { outcome = fault f n; digest = d } }) (too_few t drawn f q)

  same_from : (left n : ℕ) → n + left ≡ r → (drawn d : List ℕ) (line : List Event) → Same left drawn (turn (ready n d)) line
  unfolding run run_on questions_in
  same_from zero n e drawn d line = rw (le-ltb n r (omega arith)) refl
  same_from (suc left) n e drawn d line = rw (lt-ltb n r (omega arith)) (same-round left n (same_from left (n + 1) (omega arith)) drawn d line (question_in t drawn) refl)

  -- with fewer questions than rounds the asker is not content
  few_from : (left n : ℕ) → n + left ≡ r → (is : List ℕ) → length is < left → (d : List ℕ) (line : List Event) → passes (run_on H other is (turn (ready n d)) line) ≡ false
  unfolding run_on
  few_from zero n e is l d line = absurd (omega arith)
  few_from (suc left) n e [] l d line = rw (lt-ltb n r (omega arith)) refl
  few_from (suc left) n e (i ∷ is) l d line =
      rw (lt-ltb n r (omega arith))
      (by_round n d line i (λ g. passes (run_on H other is g.to g.line) ≡ false) (λ o k b. ap passes (on_out is o k) ∙ b)
      (λ e' k a. few_from left (n + 1) (omega arith) is (omega arith) e' k))

  pub few_pass : (is : List ℕ) → length is < r → passes (asking_on H other t r is) ≡ false
  few_pass is l =
      by_task (λ lead. passes (run_on H other is lead (heard (other []) ∷ [])) ≡ false) (λ o b. ap passes (on_out is o _) ∙ b) (λ d. few_from r 0 (omega arith) is l d _)

  pub same_runs : (drawn : List ℕ) → asking H other t r drawn ≡ asking_on H other t r (questions_in t r drawn)
  same_runs drawn = by_task (λ lead. Same r drawn lead (heard (other []) ∷ [])) (λ o b. same_out r drawn o _) (λ d. same_from r 0 (omega arith) drawn d _)

-- these are the questions that were drawn in turn, or fewer than r where the bytes were too few
abbrev pub Turns : ℕ → List ℕ → Got (Had (List ℕ)) → Type 0
Turns r is (got h) = is ≡ h.what
Turns r is (refused f) = length is < r

module _ (t : Task) where
  turns_more : (r : ℕ) → ((drawn : List ℕ) → Turns r (questions_in t r drawn) (in_turn (question_in t) r drawn)) → (g : Got (Had ℕ)) →
      Turns (suc r) (then_more g (questions_in t r)) (and_then g (λ x. each_as (λ xs. x.what ∷ xs) (in_turn (question_in t) r x.left)))
  turns_more r ih (refused f) = omega arith
  turns_more r ih (got x) = go (in_turn (question_in t) r x.left) (ih x.left)
    where
      go : (g : Got (Had (List ℕ))) → Turns r (questions_in t r x.left) g → Turns (suc r) (x.what ∷ questions_in t r x.left) (each_as (λ xs. x.what ∷ xs) g)
      go (got y) e = ap (λ xs. x.what ∷ xs) e
      go (refused f) l = omega arith

  pub turns : (r : ℕ) (drawn : List ℕ) → Turns r (questions_in t r drawn) (in_turn (question_in t) r drawn)
  unfolding in_turn questions_in
  turns zero drawn = refl
  turns (suc r) drawn = turns_more r (turns r) (question_in t drawn)

pub runs_on : RunsOn
runs_on H other t r drawn =
    let told = turns t r drawn in
    record {
      same = same_runs H other t r drawn;
      all = λ h e. subst (Turns r (questions_in t r drawn)) e told;
      few = λ f e. subst (Turns r (questions_in t r drawn)) e told;
    }
