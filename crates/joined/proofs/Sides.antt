-- Sides and their runs. Assumes nothing.
use Rattle.std.proofs.Common.{◌≡◌, ℕ, zero, suc, List, [], ◌∷◌, sym, refl, ap, ◌∙◌, subst}
use Rattle.lots.specs.Lots.{question_in}
use Rattle.round.specs.Line.{Event, sent, heard, Other}
use Rattle.round.specs.Over.{Over, Leads, on, out}
use Rattle.planning.specs.Planning as planning
use Rattle.planning.specs.Run as planning-run
use Rattle.asking.specs.Asking as asking
use Rattle.asking.specs.Run as asking-run
use Rattle.joined.specs.Side.{Side, says, hears, ends, against, given, word_of, once, standing, as_other, joined, JoinedIs, SaysAgain}
use Rattle.joined.specs.Sides.{goes, plans, planner, asks, asker, SidesRun, NothingAfter}

-- joined

joins : (other s now : Side) (line : List Event) → standing other line ≡ now → against (as_other other) s line ≡ joined s now line
unfolding against joined standing
joins other (says w s) now line e = joins other s (given w now) (sent w ∷ line) (ap (given w) e)
joins other (hears next) now line e = rw e (joins other (next (word_of now)) (once now) (heard (word_of now) ∷ line) (ap once e))
joins other (ends o) now line e = refl

pub joined_is : JoinedIs
unfolding standing
joined_is s other = joins other s other [] refl

-- what was on the line before stays on it
before : (another other : Other) (s : Side) (line : List Event) → SaysAgain another (against other s line).line → SaysAgain another line
unfolding against SaysAgain
before another other (says w s) line h = before another other s (sent w ∷ line) h
before another other (hears next) line h = (before another other (next (other line)) (heard (other line) ∷ line) h).1
before another other (ends o) line h = h

stays : (other another : Other) (s : Side) (line : List Event) → SaysAgain another (against other s line).line → against another s line ≡ against other s line
unfolding against SaysAgain
stays other another (says w s) line h = stays other another s (sent w ∷ line) h
stays other another (hears next) line h =
    let e = (before another other (next (other line)) (heard (other line) ∷ line) h).0 in
    rw e (stays other another (next (other line)) (heard (other line) ∷ line) h)
stays other another (ends o) line h = refl

module _ (H : List ℕ → List ℕ) where
  pub plans-out : (left : ℕ) (drawn : List ℕ) (o : Over) → plans H left drawn (out o) ≡ ends o
  unfolding plans
  plans-out zero drawn o = refl
  plans-out (suc left) drawn o = refl

  pub asks-out : (left : ℕ) (drawn : List ℕ) (o : Over) → asks H left drawn (out o) ≡ ends o
  unfolding asks
  asks-out zero drawn o = refl
  asks-out (suc left) drawn o = refl

module _ (H : List ℕ → List ℕ) (other : Other) where
  plans-end : (left : ℕ) (drawn : List ℕ) (o : Over) (line : List Event) → planning-run.run H other left drawn (out o) line ≡ record { line = line; over = o }
  unfolding planning-run.run
  plans-end zero drawn o line = refl
  plans-end (suc left) drawn o line = refl

  asks-end : (left : ℕ) (drawn : List ℕ) (o : Over) (line : List Event) → asking-run.run H other left drawn (out o) line ≡ record { line = line; over = o }
  unfolding asking-run.run
  asks-end zero drawn o line = refl
  asks-end (suc left) drawn o line = refl

  module _ (left : ℕ) (drawn : List ℕ) (more : (to : Leads planning.Ready) (line : List Event) → planning-run.run H other left drawn to line ≡ against other (plans H left drawn to) line) where
    opens : (x : Leads planning.Opened) (line : List Event) →
        let g = planning-run.sending x (λ o. o.opened) line (λ o line. record { to = planning-run.and_on (planning.hear o (other line)) (planning.settle H); line = heard (other line) ∷ line }) in
        planning-run.run H other left drawn g.to g.line ≡ against other (goes x (λ o. says o.opened (hears (λ v. plans H left drawn (planning-run.and_on (planning.hear o v) (planning.settle H)))))) line
    unfolding against
    opens (on o) line = more _ _
    opens (out o) line = plans-end left drawn o line

    closes : (x : Leads planning.Closed) (line : List Event) →
        let g = planning-run.sending x (λ c. c.boxes) line (λ c line.
        planning-run.sending (planning.answer c (other line)) (λ o. o.opened) (heard (other line) ∷ line) (λ o line.
        record { to = planning-run.and_on (planning.hear o (other line)) (planning.settle H); line = heard (other line) ∷ line })) in
        planning-run.run H other left drawn g.to g.line ≡
        against other (goes x (λ c. says c.boxes (hears (λ w. goes (planning.answer c w) (λ o. says o.opened (hears (λ v.
        plans H left drawn (planning-run.and_on (planning.hear o v) (planning.settle H))))))))) line
    unfolding against
    closes (on c) line = opens (planning.answer c (other (sent c.boxes ∷ line))) _
    closes (out o) line = plans-end left drawn o line

  runs_plans : (left : ℕ) (drawn : List ℕ) (to : Leads planning.Ready) (line : List Event) → planning-run.run H other left drawn to line ≡ against other (plans H left drawn to) line
  unfolding planning-run.run plans against
  runs_plans zero drawn (on s) line = refl
  runs_plans zero drawn (out o) line = refl
  runs_plans (suc left) drawn (out o) line = refl
  runs_plans (suc left) drawn (on s) line = closes left (planning.left_over s.task drawn) (runs_plans left (planning.left_over s.task drawn)) (planning.close H s drawn) line

  module _ (left : ℕ) (drawn : List ℕ) (more : (to : Leads asking.Ready) (line : List Event) → asking-run.run H other left drawn to line ≡ against other (asks H left drawn to) line) where
    abbrev asked : asking.Asked → Side
    asked a = says a.ask (hears (λ v. says (asking.test H a v).end (asks H left drawn (asking.settle H (asking.test H a v)))))

    questions : (x : Leads asking.Asked) (line : List Event) →
        let g = asking-run.going_on x line (asking-run.asked H other line) in
        asking-run.run H other left drawn g.to g.line ≡ against other (goes x asked) line
    unfolding against
    questions (on a) line = more _ _
    questions (out o) line = asks-end left drawn o line

    draws : (x : Leads asking.Drawn) (line : List Event) →
        let g = asking-run.going_on x line (asking-run.boxed H other line) in
        asking-run.run H other left drawn g.to g.line ≡ against other (goes x (λ d. hears (λ w. goes (asking.question d w) asked))) line
    unfolding against
    draws (on d) line = questions (asking.question d (other line)) (heard (other line) ∷ line)
    draws (out o) line = asks-end left drawn o line

  runs_asks : (left : ℕ) (drawn : List ℕ) (to : Leads asking.Ready) (line : List Event) → asking-run.run H other left drawn to line ≡ against other (asks H left drawn to) line
  unfolding asking-run.run asks against
  runs_asks zero drawn (on s) line = refl
  runs_asks zero drawn (out o) line = refl
  runs_asks (suc left) drawn (out o) line = refl
  runs_asks (suc left) drawn (on s) line =
      draws left (asking-run.left_in (question_in s.task drawn)) (runs_asks left (asking-run.left_in (question_in s.task drawn))) (asking.draw s drawn) line

pub sides_run : (H : List ℕ → List ℕ) → SidesRun H
unfolding against
sides_run H = record {
  planner_runs = λ other t p r drawn. runs_plans H other r drawn _ _;
  asker_runs = λ other t r drawn. runs_asks H other r drawn _ _;
}

pub nothing_after : (H : List ℕ → List ℕ) → NothingAfter H
nothing_after H =
    let runs = sides_run H in
    record {
      planner_stays = λ other another t p r drawn h.
          let e = runs.planner_runs other t p r drawn in
          runs.planner_runs another t p r drawn ∙ (stays other another (planner H t p r drawn) [] (subst (λ x. SaysAgain another x.line) e h) ∙ sym e);
      asker_stays = λ other another t r drawn h.
          let e = runs.asker_runs other t r drawn in
          runs.asker_runs another t r drawn ∙ (stays other another (asker H t r drawn) [] (subst (λ x. SaysAgain another x.line) e h) ∙ sym e);
    }
