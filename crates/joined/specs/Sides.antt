-- The planner and the asker as sides, by their very steps. H is any function in the place of SHA-256. Assumes nothing.
use Rattle.std.specs.Prelude.{◌≡◌, ℕ, zero, suc, List, []}
use Rattle.paths.specs.Plan.{Task, Plan}
use Rattle.lots.specs.Lots.{question_in}
use Rattle.round.specs.Line.{Other}
use Rattle.round.specs.Over.{fault, Leads, on, out}
use Rattle.planning.specs.Planning as planning
use Rattle.planning.specs.Run as planning-run
use Rattle.asking.specs.Asking as asking
use Rattle.asking.specs.Run as asking-run
use Rattle.joined.specs.Side.{Side, says, hears, ends, against, SaysAgain}

-- a step that leads on, or to the end
abbrev pub goes : {A : Type 0} → Leads A → (A → Side) → Side
goes (on x) next = next x
goes (out o) next = ends o

-- the planner that awaits the End of a round, and after it goes on
abbrev pub awaits_end : (List ℕ → List ℕ) → (Leads planning.Ready → Side) → planning.Opened → Side
awaits_end H next o = hears (λ v. next (planning-run.and_on (planning.hear o v) (planning.settle H)))

-- the Ask
abbrev pub awaits_ask : (List ℕ → List ℕ) → (Leads planning.Ready → Side) → planning.Closed → Side
awaits_ask H next c = hears (λ w. goes (planning.answer c w) (λ o. says o.opened (awaits_end H next o)))

-- so many rounds at most, from these drawn bytes
unfoldable pub plans : (List ℕ → List ℕ) → ℕ → List ℕ → Leads planning.Ready → Side
plans H zero drawn (out o) = ends o
plans H zero drawn (on s) = ends (planning.stops s 0)
plans H (suc left) drawn (out o) = ends o
plans H (suc left) drawn (on s) =
    goes (planning.close H s drawn) (λ c. says c.boxes (awaits_ask H (plans H left (planning.left_over s.task drawn)) c))

abbrev pub planner : (List ℕ → List ℕ) → Task → Plan → ℕ → List ℕ → Side
planner H t p r drawn = let b = planning.begin H t p r in says b.word (plans H r drawn b.next)

-- the asker that awaits the answer, and after its End goes on
abbrev pub awaits_answer : (List ℕ → List ℕ) → (Leads asking.Ready → Side) → asking.Asked → Side
awaits_answer H next a = hears (λ v. says (asking.test H a v).end (next (asking.settle H (asking.test H a v))))

-- the Boxes
abbrev pub awaits_boxes : (List ℕ → List ℕ) → (Leads asking.Ready → Side) → asking.Drawn → Side
awaits_boxes H next d = hears (λ w. goes (asking.question d w) (λ a. says a.ask (awaits_answer H next a)))

unfoldable pub asks : (List ℕ → List ℕ) → ℕ → List ℕ → Leads asking.Ready → Side
asks H zero drawn (out o) = ends o
asks H zero drawn (on s) = ends record { outcome = fault 0 s.round; digest = s.digest }
asks H (suc left) drawn (out o) = ends o
asks H (suc left) drawn (on s) =
    goes (asking.draw s drawn) (awaits_boxes H (asks H left (asking-run.left_in (question_in s.task drawn))))

abbrev pub asker : (List ℕ → List ℕ) → Task → ℕ → List ℕ → Side
asker H t r drawn = hears (λ w. asks H r drawn (asking.meet H record { task = t; rounds = r } w))

-- The runs of both are the runs of these sides.
pub record SidesRun (H : List ℕ → List ℕ) : Type 0 where
  pub planner_runs : (other : Other) (t : Task) (p : Plan) (r : ℕ) (drawn : List ℕ) → planning-run.showing H other t p r drawn ≡ against other (planner H t p r drawn) []
  pub asker_runs : (other : Other) (t : Task) (r : ℕ) (drawn : List ℕ) → asking-run.asking H other t r drawn ≡ against other (asker H t r drawn) []

-- What is heard fixes what is sent and how it ends: an other side that says the same up to the last word that is heard, as a refused one, may say anything after it.
pub record NothingAfter (H : List ℕ → List ℕ) : Type 0 where
  pub planner_stays : (other another : Other) (t : Task) (p : Plan) (r : ℕ) (drawn : List ℕ) → SaysAgain another (planning-run.showing H other t p r drawn).line →
      planning-run.showing H another t p r drawn ≡ planning-run.showing H other t p r drawn
  pub asker_stays : (other another : Other) (t : Task) (r : ℕ) (drawn : List ℕ) → SaysAgain another (asking-run.asking H other t r drawn).line →
      asking-run.asking H another t r drawn ≡ asking-run.asking H other t r drawn
