-- The judge step by step, a word at a time. H is any function in the place of SHA-256. Assumes nothing.
use Rattle.std.specs.Prelude.{ℕ, ◌+◌, cond, List, [], ◌∷◌, Some, None, Option, nat_lt}
use Rattle.paths.specs.Plan.{Task, Plan}
use Rattle.paths.specs.Count.{same_row}
use Rattle.tasks.specs.Reading.{Got, Looked, got, refused, and_then}
use Rattle.tasks.specs.Writing.{task_bytes}
use Rattle.fitting.specs.Testing.{tested}
use Rattle.book.specs.Chain.{next_digest, after}
use Rattle.judging.specs.Verdict.{Content, content_all, Redrawn, Verdict, bad_words, other_words, judged, first_of, first_drawn}
use Rattle.cutting.specs.Cutting.{Round, text_of, Awaits, for_boxes, between, Heard, waits, closes, hear, behind}
use Rattle.judging.specs.Judging.{content_in, redrawn_in, left_over, nothing_yet}

-- the judge in round n, which is also how many rounds are closed: the book's digest, the first findings, and what is awaited
pub record Judge : Type 0 where
  pub task : Task
  pub plan : Option Plan
  pub round : ℕ
  pub digest : List ℕ
  pub content : Content
  pub redrawn : Redrawn
  pub awaits : Awaits

-- what a word leads to: it goes on, or the verdict is told
pub data Goes : Type 0 where
  on : Judge → Goes
  told : Verdict → Goes

-- before the first word
abbrev pub begin : (List ℕ → List ℕ) → Task → Option Plan → Judge
begin H t p =
    record { task = t; plan = p; round = 0; digest = after H (task_bytes t) []; content = content_all; redrawn = nothing_yet p; awaits = for_boxes }

-- a plan that is handed over is to fit
abbrev pub tested_if_any : Task → Option Plan → Got Looked
tested_if_any t None = got tt
tested_if_any t (Some p) = tested t p

abbrev pub start : (List ℕ → List ℕ) → Task → Option Plan → Got Judge
start H t p = and_then (tested_if_any t p) (λ _. got (begin H t p))

abbrev pub waiting : Judge → Awaits → Judge
waiting s a =
    record { task = s.task; plan = s.plan; round = s.round; digest = s.digest; content = s.content; redrawn = s.redrawn; awaits = a }

-- a round is closed: it is added to the book, looked at, and drawn again
abbrev pub closing : (List ℕ → List ℕ) → Judge → List ℕ → Round → Judge
closing H s drawn r =
    record {
      task = s.task;
      plan = s.plan;
      round = s.round + 1;
      digest = next_digest H s.digest (text_of r);
      content = first_of s.content (content_in H s.task s.round r);
      redrawn = first_drawn s.redrawn (redrawn_in H s.task s.plan s.round r drawn);
      awaits = behind r;
    }

abbrev pub went : (List ℕ → List ℕ) → Judge → List ℕ → Got Heard → Goes
went H s drawn (got (waits a)) = on (waiting s a)
went H s drawn (got (closes r)) = on (closing H s drawn r)
went H s drawn (refused f) = told (bad_words f s.round)

-- a word, with the drawn bytes from those of its round on
abbrev pub step : (List ℕ → List ℕ) → Judge → List ℕ → List ℕ → Goes
step H s w drawn = went H s drawn (hear s.task s.round s.awaits w)

-- no more words, and this is to be the last digest: words that end in mid-round are fault 1
abbrev pub ended : Judge → List ℕ → Awaits → Verdict
ended s digest a = cond (between a) (cond (same_row s.digest digest) (judged s.round s.content s.redrawn) other_words) (bad_words 1 s.round)

abbrev pub finish : Judge → List ℕ → Verdict
finish s digest = ended s digest s.awaits

-- the drawn bytes from those of the round of s on, where there were these before: a round that is closed took its own
abbrev pub onwards : Judge → List ℕ → Judge → List ℕ
onwards before drawn s = cond (nat_lt before.round s.round) (left_over before.task drawn) drawn

abbrev pub and_on : Goes → (Judge → Verdict) → Verdict
and_on (on s) next = next s
and_on (told v) next = v

-- all words, one after the other, and the end
unfoldable pub tells : (List ℕ → List ℕ) → Judge → List ℕ → List ℕ → List (List ℕ) → Verdict
tells H s drawn digest [] = finish s digest
tells H s drawn digest (w ∷ ws) = and_on (step H s w drawn) (λ next. tells H next (onwards s drawn next) digest ws)
