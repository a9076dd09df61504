-- A word that is refused ends all. Assumes nothing.
use Rattle.std.proofs.Common.{◌≡◌, ℕ, false, List, [], ◌∷◌, refl, ap, ◌∙◌}
use Rattle.tasks.specs.Reading.{got, and_then}
use Rattle.book.specs.Chain.{next_digest}
use Rattle.book.specs.Lengths.{round_text}
use Rattle.words.specs.Said.{end}
use Rattle.words.specs.Writing.{said_bytes, is_got}
use Rattle.round.specs.Over.{Over, fault, out}
use Rattle.planning.specs.Planning as planning
use Rattle.planning.specs.Run.{and_on}
use Rattle.asking.specs.Asking as asking
use Rattle.joined.specs.Side.{says}
use Rattle.joined.specs.Sides.{goes, plans, awaits_end, asks, awaits_answer}
use Rattle.joined.specs.Refused.{sends, RefusedEnds}
use Rattle.joined.proofs.Sides.{plans-out, asks-out}

module _ (H : List ℕ → List ℕ) (left : ℕ) (drawn : List ℕ) (o : Over) (later : List (List ℕ)) where
  planned : sends (plans H left drawn (out o)) later ≡ []
  unfolding sends
  planned = ap (λ s. sends s later) (plans-out H left drawn o)

  asked : sends (asks H left drawn (out o)) later ≡ []
  unfolding sends
  asked = ap (λ s. sends s later) (asks-out H left drawn o)

pub refused_ends : (H : List ℕ → List ℕ) → RefusedEnds H
unfolding sends
refused_ends H = record {
  no_ask = λ s left drawn word f later e.
      let r = s.ready in
      let ends : planning.answer s word ≡ out (planning.stops r f) = rw e refl in
      ap (λ x. sends (goes x (λ o. says o.opened (awaits_end H (plans H left drawn) o))) later) ends;
  no_end = λ s left drawn word f later e.
      let r = s.closed.ready in
      let ends : planning.hear s word ≡ out (planning.stops r f) = rw e refl in
      ap (λ x. sends (plans H left drawn (and_on x (planning.settle H))) later) ends ∙ planned H left drawn _ later;
  not_content = λ s left drawn word later e.
      let r = s.closed.ready in
      ap (λ g. sends (plans H left drawn (and_on (planning.led r (and_then g (λ c. got record { opened = s; end = word; content = c }))) (planning.settle H))) later) e ∙ planned H left drawn _ later;
  no_task = λ t r drawn word f later e. ap (λ g. sends (asks H r drawn (asking.begun H record { task = t; rounds = r } g)) later) e ∙ asked H r drawn _ later;
  no_boxes = λ s left drawn word f later e.
      let ends : asking.question s word ≡ out record { outcome = fault f s.ready.round; digest = s.ready.digest } = rw e refl in
      ap (λ x. sends (goes x (λ a. says a.ask (awaits_answer H (asks H left drawn) a))) later) ends;
  no_answer = λ s left drawn word f later e.
      let r = s.drawn.ready in
      let t = asking.test H s word in
      ap (λ g. said_bytes (end r.round (is_got g)) ∷ sends (asks H left drawn (asking.settled r (next_digest H r.digest (round_text s.boxes s.ask t.opened (said_bytes (end r.round (is_got g))))) g)) later) e ∙
      ap (λ words. said_bytes (end r.round false) ∷ words) (asked H left drawn _ later);
}
