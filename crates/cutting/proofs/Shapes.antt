-- What words are cut into: rounds of the protocol, which are all of the words, each as long as such a word is. Assumes nothing.
use Rattle.std.proofs.Common.{◌≡◌, ℕ, ◌+◌, ◌*◌, ◌^◌, ◌<◌, Bool, true, false, cond, not, ◌&&◌, eqb, ltb, ◌⊎◌, List, [], ◌∷◌, length, sym, refl, ap, ◌∙◌, subst, inl, inr, arith}
use Rattle.std.specs.List.{AllByRecursion as All}
use Rattle.std.proofs.lemmas.Bool.{and_parts, eqb-true, ltb-true}
use Rattle.paths.specs.Plan.{Task}
use Rattle.tasks.specs.Reading.{Got, Looked, got, refused, and_then, read_task, read_plan}
use Rattle.tasks.proofs.Units.{then_got, cond-got}
use Rattle.words.specs.Said.{Said, task, plan, boxes, ask, opened, end}
use Rattle.words.specs.Reading.{exactly, read_word}
use Rattle.words.specs.Awaited.{on_boxes, on_ask, on_end}
use Rattle.words.proofs.Laws.{by_kind, unknown_kind}
use Rattle.boxes.specs.Box.{Opening}
use Rattle.cutting.specs.Cutting.{Asked, Round, Awaits, for_boxes, for_ask, for_answer, for_end, for_nothing, Heard, waits, closes, Answer, is_opened, is_not_content, on_answer, answered, awaited, hear, behind, Cut, cut_into, fault_in, also_round, cut_short, cut_on, cut_from, if_any, onto, all_words}
use Rattle.cutting.specs.Laws.{IsRound, AreRounds, none, last, more}

not_true : (b : Bool) → not b ≡ true → b ≡ false
not_true true e = cc
not_true false e = refl

module _ (t : Task) where
  -- how long the bytes are that were read as a word of a round
  abbrev Long : ℕ → Said → Type 0
  Long l (boxes r ds) = l ≡ 7 + 32 * t.trains
  Long l (ask r i) = l ≡ 7
  Long l (opened r x y) = l ≡ 75
  Long l (end r c) = l ≡ 6
  Long l (task bs) = Unit {0}
  Long l (plan p) = Unit {0}

  exact_long : (size : ℕ) (good : Bool) (v : Said) (bs : List ℕ) → (length bs ≡ size → Long (length bs) v) → (x : Said) → exactly size good v bs ≡ got x → Long (length bs) x
  exact_long size good v bs h x e =
      let p = cond-got (eqb (length bs) size && good) 1 (got v) x e in
      let same : v ≡ x = cc p.1 in
      subst (Long (length bs)) same (h (eqb-true _ _ (and_parts (eqb (length bs) size) good p.0).0))

  then_long : {A : Type 0} (g : Got A) (say : A → Said) (l : ℕ) → ((y : A) → Long l (say y)) → (x : Said) → and_then g (λ y. got (say y)) ≡ got x → Long l x
  then_long g say l h x e =
      let p = then_got g (λ y. got (say y)) x e in
      let same : say p.0 ≡ x = cc p.2 in
      subst (Long l) same (h p.0)

  read_long : (bs : List ℕ) (x : Said) → read_word t bs ≡ got x → Long (length bs) x
  read_long [] = λ x e. cc
  read_long (k ∷ bs) =
      by_kind (λ k. (x : Said) → read_word t (k ∷ bs) ≡ got x → Long (length (k ∷ bs)) x)
      (then_long (read_task (1 ∷ bs)) (λ _. task (1 ∷ bs)) _ (λ _. tt)) (then_long (read_plan t (2 ∷ bs)) plan _ (λ _. tt))
      (exact_long (7 + 32 * t.trains) _ _ (3 ∷ bs) (λ e. e)) (exact_long 7 true _ (4 ∷ bs) (λ e. e)) (exact_long 75 true _ (5 ∷ bs) (λ e. e)) (exact_long 6 _ _ (6 ∷ bs) (λ e. e))
      (λ k u x e. cc (unknown_kind t k bs u)) k

  -- the word that was awaited is such a word

  boxes-was : (n : ℕ) (x : Said) (y : Looked) → on_boxes n x ≡ got y → (ds : List ℕ) × (x ≡ boxes n ds)
  boxes-was n (boxes r ds) y e = (ds, ap (λ m. boxes m ds) (eqb-true r n (cond-got (eqb r n) 6 (got tt) y e).0))
  boxes-was n (task bs) y e = cc
  boxes-was n (plan p) y e = cc
  boxes-was n (ask r i) y e = cc
  boxes-was n (opened r a b) y e = cc
  boxes-was n (end r c) y e = cc

  ask-was : (n : ℕ) (x : Said) (y : ℕ) → on_ask n x ≡ got y → x ≡ ask n y
  ask-was n (ask r i) y e = let p = cond-got (eqb r n) 6 (got i) y e in let k = eqb-true r n p.0 in cc (k, p.1)
  ask-was n (task bs) y e = cc
  ask-was n (plan p) y e = cc
  ask-was n (boxes r ds) y e = cc
  ask-was n (opened r a b) y e = cc
  ask-was n (end r c) y e = cc

  abbrev AnswerWas : ℕ → Said → Answer → Type 0
  AnswerWas n x is_opened = (a b : Opening) × (x ≡ opened n a b)
  AnswerWas n x is_not_content = x ≡ end n false

  answer-was : (n : ℕ) (x : Said) (y : Answer) → on_answer n x ≡ got y → AnswerWas n x y
  answer-was n (opened r a b) y e =
      let p = cond-got (eqb r n) 6 (got is_opened) y e in
      let same : is_opened ≡ y = cc p.1 in
      subst (AnswerWas n (opened r a b)) same (a, b, ap (λ m. opened m a b) (eqb-true r n p.0))
  answer-was n (end r c) y e =
      let p = cond-got (eqb r n && not c) 6 (got is_not_content) y e in
      let same : is_not_content ≡ y = cc p.1 in
      let k = and_parts (eqb r n) (not c) p.0 in
      let r_is = eqb-true r n k.0 in
      let c_is = not_true c k.1 in
      subst (AnswerWas n (end r c)) same (cc (r_is, c_is))
  answer-was n (task bs) y e = cc
  answer-was n (plan p) y e = cc
  answer-was n (boxes r ds) y e = cc
  answer-was n (ask r i) y e = cc

  end-was : (n : ℕ) (x : Said) (y : Bool) → on_end n x ≡ got y → x ≡ end n y
  end-was n (end r c) y e = let p = cond-got (eqb r n) 6 (got c) y e in let k = eqb-true r n p.0 in cc (k, p.1)
  end-was n (task bs) y e = cc
  end-was n (plan p) y e = cc
  end-was n (boxes r ds) y e = cc
  end-was n (ask r i) y e = cc
  end-was n (opened r a b) y e = cc

  -- the words of round n that came so far

  abbrev IsBoxes : ℕ → List ℕ → Type 0
  IsBoxes n w = (ds : List ℕ) × (read_word t w ≡ got (boxes n ds))

  abbrev IsOpened : ℕ → List ℕ → Type 0
  IsOpened n w = (x y : Opening) × (read_word t w ≡ got (opened n x y))

  pub record IsAsked (n : ℕ) (a : Asked) : Type 0 where
    pub boxes_are : IsBoxes n a.boxes
    pub ask_is : read_word t a.ask ≡ got (ask n a.pair)

  abbrev SoFar : ℕ → Awaits → Type 0
  SoFar n for_boxes = Unit {0}
  SoFar n (for_ask b) = IsBoxes n b
  SoFar n (for_answer a) = IsAsked n a
  SoFar n (for_end a o) = IsAsked n a × IsOpened n o
  SoFar n for_nothing = Unit {0}

  -- before those that follow
  abbrev came : Awaits → List (List ℕ) → List (List ℕ)
  came for_boxes ws = ws
  came (for_ask b) ws = b ∷ ws
  came (for_answer a) ws = a.boxes ∷ a.ask ∷ ws
  came (for_end a o) ws = a.boxes ∷ a.ask ∷ o ∷ ws
  came for_nothing ws = ws

  -- what a word that was heard leads to
  abbrev Led : ℕ → Awaits → List ℕ → Heard → Type 0
  Led n a w (waits b) = SoFar n b × ((ws : List (List ℕ)) → came a (w ∷ ws) ≡ came b ws)
  Led n a w (closes r) = IsRound t n r × ((ws : List (List ℕ)) → came a (w ∷ ws) ≡ onto r ws)

  pub some : (n : ℕ) (o : List ℕ) (ws : List (List ℕ)) → IsOpened n o → o ∷ ws ≡ if_any o ws
  some n [] ws h = cc h.2
  some n (x ∷ xs) ws h = refl

  -- where a word was heard, what was read, and what came of it
  heard : {A : Type 0} (w : List ℕ) (test : Said → Got A) (k : A → Heard) (h : Heard) (P : Heard → Type 0) → and_then (and_then (read_word t w) test) (λ y. got (k y)) ≡ got h →
      ((x : Said) (y : A) → test x ≡ got y → read_word t w ≡ got x → P (k y)) → P h
  heard w test k h P e found =
      let p = then_got (and_then (read_word t w) test) (λ y. got (k y)) h e in
      let q = then_got (read_word t w) test p.0 p.1 in
      let same : k p.0 ≡ h = cc p.2 in
      subst P same (found q.0 p.0 q.2 q.1)

  module _ (n : ℕ) (few : n < 2 ^ 24) where
    answer-led : (a : Asked) (w : List ℕ) (x : Said) (k : Answer) → IsAsked n a → read_word t w ≡ got x → AnswerWas n x k → Led n (for_answer a) w (answered a w k)
    answer-led a w x is_opened s e h = ((s, (h.0, h.1, e ∙ ap got h.2)), λ ws. refl)
    answer-led a w x is_not_content s e h =
        (record { few = few; boxes_are = s.boxes_are; ask_is = s.ask_is; answer_is = inr (refl, refl); end_is = e ∙ ap got h }, λ ws. refl)

    awaited-led : (a : Awaits) (w : List ℕ) (h : Heard) → SoFar n a → awaited t n a w ≡ got h → Led n a w h
    awaited-led for_boxes w h s e =
        heard w (on_boxes n) (λ _. waits (for_ask w)) h (Led n for_boxes w) e (λ x y o r. let b = boxes-was n x y o in ((b.0, r ∙ ap got b.1), λ ws. refl))
    awaited-led (for_ask b) w h s e =
        heard w (on_ask n) (λ i. waits (for_answer record { boxes = b; ask = w; pair = i })) h (Led n (for_ask b) w) e (λ x y o r.
        (record { boxes_are = s; ask_is = r ∙ ap got (ask-was n x y o) }, λ ws. refl))
    awaited-led (for_answer a) w h s e = heard w (on_answer n) (answered a w) h (Led n (for_answer a) w) e (λ x y o r. answer-led a w x y s r (answer-was n x y o))
    awaited-led (for_end a o) w h s e =
        heard w (on_end n) (λ c. closes record { asked = a; opened = o; end = w; content = c }) h (Led n (for_end a o) w) e (λ x y f r. (
          record { few = few; boxes_are = s.0.boxes_are; ask_is = s.0.ask_is; answer_is = inl s.1; end_is = r ∙ ap got (end-was n x y f) },
          λ ws. ap (λ vs. a.boxes ∷ a.ask ∷ vs) (some n o (w ∷ ws) s.1),
        ))
    awaited-led for_nothing w h s e = let p = then_got (read_word t w) (λ _. refused 6) h e in cc

  hear-led : (n : ℕ) (a : Awaits) (w : List ℕ) (h : Heard) → SoFar n a → hear t n a w ≡ got h → Led n a w h
  hear-led n a w h s e =
      let p = then_got (awaited t n a w) (λ h. cond (ltb n (2 ^ 24)) (got h) (refused 12)) h e in
      let q = cond-got (ltb n (2 ^ 24)) 12 (got p.0) h p.2 in
      let same : p.0 ≡ h = cc q.1 in
      subst (Led n a w) same (awaited-led n (ltb-true _ _ q.0) a w p.0 s p.1)

  -- after an End with 0 any word is a fault
  pub nothing_heard : (n : ℕ) (w : List ℕ) → (f : ℕ) × (hear t n for_nothing w ≡ refused f)
  nothing_heard n w = go (read_word t w) refl
    where
      go : (g : Got Said) → read_word t w ≡ g → (f : ℕ) × (hear t n for_nothing w ≡ refused f)
      go (got x) e = (6, rw e refl)
      go (refused f) e = (f, rw e refl)

  pub over : (n : ℕ) (w : List ℕ) (ws : List (List ℕ)) → (f : ℕ) × (cut_from t n for_nothing (w ∷ ws) ≡ fault_in f n)
  unfolding cut_from
  over n w ws = let h = nothing_heard n w in (h.0, ap (λ g. cut_on n g (λ b. cut_from t n b ws) (λ r. cut_from t (n + 1) (behind r) ws)) h.1)

  none_more : (n : ℕ) (ws : List (List ℕ)) (rs : List Round) → cut_from t n for_nothing ws ≡ cut_into rs → rs ≡ []
  unfolding cut_from
  none_more n [] rs e = cc
  none_more n (w ∷ ws) rs e = let o = over n w ws in cc

  -- Words that are cut into rounds are their words, and these are rounds of the protocol
  pub record Shaped (n : ℕ) (rs : List Round) (ws : List (List ℕ)) : Type 0 where
    pub words_are : ws ≡ all_words rs
    pub rounds_are : AreRounds t n rs

  abbrev Shapes : List (List ℕ) → Type 0
  Shapes ws = (n : ℕ) (a : Awaits) (rs : List Round) → SoFar n a → cut_from t n a ws ≡ cut_into rs → Shaped n rs (came a ws)

  none_left : (n : ℕ) (a : Awaits) (rs : List Round) → cut_short n a ≡ cut_into rs → Shaped n rs (came a [])
  unfolding all_words
  none_left n for_boxes rs e = let same : [] ≡ rs = cc in subst (λ rs. Shaped n rs []) same (record { words_are = refl; rounds_are = none n })
  none_left n for_nothing rs e = let same : [] ≡ rs = cc in subst (λ rs. Shaped n rs []) same (record { words_are = refl; rounds_are = none n })
  none_left n (for_ask b) rs e = cc
  none_left n (for_answer a) rs e = cc
  none_left n (for_end a o) rs e = cc

  also : (r : Round) (c : Cut) (rs : List Round) → also_round r c ≡ cut_into rs → (qs : List Round) × (c ≡ cut_into qs) × (rs ≡ r ∷ qs)
  also r (cut_into qs) rs e = (qs, refl, cc)
  also r (fault_in f n) rs e = cc

  -- a round before those that its End lets follow
  followed : (n : ℕ) (r : Round) (ws : List (List ℕ)) (qs : List Round) → Shapes ws → IsRound t n r → (c : Bool) → r.content ≡ c →
      cut_from t (n + 1) (cond c for_boxes for_nothing) ws ≡ cut_into qs → (ws ≡ all_words qs) × AreRounds t n (r ∷ qs)
  followed n r ws qs ih h true k e = let f = ih (n + 1) for_boxes qs tt e in (f.words_are, more n r qs h k f.rounds_are)
  followed n r ws qs ih h false k e =
      let f = ih (n + 1) for_nothing qs tt e in
      (f.words_are, subst (λ qs. AreRounds t n (r ∷ qs)) (sym (none_more (n + 1) ws qs e)) (last n r h))

  one_word : (w : List ℕ) (ws : List (List ℕ)) → Shapes ws → (n : ℕ) (a : Awaits) (rs : List Round) → SoFar n a → (g : Got Heard) → hear t n a w ≡ g →
      cut_on n g (λ b. cut_from t n b ws) (λ r. cut_from t (n + 1) (behind r) ws) ≡ cut_into rs → Shaped n rs (came a (w ∷ ws))
  unfolding all_words
  one_word w ws ih n a rs s (refused f) h e = cc
  one_word w ws ih n a rs s (got (waits b)) h e =
      let l = hear-led n a w (waits b) s h in
      let f = ih n b rs l.0 e in
      record { words_are = l.1 ws ∙ f.words_are; rounds_are = f.rounds_are }
  one_word w ws ih n a rs s (got (closes r)) h e =
      let l = hear-led n a w (closes r) s h in
      let q = also r (cut_from t (n + 1) (behind r) ws) rs e in
      let f = followed n r ws q.0 ih l.0 r.content refl q.1 in
      let it : Shaped n (r ∷ q.0) (came a (w ∷ ws)) = record { words_are = l.1 ws ∙ ap (onto r) f.0; rounds_are = f.1 } in
      subst (λ rs. Shaped n rs (came a (w ∷ ws))) (sym q.2) it

  pub shapes : (ws : List (List ℕ)) → Shapes ws
  unfolding cut_from
  shapes [] n a rs s e = none_left n a rs e
  shapes (w ∷ ws) n a rs s e = one_word w ws (shapes ws) n a rs s (hear t n a w) refl e

  -- the words of a round have their lengths
  pub record RoundLong (r : Round) : Type 0 where
    pub boxes_are : length r.asked.boxes ≡ 7 + 32 * t.trains
    pub ask_is : length r.asked.ask ≡ 7
    pub opened_is : (length r.opened ≡ 75) ⊎ (r.opened ≡ [])
    pub end_is : length r.end ≡ 6

  round-long : (n : ℕ) (r : Round) → IsRound t n r → RoundLong r
  round-long n r h =
      record {
        boxes_are = read_long _ _ h.boxes_are.1;
        ask_is = read_long _ _ h.ask_is;
        opened_is = elim h.answer_is [ inl o ↦ inl (read_long _ _ o.2) | inr o ↦ inr o.0 ];
        end_is = read_long _ _ h.end_is;
      }

  pub all_long : (n : ℕ) (rs : List Round) → AreRounds t n rs → All RoundLong rs
  all_long n _ (none m) = tt
  all_long n _ (last m r h) = (round-long n r h, tt)
  all_long n _ (more m r rs h c k) = (round-long n r h, all_long (n + 1) rs k)
