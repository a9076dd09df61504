-- The Ask and the End that are awaited: which bytes are one, and what is made of others. Assumes nothing.
use Rattle.std.proofs.Common.{◌≡◌, ℕ, ◌<◌, ◌≤◌, Bool, true, false, eqb, ltb, ◌⊎◌, List, length, refl, ap, ◌∙◌, inl, inr}
use Rattle.std.proofs.lemmas.Bool.{cases_Bool, eqb-true, eqb-false, ltb-true, ltb-false}
use Rattle.paths.specs.Plan.{Task, all_below}
use Rattle.tasks.specs.Reading.{Got, got, refused, and_then}
use Rattle.words.specs.Said.{Said, task, plan, boxes, ask, opened, end}
use Rattle.words.specs.Reading.{read_word}
use Rattle.words.specs.Awaited.{on_end}
use Rattle.words.specs.Writing.{said_bytes, WordLaw}
use Rattle.planning.specs.Planning.{on_ask, ask_in, end_in}
use Rattle.planning.specs.Conduct.{AnAsk, AnEnd, Refused, no_word, not_awaited}

module _ (t : Task) (n : ℕ) (w : List ℕ) where
  -- what is made of the bytes where an Ask is awaited
  pub data AskHeard : Type 0 where
    asks : (i : ℕ) → i < length t.pairs → w ≡ said_bytes (ask n i) → ask_in t n w ≡ got i → AskHeard
    asks_none : (i : ℕ) → length t.pairs ≤ i → w ≡ said_bytes (ask n i) → ask_in t n w ≡ refused 7 → AskHeard
    asks_not : (f : ℕ) → Refused t (AnAsk n) w f → ask_in t n w ≡ refused f → AskHeard

  -- and where an End is awaited
  pub data EndHeard : Type 0 where
    ends : (c : Bool) → w ≡ said_bytes (end n c) → end_in t n w ≡ got c → EndHeard
    ends_not : (f : ℕ) → Refused t (AnEnd n) w f → end_in t n w ≡ refused f → EndHeard

  module _ (law : WordLaw t) (bytes : all_below 256 w ≡ true) where
    no_ask_lem : (x : Said) → read_word t w ≡ got x → on_ask t n x ≡ refused 6 → (AnAsk n x → ⊥) → AskHeard
    no_ask_lem x e h q = asks_not 6 (not_awaited x e q) (ap (λ g. and_then g (on_ask t n)) e ∙ h)

    no_end_lem : (x : Said) → read_word t w ≡ got x → on_end n x ≡ refused 6 → (AnEnd n x → ⊥) → EndHeard
    no_end_lem x e h q = ends_not 6 (not_awaited x e q) (ap (λ g. and_then g (on_end n)) e ∙ h)

    by_pair : (i : ℕ) → read_word t w ≡ got (ask n i) → (ltb i (length t.pairs) ≡ true) ⊎ (ltb i (length t.pairs) ≡ false) → (eqb n n ≡ true) → AskHeard
    by_pair i e (inl h) s = asks i (ltb-true _ _ h) (law.only w _ bytes e).1 (rw (e, s, h) refl)
    by_pair i e (inr h) s = asks_none i (ltb-false _ _ h) (law.only w _ bytes e).1 (rw (e, s, h) refl)

    by_round : (r i : ℕ) → read_word t w ≡ got (ask r i) → (eqb r n ≡ true) ⊎ (eqb r n ≡ false) → AskHeard
    by_round r i e (inl h) = let s = eqb-true r n h in by_pair i (rw s at e) (cases_Bool _) (rw s at h)
    by_round r i e (inr h) = no_ask_lem (ask r i) e (rw h refl) (λ q. let s : r ≡ n = cc q.1 in eqb-false r n h s)

    ask_in_lem : (x : Said) → read_word t w ≡ got x → AskHeard
    ask_in_lem (ask r i) e = by_round r i e (cases_Bool _)
    ask_in_lem (task bs) e = no_ask_lem (task bs) e refl (λ q. cc q.1)
    ask_in_lem (plan p) e = no_ask_lem (plan p) e refl (λ q. cc q.1)
    ask_in_lem (boxes r ds) e = no_ask_lem (boxes r ds) e refl (λ q. cc q.1)
    ask_in_lem (opened r x y) e = no_ask_lem (opened r x y) e refl (λ q. cc q.1)
    ask_in_lem (end r c) e = no_ask_lem (end r c) e refl (λ q. cc q.1)

    by_end : (r : ℕ) (c : Bool) → read_word t w ≡ got (end r c) → (eqb r n ≡ true) ⊎ (eqb r n ≡ false) → EndHeard
    by_end r c e (inl h) = let s = eqb-true r n h in ends c ((law.only w _ bytes e).1 ∙ ap (λ m. said_bytes (end m c)) s) (rw (e, h) refl)
    by_end r c e (inr h) = no_end_lem (end r c) e (rw h refl) (λ q. let s : r ≡ n = cc q.1 in eqb-false r n h s)

    end_in_lem : (x : Said) → read_word t w ≡ got x → EndHeard
    end_in_lem (end r c) e = by_end r c e (cases_Bool _)
    end_in_lem (task bs) e = no_end_lem (task bs) e refl (λ q. cc q.1)
    end_in_lem (plan p) e = no_end_lem (plan p) e refl (λ q. cc q.1)
    end_in_lem (boxes r ds) e = no_end_lem (boxes r ds) e refl (λ q. cc q.1)
    end_in_lem (ask r i) e = no_end_lem (ask r i) e refl (λ q. cc q.1)
    end_in_lem (opened r x y) e = no_end_lem (opened r x y) e refl (λ q. cc q.1)

    pub ask-heard : AskHeard
    ask-heard = go (read_word t w) refl
      where
        go : (g : Got Said) → read_word t w ≡ g → AskHeard
        go (got x) e = ask_in_lem x e
        go (refused f) e = asks_not f (no_word f e) (rw e refl)

    pub end-heard : EndHeard
    end-heard = go (read_word t w) refl
      where
        go : (g : Got Said) → read_word t w ≡ g → EndHeard
        go (got x) e = end_in_lem x e
        go (refused f) e = ends_not f (no_word f e) (rw e refl)
