-- What rounds draw stands in one row of bytes.
use Rattle.std.proofs.Common.{◌≡◌, ℕ, List, [], ◌∷◌, ◌++◌, length, drop, sym, ap, ◌∙◌, subst, append_assoc}
use Rattle.std.proofs.lemmas.List.{append-nil, take-append-drop}
use Rattle.tasks.specs.Reading.{Got, got, and_then}
use Rattle.lots.specs.Lots.{Had, each_as, in_turn}
use Rattle.lots.specs.Laws.{Follows}
use Rattle.keeping.specs.Drawn.{held, took, left_of, TakesSo, AreRounds, after, read_for, OneRow}

module _ {A : Type 0} (draws : List ℕ → Got (Had A)) (follows : Follows draws) where
  pub one_row : OneRow draws
  unfolding AreRounds after read_for in_turn
  one_row old [] rounds = ap (λ bs. got record { what = []; left = bs }) (append-nil (left_of old))
  one_row old (r ∷ rs) (goes, e, takes, more) =
      let there : List ℕ = held r.drawn in
      let read : List ℕ = drop (length (left_of old)) there in
      let rest : List ℕ = read_for r.drawn rs in
      let left : left_of r.drawn ≡ r.had.left = subst (λ g. TakesSo g there (took r.drawn)) e takes in
      let front : left_of old ++ read ≡ there = ap (λ bs. bs ++ read) (sym goes) ∙ take-append-drop (length (left_of old)) there in
      let row : left_of old ++ (read ++ rest) ≡ there ++ rest = sym (append_assoc (left_of old) read rest) ∙ ap (λ bs. bs ++ rest) front in
      let turn : Had A → Got (Had (List A)) = λ h. each_as (λ xs. h.what ∷ xs) (in_turn draws (length rs) h.left) in
      ap (λ bs. and_then (draws bs) turn) row
      ∙ ap (λ g. and_then g turn) (follows there r.had e rest)
      ∙ ap (λ bs. each_as (λ xs. r.had.what ∷ xs) (in_turn draws (length rs) (bs ++ rest))) (sym left)
      ∙ ap (each_as (λ xs. r.had.what ∷ xs)) (one_row r.drawn rs more)
