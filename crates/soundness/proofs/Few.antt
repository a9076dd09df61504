-- So few questions are put. Assumes nothing.
use Rattle.std.proofs.Common.{◌≡◌, ℕ, zero, suc, ◌≤◌, List, [], ◌∷◌, ◌++◌, length, sym, refl, ap, ◌∙◌, append-nil, arith}
use Rattle.std.specs.List.{flat_map}
use Rattle.std.proofs.lemmas.List.Concat.{flat_map-append}
use Rattle.paths.specs.Cheat.{up_to}
use Rattle.round.specs.Line.{Event, Other}
use Rattle.round.specs.Over.{Leads, on, out}
use Rattle.asking.specs.Asking.{Ready}
use Rattle.asking.specs.Run.{boxed}
use Rattle.soundness.specs.Texts.{accepted, openings, points, PutsFew}

module _ (H : List ℕ → List ℕ) (other : Other) where
  few : (is : List ℕ) (lead : Leads Ready) (line : List Event) → points H other is lead line ≤ length is
  unfolding points
  few [] lead line = omega arith
  few (i ∷ is) (out o) line = omega arith
  few (i ∷ is) (on s) line = let g = boxed H other line record { ready = s; pair = i } in omega (arith, few is g.to g.line)

  each : (s : Ready) (line : List Event) (m : ℕ) → openings H other s line m ≡ flat_map (accepted H other s line) (up_to m)
  unfolding openings up_to
  each s line zero = refl
  each s line (suc m) =
      let f = accepted H other s line in
      ap (λ xs. xs ++ f m) (each s line m) ∙ (ap (λ xs. flat_map f (up_to m) ++ xs) (sym (append-nil (f m))) ∙ sym (flat_map-append f (up_to m) (m ∷ [])))

pub puts_few : (H : List ℕ → List ℕ) (other : Other) → PutsFew H other
puts_few H other = record { few_points = few H other; each_once = each H other }
