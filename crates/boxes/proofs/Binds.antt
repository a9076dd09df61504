-- Two openings of one box that are not the same give two texts of one digest. Assumes nothing.
use Rattle.std.proofs.Common.{◌≡◌, ℕ, ◌^◌, ◌<◌, true, false, not, ◌&&◌, eqb, ◌⊎◌, List, sym, refl, ap, ◌∙◌, inl, inr}
use Rattle.std.proofs.lemmas.Bool.{and_from, and_parts, both_ways, cases_Bool, eq-eqb, eqb-true, not_from_false, not-true}
use Rattle.paths.specs.Count.{same_row}
use Rattle.boxes.specs.Box.{Opening, text_of, opens_box}
use Rattle.boxes.specs.Binding.{collides, same_opening, texts_of, opened_twice, Binds}
use Rattle.boxes.proofs.Bytes.{bytes_same}
use Rattle.paths.proofs.Same.{same_decides, same_itself}
use Rattle.boxes.proofs.Texts.{text-parts}

-- two different texts of one digest
pub collides_from : (H : List ℕ → List ℕ) (a b : List ℕ) → same_row a b ≡ false → H a ≡ H b → collides H (a, b) ≡ true
collides_from H a b d e = and_from _ _ (not_from_false _ d) ((same_decides _ _).1 e)

pub same_opening-itself : (x : Opening) → same_opening x x ≡ true
same_opening-itself x = and_from _ _ (and_from _ _ (eq-eqb x.train _ refl) (eq-eqb x.number _ refl)) (same_itself x.chance)

module _ (x y : Opening) where
  pub opening_same : x.train ≡ y.train → x.number ≡ y.number → x.chance ≡ y.chance → x ≡ y
  opening_same e f g = λ i. record { train = e i; number = f i; chance = g i }

  pub same_opening_lem : same_opening x y ≡ true → x ≡ y
  same_opening_lem h =
      let a = and_parts (eqb x.train y.train && eqb x.number y.number) (same_row x.chance y.chance) h in
      let b = and_parts (eqb x.train y.train) (eqb x.number y.number) a.0 in
      opening_same (eqb-true _ _ b.0) (eqb-true _ _ b.1) ((same_decides _ _).0 a.1)

  text_same : (round : ℕ) → x.train < 2 ^ 16 → y.train < 2 ^ 16 → text_of round x ≡ text_of round y → x ≡ y
  text_same round hx hy e =
      let p = text-parts round round x.train y.train x.number y.number x.chance y.chance e in
      opening_same (bytes_same 2 x.train y.train hx hy p.1) p.2 p.3

  pub opened-same : (H : List ℕ → List ℕ) (digest : List ℕ) (round : ℕ) → x.train < 2 ^ 16 → y.train < 2 ^ 16 →
      opens_box H digest round x ≡ true → opens_box H digest round y ≡ true → (x ≡ y) ⊎ (collides H (texts_of round x y) ≡ true)
  opened-same H digest round hx hy ox oy =
      elim (cases_Bool (same_row (text_of round x) (text_of round y))) [
        | inl e ↦ inl (text_same round hx hy ((same_decides (text_of round x) (text_of round y)).0 e))
        | inr e ↦ inr (collides_from H (text_of round x) (text_of round y) e ((same_decides (H (text_of round x)) digest).0 ox ∙ sym ((same_decides (H (text_of round y)) digest).0 oy)))
      ]

  -- what the code answers where a box is opened twice
  pub opened_twice_lem : (H : List ℕ → List ℕ) (digest : List ℕ) (round : ℕ) → x.train < 2 ^ 16 → y.train < 2 ^ 16 →
      opened_twice H digest round x y ≡ true → collides H (texts_of round x y) ≡ true
  opened_twice_lem H digest round hx hy h =
      let a = and_parts (not (same_opening x y) && opens_box H digest round x) (opens_box H digest round y) h in
      let b = and_parts (not (same_opening x y)) (opens_box H digest round x) a.0 in
      elim (opened-same H digest round hx hy b.1 a.1) [
        | inl e ↦ absurd (both_ways (same_opening x y) (not-true _ b.0) (ap (same_opening x) (sym e) ∙ same_opening-itself x))
        | inr e ↦ e
      ]

pub binds : (H : List ℕ → List ℕ) → Binds H
binds H digest round x y hx hy ox oy = opened-same x y H digest round hx hy ox oy
