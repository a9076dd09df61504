-- The boxes of several trains: made of those of fewer, and from the digests of their texts. Assumes nothing.
use Rattle.std.proofs.Common.{◌≡◌, ℕ, zero, suc, ◌+◌, ◌*◌, ◌<◌, ◌≤◌, List, [], ◌∷◌, ◌++◌, length, get_or, take, drop, sym, refl, ap, ◌∙◌, add-zero, arith}
use Rattle.std.specs.List.{flat_map}
use Rattle.std.proofs.lemmas.List.{append_assoc, drop_at, drop-drop, drop-take, length-append, length-take-le, take_at, take-take}
use Rattle.sha256.specs.Sha256.{sha256}
use Rattle.boxes.specs.Box.{box_of, boxes_of, Laid}
use Rattle.boxes.proofs.Digests.{length-sha256}

module _ (H : List ℕ → List ℕ) (round : ℕ) where
  -- the box of train first + j
  abbrev pub box_at : ℕ → List ℕ → List ℕ → ℕ → List ℕ
  box_at first numbers chances j = box_of H round (first + j) (get_or numbers j 0) (take 32 (drop (32 * j) chances))

  box-later : (first number : ℕ) (numbers chances : List ℕ) (j : ℕ) → box_at first (number ∷ numbers) chances (suc j) ≡ box_at (first + 1) numbers (drop 32 chances) j
  box-later first number numbers chances j =
      let e : first + suc j ≡ first + 1 + j = omega arith in
      let f : 32 * suc j ≡ 32 + 32 * j = omega arith in
      rw (drop-drop (32 * j) 32 chances, e, f)

  pub boxes-joined : (numbers : List ℕ) (ds : List (List ℕ)) (first : ℕ) (chances : List ℕ) → length ds ≡ length numbers →
      ((j : ℕ) → j < length numbers → get_or ds j [] ≡ box_at first numbers chances j) → flat_map (λ d. d) ds ≡ boxes_of H round first numbers chances
  unfolding boxes_of
  boxes-joined [] [] first chances l h = refl
  boxes-joined [] (d ∷ ds) first chances l h = absurd (omega arith)
  boxes-joined (n ∷ numbers) [] first chances l h = absurd (omega arith)
  boxes-joined (n ∷ numbers) (d ∷ ds) first chances l h =
      let a : d ≡ box_of H round first n (take 32 chances) = rw (add-zero first) at (h 0 (omega arith)) in
      let b = boxes-joined numbers ds (first + 1) (drop 32 chances) (omega arith) (λ j k. h (suc j) (omega arith) ∙ box-later first n numbers chances j) in
      cc

  pub boxes_split : (numbers : List ℕ) (n first : ℕ) (chances : List ℕ) → n ≤ length numbers →
      boxes_of H round first numbers chances ≡ boxes_of H round first (take n numbers) chances ++ boxes_of H round (first + n) (drop n numbers) (drop (32 * n) chances)
  unfolding boxes_of
  boxes_split numbers zero first chances h = rw (add-zero first)
  boxes_split [] (suc n) first chances h = absurd (omega arith)
  boxes_split (x ∷ numbers) (suc n) first chances h =
      let e : first + suc n ≡ first + 1 + n = omega arith in
      let f : 32 * suc n ≡ 32 + 32 * n = omega arith in
      let d = drop-drop (32 * n) 32 chances in
      let i = boxes_split numbers n (first + 1) (drop 32 chances) (omega arith) in
      rw (i, e, f, d) (sym (append_assoc (box_of H round first x (take 32 chances)) _ _))

  -- the boxes of n trains more
  pub boxes-more : (numbers chances : List ℕ) (t n : ℕ) → t + n ≤ length numbers →
      boxes_of H round 0 (take t numbers) chances ++ boxes_of H round t (take n (drop t numbers)) (drop (32 * t) chances) ≡ boxes_of H round 0 (take (t + n) numbers) chances
  boxes-more numbers chances t n h =
      let s = boxes_split (take (t + n) numbers) t 0 chances (simp length-take-le (omega arith)) in
      let b : 0 + t ≡ t = omega arith in
      let e = take-take t (t + n) numbers (omega arith) in
      let f = drop-take t n numbers in
      cc

  pub length-boxes : ((x : List ℕ) → length (H x) ≡ 32) → (numbers chances : List ℕ) (first : ℕ) → length (boxes_of H round first numbers chances) ≡ 32 * length numbers
  unfolding boxes_of
  length-boxes h [] chances first = refl
  length-boxes h (n ∷ numbers) chances first =
      simp (length-append, h, length-boxes h numbers (drop 32 chances) (first + 1)) (omega arith)

  box_here : ((x : List ℕ) → length (H x) ≡ 32) → (numbers chances : List ℕ) (first j : ℕ) → j < length numbers →
      take 32 (drop (32 * j) (boxes_of H round first numbers chances)) ≡ box_at first numbers chances j
  unfolding boxes_of
  box_here h [] chances first j l = absurd (omega arith)
  box_here h (n ∷ numbers) chances first zero l = rw (add-zero first) (take_at (box_of H round first n (take 32 chances)) _ 32 (h _))
  box_here h (n ∷ numbers) chances first (suc j) l =
      let b = box_of H round first n (take 32 chances) in
      let r = boxes_of H round (first + 1) numbers (drop 32 chances) in
      let f : 32 * suc j ≡ 32 + 32 * j = omega arith in
      let d : drop (32 * j) (drop 32 (b ++ r)) ≡ drop (32 * j) r = ap (drop (32 * j)) (drop_at b r 32 (h _)) in
      let e = drop-drop (32 * j) 32 (b ++ r) in
      let i = box_here h numbers (drop 32 chances) (first + 1) j (omega arith) in
      let g = box-later first n numbers chances j in
      cc

pub laid : (H : List ℕ → List ℕ) → ((x : List ℕ) → length (H x) ≡ 32) → Laid H
laid H h =
    record {
      long = λ round first numbers chances. length-boxes H round h numbers chances first;
      each = λ round first numbers chances j l. box_here H round h numbers chances first j l;
    }

pub laid_sha256 : Laid sha256
laid_sha256 = laid sha256 length-sha256
