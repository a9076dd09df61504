-- Boxes closed group by group, eight trains in each but the last. Assumes nothing.
use Rattle.std.proofs.Common.{◌≡◌, ℕ, ◌+◌, ◌-◌, ◌*◌, ◌<◌, ◌≤◌, min, List, ◌++◌, length, take, drop, sym, refl, ap, ◌∙◌, arith}
use borrow.Rule.Slice.PartMut.{put_mid}
use Rattle.std.proofs.lemmas.List.{drop_at, drop-drop, length-drop, take_at, take_rest}
use Rattle.sha256.specs.Sha256.{sha256}
use Rattle.boxes.specs.Box.{boxes_of}
use Rattle.boxes.proofs.Boxes.{boxes-more, length-boxes}
use Rattle.boxes.proofs.Digests.{length-sha256}
use Rattle.boxes.proofs.Parts.{Put, put-none, put-more}

-- the trains of n groups, of so many in all
abbrev pub in_groups : ℕ → List ℕ → ℕ
in_groups n numbers = min (8 * n) (length numbers)

-- the boxes of n groups are put, and the rest is as it was
pub record Closed (round : ℕ) (numbers chances was : List ℕ) (n : ℕ) (left out : List ℕ) : Type 0 where
  pub left_is : left ≡ drop (in_groups n numbers) numbers
  pub put : Put 32 (in_groups n numbers) (boxes_of sha256 round 0 (take (in_groups n numbers) numbers) chances) out was

module _ (round : ℕ) (numbers chances was : List ℕ) where
  pub closed-none : (n : ℕ) (left : List ℕ) → n ≡ 0 → left ≡ numbers → Closed round numbers chances was n left was
  unfolding boxes_of
  closed-none n left en el = let e : in_groups n numbers ≡ 0 = omega arith in record { left_is = rw e el; put = rw e (put-none 32 was) }

  -- one more group
  pub closed-more : (n i m : ℕ) (left group rest out last : List ℕ) → Closed round numbers chances was n left out → i ≡ n → m ≡ n + 1 →
      left ≡ group ++ rest → length group ≡ min 8 (length left) → 0 < length left → 32 * length numbers ≤ length out →
      last ≡ boxes_of sha256 round (8 * i) group (take (length chances - 32 * (8 * i)) (drop (32 * (8 * i)) chances)) ++ drop (32 * length group) (take (length out - 32 * (8 * i)) (drop (32 * (8 * i)) out)) →
      Closed round numbers chances was m rest (put_mid (32 * (8 * i)) (length out - 32 * (8 * i)) out last)
  closed-more n i m left group rest out last c ei em e l pos room el =
      let t = 8 * n in
      let k = length group in
      let j = in_groups n numbers in
      let left_long = ap length c.left_is ∙ length-drop j numbers in
      let before : j ≡ t = omega arith in
      let after : in_groups m numbers ≡ t + k = omega arith in
      let left_is : left ≡ drop t numbers = rw before at c.left_is in
      let g : group ≡ take k (drop t numbers) = sym (take_at group rest k refl) ∙ ap (take k) (sym e ∙ left_is) in
      let r : rest ≡ drop (t + k) numbers = sym (drop_at group rest k refl) ∙ ap (drop k) (sym e ∙ left_is) ∙ drop-drop k t numbers in
      let b = ap (λ ys. boxes_of sha256 round 0 (take t numbers) chances ++ boxes_of sha256 round t ys (drop (32 * t) chances)) g ∙ boxes-more sha256 round numbers chances t k (omega arith) in
      let p : Put 32 t (boxes_of sha256 round 0 (take t numbers) chances) out was = rw before at c.put in
      let q = put-more 32 t k (32 * k) _ (boxes_of sha256 round t group (drop (32 * t) chances)) out was last refl (omega arith)
      (length-boxes sha256 round length-sha256 group (drop (32 * t) chances) t) (rw (ei, take_rest chances (32 * t)) at el) p in
      record { left_is = rw after r; put = rw (after, ei, ← b) q }
