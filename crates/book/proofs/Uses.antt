-- The lengths of texts tell their uses. Assumes nothing.
use Rattle.std.proofs.Common.{◌≡◌, ℕ, ◌≤◌, List, ◌++◌, length, sym, refl, ◌∙◌, inl, inr, arith}
use Rattle.std.proofs.lemmas.List.{length-append}
use Rattle.book.specs.Lengths.{Use, for_box, for_task, for_whole, for_short, bytes_for, TaskText, Apart, RoundText, RoundLong}

tells : (u v : Use) (m n : ℕ) → 1 ≤ m → 1 ≤ n → bytes_for u m ≡ bytes_for v n → u ≡ v
tells for_box for_box m n hm hn e = refl
tells for_box for_task m n hm hn e = absurd (omega arith)
tells for_box for_whole m n hm hn e = absurd (omega arith)
tells for_box for_short m n hm hn e = absurd (omega arith)
tells for_task for_box m n hm hn e = absurd (omega arith)
tells for_task for_task m n hm hn e = refl
tells for_task for_whole m n hm hn e = absurd (omega arith)
tells for_task for_short m n hm hn e = absurd (omega arith)
tells for_whole for_box m n hm hn e = absurd (omega arith)
tells for_whole for_task m n hm hn e = absurd (omega arith)
tells for_whole for_whole m n hm hn e = refl
tells for_whole for_short m n hm hn e = absurd (omega arith)
tells for_short for_box m n hm hn e = absurd (omega arith)
tells for_short for_task m n hm hn e = absurd (omega arith)
tells for_short for_whole m n hm hn e = absurd (omega arith)
tells for_short for_short m n hm hn e = refl

pub apart : Apart
apart x u v p q = tells u v p.0 q.0 p.1 q.1 (sym p.2 ∙ q.2)

pub round-long : RoundLong
round-long n boxes ask opened end h lb la (inl lo) le = (n, h, inl (simp length-append (omega arith)))
round-long n boxes ask opened end h lb la (inr lo) le = (n, h, inr (simp length-append (omega arith)))

-- a task is no digest with a round after it
pub no_task_lem : (d w : List ℕ) → length d ≡ 32 → RoundText w → TaskText (d ++ w) → ⊥
no_task_lem d w l (n, h, inl e) (m, k, f) = omega (arith, simp length-append at f)
no_task_lem d w l (n, h, inr e) (m, k, f) = omega (arith, simp length-append at f)
