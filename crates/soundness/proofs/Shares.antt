-- Soundness as a share of all rows of drawn bytes. Assumes nothing.
use Rattle.std.proofs.Common.{◌≡◌, ℕ, ◌+◌, ◌-◌, ◌*◌, ◌/◌, ◌%◌, ◌^◌, ◌<◌, ◌≤◌, Bool, true, false, not, ◌&&◌, List, length, refl, ap, ◌∙◌, subst, inl, inr, mul-le-mul_right, mul-le-mul_left, arith}
use native.Mathlib.Nat.{le_of_mul-le-mul_left, one-le-pow}
use Rattle.paths.specs.Plan.{Task}
use Rattle.paths.specs.Cheat.{asks, count}
use Rattle.drawing.specs.Drawing.{Drawn, drew, short, draw, values_of, question_moduli}
use Rattle.drawing.specs.Uniform.{such, how_many}
use Rattle.drawing.proofs.Bytes.{bytes}
use Rattle.drawing.proofs.Counts.{count_same}
use Rattle.drawing.proofs.Even.{question_shares}
use Rattle.drawing.proofs.Rounds.{enough}
use Rattle.tasks.specs.Task.{sound}
use Rattle.tasks.proofs.TaskLaws.{guarantees}
use Rattle.lots.specs.Lots.{on_bytes, had_by}
use Rattle.lots.proofs.Coins.{questions_in-turn}
use Rattle.words.specs.Writing.{is_got}
use Rattle.round.specs.Line.{Other}
use Rattle.soundness.specs.Questioned.{asking_on, questions_in}
use Rattle.asking.specs.Run.{asking}
use Rattle.soundness.specs.Sound.{passes, serves, pairs_of, passing, serving, breaking, SoundAlongDrawn, SoundDrawn, SoundAlongEnough, SoundEnough}
use Rattle.soundness.specs.Knows.{at_hand, blindly, knowing, KnowsAlongDrawn, KnowsEnough}
use Rattle.soundness.proofs.Runs.{few_pass, same_runs, Turns, turns}
use Rattle.soundness.proofs.Bounds.{knows_along, texts_alone, sound-whole}

module _ (t : Task) (r : ℕ) where
  abbrev moduli : List ℕ
  moduli = question_moduli (pairs_of t) r

  -- what is drawn for all questions
  abbrev had : List ℕ → Drawn
  had drawn = draw (2 ^ 32) moduli (values_of 256 drawn)

  turns_had : (drawn : List ℕ) → Turns r (questions_in t r drawn) (had_by (λ is. is) (on_bytes drawn (had drawn)))
  turns_had drawn = subst (Turns r (questions_in t r drawn)) (questions_in-turn t r drawn) (turns t r drawn)

  serves_is : (drawn : List ℕ) → serves t r drawn ≡ such (λ _. true) (had drawn)
  serves_is drawn = ap is_got (questions_in-turn t r drawn) ∙ go (had drawn)
    where
      go : (d : Drawn) → is_got (had_by (λ (is : List ℕ). is) (on_bytes drawn d)) ≡ such (λ _. true) d
      go (drew ds left) = refl
      go short = refl

  -- a test of the questions that fails where they are too few
  test_is : (p : List ℕ → Bool) → ((is : List ℕ) → length is < r → p is ≡ false) → (drawn : List ℕ) → p (questions_in t r drawn) ≡ such p (had drawn)
  test_is p few drawn = go (had drawn) (turns_had drawn)
    where
      go : (d : Drawn) → Turns r (questions_in t r drawn) (had_by (λ is. is) (on_bytes drawn d)) → p (questions_in t r drawn) ≡ such p d
      go (drew ds left) e = ap p e
      go short l = few (questions_in t r drawn) l

  -- any test of the questions, where they suffice
  serve-test_is : (p : List ℕ → Bool) (drawn : List ℕ) → (serves t r drawn && p (questions_in t r drawn)) ≡ such p (had drawn)
  serve-test_is p drawn = ap (λ b. b && p (questions_in t r drawn)) (serves_is drawn) ∙ go (had drawn) (turns_had drawn)
    where
      go : (d : Drawn) → Turns r (questions_in t r drawn) (had_by (λ is. is) (on_bytes drawn d)) → (such (λ _. true) d && p (questions_in t r drawn)) ≡ such p d
      go (drew ds left) e = ap p e
      go short l = refl

  -- rows of bytes, counted by their values
  counted : (f p : List ℕ → Bool) → ((drawn : List ℕ) → f drawn ≡ such p (had drawn)) → (size : ℕ) →
      count f (asks 256 size) ≡ how_many (2 ^ 32) moduli p (size / 4) * 256 ^ (size % 4)
  counted f p e size =
      let parts : size ≡ 4 * (size / 4) + size % 4 = omega arith in
      count_same f (λ drawn. such p (had drawn)) e (asks 256 size) ∙ ap (λ n. count (λ drawn. such p (had drawn)) (asks 256 n)) parts
      ∙ bytes (λ vs. such p (draw (2 ^ 32) moduli vs)) (size / 4) (size % 4) (omega arith)

  shared : sound t ≡ true → (p : List ℕ → Bool) (many : ℕ) →
      pairs_of t ^ r * how_many (2 ^ 32) moduli p many ≡ count p (asks (pairs_of t) r) * how_many (2 ^ 32) moduli (λ _. true) many
  shared good p many = let g = guarantees t good in question_shares (pairs_of t) r (omega (arith, g.some_pair)) (omega (arith, g.few_pairs)) p many

-- in proportion
share : (x a P S W p : ℕ) → x * P ≡ p * S → p ≤ a → x * (P * W) ≤ a * (S * W)
share x a P S W p e l = omega (arith, mul-le-mul_right (S * W) l, ap (λ z. z * W) e)

share_more : (x a P S C W p c : ℕ) → x * P ≡ p * S → x * C ≡ c * S → p ≤ a + c → x * (P * W) ≤ a * (S * W) + x * (C * W)
share_more x a P S C W p c e f l = omega (arith, mul-le-mul_right (S * W) l, ap (λ z. z * W) e, ap (λ z. z * W) f)

cancel : (x a P S F k : ℕ) → 0 < x → k * a ≤ x → x * P ≤ a * S + x * F → k * P ≤ S + k * F
cancel x a P S F k l h g =
    let m : x * (k * P) ≤ x * (S + k * F) = omega (arith, mul-le-mul_left k g, mul-le-mul_right S h) in
    le_of_mul-le-mul_left {k = x} m l

module _ (H : List ℕ → List ℕ) (other : Other) (t : Task) (good : sound t ≡ true) (r size : ℕ) where
  abbrev won : List ℕ → Bool
  won is = passes (asking_on H other t r is)

  -- how often drawn values give questions that pass a test
  abbrev drawn-such : (List ℕ → Bool) → ℕ
  drawn-such p = how_many (2 ^ 32) (question_moduli (pairs_of t) r) p (size / 4)

  won_counted : passing H other t r size ≡ drawn-such won * 256 ^ (size % 4)
  won_counted = counted t r _ won (λ drawn. ap passes (same_runs H other t r drawn) ∙ test_is t r won (few_pass H other t r) drawn) size

  serves-counted : serving t r size ≡ drawn-such (λ _. true) * 256 ^ (size % 4)
  serves-counted = counted t r (serves t r) (λ _. true) (serves_is t r) size

  -- where it passes, and some test of the questions fails
  apart-counted : (q : List ℕ → Bool) →
      count (λ drawn. passes (asking H other t r drawn) && not (q (questions_in t r drawn))) (asks 256 size) ≡ drawn-such (λ is. won is && not (q is)) * 256 ^ (size % 4)
  apart-counted q =
      counted t r _ (λ is. won is && not (q is))
      (λ drawn. ap (λ x. passes x && not (q (questions_in t r drawn))) (same_runs H other t r drawn)
      ∙ test_is t r (λ is. won is && not (q is)) (λ is l. ap (λ b. b && not (q is)) (few_pass H other t r is l)) drawn) size

  pub along_share : (q : List ℕ → Bool) → count won (asks (pairs_of t) r) ≤ (pairs_of t - 1) ^ r + count q (asks (pairs_of t) r) →
      pairs_of t ^ r * passing H other t r size
      ≤ (pairs_of t - 1) ^ r * serving t r size + pairs_of t ^ r * count (λ drawn. serves t r drawn && q (questions_in t r drawn)) (asks 256 size)
  along_share q l =
      rw (won_counted, serves-counted, counted t r _ q (serve-test_is t r q) size)
      (share_more (pairs_of t ^ r) ((pairs_of t - 1) ^ r) (drawn-such won) (drawn-such (λ _. true)) (drawn-such q) (256 ^ (size % 4)) _ _
      (shared t r good won (size / 4)) (shared t r good q (size / 4)) l)

  pub whole_share : count won (asks (pairs_of t) r) ≤ (pairs_of t - 1) ^ r → pairs_of t ^ r * passing H other t r size ≤ (pairs_of t - 1) ^ r * serving t r size
  whole_share l =
      rw (won_counted, serves-counted)
      (share (pairs_of t ^ r) ((pairs_of t - 1) ^ r) (drawn-such won) (drawn-such (λ _. true)) (256 ^ (size % 4)) _ (shared t r good won (size / 4)) l)

  pub apart_share : (q : List ℕ → Bool) → count (λ is. won is && not (q is)) (asks (pairs_of t) r) ≤ (pairs_of t - 1) ^ r →
      pairs_of t ^ r * count (λ drawn. passes (asking H other t r drawn) && not (q (questions_in t r drawn))) (asks 256 size) ≤ (pairs_of t - 1) ^ r * serving t r size
  apart_share q l =
      rw (apart-counted q, serves-counted)
      (share (pairs_of t ^ r) ((pairs_of t - 1) ^ r) (drawn-such (λ is. won is && not (q is))) (drawn-such (λ _. true)) (256 ^ (size % 4)) _
      (shared t r good (λ is. won is && not (q is)) (size / 4)) l)

pub knows-along-drawn : KnowsAlongDrawn
knows-along-drawn H other t good r =
    let k = knows_along H other t good r in
    record {
      blind = λ size. apart_share H other t good r size (at_hand H other t r) k.blind;
      knows = λ size. along_share H other t good r size (at_hand H other t r) k.knows;
    }

pub sound-along-drawn : SoundAlongDrawn
sound-along-drawn H other t good none r size =
    subst (λ n. pairs_of t ^ r * passing H other t r size ≤ (pairs_of t - 1) ^ r * serving t r size + pairs_of t ^ r * n) alone
    ((knows-along-drawn H other t good r).knows size)
  where
    alone : knowing H other t r size ≡ breaking H other t r size
    alone = count_same _ _ (λ drawn. ap (λ b. serves t r drawn && b) (texts_alone H other t none r (questions_in t r drawn))) (asks 256 size)

pub sound-drawn : SoundDrawn
sound-drawn H other t good none r size =
    elim (sound-whole H other t good none r) [ inl e ↦ inl e | inr l ↦ inr (whole_share H other t good r size l) ]

-- 40 rounds for each pair
module _ (t : Task) (good : sound t ≡ true) where
  some : 0 < pairs_of t
  some = omega (arith, (guarantees t good).some_pair)

  fortyfold : (P S F : ℕ) → let r = 40 * pairs_of t in pairs_of t ^ r * P ≤ (pairs_of t - 1) ^ r * S + pairs_of t ^ r * F → 2 ^ 40 * P ≤ S + 2 ^ 40 * F
  fortyfold P S F l =
      let r = 40 * pairs_of t in
      cancel (pairs_of t ^ r) ((pairs_of t - 1) ^ r) P S F (2 ^ 40) (one-le-pow r (pairs_of t) some) (enough (pairs_of t) some) l

pub knows-enough : KnowsEnough
knows-enough H other t good =
    let r = 40 * pairs_of t in
    let k = knows-along-drawn H other t good r in
    record {
      blind = λ size. omega (arith, fortyfold t good (blindly H other t r size) (serving t r size) 0 (omega (arith, k.blind size)));
      knows = λ size. fortyfold t good _ _ _ (k.knows size);
    }

pub sound-along-enough : SoundAlongEnough
sound-along-enough H other t good none size = fortyfold t good _ _ _ (sound-along-drawn H other t good none (40 * pairs_of t) size)

pub sound-enough : SoundEnough
sound-enough H other t good none size =
    let r = 40 * pairs_of t in
    elim (sound-drawn H other t good none r size) [
      | inl e ↦ inl e
      | inr l ↦ inr (omega (arith, fortyfold t good (passing H other t r size) (serving t r size) 0 (omega (arith, l))))
    ]
