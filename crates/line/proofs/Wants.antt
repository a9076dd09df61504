-- Bytes taken before a stop are wanted. Of a good word no more than the word is wanted, and the end is not before all of it was taken, unless the input ends within it.
use Rattle.std.proofs.Common.{Vec, vec_len, vec_items, ◌≡◌, ℕ, ◌<◌, ◌≤◌, ◌⊎◌, List, [], ◌∷◌, ◌++◌, length, take, true, None, Some, IfSome, OnSome, sym, refl, ap, subst, ◌∙◌, inl, inr, arith, append-nil, append_assoc, length-append, length-take}
use Rattle.std.proofs.Math.Seq.{take-append_seam}
use Rattle.std.proofs.lemmas.Bool.{cases_lt}
use Rattle.std.proofs.lemmas.List.{take_all, take-append-le, append_cancel_left}
use Rattle.std.specs.declared.option.Option.{Option}
use Rattle.std.specs.Io.KnownBytes.{Consumes}
use Rattle.std.proofs.KnownBytes.{Consumes-trans}
use Rattle.std.specs.declared.alloc.Global.{Global}
use Rattle.paths.specs.Plan.{Task}
use Rattle.tasks.specs.declared.task.Task.{Task as CodeTask}
use Rattle.tasks.specs.Model.{task_of}
use Rattle.words.specs.Said.{Said}
use Rattle.words.specs.Writing.{said_bytes, is_said}
use Rattle.words.specs.Stops.{next_stop}
use Rattle.words.proofs.StopLaws.{stops}
use Rattle.line.specs.Wanted.{Wanted, OneWord, Ended, ExactWord, Taken}

pub wanted_more : (t : Task) (was part : List ℕ) → Wanted t was → length (was ++ part) ≤ next_stop t was → Wanted t (was ++ part)
wanted_more t was part w short j h =
    elim (cases_lt j (length was)) [
      | inl s ↦
          let p = w j s in
          let e : take p.0 (was ++ part) ≡ take p.0 was = take-append-le p.0 was part (omega (arith, p.1)) in
          (p.0, p.1, omega (arith, p.2, ap (next_stop t) e))
      | inr s ↦ (length was, s, omega (arith, ap (next_stop t) (take-append_seam was part)))
    ]

pub one_word : (t : Task) → t.trains ≤ 1024 → OneWord t
one_word t few w good bs more rest h e =
    let law = stops t few in
    elim (cases_lt (length (said_bytes w)) (length bs)) [
      | inl s ↦
          let n = length (said_bytes w) in
          let p = h n s in
          let i = p.0 in
          let same : take i bs ≡ take i (said_bytes w) = sym (take-append-le i bs more (omega (arith, p.1))) ∙ (ap (take i) e ∙ take-append-le i (said_bytes w) rest p.1) in
          let same' = ap (next_stop t) same in
          elim (cases_lt i n) [
            | inl less ↦ absurd (omega (arith, p.2, (law.cut w good i less).1))
            | inr more ↦
                let all = ap (next_stop t) (take_all i (said_bytes w) more) in
                absurd (omega (arith, p.2, law.whole w good))
          ]
      | inr s ↦ s
    ]

pub wanted_few : (t : Task) → t.trains ≤ 1024 → (bs : List ℕ) → Wanted t bs → length bs ≤ 32775
wanted_few t few bs h =
    let law = stops t few in
    elim (cases_lt 32775 (length bs)) [
      | inl s ↦ let p = h 32775 s in absurd (omega (arith, p.1, p.2, law.few (take p.0 bs) (simp length-take (omega (arith, p.1)))))
      | inr s ↦ s
    ]

-- fronts of one length of one list
same_fronts : (bs more cs rest : List ℕ) → bs ++ more ≡ cs ++ rest → length bs ≡ length cs → (bs ≡ cs) × (more ≡ rest)
same_fronts bs more cs rest e long =
    let front : bs ≡ cs = sym (take-append_seam bs more) ∙ (ap (take (length bs)) e ∙ (ap (λ n. take n (cs ++ rest)) long ∙ take-append_seam cs rest)) in
    (front, append_cancel_left cs more rest (sym (ap (λ l. l ++ more) front) ∙ e))

module _ (t : Task) (few : t.trains ≤ 1024) (w : Said) (good : is_said t w ≡ true) (bs more rest : List ℕ) (e : bs ++ more ≡ said_bytes w ++ rest) where
  -- more is wanted of what is not all of a good word
  wanted_within : length bs < length (said_bytes w) → next_stop t bs ≤ length bs → ⊥
  wanted_within less s =
      let n = length bs in
      let same : take n (said_bytes w) ≡ bs = sym (take-append-le n (said_bytes w) rest (omega arith)) ∙ (ap (take n) (sym e) ∙ take-append_seam bs more) in
      omega (arith, ap (next_stop t) same, ((stops t few).cut w good n less).0)

  exact_whole : Wanted t bs → (next_stop t bs ≤ length bs) ⊎ (more ≡ []) → (bs ≡ said_bytes w) × (more ≡ rest)
  exact_whole h d =
      let short = one_word t few w good bs more rest h e in
      elim (cases_lt (length bs) (length (said_bytes w))) [
        | inl less ↦ elim d [
          | inl s ↦ absurd (wanted_within less s)
          | inr none ↦ absurd (omega (arith, ap length none, simp length-append at (ap length e)))
        ]
        | inr all ↦ same_fronts bs more (said_bytes w) rest e (omega arith)
      ]

exact_cut : (t : Task) → t.trains ≤ 1024 → (w : Said) → is_said t w ≡ true → (bs more missing : List ℕ) → (next_stop t bs ≤ length bs) ⊎ (more ≡ []) → (bs ++ more) ++ missing ≡ said_bytes w → more ≡ []
exact_cut t few w good bs more missing (inr none) e = none
exact_cut t few w good bs [] missing (inl s) e = refl
exact_cut t few w good bs (x ∷ xs) missing (inl s) e =
    let e' : bs ++ ((x ∷ xs) ++ missing) ≡ said_bytes w ++ [] = sym (append_assoc bs (x ∷ xs) missing) ∙ (e ∙ sym (append-nil (said_bytes w))) in
    absurd (wanted_within t few w good bs ((x ∷ xs) ++ missing) [] e' (omega (arith, simp length-append at (ap length e))) s)

pub exact_word : (t : Task) → t.trains ≤ 1024 → (old left : Option (List ℕ)) (bs : List ℕ) → Wanted t bs → Consumes old left bs → OnSome old (Ended t bs left) → IfSome old (λ xs. ExactWord t xs bs left)
exact_word t few None left bs h e d = tt
exact_word t few (Some xs) None bs h e d = absurd e
exact_word t few (Some xs) (Some more) bs h e d =
    record {
      whole = λ w good rest f. let p = exact_whole t few w good bs more rest (sym e ∙ f) h d in (p.0, ap Some p.1);
      cut = λ w good missing f.
          let none = exact_cut t few w good bs more missing d (ap (λ l. l ++ missing) (sym e) ∙ f) in
          (sym (e ∙ (ap (λ l. bs ++ l) none ∙ append-nil bs)), ap Some none);
    }

pub taken_more : (a b c : Option (List ℕ)) (was after : List ℕ) → Consumes a b was → Taken b c was after → Consumes a c after
taken_more a b c was after p q = subst (Consumes a c) (sym q.1) (Consumes-trans a b c was q.0 p q.2)

-- where the bytes were known at first they are still
pub known_still : (a b : Option (List ℕ)) (bs : List ℕ) (P : Type 0) → Consumes a b bs → OnSome b P → OnSome a P
known_still None b bs P e h = tt
known_still (Some xs) None bs P e h = absurd e
known_still (Some xs) (Some ys) bs P e h = h

-- of a task of the code
pub one_word_of : (t : CodeTask) → OneWord (task_of t)
one_word_of t = one_word (task_of t) t.few_trains

pub few_of : (t : CodeTask) (word : Vec ℕ Global) → Wanted (task_of t) (vec_items word) → vec_len word ≤ 32775
few_of t word w = omega (arith, word.ok.0, wanted_few (task_of t) t.few_trains (vec_items word) w)
