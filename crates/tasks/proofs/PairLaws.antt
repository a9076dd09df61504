-- Pairs that are read are in rising order, and reading and writing pairs are inverse.
use Rattle.std.proofs.Common.{◌≡◌, ℕ, zero, suc, ◌+◌, ◌*◌, ◌<◌, ◌≤◌, Bool, true, cond, ◌&&◌, ltb, List, [], ◌∷◌, ◌++◌, length, drop, sym, refl, ap, ◌∙◌, arith, length-append, length-drop}
use Rattle.std.specs.List.{flat_map}
use Rattle.std.proofs.lemmas.Bool.{ltb-true, and_parts, and_from, le-leb, lt-leb}
use Rattle.std.proofs.lemmas.List.{get_or_append_left}
use Rattle.paths.specs.Plan.{Pair, all_below}
use Rattle.tasks.specs.Reading.{Got, Looked, got, refused, read_each, read_pair, pair_in, pairs_from, word_at}
use Rattle.tasks.specs.Task.{is_there, rises, rising}
use Rattle.tasks.specs.Writing.{pair_bytes}
use Rattle.tasks.proofs.Units.{unit_got, cond-got, then_got, ends-got, Local}
use Rattle.tasks.proofs.Words.{word_back, word_high, word_low}

pair_parts : (n : ℕ) (last : Pair) (bs : List ℕ) (x : Pair) → read_pair n last bs ≡ got x → (4 ≤ length bs) × ((is_there n (pair_in bs) && rises last (pair_in bs)) ≡ true) × (pair_in bs ≡ x)
pair_parts n last bs x e =
    let p = unit_got bs 4 (is_there n (pair_in bs)) 2 (cond (rises last (pair_in bs)) (got (pair_in bs)) (refused 3)) x e in
    let q = cond-got (rises last (pair_in bs)) 3 (got (pair_in bs)) x p.2 in
    (p.0, and_from _ _ p.1 q.0, cc q.1)

pub pairs-sound : (n : ℕ) (last : Pair) (m : ℕ) (bs : List ℕ) (y : Looked) → read_each (read_pair n) 4 last m bs ≡ got y → (rising n last (pairs_from m bs) ≡ true) × (length bs ≡ 4 * m)
unfolding read_each rising pairs_from
pairs-sound n last zero bs y e = (refl, omega (arith, ends-got bs y e))
pairs-sound n last (suc m) bs y e =
    let p = then_got (read_pair n last bs) (λ x. read_each (read_pair n) 4 x m (drop 4 bs)) y e in
    let q = pair_parts n last bs p.0 p.1 in
    let r = pairs-sound n p.0 m (drop 4 bs) y p.2 in
    (and_from _ _ q.1 (ap (λ x. rising n x (pairs_from m (drop 4 bs))) q.2 ∙ r.0), omega (arith, simp length-drop at r.1, q.0))

same-pair : (x : Pair) (a e : ℕ) → a ≡ x.a → e ≡ x.e → record { a = a; e = e } ≡ x
same-pair x a e p q = rw (p, q) refl

pub pair-back : (n : ℕ) (x : Pair) (bs : List ℕ) → n ≤ 65536 → is_there n x ≡ true → pair_in (pair_bytes x ++ bs) ≡ x
pair-back n x bs h e =
    let p = and_parts (ltb x.a n) (ltb x.e n) e in
    same-pair x _ _ (word_back x.a (omega (arith, ltb-true _ _ p.0))) (word_back x.e (omega (arith, ltb-true _ _ p.1)))

-- what is read of a pair x, of which all bytes are there or not
abbrev judged : ℕ → Pair → Bool → Pair → Got Pair
judged n last there x = cond there (cond (is_there n x) (cond (rises last x) (got x) (refused 3)) (refused 2)) (refused 1)

judged_good : (n : ℕ) (last x : Pair) → is_there n x ≡ true → rises last x ≡ true → judged n last true x ≡ got x
judged_good n last x p q = ap (λ b. cond b (cond (rises last x) (got x) (refused 3)) (refused 2)) p ∙ ap (λ b. cond b (got x) (refused 3)) q

pair_read : (n : ℕ) (last x : Pair) (bs : List ℕ) → 4 ≤ length bs → pair_in bs ≡ x → read_pair n last bs ≡ judged n last true x
pair_read n last x bs h e = ap (λ b. judged n last b (pair_in bs)) (le-leb 4 (length bs) h) ∙ ap (judged n last true) e

pub pairs_written : (n : ℕ) (last : Pair) (xs : List Pair) → n ≤ 65536 → rising n last xs ≡ true → (read_each (read_pair n) 4 last (length xs) (flat_map pair_bytes xs) ≡ got tt) × (pairs_from (length xs) (flat_map pair_bytes xs) ≡ xs)
unfolding read_each rising pairs_from
pairs_written n last [] h e = (refl, refl)
pairs_written n last (x ∷ xs) h e =
    let p = and_parts (is_there n x && rises last x) (rising n x xs) e in
    let q = and_parts (is_there n x) (rises last x) p.0 in
    let b = pair-back n x (flat_map pair_bytes xs) h q.0 in
    let r = pair_read n last x (pair_bytes x ++ flat_map pair_bytes xs) (omega arith) b ∙ judged_good n last x q.0 q.1 in
    let ih = pairs_written n x xs h p.1 in
    (rw r ih.0, cc (b, ih.1))

pub pairs-only : (m : ℕ) (bs : List ℕ) → all_below 256 bs ≡ true → length bs ≡ 4 * m → flat_map pair_bytes (pairs_from m bs) ≡ bs
unfolding pairs_from all_below
pairs-only zero [] h e = refl
pairs-only zero (a ∷ bs) h e = absurd (omega arith)
pairs-only (suc m) [] h e = absurd (omega arith)
pairs-only (suc m) (a ∷ []) h e = absurd (omega arith)
pairs-only (suc m) (a ∷ b ∷ []) h e = absurd (omega arith)
pairs-only (suc m) (a ∷ b ∷ c ∷ []) h e = absurd (omega arith)
pairs-only (suc m) (a ∷ b ∷ c ∷ d ∷ bs) h e =
    let p = and_parts _ _ h in
    let q = and_parts _ _ p.1 in
    let r = and_parts _ _ q.1 in
    let s = and_parts _ _ r.1 in
    let ih = pairs-only m bs s.1 (omega arith) in
    let x = word_high a b (ltb-true _ _ p.0) (ltb-true _ _ q.0) in
    let y = word_high c d (ltb-true _ _ r.0) (ltb-true _ _ s.0) in
    rw (x, word_low a b (ltb-true _ _ q.0), y, word_low c d (ltb-true _ _ s.0), ih) refl

pub word_sees : (bs ys : List ℕ) (i : ℕ) → i + 2 ≤ length bs → word_at (bs ++ ys) i ≡ word_at bs i
word_sees bs ys i h =
    let p = get_or_append_left bs ys 0 i (omega arith) in
    let q = get_or_append_left bs ys 0 (i + 1) (omega arith) in
    rw (p, q) refl

pub pair_local : (n : ℕ) → Local 4 (read_pair n)
pair_local n = record { sees = sees; needs = needs }
  where
    sees : (last : Pair) (bs ys : List ℕ) → 4 ≤ length bs → read_pair n last (bs ++ ys) ≡ read_pair n last bs
    sees last bs ys h =
        let e : pair_in (bs ++ ys) ≡ pair_in bs = same-pair (pair_in bs) _ _ (word_sees bs ys 0 (omega arith)) (word_sees bs ys 2 (omega arith)) in
        pair_read n last _ (bs ++ ys) (simp length-append (omega arith)) e ∙ sym (pair_read n last _ bs h refl)

    needs : (last : Pair) (bs : List ℕ) → length bs < 4 → read_pair n last bs ≡ refused 1
    needs last bs h = ap (λ b. judged n last b (pair_in bs)) (lt-leb 4 (length bs) h)
