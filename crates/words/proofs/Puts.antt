-- Bytes put into lent memory, part by part.
use Rattle.std.proofs.Common.{◌≡◌, ℕ, ◌+◌, ◌-◌, ◌<◌, ◌≤◌, List, [], ◌++◌, length, take, drop, sym, refl, ap, ◌∙◌, append_assoc, append-nil, arith, length-append, length-drop}
use borrow.Rule.Slice.PartMut.{put_mid}
use Rattle.std.proofs.lemmas.Bool.{le-leb, lt-leb}
use Rattle.std.proofs.lemmas.List.{take_at, drop_at, drop_all, drop-drop, take_rest}
use Rattle.boxes.proofs.Parts.{put_next, put_end}
use Rattle.words.specs.Writing.{wrote, no_room, write}

-- where `done` stands at the front, `more` is put into the free end behind it
pub put-behind : (done more was before after : List ℕ) (i m : ℕ) → length done ≡ i → before ≡ done ++ drop i was → after ≡ more ++ drop m (take (length before - i) (drop i before)) →
    put_mid i (length before - i) before after ≡ (done ++ more) ++ drop (i + m) was
put-behind done more was before after i m l b a =
    let front : take i before ≡ done = ap (take i) b ∙ take_at done (drop i was) i l in
    let free : drop i before ≡ drop i was = ap (drop i) b ∙ drop_at done (drop i was) i l in
    let none : drop (length before - i) (drop i before) ≡ [] = drop_all _ (drop i before) (simp length-drop (omega arith)) in
    let end : after ≡ more ++ drop (i + m) was = a ∙ (ap (λ xs. more ++ drop m xs) (take_rest before i ∙ free) ∙ ap (λ xs. more ++ xs) (drop-drop m i was)) in
    rw (front, none, append-nil after, end) (sym (append_assoc done more (drop (i + m) was)))

-- three parts put one behind the other, where they fill the whole
pub put-three : {X : Type 0} (a rest b c : List X) (i m j k : ℕ) → length a ≡ i → length b ≡ m → i + m ≡ j → length rest ≤ m + k → put_mid j k (put_mid i m (a ++ rest) b) c ≡ a ++ (b ++ c)
put-three a rest b c i m j k la lb e h =
    let first : put_mid i m (a ++ rest) b ≡ (a ++ b) ++ drop m rest = put_next a rest b i m la ∙ sym (append_assoc a b (drop m rest)) in
    ap (λ xs. put_mid j k xs c) first ∙ put_end (a ++ b) (drop m rest) c j k (simp length-append (omega arith)) (simp length-drop (omega arith)) ∙ append_assoc a b c

-- all of the bytes or none
pub write-all : (bs out after : List ℕ) (n : ℕ) → length bs ≡ n → n ≤ length out → after ≡ bs ++ drop n out → wrote n after ≡ write bs out
write-all bs out after n l h e = rw (l, le-leb n (length out) h, e) refl

pub write-none : (bs out : List ℕ) (n : ℕ) → length bs ≡ n → length out < n → no_room out ≡ write bs out
write-none bs out n l h = rw (l, lt-leb n (length out) h) refl
