use Rattle.std.proofs.Common.{◌≡◌, ◌-◌, ◌/◌, ◌%◌, [], length, get_or, take, drop, ap, ap₂, ◌∙◌, arith, rules, length-drop}
use Rattle.std.specs.Simd.{first_chunks}
use Rattle.std.proofs.lemmas.List.{drop-drop, take_rest}
use Rattle.boxes.proofs.Parts.{first_chunks_at}
use Rattle.boxes.specs.Model.{opening_of}
use Rattle.tasks.specs.Reading.{got}
use Rattle.words.specs.Said.{opened}
use Rattle.words.specs.Reading.{long_at, opening_at}
use Rattle.words.proofs.Numbers.{opening_cut}
use Rattle.words.proofs.reading.read_opened.Goals as goal

pub returns : goal.returns
returns c =
    let bs = c.args.bytes.now in
    let chunks = c.as_chunks.result.0.now in
    let openings = take (length bs - 5) (drop 5 bs) in
    let w : length openings ≡ length bs - 5 = ap length (take_rest bs 5) ∙ length-drop 5 bs in
    let p : length chunks ≡ length openings / 35 = c.as_chunks.ensures.front_len in
    let r : length c.as_chunks.result.1.now ≡ length openings % 35 = c.as_chunks.ensures.back_len in
    let two : length chunks ≡ 2 = search rules in
    let none : length c.as_chunks.result.1.now ≡ 0 = search rules in
    let l : length bs ≡ 75 = omega arith in
    let front : chunks ≡ first_chunks 35 (length openings / 35) openings = c.as_chunks.ensures.front in
    let o = take_rest bs 5 in
    let x : get_or chunks 0 [] ≡ take 35 (drop 5 bs) = ap (λ xs. get_or xs 0 []) front ∙ first_chunks_at 35 (length openings / 35) openings 0 (omega arith) ∙ ap (take 35) o in
    let y : get_or chunks 1 [] ≡ take 35 (drop 40 bs) =
    ap (λ xs. get_or xs 1 []) front ∙ first_chunks_at 35 (length openings / 35) openings 1 (omega arith) ∙ ap (λ xs. take 35 (drop 35 xs)) o ∙ ap (take 35) (drop-drop 35 5 bs) in
    let first : opening_of c.opening_in.result ≡ opening_at bs 5 = c.opening_in.ensures ∙ ap (λ ys. opening_at ys 0) x ∙ opening_cut 5 bs in
    let second : opening_of c.opening_in-2.result ≡ opening_at bs 40 = c.opening_in-2.ensures ∙ ap (λ ys. opening_at ys 0) y ∙ opening_cut 40 bs in
    let n : c.from_be_bytes.result ≡ long_at bs 1 = omega arith in
    rw (l, n) (ap₂ (λ x y. got (opened (long_at bs 1) x y)) first second)
