-- The three parts are the message.
use Rattle.std.proofs.Common.{◌≡◌, ℕ, ◌-◌, ◌≤◌, List, [], ◌++◌, length, take, drop, ap, ◌∙◌, arith}
use native.Mathlib.Nat.{sub-zero}
use Rattle.std.proofs.lemmas.List.Edits.{split_between}
use Rattle.std.proofs.lemmas.List.{append_assoc, take_rest}
use Rattle.sha256.specs.Sha256.{sha256}
use Rattle.bench_c.proofs.three_parts.Goals as goal

parts : (m : List ℕ) (a b : ℕ) → a ≤ b
    → ([] ++ take (a - 0) m ++ take (b - a) (drop a m)) ++ take (length m - b) (drop b m) ≡ m
parts m a b h =
    let s = split_between m a b h in
    let z = sub-zero a in
    let r = take_rest m b in
    let p = append_assoc (take a m) (take (b - a) (drop a m)) (drop b m) in
    cc

pub returns : goal.returns
returns c =
    let m : List ℕ = c.args.message.now in
    let a : ℕ = c.min-a.result in
    let b : ℕ = c.min-b.result in
    let h : a ≤ b = omega arith in
    let one = c.update.ensures [] c.new-h.ensures in
    let two = c.update-2.ensures _ one in
    let three = c.update-3.ensures _ two in
    c.finish.ensures _ three ∙ ap sha256 (parts m a b h)
