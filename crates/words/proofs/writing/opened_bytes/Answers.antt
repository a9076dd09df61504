use Rattle.std.proofs.Common.{length, ap, ◌∙◌, refl, rules, lit≤}
use Rattle.words.proofs.Puts.{put-three}
use Rattle.words.proofs.writing.opened_bytes.Goals as goal

pub returns : goal.returns
returns c =
    let a = c.copy_from_slice.ensures.after ∙ c.front.ensures in
    let x = c.copy_from_slice-2.ensures.after ∙ c.opening_bytes.ensures in
    let y = c.copy_from_slice-3.ensures.after ∙ c.opening_bytes-2.ensures in
    put-three c.copy_from_slice.new.self _ c.copy_from_slice-2.new.self c.copy_from_slice-3.new.self 5 35 40 35 (ap length a) (search rules) refl (lit≤ tt)
    ∙ (rw (a, x, y))
