use Rattle.std.proofs.Common.{◌≡◌, [], length, take, ap, ◌∙◌, arith, rules}
use Rattle.std.proofs.lemmas.List.{get_or-take, length-take-le}
use Rattle.sha256.specs.Sha256.{sha256}
use Rattle.boxes.specs.Box.{boxes_of}
use Rattle.boxes.proofs.Boxes.{boxes-joined, length-boxes}
use Rattle.boxes.proofs.Digests.{length-sha256}
use Rattle.boxes.proofs.group.Group.write_boxes.Goals as goal

pub returns : goal.returns
returns c =
    let g = c.args.self.now in
    let numbers = g.numbers.now in
    let all = c.digests-all.result in
    let n = length numbers in
    let l : length all ≡ 8 = search rules in
    let t : length (take n all) ≡ length numbers = length-take-le n all (omega (arith, l, g.few)) in
    let b = boxes-joined sha256 g.round numbers (take n all) g.first g.chances.now t
    (λ j h. get_or-take n all j [] (omega arith) ∙ c.digests-all.ensures j (omega (arith, h, g.few)) ∙ ap sha256 (c.texts.ensures j h)) in
    let e : c.as_flattened-boxes.result.now ≡ boxes_of sha256 g.round g.first numbers g.chances.now = c.as_flattened-boxes.ensures.value ∙ b in
    let m = ap length e ∙ length-boxes sha256 g.round length-sha256 numbers g.chances.now g.first in
    rw (m, c.copy_from_slice.ensures.after, e)
