use Rattle.std.proofs.Common.{◌+◌, ◌*◌, ◌/◌, ◌<◌, [], length, get_or, take, drop, ◌∙◌, arith}
use Rattle.std.proofs.lemmas.List.{length-set}
use Rattle.lanes.proofs.States.{put-more}
use Rattle.boxes.specs.Box.{box_text}
use Rattle.boxes.proofs.Parts.{first_chunks_at}
use Rattle.boxes.proofs.group.Group.texts.Goals as goal

pub loop-j-preserved : goal.loop-j-preserved
loop-j-preserved c =
    let g = c.args.self.now in
    let j = c.loop-j.j in
    let chances = g.chances.now in
    let l : j < length chances / 32 = omega (arith, g.room) in
    let e = first_chunks_at 32 (length chances / 32) chances j l in (
      put-more (λ k. box_text g.round (g.first + k) (get_or g.numbers.now k 0) (take 32 (drop (32 * k) chances))) _ j _ [] (omega (arith, c.loop-j.invariant.1, g.few)) (c.text.ensures ∙ (rw (c.as_chunks.ensures.front, e))) c.loop-j.invariant.0,
      length-set _ j _ ∙ c.loop-j.invariant.1,
    )
