-- The head and the chance fill the text.
use Rattle.std.proofs.Common.{[], length, ap, ◌∙◌, lit≤}
use Rattle.boxes.proofs.Parts.{put_end}
use Rattle.boxes.proofs.Texts.{length-text, head_chance}
use Rattle.boxes.proofs.closing.text.Goals as goal

pub returns : goal.returns
returns c =
    let a = c.args in
    let e = c.copy_from_slice.ensures.after ∙ c.head.ensures in
    put_end c.copy_from_slice.new.self _ c.copy_from_slice-2.new.self 7 32 (ap length e ∙ length-text a.round a.train a.number []) (lit≤ tt)
    ∙ (rw (c.copy_from_slice-2.ensures.after, e) (head_chance a.round a.train a.number a.chance.now))
