use Rattle.std.proofs.Common.{◌≡◌, ℕ, List, ◌++◌, subst}
use Rattle.std.proofs.lemmas.List.{append_assoc}
use Rattle.sha256.specs.Stream.{Holds}
use Rattle.book.specs.Lengths.{round_text}
use Rattle.book.proofs.add_words.Goals as goal

regrouped : (d b a o e : List ℕ) → d ++ b ++ a ++ o ++ e ≡ d ++ round_text b a o e
regrouped d b a o e = simp append_assoc

pub returns : goal.returns
returns c = λ m h.
    let w = c.args.words in
    let held = c.update-4.ensures _ (c.update-3.ensures _ (c.update-2.ensures _ (c.update.ensures m h))) in
    subst (Holds c.update-4.new.self) (regrouped m w.boxes.now w.ask.now w.opened.now w.end.now) held
