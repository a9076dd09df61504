-- What a showing is opened with. Assumes nothing.
use Rattle.std.specs.Prelude.{◌≡◌, ℕ, false, [], None, Ok}
use Rattle.keeping.specs.declared.options.Options.{Options}
use Rattle.keeping.specs.declared.showing.Showing.{Showing}
use Rattle.keeping.specs.Drawn.{held}
use Rattle.keeping.specs.Kept.{name_of}
use Rattle.keeping.specs.Rounds.{RoundsFor}

-- each option is used for what it is there for
pub record Opened (o : Options) (default : ℕ) (s : Showing) : Type 0 where
  pub drawn : s.drawn.input.name ≡ o.drawn
  pub empty : held s.drawn ≡ []
  pub book : name_of s.records.book ≡ o.book
  pub words : name_of s.records.words ≡ o.words
  pub rounds : RoundsFor o.rounds default (Ok s.rounds)
  pub unasked : o.progress ≡ false → s.progress.began ≡ None
  pub all : s.progress.rounds ≡ s.rounds.count
