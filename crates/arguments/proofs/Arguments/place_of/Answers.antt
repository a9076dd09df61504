use Rattle.std.proofs.Common.{◌≡◌, ◌∙◌, rules, tests}
use Rattle.std.specs.List.{position}
use Rattle.std.proofs.lemmas.Iterator.{YieldsList-from_slice}
use Rattle.std.proofs.lemmas.Iterator.Search.{position_from_yields_List}
use Rattle.arguments.proofs.Places.{is_name, stands}
use Rattle.arguments.proofs.Arguments.place_of.Goals as goal

pub returns : goal.returns
returns c =
    let name = c.args.name.now in let words = c.args.self.now.words.items in let found : c.position.result ≡ position (is_name name) words = position_from_yields_List (is_name name) _ _ c.position.result c.position.ensures.ran (YieldsList-from_slice words (c.iter.ensures.rest ∙ c.deref.ensures.value)) (λ x b q k. search (rules, tests)) in
    rw found (stands name words)
