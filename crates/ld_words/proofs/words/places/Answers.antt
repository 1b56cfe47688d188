use Rattle.std.proofs.Common.{map}
use Rattle.std.specs.Prelude.{string_bytes}
use Rattle.ld_words.proofs.OneCommand.{asked_places}
use Rattle.ld_words.proofs.words.places.Goals as goal

pub returns-in-Some : goal.returns-in-Some
returns-in-Some c =
    let asks = rw c.in-Some.is at c.in_ok-command.ensures.asks in
    asked_places (map string_bytes c.args.words.now) _ c.places_of.result asks c.places_of.ensures

pub returns-in-None : goal.returns-in-None
returns-in-None c other asks =
    let none = rw c.in-None.is at c.in_ok-command.ensures.asks in
    absurd (none other asks)
