-- Rounds in which one node alone sends each payload.
use Rattle.std.specs.Prelude.{ℕ, ◌≡◌, List, Bool, Some}
use Rattle.ld_msg.specs.declared.msg.What.TheVariants.{Rec}
use Rattle.ld_msg.specs.declared.msg.Who.TheVariants as whos
use Rattle.ld_msg.specs.declared.msg.Msg.{Msg}
use Rattle.ld_msg.specs.declared.msg.Entry.{Entry}
use Rattle.ld_msg.specs.declared.msg.Body.TheVariants as bodies
use Rattle.ld_msg.specs.Choice.{sender}
use Rattle.ld_machine.specs.World.{World, In, Sent}

-- where a reader asks for one copy of each record in a round, each record in a page of that round comes from the node that is to send it: so from one node at most
abbrev pub OneSends : World → Type 0
OneSends w = (ask page : Msg) (r y round from start upto : ℕ) (set excluded : List Bool) (clean : Bool) (es : List Entry) (e : Entry) (p : List ℕ) →
    Sent w ask → ask.from ≡ whos.Reader r → ask.body ≡ bodies.ReadOne round from set excluded →
    Sent w page → page.to ≡ whos.Reader r → page.from ≡ whos.Node y → page.body ≡ bodies.ReadPage round start upto clean es → In e es → e.what ≡ Rec p →
    sender set excluded e.number ≡ Some y
