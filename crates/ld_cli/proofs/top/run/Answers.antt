use Rattle.std.proofs.Common.{⊎_elim, inl, inr, refl, sym, subst, codes, map, string_bytes, length, drop, Option, Some}
use Rattle.std.specs.Prelude.{MatchOption}
use Rattle.ld_io.specs.Input.{left_of}
use Rattle.ld_words.specs.Meaning.{Asks, IsNoCommand}
use Rattle.ld_words.specs.declared.command.Command.{Command}
use Rattle.ld_words.specs.declared.command.Command.TheVariants.{Replay, Exercise, Node, Crowd, Append, Tail, Register, Status, Mend, Replace, Show, Trim, Copy}
use Rattle.ld_rounds.specs.Drives.{counted, HasBroken}
use Rattle.ld_rounds.specs.Onward.{reached, EndsRun}
use Rattle.ld_rounds.specs.declared.ended.Ended.TheVariants as ends
use Rattle.ld_append.specs.Appends.{sequencing, IsAppended}
use Rattle.ld_append.proofs.Onward.{run_on as append_on}
use Rattle.ld_tail.specs.Tails.{Wanted, IsTailed, EndsTail}
use Rattle.ld_tail.proofs.Onward.{run_on as tail_on}
use Rattle.ld_cli.specs.Clients.{Drives, Operates}
use Rattle.ld_cli.specs.Payloads.{payloads_in}
use Rattle.ld_cli.proofs.Asked.{asked_one, asked_none}
use Rattle.ld_cli.proofs.Drives.{ends_map, nothing_done, nothing_read}
use Rattle.ld_cli.proofs.PlayLoop.{silent}
use Rattle.ld_cli.proofs.Stopping.{nothing_mended, nothing_replaced, nothing_shown}
use Rattle.ld_cli.proofs.Trimming.{nothing_driven}
use Rattle.ld_cli.proofs.top.run.Goals as goal

pub returns-in-Ok-Some-clause-exercised : goal.returns-in-Ok-Some-clause-exercised
returns-in-Ok-Some-clause-exercised g c = λ seed events asks.
    c.carry_out.ensures.exercised seed events (asked_one (map string_bytes c.args.words.now) c.in-Ok-Some.field-0 c.in-Ok-Some.command (Exercise seed events) c.in-Ok-Some.field-0-is c.in-Ok-Some.ensures.asks asks)

pub returns-in-Ok-Some-clause-served : goal.returns-in-Ok-Some-clause-served
returns-in-Ok-Some-clause-served g c = λ n start asks told.
    c.carry_out.ensures.served n start (asked_one (map string_bytes c.args.words.now) c.in-Ok-Some.field-0 c.in-Ok-Some.command (Node n) c.in-Ok-Some.field-0-is c.in-Ok-Some.ensures.asks asks) told

pub returns-in-Ok-Some-clause-opening : goal.returns-in-Ok-Some-clause-opening
returns-in-Ok-Some-clause-opening g c = λ n asks.
    c.carry_out.ensures.opening n (asked_one (map string_bytes c.args.words.now) c.in-Ok-Some.field-0 c.in-Ok-Some.command (Node n) c.in-Ok-Some.field-0-is c.in-Ok-Some.ensures.asks asks)

pub returns-in-Ok-Some-clause-complete_node : goal.returns-in-Ok-Some-clause-complete_node
returns-in-Ok-Some-clause-complete_node g c = λ n start bytes asks told spoken is may.
    c.carry_out.ensures.complete_node n start bytes (asked_one (map string_bytes c.args.words.now) c.in-Ok-Some.field-0 c.in-Ok-Some.command (Node n) c.in-Ok-Some.field-0-is c.in-Ok-Some.ensures.asks asks) told spoken is may

pub returns-in-Ok-Some-clause-drawn : goal.returns-in-Ok-Some-clause-drawn
returns-in-Ok-Some-clause-drawn g c = λ n asks told.
    c.carry_out.ensures.drawn n (asked_one (map string_bytes c.args.words.now) c.in-Ok-Some.field-0 c.in-Ok-Some.command (Node n) c.in-Ok-Some.field-0-is c.in-Ok-Some.ensures.asks asks) told

pub returns-in-Ok-Some-clause-replayed : goal.returns-in-Ok-Some-clause-replayed
returns-in-Ok-Some-clause-replayed g c = λ asks.
    c.carry_out.ensures.replayed (asked_one (map string_bytes c.args.words.now) c.in-Ok-Some.field-0 c.in-Ok-Some.command Replay c.in-Ok-Some.field-0-is c.in-Ok-Some.ensures.asks asks)

pub returns-in-Ok-Some-clause-fed : goal.returns-in-Ok-Some-clause-fed
returns-in-Ok-Some-clause-fed g c = λ asks.
    c.carry_out.ensures.fed (asked_one (map string_bytes c.args.words.now) c.in-Ok-Some.field-0 c.in-Ok-Some.command Replay c.in-Ok-Some.field-0-is c.in-Ok-Some.ensures.asks asks)

pub returns-in-Ok-Some-clause-read_to_end : goal.returns-in-Ok-Some-clause-read_to_end
returns-in-Ok-Some-clause-read_to_end g c = λ asks.
    c.carry_out.ensures.read_to_end (asked_one (map string_bytes c.args.words.now) c.in-Ok-Some.field-0 c.in-Ok-Some.command Replay c.in-Ok-Some.field-0-is c.in-Ok-Some.ensures.asks asks)

pub returns-in-Ok-Some-clause-transcribed : goal.returns-in-Ok-Some-clause-transcribed
returns-in-Ok-Some-clause-transcribed g c = λ asks.
    c.carry_out.ensures.transcribed (asked_one (map string_bytes c.args.words.now) c.in-Ok-Some.field-0 c.in-Ok-Some.command Replay c.in-Ok-Some.field-0-is c.in-Ok-Some.ensures.asks asks)

pub returns-in-Ok-Some-clause-complete : goal.returns-in-Ok-Some-clause-complete
returns-in-Ok-Some-clause-complete g c = λ asks.
    c.carry_out.ensures.complete (asked_one (map string_bytes c.args.words.now) c.in-Ok-Some.field-0 c.in-Ok-Some.command Replay c.in-Ok-Some.field-0-is c.in-Ok-Some.ensures.asks asks)

pub returns-in-Ok-None-clause-replayed : goal.returns-in-Ok-None-clause-replayed
returns-in-Ok-None-clause-replayed g c = λ asks. absurd (asked_none (map string_bytes c.args.words.now) c.in-Ok-None.field-0 Replay c.in-Ok-None.field-0-is c.in-Ok-None.ensures.asks asks)

pub returns-in-Ok-None-clause-complete : goal.returns-in-Ok-None-clause-complete
returns-in-Ok-None-clause-complete g c = λ asks. absurd (asked_none (map string_bytes c.args.words.now) c.in-Ok-None.field-0 Replay c.in-Ok-None.field-0-is c.in-Ok-None.ensures.asks asks)

pub returns-in-Ok-None-clause-exercised : goal.returns-in-Ok-None-clause-exercised
returns-in-Ok-None-clause-exercised g c = λ seed events asks.
    asked_none (map string_bytes c.args.words.now) c.in-Ok-None.field-0 (Exercise seed events) c.in-Ok-None.field-0-is c.in-Ok-None.ensures.asks asks

pub returns-in-Ok-None-clause-served : goal.returns-in-Ok-None-clause-served
returns-in-Ok-None-clause-served g c = λ n start asks told.
    asked_none (map string_bytes c.args.words.now) c.in-Ok-None.field-0 (Node n) c.in-Ok-None.field-0-is c.in-Ok-None.ensures.asks asks

pub returns-in-Ok-None-clause-opening : goal.returns-in-Ok-None-clause-opening
returns-in-Ok-None-clause-opening g c = λ n asks.
    asked_none (map string_bytes c.args.words.now) c.in-Ok-None.field-0 (Node n) c.in-Ok-None.field-0-is c.in-Ok-None.ensures.asks asks

pub returns-in-Ok-None-clause-complete_node : goal.returns-in-Ok-None-clause-complete_node
returns-in-Ok-None-clause-complete_node g c = λ n start bytes asks told spoken is may.
    asked_none (map string_bytes c.args.words.now) c.in-Ok-None.field-0 (Node n) c.in-Ok-None.field-0-is c.in-Ok-None.ensures.asks asks

pub returns-in-Ok-Some-clause-tailed : goal.returns-in-Ok-Some-clause-tailed
returns-in-Ok-Some-clause-tailed g c = λ t s far asks told begins.
    c.carry_out.ensures.tailed t s far (asked_one (map string_bytes c.args.words.now) c.in-Ok-Some.field-0 c.in-Ok-Some.command (Tail t) c.in-Ok-Some.field-0-is c.in-Ok-Some.ensures.asks asks) told begins

pub returns-in-Ok-Some-clause-tail_ends : goal.returns-in-Ok-Some-clause-tail_ends
returns-in-Ok-Some-clause-tail_ends g c = λ t asks.
    c.carry_out.ensures.tail_ends t (asked_one (map string_bytes c.args.words.now) c.in-Ok-Some.field-0 c.in-Ok-Some.command (Tail t) c.in-Ok-Some.field-0-is c.in-Ok-Some.ensures.asks asks)

pub returns-in-Ok-Some-clause-only_looks : goal.returns-in-Ok-Some-clause-only_looks
returns-in-Ok-Some-clause-only_looks g c = λ t asks.
    c.carry_out.ensures.only_looks t (asked_one (map string_bytes c.args.words.now) c.in-Ok-Some.field-0 c.in-Ok-Some.command (Tail t) c.in-Ok-Some.field-0-is c.in-Ok-Some.ensures.asks asks)

pub returns-in-Ok-Some-clause-append_ends : goal.returns-in-Ok-Some-clause-append_ends
returns-in-Ok-Some-clause-append_ends g c = λ w asks.
    c.carry_out.ensures.append_ends w (asked_one (map string_bytes c.args.words.now) c.in-Ok-Some.field-0 c.in-Ok-Some.command (Append w) c.in-Ok-Some.field-0-is c.in-Ok-Some.ensures.asks asks)

pub returns-in-Ok-Some-clause-append_refused : goal.returns-in-Ok-Some-clause-append_refused
returns-in-Ok-Some-clause-append_refused g c = λ w asks.
    c.carry_out.ensures.append_refused w (asked_one (map string_bytes c.args.words.now) c.in-Ok-Some.field-0 c.in-Ok-Some.command (Append w) c.in-Ok-Some.field-0-is c.in-Ok-Some.ensures.asks asks)

pub returns-in-Ok-None-clause-tailed : goal.returns-in-Ok-None-clause-tailed
returns-in-Ok-None-clause-tailed g c = λ t s far asks told begins.
    absurd (asked_none (map string_bytes c.args.words.now) c.in-Ok-None.field-0 (Tail t) c.in-Ok-None.field-0-is c.in-Ok-None.ensures.asks asks)

pub returns-in-Ok-None-clause-tail_ends : goal.returns-in-Ok-None-clause-tail_ends
returns-in-Ok-None-clause-tail_ends g c = λ t asks.
    absurd (asked_none (map string_bytes c.args.words.now) c.in-Ok-None.field-0 (Tail t) c.in-Ok-None.field-0-is c.in-Ok-None.ensures.asks asks)

pub returns-in-Ok-None-clause-only_looks : goal.returns-in-Ok-None-clause-only_looks
returns-in-Ok-None-clause-only_looks g c = λ t asks.
    absurd (asked_none (map string_bytes c.args.words.now) c.in-Ok-None.field-0 (Tail t) c.in-Ok-None.field-0-is c.in-Ok-None.ensures.asks asks)

pub returns-in-Ok-None-clause-append_ends : goal.returns-in-Ok-None-clause-append_ends
returns-in-Ok-None-clause-append_ends g c = λ w asks.
    absurd (asked_none (map string_bytes c.args.words.now) c.in-Ok-None.field-0 (Append w) c.in-Ok-None.field-0-is c.in-Ok-None.ensures.asks asks)

pub returns-in-Ok-None-clause-append_refused : goal.returns-in-Ok-None-clause-append_refused
returns-in-Ok-None-clause-append_refused g c = λ w asks.
    absurd (asked_none (map string_bytes c.args.words.now) c.in-Ok-None.field-0 (Append w) c.in-Ok-None.field-0-is c.in-Ok-None.ensures.asks asks)

pub returns-in-Ok-Some-clause-appended : goal.returns-in-Ok-Some-clause-appended
returns-in-Ok-Some-clause-appended g c = λ w s far asks told begins unset.
    c.carry_out.ensures.appended w s far (asked_one (map string_bytes c.args.words.now) c.in-Ok-Some.field-0 c.in-Ok-Some.command (Append w) c.in-Ok-Some.field-0-is c.in-Ok-Some.ensures.asks asks) told begins unset

pub returns-in-Ok-None-clause-appended : goal.returns-in-Ok-None-clause-appended
returns-in-Ok-None-clause-appended g c = λ w s far asks told begins unset.
    absurd (asked_none (map string_bytes c.args.words.now) c.in-Ok-None.field-0 (Append w) c.in-Ok-None.field-0-is c.in-Ok-None.ensures.asks asks)

pub returns-in-Err-clause-replayed : goal.returns-in-Err-clause-replayed
returns-in-Err-clause-replayed g c = λ asks all may. silent (drop (length (g.I.Source.gave c.args.input.now)) all) (Some (g.O.Sink.written c.args.out.now))

pub returns-in-Err-clause-tailed : goal.returns-in-Err-clause-tailed
returns-in-Err-clause-tailed g c = λ t s far asks told begins.
    inr (nothing_read (record { name = codes "r"; log = t.of.log; from = t.from; until = t.until; style = t.style }) (counted (g.N.Nodes.faults c.args.nodes.now) (g.N.Nodes.faults c.args.nodes.now) (g.N.Nodes.endings c.args.nodes.now) (g.N.Nodes.endings c.args.nodes.now)) t.of.rounds t.of.config s (Some (g.O.Sink.written c.args.out.now)))

pub returns-in-Err-clause-appended : goal.returns-in-Err-clause-appended
returns-in-Err-clause-appended g c = λ w s far asks told begins unset.
    inr (nothing_done (codes "s") w.of.log (counted (g.N.Nodes.faults c.args.nodes.now) (g.N.Nodes.faults c.args.nodes.now) (g.N.Nodes.endings c.args.nodes.now) (g.N.Nodes.endings c.args.nodes.now)) (payloads_in w.batches (left_of (g.I.Source.known c.args.input.now) (g.I.Source.gave c.args.input.now))) w.of.rounds w.of.config s (Some (g.O.Sink.written c.args.out.now)))

pub returns-in-Ok-Some-clause-off : goal.returns-in-Ok-Some-clause-off
returns-in-Ok-Some-clause-off g c = λ asked asks drives.
    c.carry_out.ensures.off (subst Drives (sym (asked_one (map string_bytes c.args.words.now) c.in-Ok-Some.field-0 c.in-Ok-Some.command asked c.in-Ok-Some.field-0-is c.in-Ok-Some.ensures.asks asks)) drives)

pub returns-in-Ok-None-clause-off : goal.returns-in-Ok-None-clause-off
returns-in-Ok-None-clause-off g c = λ asked asks drives. absurd (asked_none (map string_bytes c.args.words.now) c.in-Ok-None.field-0 asked c.in-Ok-None.field-0-is c.in-Ok-None.ensures.asks asks)

pub returns-in-Ok-Some-clause-register : goal.returns-in-Ok-Some-clause-register
returns-in-Ok-Some-clause-register g c = λ none.
    c.carry_out.ensures.register (none c.in-Ok-Some.command (subst (λ (o : Option Command). MatchOption o (IsNoCommand (map string_bytes c.args.words.now)) (Asks (map string_bytes c.args.words.now))) c.in-Ok-Some.field-0-is c.in-Ok-Some.ensures.asks))

pub returns-in-Ok-Some-clause-link : goal.returns-in-Ok-Some-clause-link
returns-in-Ok-Some-clause-link g c = λ none.
    c.carry_out.ensures.link (none c.in-Ok-Some.command (subst (λ (o : Option Command). MatchOption o (IsNoCommand (map string_bytes c.args.words.now)) (Asks (map string_bytes c.args.words.now))) c.in-Ok-Some.field-0-is c.in-Ok-Some.ensures.asks))

pub returns-in-Ok-Some-clause-crowded : goal.returns-in-Ok-Some-clause-crowded
returns-in-Ok-Some-clause-crowded g c = λ w asks.
    c.carry_out.ensures.crowded w (asked_one (map string_bytes c.args.words.now) c.in-Ok-Some.field-0 c.in-Ok-Some.command (Crowd w) c.in-Ok-Some.field-0-is c.in-Ok-Some.ensures.asks asks)

pub returns-in-Ok-None-clause-crowded : goal.returns-in-Ok-None-clause-crowded
returns-in-Ok-None-clause-crowded g c = λ w asks.
    absurd (asked_none (map string_bytes c.args.words.now) c.in-Ok-None.field-0 (Crowd w) c.in-Ok-None.field-0-is c.in-Ok-None.ensures.asks asks)

pub returns-in-Ok-Some-clause-registered : goal.returns-in-Ok-Some-clause-registered
returns-in-Ok-Some-clause-registered g c = λ r asks.
    c.carry_out.ensures.registered r (asked_one (map string_bytes c.args.words.now) c.in-Ok-Some.field-0 c.in-Ok-Some.command (Register r) c.in-Ok-Some.field-0-is c.in-Ok-Some.ensures.asks asks)

pub returns-in-Ok-None-clause-registered : goal.returns-in-Ok-None-clause-registered
returns-in-Ok-None-clause-registered g c = λ r asks.
    absurd (asked_none (map string_bytes c.args.words.now) c.in-Ok-None.field-0 (Register r) c.in-Ok-None.field-0-is c.in-Ok-None.ensures.asks asks)

pub returns-in-Ok-Some-clause-asked : goal.returns-in-Ok-Some-clause-asked
returns-in-Ok-Some-clause-asked g c = λ s asks.
    c.carry_out.ensures.asked s (asked_one (map string_bytes c.args.words.now) c.in-Ok-Some.field-0 c.in-Ok-Some.command (Status s) c.in-Ok-Some.field-0-is c.in-Ok-Some.ensures.asks asks)

pub returns-in-Ok-None-clause-asked : goal.returns-in-Ok-None-clause-asked
returns-in-Ok-None-clause-asked g c = λ s asks.
    absurd (asked_none (map string_bytes c.args.words.now) c.in-Ok-None.field-0 (Status s) c.in-Ok-None.field-0-is c.in-Ok-None.ensures.asks asks)

pub returns-in-Ok-Some-clause-ended : goal.returns-in-Ok-Some-clause-ended
returns-in-Ok-Some-clause-ended g c = λ asked asks drives.
    c.carry_out.ensures.ended (subst Drives (sym (asked_one (map string_bytes c.args.words.now) c.in-Ok-Some.field-0 c.in-Ok-Some.command asked c.in-Ok-Some.field-0-is c.in-Ok-Some.ensures.asks asks)) drives)

pub returns-in-Ok-None-clause-ended : goal.returns-in-Ok-None-clause-ended
returns-in-Ok-None-clause-ended g c = λ asked asks drives. absurd (asked_none (map string_bytes c.args.words.now) c.in-Ok-None.field-0 asked c.in-Ok-None.field-0-is c.in-Ok-None.ensures.asks asks)

pub returns-in-Ok-Some-clause-formatted : goal.returns-in-Ok-Some-clause-formatted
returns-in-Ok-Some-clause-formatted g c = λ n bytes asks seen some.
    c.carry_out.ensures.formatted n bytes (asked_one (map string_bytes c.args.words.now) c.in-Ok-Some.field-0 c.in-Ok-Some.command (Node n) c.in-Ok-Some.field-0-is c.in-Ok-Some.ensures.asks asks) seen some

pub returns-in-Ok-Some-clause-mended : goal.returns-in-Ok-Some-clause-mended
returns-in-Ok-Some-clause-mended g c = λ w asks.
    c.carry_out.ensures.mended w (asked_one (map string_bytes c.args.words.now) c.in-Ok-Some.field-0 c.in-Ok-Some.command (Mend w) c.in-Ok-Some.field-0-is c.in-Ok-Some.ensures.asks asks)

pub returns-in-Ok-None-clause-mended : goal.returns-in-Ok-None-clause-mended
returns-in-Ok-None-clause-mended g c = λ w asks.
    absurd (asked_none (map string_bytes c.args.words.now) c.in-Ok-None.field-0 (Mend w) c.in-Ok-None.field-0-is c.in-Ok-None.ensures.asks asks)

pub returns-in-Ok-Some-clause-replaced : goal.returns-in-Ok-Some-clause-replaced
returns-in-Ok-Some-clause-replaced g c = λ w asks.
    c.carry_out.ensures.replaced w (asked_one (map string_bytes c.args.words.now) c.in-Ok-Some.field-0 c.in-Ok-Some.command (Replace w) c.in-Ok-Some.field-0-is c.in-Ok-Some.ensures.asks asks)

pub returns-in-Ok-None-clause-replaced : goal.returns-in-Ok-None-clause-replaced
returns-in-Ok-None-clause-replaced g c = λ w asks.
    absurd (asked_none (map string_bytes c.args.words.now) c.in-Ok-None.field-0 (Replace w) c.in-Ok-None.field-0-is c.in-Ok-None.ensures.asks asks)

pub returns-in-Ok-Some-clause-shown : goal.returns-in-Ok-Some-clause-shown
returns-in-Ok-Some-clause-shown g c = λ w asks.
    c.carry_out.ensures.shown w (asked_one (map string_bytes c.args.words.now) c.in-Ok-Some.field-0 c.in-Ok-Some.command (Show w) c.in-Ok-Some.field-0-is c.in-Ok-Some.ensures.asks asks)

pub returns-in-Ok-None-clause-shown : goal.returns-in-Ok-None-clause-shown
returns-in-Ok-None-clause-shown g c = λ w asks.
    absurd (asked_none (map string_bytes c.args.words.now) c.in-Ok-None.field-0 (Show w) c.in-Ok-None.field-0-is c.in-Ok-None.ensures.asks asks)

pub returns-in-Ok-Some-clause-trimmed : goal.returns-in-Ok-Some-clause-trimmed
returns-in-Ok-Some-clause-trimmed g c = λ w asks.
    c.carry_out.ensures.trimmed w (asked_one (map string_bytes c.args.words.now) c.in-Ok-Some.field-0 c.in-Ok-Some.command (Trim w) c.in-Ok-Some.field-0-is c.in-Ok-Some.ensures.asks asks)

pub returns-in-Ok-None-clause-trimmed : goal.returns-in-Ok-None-clause-trimmed
returns-in-Ok-None-clause-trimmed g c = λ w asks.
    absurd (asked_none (map string_bytes c.args.words.now) c.in-Ok-None.field-0 (Trim w) c.in-Ok-None.field-0-is c.in-Ok-None.ensures.asks asks)

pub returns-in-Ok-Some-clause-off_trim : goal.returns-in-Ok-Some-clause-off_trim
returns-in-Ok-Some-clause-off_trim g c = λ w asks.
    c.carry_out.ensures.off_trim w (asked_one (map string_bytes c.args.words.now) c.in-Ok-Some.field-0 c.in-Ok-Some.command (Trim w) c.in-Ok-Some.field-0-is c.in-Ok-Some.ensures.asks asks)

pub returns-in-Ok-None-clause-off_trim : goal.returns-in-Ok-None-clause-off_trim
returns-in-Ok-None-clause-off_trim g c = λ w asks.
    absurd (asked_none (map string_bytes c.args.words.now) c.in-Ok-None.field-0 (Trim w) c.in-Ok-None.field-0-is c.in-Ok-None.ensures.asks asks)

pub returns-in-Ok-Some-clause-copied : goal.returns-in-Ok-Some-clause-copied
returns-in-Ok-Some-clause-copied g c = λ w asks.
    let same = c.carry_out.ensures.copied w (asked_one (map string_bytes c.args.words.now) c.in-Ok-Some.field-0 c.in-Ok-Some.command (Copy w) c.in-Ok-Some.field-0-is c.in-Ok-Some.ensures.asks asks) in
    (inl same.0, same.1, same.2, same.3)

pub returns-in-Ok-None-clause-copied : goal.returns-in-Ok-None-clause-copied
returns-in-Ok-None-clause-copied g c = λ w asks.
    absurd (asked_none (map string_bytes c.args.words.now) c.in-Ok-None.field-0 (Copy w) c.in-Ok-None.field-0-is c.in-Ok-None.ensures.asks asks)

pub returns-in-Ok-Some-clause-write : goal.returns-in-Ok-Some-clause-write
returns-in-Ok-Some-clause-write g c = c.carry_out.ensures.write

pub returns-in-Ok-Some-clause-disk : goal.returns-in-Ok-Some-clause-disk
returns-in-Ok-Some-clause-disk g c = c.carry_out.ensures.disk

pub returns-in-Ok-Some-clause-operated : goal.returns-in-Ok-Some-clause-operated
returns-in-Ok-Some-clause-operated g c = λ asked asks operates.
    c.carry_out.ensures.operated (subst Operates (sym (asked_one (map string_bytes c.args.words.now) c.in-Ok-Some.field-0 c.in-Ok-Some.command asked c.in-Ok-Some.field-0-is c.in-Ok-Some.ensures.asks asks)) operates)

pub returns-in-Ok-None-clause-operated : goal.returns-in-Ok-None-clause-operated
returns-in-Ok-None-clause-operated g c = λ asked asks operates. absurd (asked_none (map string_bytes c.args.words.now) c.in-Ok-None.field-0 asked c.in-Ok-None.field-0-is c.in-Ok-None.ensures.asks asks)

pub returns-in-Err-clause-mended : goal.returns-in-Err-clause-mended
returns-in-Err-clause-mended g c = λ w asks. nothing_mended g.D.Disk.faults g.D.Disk.seen g.D.Disk.may_leave g.O.Sink.faults g.O.Sink.written
    g.G.Register.faults g.G.Register.told g.G.Register.damaged g.G.Register.holds g.G.Register.may_hold g.G.Register.tells g.G.Register.identity g.N.Nodes.faults g.N.Nodes.tells g.N.Nodes.silent g.N.Nodes.off
    c.args.disk.now c.args.reg.now c.args.nodes.now c.args.out.now w

pub returns-in-Err-clause-replaced : goal.returns-in-Err-clause-replaced
returns-in-Err-clause-replaced g c = λ w asks. nothing_replaced g.D.Disk.faults g.D.Disk.seen g.D.Disk.may_leave g.O.Sink.faults g.O.Sink.written
    g.G.Register.faults g.G.Register.told g.G.Register.damaged g.G.Register.holds g.G.Register.may_hold g.G.Register.tells
    c.args.disk.now c.args.reg.now c.args.out.now w

pub returns-in-Err-clause-shown : goal.returns-in-Err-clause-shown
returns-in-Err-clause-shown g c = λ w asks. (refl, nothing_shown g.D.Disk.faults g.D.Disk.seen g.D.Disk.may_leave g.O.Sink.faults g.O.Sink.written c.args.disk.now c.args.out.now w)

pub returns-in-Err-clause-trimmed : goal.returns-in-Err-clause-trimmed
returns-in-Err-clause-trimmed g c = λ w asks. (
  refl,
  inl (nothing_driven g.N.Nodes.faults g.N.Nodes.endings g.N.Nodes.tells g.N.Nodes.silent g.N.Nodes.off
      g.G.Register.faults g.G.Register.told g.G.Register.damaged g.G.Register.holds g.G.Register.may_hold g.G.Register.tells g.O.Sink.faults g.O.Sink.written
      c.args.nodes.now c.args.reg.now c.args.out.now w),
)

pub returns-in-Ok-Some-clause-safe_append : goal.returns-in-Ok-Some-clause-safe_append
returns-in-Ok-Some-clause-safe_append g c = λ w before far asks bounds told begins unset.
    let counts = (counted (g.N.Nodes.faults c.args.nodes.now) (g.N.Nodes.faults c.carry_out.new.nodes) (g.N.Nodes.endings c.args.nodes.now) (g.N.Nodes.endings c.carry_out.new.nodes)) in
    let coming = (payloads_in w.batches (left_of (g.I.Source.known c.args.input.now) (g.I.Source.gave c.args.input.now))) in
    let tells = g.N.Nodes.tells c.carry_out.new.nodes in
    let registered = g.G.Register.tells c.carry_out.new.reg in
    ⊎_elim (λ quiet. inl quiet) (λ r. inr (ends_map (g.N.Nodes.faults c.args.nodes.now) (g.N.Nodes.faults c.carry_out.new.nodes)
    (IsAppended (codes "s") w.of.log counts coming w.of.rounds tells registered w.of.config (reached w.of.config before) (Some (g.O.Sink.written c.args.out.now)) (Some (g.O.Sink.written c.carry_out.new.out)))
    (EndsRun (sequencing (codes "s")) (HasBroken counts) w.of.config before (Some (g.O.Sink.written c.args.out.now)) (Some (g.O.Sink.written c.carry_out.new.out)))
    (append_on (codes "s") w.of.log counts coming w.of.rounds tells registered w.of.config bounds before (Some (g.O.Sink.written c.args.out.now)) (Some (g.O.Sink.written c.carry_out.new.out)))
    c.carry_out.result r))
    (c.carry_out.ensures.appended w (reached w.of.config before) far (asked_one (map string_bytes c.args.words.now) c.in-Ok-Some.field-0 c.in-Ok-Some.command (Append w) c.in-Ok-Some.field-0-is c.in-Ok-Some.ensures.asks asks) told begins unset)

pub returns-in-Ok-None-clause-safe_append : goal.returns-in-Ok-None-clause-safe_append
returns-in-Ok-None-clause-safe_append g c = λ w before far asks bounds told begins unset.
    absurd (asked_none (map string_bytes c.args.words.now) c.in-Ok-None.field-0 (Append w) c.in-Ok-None.field-0-is c.in-Ok-None.ensures.asks asks)

pub returns-in-Err-clause-safe_append : goal.returns-in-Err-clause-safe_append
returns-in-Err-clause-safe_append g c = λ w before far asks bounds told begins unset.
    let counts = counted (g.N.Nodes.faults c.args.nodes.now) (g.N.Nodes.faults c.args.nodes.now) (g.N.Nodes.endings c.args.nodes.now) (g.N.Nodes.endings c.args.nodes.now) in
    let coming = payloads_in w.batches (left_of (g.I.Source.known c.args.input.now) (g.I.Source.gave c.args.input.now)) in
    inr (append_on (codes "s") w.of.log counts coming w.of.rounds (g.N.Nodes.tells c.args.nodes.now) (g.G.Register.tells c.args.reg.now) w.of.config bounds before (Some (g.O.Sink.written c.args.out.now)) (Some (g.O.Sink.written c.args.out.now)) ends.NoMemory
    (nothing_done (codes "s") w.of.log counts coming w.of.rounds w.of.config (reached w.of.config before) (Some (g.O.Sink.written c.args.out.now))))

pub returns-in-Ok-Some-clause-told : goal.returns-in-Ok-Some-clause-told
returns-in-Ok-Some-clause-told g c = λ n asks.
    c.carry_out.ensures.told n (asked_one (map string_bytes c.args.words.now) c.in-Ok-Some.field-0 c.in-Ok-Some.command (Node n) c.in-Ok-Some.field-0-is c.in-Ok-Some.ensures.asks asks)

pub returns-in-Ok-None-clause-told : goal.returns-in-Ok-None-clause-told
returns-in-Ok-None-clause-told g c = λ n asks.
    asked_none (map string_bytes c.args.words.now) c.in-Ok-None.field-0 (Node n) c.in-Ok-None.field-0-is c.in-Ok-None.ensures.asks asks

pub returns-in-Ok-Some-clause-safe_tail : goal.returns-in-Ok-Some-clause-safe_tail
returns-in-Ok-Some-clause-safe_tail g c = λ t before far asks bounds told begins.
    let counts = (counted (g.N.Nodes.faults c.args.nodes.now) (g.N.Nodes.faults c.carry_out.new.nodes) (g.N.Nodes.endings c.args.nodes.now) (g.N.Nodes.endings c.carry_out.new.nodes)) in
    let wanted : Wanted = (record { name = codes "r"; log = t.of.log; from = t.from; until = t.until; style = t.style }) in
    let tells = g.N.Nodes.tells c.carry_out.new.nodes in
    let registered = g.G.Register.tells c.carry_out.new.reg in
    ⊎_elim (λ quiet. inl quiet) (λ r. inr (ends_map (g.N.Nodes.faults c.args.nodes.now) (g.N.Nodes.faults c.carry_out.new.nodes)
    (IsTailed wanted counts t.of.rounds tells registered t.of.config (reached t.of.config before) (Some (g.O.Sink.written c.args.out.now)) (Some (g.O.Sink.written c.carry_out.new.out)))
    (EndsTail wanted (HasBroken counts) t.of.config before (Some (g.O.Sink.written c.args.out.now)) (Some (g.O.Sink.written c.carry_out.new.out)))
    (tail_on wanted counts t.of.rounds tells registered t.of.config bounds before (Some (g.O.Sink.written c.args.out.now)) (Some (g.O.Sink.written c.carry_out.new.out)))
    c.carry_out.result r))
    (c.carry_out.ensures.tailed t (reached t.of.config before) far (asked_one (map string_bytes c.args.words.now) c.in-Ok-Some.field-0 c.in-Ok-Some.command (Tail t) c.in-Ok-Some.field-0-is c.in-Ok-Some.ensures.asks asks) told begins)

pub returns-in-Ok-None-clause-safe_tail : goal.returns-in-Ok-None-clause-safe_tail
returns-in-Ok-None-clause-safe_tail g c = λ t before far asks bounds told begins.
    absurd (asked_none (map string_bytes c.args.words.now) c.in-Ok-None.field-0 (Tail t) c.in-Ok-None.field-0-is c.in-Ok-None.ensures.asks asks)

pub returns-in-Err-clause-safe_tail : goal.returns-in-Err-clause-safe_tail
returns-in-Err-clause-safe_tail g c = λ t before far asks bounds told begins.
    let counts = counted (g.N.Nodes.faults c.args.nodes.now) (g.N.Nodes.faults c.args.nodes.now) (g.N.Nodes.endings c.args.nodes.now) (g.N.Nodes.endings c.args.nodes.now) in
    let wanted : Wanted = (record { name = codes "r"; log = t.of.log; from = t.from; until = t.until; style = t.style }) in
    inr (tail_on wanted counts t.of.rounds (g.N.Nodes.tells c.args.nodes.now) (g.G.Register.tells c.args.reg.now) t.of.config bounds before (Some (g.O.Sink.written c.args.out.now)) (Some (g.O.Sink.written c.args.out.now)) ends.NoMemory
    (nothing_read wanted counts t.of.rounds t.of.config (reached t.of.config before) (Some (g.O.Sink.written c.args.out.now))))

pub returns-in-Err-clause-copied : goal.returns-in-Err-clause-copied
returns-in-Err-clause-copied g c = λ w asks. (inr refl, refl, refl, refl)
