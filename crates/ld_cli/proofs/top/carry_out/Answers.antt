use Rattle.std.proofs.Common.{◌≡◌, ◌⊎◌, refl, sym, ◌∙◌, subst, true, codes, Some}
use Rattle.ld_io.specs.Input.{left_of}
use Rattle.ld_serve.specs.Complete.{MayOpen}
use Rattle.ld_words.specs.declared.command.AppendWords.{AppendWords}
use Rattle.ld_words.specs.declared.command.TailWords.{TailWords}
use Rattle.ld_machine.specs.Config.{first_spec}
use Rattle.ld_machine.specs.Step.{spec_set}
use Rattle.ld_rounds.specs.Drives.{counted}
use Rattle.ld_rounds.specs.Reaching.{Begins}
use Rattle.ld_append.specs.Acting.{MayCrowd}
use Rattle.ld_append.specs.Appends.{HasNone as HasNoSequencers, IsAppended, IsEndOfAppend}
use Rattle.ld_tail.specs.Tails.{HasNone as HasNoReaders, IsTailed, IsTailEnd}
use Rattle.ld_cli.specs.Payloads.{payloads_in}
use Rattle.ld_cli.specs.Clients.{Drives, Looks, Calls, Dials, EndsDrive}
use Rattle.ld_cli.proofs.Asked.{one_node, one_append, one_tail}
use Rattle.ld_cli.proofs.Drives.{never_usage, disk_stays, append_read_rose, append_write_rose, tail_never_reads, tail_write_rose}
use Rattle.ld_cli.proofs.Commands.{operates_so, operates_drives, operates_shows, operates_places}
use Rattle.ld_cli.proofs.top.carry_out.Goals as goal

pub returns-in-Node-clause-complete_node : goal.returns-in-Node-clause-complete_node
returns-in-Node-clause-complete_node g c = λ n start bytes asks told spoken is may.
    let same : n ≡ c.in-Node.node = one_node n c.in-Node.node (sym asks ∙ c.in-Node.is) in
    c.served.ensures.complete start bytes told spoken is
    (subst (λ m. MayOpen (g.G.Register.told c.args.reg.now) (g.G.Register.damaged c.args.reg.now) m.format bytes) same may)

pub returns-in-Append-clause-usage : goal.returns-in-Append-clause-usage
returns-in-Append-clause-usage g c = never_usage (g.N.Nodes.faults c.args.nodes.now) (g.N.Nodes.faults c.appended.new.nodes)
    (IsEndOfAppend (g.G.Register.told c.args.reg.now → MayCrowd (g.G.Register.may_hold c.args.reg.now) c.in-Append.append.of.log) (λ place. g.G.Register.told c.args.reg.now → g.G.Register.damaged c.args.reg.now place) (payloads_in c.in-Append.append.batches (left_of (g.I.Source.known c.args.input.now) (g.I.Source.gave c.args.input.now))) (g.I.Source.faults c.args.input.now) (g.I.Source.faults c.appended.new.input) (g.O.Sink.faults c.args.out.now) (g.O.Sink.faults c.appended.new.out)
    (Some (g.O.Sink.written c.args.out.now)) (Some (g.O.Sink.written c.appended.new.out)))
    c.appended.result c.appended.ensures.ends

pub returns-in-Append-clause-append_ends : goal.returns-in-Append-clause-append_ends
returns-in-Append-clause-append_ends g c = λ w is.
    let same : w ≡ c.in-Append.append = one_append w c.in-Append.append (sym is ∙ c.in-Append.is) in
    subst (λ (u : AppendWords). EndsDrive (g.N.Nodes.faults c.args.nodes.now) (g.N.Nodes.faults c.appended.new.nodes)
    (IsEndOfAppend (g.G.Register.told c.args.reg.now → MayCrowd (g.G.Register.may_hold c.args.reg.now) u.of.log) (λ place. g.G.Register.told c.args.reg.now → g.G.Register.damaged c.args.reg.now place) (payloads_in u.batches (left_of (g.I.Source.known c.args.input.now) (g.I.Source.gave c.args.input.now))) (g.I.Source.faults c.args.input.now) (g.I.Source.faults c.appended.new.input) (g.O.Sink.faults c.args.out.now) (g.O.Sink.faults c.appended.new.out)
    (Some (g.O.Sink.written c.args.out.now)) (Some (g.O.Sink.written c.appended.new.out))) c.appended.result) (sym same) c.appended.ensures.ends

pub returns-in-Append-clause-append_refused : goal.returns-in-Append-clause-append_refused
returns-in-Append-clause-append_refused g c = λ w is. c.appended.ensures.refused

pub returns-in-Append-clause-read : goal.returns-in-Append-clause-read
returns-in-Append-clause-read g c = append_read_rose _ _ _ _ _ _ _ _ _ _ _ c.appended.result c.appended.ensures.ends

pub returns-in-Append-clause-write : goal.returns-in-Append-clause-write
returns-in-Append-clause-write g c = append_write_rose _ _ _ _ _ _ _ _ _ _ _ c.appended.result c.appended.ensures.ends

pub returns-in-Append-clause-disk : goal.returns-in-Append-clause-disk
returns-in-Append-clause-disk g c = disk_stays (g.N.Nodes.faults c.args.nodes.now) (g.N.Nodes.faults c.appended.new.nodes)
    (IsEndOfAppend (g.G.Register.told c.args.reg.now → MayCrowd (g.G.Register.may_hold c.args.reg.now) c.in-Append.append.of.log) (λ place. g.G.Register.told c.args.reg.now → g.G.Register.damaged c.args.reg.now place) (payloads_in c.in-Append.append.batches (left_of (g.I.Source.known c.args.input.now) (g.I.Source.gave c.args.input.now))) (g.I.Source.faults c.args.input.now) (g.I.Source.faults c.appended.new.input) (g.O.Sink.faults c.args.out.now) (g.O.Sink.faults c.appended.new.out)
    (Some (g.O.Sink.written c.args.out.now)) (Some (g.O.Sink.written c.appended.new.out)))
    _ _ c.appended.result c.appended.ensures.ends refl

pub returns-in-Append-clause-register : goal.returns-in-Append-clause-register
returns-in-Append-clause-register g c = λ no. absurd (no (subst Looks (sym c.in-Append.is) tt))

pub returns-in-Append-clause-link : goal.returns-in-Append-clause-link
returns-in-Append-clause-link g c = λ no. absurd (no (subst Calls (sym c.in-Append.is) tt))

pub returns-in-Append-clause-undriven : goal.returns-in-Append-clause-undriven
returns-in-Append-clause-undriven g c = λ no. absurd (no (subst Dials (sym c.in-Append.is) tt))

pub returns-in-Tail-clause-usage : goal.returns-in-Tail-clause-usage
returns-in-Tail-clause-usage g c = never_usage (g.N.Nodes.faults c.args.nodes.now) (g.N.Nodes.faults c.tailed.new.nodes)
    (IsTailEnd (λ place. g.G.Register.told c.args.reg.now → g.G.Register.damaged c.args.reg.now place) (g.G.Register.faults c.args.reg.now) (g.G.Register.faults c.tailed.new.reg) (g.O.Sink.faults c.args.out.now) (g.O.Sink.faults c.tailed.new.out))
    c.tailed.result c.tailed.ensures.ends

pub returns-in-Tail-clause-tail_ends : goal.returns-in-Tail-clause-tail_ends
returns-in-Tail-clause-tail_ends g c = λ t is. c.tailed.ensures.ends

pub returns-in-Tail-clause-read : goal.returns-in-Tail-clause-read
returns-in-Tail-clause-read g c = λ is. absurd (tail_never_reads (λ place. g.G.Register.told c.args.reg.now → g.G.Register.damaged c.args.reg.now place) (g.N.Nodes.faults c.args.nodes.now) (g.N.Nodes.faults c.tailed.new.nodes)
    (g.G.Register.faults c.args.reg.now) (g.G.Register.faults c.tailed.new.reg) (g.O.Sink.faults c.args.out.now) (g.O.Sink.faults c.tailed.new.out)
    c.tailed.result c.tailed.ensures.ends is)

pub returns-in-Tail-clause-write : goal.returns-in-Tail-clause-write
returns-in-Tail-clause-write g c = tail_write_rose (λ place. g.G.Register.told c.args.reg.now → g.G.Register.damaged c.args.reg.now place) (g.N.Nodes.faults c.args.nodes.now) (g.N.Nodes.faults c.tailed.new.nodes)
    (g.G.Register.faults c.args.reg.now) (g.G.Register.faults c.tailed.new.reg) (g.O.Sink.faults c.args.out.now) (g.O.Sink.faults c.tailed.new.out)
    c.tailed.result c.tailed.ensures.ends

pub returns-in-Tail-clause-disk : goal.returns-in-Tail-clause-disk
returns-in-Tail-clause-disk g c = disk_stays (g.N.Nodes.faults c.args.nodes.now) (g.N.Nodes.faults c.tailed.new.nodes)
    (IsTailEnd (λ place. g.G.Register.told c.args.reg.now → g.G.Register.damaged c.args.reg.now place) (g.G.Register.faults c.args.reg.now) (g.G.Register.faults c.tailed.new.reg) (g.O.Sink.faults c.args.out.now) (g.O.Sink.faults c.tailed.new.out))
    _ _ c.tailed.result c.tailed.ensures.ends refl

pub returns-in-Tail-clause-register : goal.returns-in-Tail-clause-register
returns-in-Tail-clause-register g c = λ no. absurd (no (subst Looks (sym c.in-Tail.is) tt))

pub returns-in-Tail-clause-link : goal.returns-in-Tail-clause-link
returns-in-Tail-clause-link g c = λ no. absurd (no (subst Calls (sym c.in-Tail.is) tt))

pub returns-in-Tail-clause-undriven : goal.returns-in-Tail-clause-undriven
returns-in-Tail-clause-undriven g c = λ no. absurd (no (subst Dials (sym c.in-Tail.is) tt))

pub returns-in-Tail-clause-tailed : goal.returns-in-Tail-clause-tailed
returns-in-Tail-clause-tailed g c = λ t s far is told begins.
    let same : t ≡ c.in-Tail.tail = one_tail t c.in-Tail.tail (sym is ∙ c.in-Tail.is) in
    subst
    (λ (u : TailWords).
    (g.N.Nodes.silent c.tailed.new.nodes ≡ true) ⊎ EndsDrive (g.N.Nodes.faults c.args.nodes.now) (g.N.Nodes.faults c.tailed.new.nodes)
    (IsTailed (record { name = codes "r"; log = u.of.log; from = u.from; until = u.until; style = u.style }) (counted (g.N.Nodes.faults c.args.nodes.now) (g.N.Nodes.faults c.tailed.new.nodes) (g.N.Nodes.endings c.args.nodes.now) (g.N.Nodes.endings c.tailed.new.nodes))
    u.of.rounds (g.N.Nodes.tells c.tailed.new.nodes) (g.G.Register.tells c.tailed.new.reg) u.of.config s (Some (g.O.Sink.written c.args.out.now)) (Some (g.O.Sink.written c.tailed.new.out))) c.tailed.result)
    (sym same)
    (c.tailed.ensures.tailed s far (subst (λ (u : TailWords). g.N.Nodes.tells c.args.nodes.now u.of.config far) same told) (subst (λ (u : TailWords). Begins (HasNoReaders (g.G.Register.tells c.args.reg.now)) u.of.config s far) same begins))

pub returns-in-Append-clause-appended : goal.returns-in-Append-clause-appended
returns-in-Append-clause-appended g c = λ w s far is told begins unset.
    let same : w ≡ c.in-Append.append = one_append w c.in-Append.append (sym is ∙ c.in-Append.is) in
    subst
    (λ (u : AppendWords).
    (g.N.Nodes.silent c.appended.new.nodes ≡ true) ⊎ EndsDrive (g.N.Nodes.faults c.args.nodes.now) (g.N.Nodes.faults c.appended.new.nodes)
    (IsAppended (codes "s") u.of.log (counted (g.N.Nodes.faults c.args.nodes.now) (g.N.Nodes.faults c.appended.new.nodes) (g.N.Nodes.endings c.args.nodes.now) (g.N.Nodes.endings c.appended.new.nodes))
    (payloads_in u.batches (left_of (g.I.Source.known c.args.input.now) (g.I.Source.gave c.args.input.now))) u.of.rounds (g.N.Nodes.tells c.appended.new.nodes) (g.G.Register.tells c.appended.new.reg) u.of.config s (Some (g.O.Sink.written c.args.out.now)) (Some (g.O.Sink.written c.appended.new.out))) c.appended.result)
    (sym same)
    (c.appended.ensures.appended s far (subst (λ (u : AppendWords). g.N.Nodes.tells c.args.nodes.now u.of.config far) same told) (subst (λ (u : AppendWords). Begins (HasNoSequencers (codes "s") (g.G.Register.tells c.args.reg.now)) u.of.config s far) same begins) (subst (λ (u : AppendWords). spec_set u.of.config s u.of.log ≡ first_spec u.of.config u.of.log) same unset))

pub returns-in-Append-clause-off : goal.returns-in-Append-clause-off
returns-in-Append-clause-off g c = λ is. c.appended.ensures.off

pub returns-in-Tail-clause-off : goal.returns-in-Tail-clause-off
returns-in-Tail-clause-off g c = λ is. c.tailed.ensures.off

pub returns-in-Replay-clause-off : goal.returns-in-Replay-clause-off
returns-in-Replay-clause-off g c = λ drives. absurd (subst Drives c.in-Replay.is drives)

pub returns-in-Exercise-clause-off : goal.returns-in-Exercise-clause-off
returns-in-Exercise-clause-off g c = λ drives. absurd (subst Drives c.in-Exercise.is drives)

pub returns-in-Node-clause-off : goal.returns-in-Node-clause-off
returns-in-Node-clause-off g c = λ drives. absurd (subst Drives c.in-Node.is drives)

pub returns-in-Replay-clause-ended : goal.returns-in-Replay-clause-ended
returns-in-Replay-clause-ended g c = λ drives. absurd (subst Drives c.in-Replay.is drives)

pub returns-in-Exercise-clause-ended : goal.returns-in-Exercise-clause-ended
returns-in-Exercise-clause-ended g c = λ drives. absurd (subst Drives c.in-Exercise.is drives)

pub returns-in-Node-clause-ended : goal.returns-in-Node-clause-ended
returns-in-Node-clause-ended g c = λ drives. absurd (subst Drives c.in-Node.is drives)

pub returns-in-Append-clause-ended : goal.returns-in-Append-clause-ended
returns-in-Append-clause-ended g c = λ is. c.appended.ensures.ended

pub returns-in-Tail-clause-ended : goal.returns-in-Tail-clause-ended
returns-in-Tail-clause-ended g c = λ is. c.tailed.ensures.ended

-- the commands that are left

pub operated-requires-clause-operates : goal.operated-requires-clause-operates
operated-requires-clause-operates g c = operates_so c.args.command c.in_default.not-Replay c.in_default.not-Exercise c.in_default.not-Node c.in_default.not-Crowd c.in_default.not-Append c.in_default.not-Tail c.in_default.not-Register c.in_default.not-Status

pub returns-in_default-clause-off : goal.returns-in_default-clause-off
returns-in_default-clause-off g c = λ no. absurd (operates_drives c.args.command (operates_so c.args.command c.in_default.not-Replay c.in_default.not-Exercise c.in_default.not-Node c.in_default.not-Crowd c.in_default.not-Append c.in_default.not-Tail c.in_default.not-Register c.in_default.not-Status) no)

pub returns-in_default-clause-ended : goal.returns-in_default-clause-ended
returns-in_default-clause-ended g c = λ no. absurd (operates_drives c.args.command (operates_so c.args.command c.in_default.not-Replay c.in_default.not-Exercise c.in_default.not-Node c.in_default.not-Crowd c.in_default.not-Append c.in_default.not-Tail c.in_default.not-Register c.in_default.not-Status) no)

pub returns-in_default-clause-driven : goal.returns-in_default-clause-driven
returns-in_default-clause-driven g c = λ no. absurd (operates_drives c.args.command (operates_so c.args.command c.in_default.not-Replay c.in_default.not-Exercise c.in_default.not-Node c.in_default.not-Crowd c.in_default.not-Append c.in_default.not-Tail c.in_default.not-Register c.in_default.not-Status) no)

pub returns-in_default-clause-shows : goal.returns-in_default-clause-shows
returns-in_default-clause-shows g c = λ no. absurd (operates_shows c.args.command (operates_so c.args.command c.in_default.not-Replay c.in_default.not-Exercise c.in_default.not-Node c.in_default.not-Crowd c.in_default.not-Append c.in_default.not-Tail c.in_default.not-Register c.in_default.not-Status) no)

pub returns-in_default-clause-untold : goal.returns-in_default-clause-untold
returns-in_default-clause-untold g c = λ no. absurd (operates_shows c.args.command (operates_so c.args.command c.in_default.not-Replay c.in_default.not-Exercise c.in_default.not-Node c.in_default.not-Crowd c.in_default.not-Append c.in_default.not-Tail c.in_default.not-Register c.in_default.not-Status) no)

pub returns-in_default-clause-outside : goal.returns-in_default-clause-outside
returns-in_default-clause-outside g c = λ no. absurd (operates_places c.args.command (operates_so c.args.command c.in_default.not-Replay c.in_default.not-Exercise c.in_default.not-Node c.in_default.not-Crowd c.in_default.not-Append c.in_default.not-Tail c.in_default.not-Register c.in_default.not-Status) no)
