use Rattle.std.proofs.Common.{◌∙◌, sym}
use Rattle.ld_msg.specs.Register.{record_length}
use Rattle.ld_layout.specs.Layout.{new_segment}
use Rattle.ld_layout.specs.LaidOut.{laid_out}
use Rattle.ld_layout.proofs.Segments.{none_is, passes_then, passes_else}
use Rattle.ld_layout.proofs.segment.Layout.passes_limit.Goals as goal

pub returns-then-switches : goal.returns-then-switches
returns-then-switches c o e = c.is_missing.ensures ∙ (none_is c.in_ok-next.next c.args.index.now.state (new_segment (laid_out c.args.self.now c.args.index.now.state) (record_length c.args.body) (record_length c.args.body)) c.in_ok-next.ensures.some c.in_ok-next.ensures.within c.in_ok-next.ensures.past
    ∙ sym (passes_then (laid_out c.args.self.now c.args.index.now.state) o c.args.body e (sym (c.switches.ensures c.args.index.now.state) ∙ c.if-switches.true)))

pub returns : goal.returns
returns c o e = c.passes_here.ensures ∙ sym (passes_else c.args.self.now c.args.index.now.state o c.args.body e (sym (c.switches.ensures c.args.index.now.state) ∙ c.if-switches.false))
