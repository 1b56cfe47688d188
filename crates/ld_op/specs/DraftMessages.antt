-- How drafts are seen: as messages whose payloads are the offsets of their bytes.
use Rattle.ld_msg.specs.declared.msg.Msg.{Msg}
use Rattle.ld_op.specs.declared.draft_message.Draft.TheInside.{Inside}

abbrev pub seen_draft : Inside → Msg
seen_draft a = record { from = a.from; to = a.to; log = a.log; body = a.body }
