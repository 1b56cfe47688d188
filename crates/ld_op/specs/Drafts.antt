-- How what a draft says is seen: as what a message says, with the places of payloads in place of their bytes.
use Rattle.ld_msg.specs.declared.msg.Body.{Body}
use Rattle.ld_msg.specs.declared.msg.Body.TheVariants as bodies
use Rattle.ld_op.specs.declared.draft.Said.{Said}
use Rattle.ld_op.specs.declared.draft.Said.TheVariants.{Whole, Digest, Page}
use Rattle.ld_op.specs.declared.draft.DraftBody.TheInside.{Inside}

abbrev pub seen_said : Said → Body
seen_said (Whole body) = body
seen_said (Digest from upto trim lng entries) = bodies.DigestPage from upto trim lng entries
seen_said (Page round from upto clean entries) = bodies.ReadPage round from upto clean entries

abbrev pub seen_body : Inside → Body
seen_body a = seen_said a.said
