-- Which bodies have payloads, and how a draft says those.
use Rattle.std.specs.Prelude.{Bool, true, false, not}
use Rattle.ld_msg.specs.declared.msg.Body.{Body}
use Rattle.ld_msg.specs.declared.msg.Body.TheVariants as bodies
use Rattle.ld_op.specs.declared.draft.Said.{Said}
use Rattle.ld_op.specs.declared.draft.Said.TheVariants.{Whole, Digest, Page}

-- a page, whose entries may have payloads
abbrev pub is_page : Body → Bool
is_page (bodies.DigestPage from upto trim lng es) = true
is_page (bodies.ReadPage round from upto clean es) = true
is_page _ = false

-- what is said whole has no payload: each one is told by its offset
abbrev pub is_placed : Said → Bool
is_placed (Whole body) = not (is_page body)
is_placed (Digest from upto trim lng entries) = true
is_placed (Page round from upto clean entries) = true
