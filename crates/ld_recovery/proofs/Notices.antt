-- What all nodes are told behind messages is messages.
use Rattle.std.proofs.Common.{◌≡◌, ℕ, Bool, List, ◌++◌}
use Rattle.ld_ids.specs.Id.{IsNode, IsLog}
use Rattle.ld_ids.specs.Set.{IsSet, members}
use Rattle.ld_msg.specs.declared.msg.Msg.{Msg}
use Rattle.ld_msg.specs.declared.msg.Who.TheVariants as whos
use Rattle.ld_msg.specs.Bounds.{Is64, IsEpoch, Fits}
use Rattle.ld_msg.specs.Sequencer.{to_each}
use Rattle.ld_node_bounds.specs.Messages.{AreMessages}
use Rattle.ld_node_bounds.proofs.Members.{members_nodes}
use Rattle.ld_node_bounds.proofs.Posts.{each_post}
use Rattle.ld_sequencer_bounds.proofs.Posts.{sent_behind, unsent_behind}
use Rattle.ld_recovery.specs.declared.send.Sender.{Sender}
use Rattle.ld_recovery.specs.declared.send.Notice.{Notice}
use Rattle.ld_recovery.specs.declared.send.Notice.TheVariants as notices
use Rattle.ld_recovery.specs.Sending.{sent, told, number_told, IsNotice}

told_fits : (own y : ℕ) (n : Notice) → IsNotice n → Is64 (number_told n) → IsEpoch own → IsNode y → Fits (whos.Sequencer own) (whos.Node y) (told n)
told_fits own y (notices.Clean epoch summary) k b e h = ((e, h), k.0, k.1)
told_fits own y (notices.Release released) k b e h = ((e, h), b)
told_fits own y (notices.Trim trim) k b e h = ((e, h), b)

pub told_messages : (s : Sender) (n : Notice) (flags : List Bool) (old new : List Msg) → new ≡ old ++ sent s (to_each (told n) (members flags)) → Is64 (number_told n) → IsLog s.log → IsSet flags → IsNotice n → IsEpoch s.epoch → AreMessages old → AreMessages new
told_messages s n flags old new t b l f k e a =
    sent_behind s.epoch s.log (to_each (told n) (members flags)) old new l (each_post (whos.Sequencer s.epoch) (told n) (members flags) (λ y h. told_fits s.epoch y n k b e h) (members_nodes flags f)) t a

pub ruleset notice_rules = (told_messages, unsent_behind)
