use Rattle.std.proofs.Common.{◌≡◌, ap, ◌∙◌}
use Rattle.ld_link.proofs.Rests.{all_split, fits_behind, comes_next}
use Rattle.ld_link.proofs.memory.MemLinkLink.next_peer.Goals as goal

pub invariant_of-self-in-Some : goal.invariant_of-self-in-Some
invariant_of-self-in-Some c =
    let rooms = all_split (λ caller. caller.room ≡ c.self.inside.room) _ _ _ c.in-Some.ensures c.self.invariant.2 in (
      fits_behind _ _ _ _ _ _ _ _ _ c.self.invariant.0 c.put_behind.ensures.capacity c.take.ensures.value c.put_behind.ensures.items c.in-Some.ensures,
      ap (λ line. line.room) c.begin.ensures ∙ rooms.0,
      rooms.1,
    )

pub returns-in-Some-clause-peer : goal.returns-in-Some-clause-peer
returns-in-Some-clause-peer c =
    comes_next _ _ _ _ _ _ _ c.begin.result _ c.in-Some.ensures c.take.ensures.value c.put_behind.ensures.talks (ap (λ line. line.talk) c.begin.ensures)
    (ap (λ s. s.peers) (c.self.view_is ∙ c.is_next_to_fail.ensures.counted))
