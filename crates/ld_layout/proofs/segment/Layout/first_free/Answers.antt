use Rattle.std.proofs.Common.{◌≡◌, ℕ, Bool, ◌<◌, ◌+◌, ◌∙◌, ◌^◌, ap, sym, refl, inl, subst}
use Rattle.ld_msg.specs.Register.{journal_limit}
use Rattle.ld_layout.specs.Areas.{least_place}
use Rattle.ld_layout.specs.Layout.{base_length, new_segment, least_for, room_for}
use Rattle.ld_layout.specs.LaidOut.{laid_out}
use Rattle.ld_layout.proofs.Segments.{segment_is, count_is, is_past_by, not_past}
use Rattle.ld_layout.proofs.segment.Layout.first_free.Goals as goal
use Rattle.ld_layout.specs.declared.segment.Growth.{Growth}

least_is : (found : ℕ) (grows : Growth) (base size : ℕ) → found ≡ least_for grows base → base ≡ size → found ≡ least_for grows size
least_is found grows base size is same = is ∙ ap (least_for grows) same

pub returns-in-Some-clause-some : goal.returns-in-Some-clause-some
returns-in-Some-clause-some c = segment_is _ _ _ _ _ _ _ _
    (c.in-Some.ensures.place ∙ (λ i. least_place (c.requires.base i + 6 + room_for (least_is c.least_room.result c.args.self.now.grows c.args.base _ c.least_room.ensures.value c.requires.base i) c.args.cause) 0 (c.requires.live i)))
    (count_is c.args.index.now.state _ c.entry_count-based.result c.entry_count-based.ensures (subst (λ n. n < 2 ^ 32) c.requires.base c.requires.long))
    refl
    (ap (λ n. c.in-Some.found.0 + 5 + n) c.requires.base)
    (c.in-Some.ensures.limit ∙ (λ i. c.in-Some.found.0 + 6 + c.requires.base i + room_for (least_is c.least_room.result c.args.self.now.grows c.args.base _ c.least_room.ensures.value c.requires.base i) c.args.cause))
    c.requires.areas c.requires.number refl

pub returns-in-Some-clause-within : goal.returns-in-Some-clause-within
returns-in-Some-clause-within c = not_past c.args.index.now.state (record { place = c.in-Some.found.0; based = c.entry_count-based.result; ops = 0; end = c.in-Some.found.0 + 5 + c.args.base; limit = c.in-Some.found.1; areas = c.args.areas; number = c.args.number; grows = c.args.self.now.grows }) c.in-Some.ensures.within (subst (λ n. n < 2 ^ 32) (c.requires.base ∙ sym (ap (base_length c.args.index.now.state) c.requires.areas)) c.requires.long) c.ranges.number.fits

pub returns-in-None-clause-past : goal.returns-in-None-clause-past
returns-in-None-clause-past c = is_past_by c.args.index.now.state (new_segment (laid_out c.args.self.now c.args.index.now.state) c.args.cause c.args.cause)
    (inl (subst (λ n. journal_limit < n) (λ i. least_place (c.requires.base i + 6 + room_for (least_is c.least_room.result c.args.self.now.grows c.args.base _ c.least_room.ensures.value c.requires.base i) c.args.cause) 0 (c.requires.live i) + 6 + c.requires.base i + room_for (least_is c.least_room.result c.args.self.now.grows c.args.base _ c.least_room.ensures.value c.requires.base i) c.args.cause) c.in-None.ensures.past))
