use Rattle.ld_crowd.proofs.Talks.{talk_more, talk_stays, after_append}
use Rattle.std.proofs.Common.{◌∷◌, []}
use Rattle.ld_crowd.proofs.laws.one_frame_more.Goals as goal

pub returns-clause-its : goal.returns-clause-its
returns-clause-its g c after answers frame k m s ts got sent rest talk = talk_more after answers frame k m s ts got sent rest talk

pub returns-clause-others : goal.returns-clause-others
returns-clause-others g c after answers frame k h m s ts got sent held other talk = talk_stays after answers frame k h m s ts got sent held other talk

pub returns-clause-state : goal.returns-clause-state
returns-clause-state g c after h m s ts = after_append after s ts ((h, m) ∷ [])
