use Rattle.ld_register.proofs.Few.{few_same}
use Rattle.ld_register.proofs.contents.Contents.room.Goals as goal

pub invariant_of-self : goal.invariant_of-self
invariant_of-self c = few_same c.self.inside.logs.entries c.room_for_log.new.logs.entries c.room_for_log.ensures.same c.room_for_log.ensures.logs c.self.invariant

pub invariant_of-self-in-Activate : goal.invariant_of-self-in-Activate
invariant_of-self-in-Activate c = few_same c.room_for_log.new.logs.entries c.room_for_spec.new.logs.entries c.room_for_spec.ensures.same c.room_for_spec.ensures.logs (few_same c.self.inside.logs.entries c.room_for_log.new.logs.entries c.room_for_log.ensures.same c.room_for_log.ensures.logs c.self.invariant)

pub invariant_of-self-in-Swap : goal.invariant_of-self-in-Swap
invariant_of-self-in-Swap c = few_same c.self.inside.logs.entries c.room_for_log-in-Swap.new.logs.entries c.room_for_log-in-Swap.ensures.same c.room_for_log-in-Swap.ensures.logs c.self.invariant

pub invariant_of-self-in-Unfixed : goal.invariant_of-self-in-Unfixed
invariant_of-self-in-Unfixed c = few_same c.self.inside.logs.entries c.room_for_log-in-Unfixed.new.logs.entries c.room_for_log-in-Unfixed.ensures.same c.room_for_log-in-Unfixed.ensures.logs c.self.invariant

pub invariant_of-self-in_err-room_for_log-in-Close : goal.invariant_of-self-in_err-room_for_log-in-Close
invariant_of-self-in_err-room_for_log-in-Close c = few_same c.self.inside.logs.entries c.room_for_log-in-Close.new.logs.entries c.room_for_log-in-Close.ensures.same c.room_for_log-in-Close.ensures.logs c.self.invariant

pub invariant_of-self-in-Close : goal.invariant_of-self-in-Close
invariant_of-self-in-Close c = few_same c.room_for_log-in-Close.new.logs.entries c.room_for_summary.new.logs.entries c.room_for_summary.ensures.same c.room_for_summary.ensures.logs (few_same c.self.inside.logs.entries c.room_for_log-in-Close.new.logs.entries c.room_for_log-in-Close.ensures.same c.room_for_log-in-Close.ensures.logs c.self.invariant)

pub invariant_of-self-in_err-room_for_log-in-Lossless : goal.invariant_of-self-in_err-room_for_log-in-Lossless
invariant_of-self-in_err-room_for_log-in-Lossless c = few_same c.self.inside.logs.entries c.room_for_log-in-Lossless.new.logs.entries c.room_for_log-in-Lossless.ensures.same c.room_for_log-in-Lossless.ensures.logs c.self.invariant

pub invariant_of-self-in-Lossless : goal.invariant_of-self-in-Lossless
invariant_of-self-in-Lossless c = few_same c.room_for_log-in-Lossless.new.logs.entries c.room_for_summary-in-Lossless.new.logs.entries c.room_for_summary-in-Lossless.ensures.same c.room_for_summary-in-Lossless.ensures.logs (few_same c.self.inside.logs.entries c.room_for_log-in-Lossless.new.logs.entries c.room_for_log-in-Lossless.ensures.same c.room_for_log-in-Lossless.ensures.logs c.self.invariant)
