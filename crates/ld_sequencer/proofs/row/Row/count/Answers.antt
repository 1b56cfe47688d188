use Rattle.std.proofs.Common.{◌≡◌, ℕ, ◌<◌, ◌≤◌, ◌+◌, ◌-◌, ◌&&◌, not, length, drop, ap, sym, subst, ◌∙◌, arith}
use Rattle.ld_table.specs.Table.{find}
use Rattle.ld_lsn.specs.Number.{numbered}
use Rattle.ld_sequencer.specs.Appends.{IsInStep, shown, stores, acks}
use Rattle.ld_sequencer.proofs.Rows.{seen}
use Rattle.ld_sequencer.proofs.Marks.{waits}
use Rattle.ld_sequencer.proofs.Counted.{counted_keeps, counted_within, counted_row, counted_acks}
use Rattle.ld_sequencer.proofs.row.Row.count.Goals as goal
use Rattle.ld_sequencer.proofs.row.Row.count.Goals.{then-is, else-is}

pub store_at-was-requires : goal.store_at-was-requires
store_at-was-requires c =
    let i = c.self.inside in
    let n = seen i.spec i.epoch i.window i.waiting.items c.args.self.now c.self.view_is in
    let q = c.requires in
    omega arith

pub overflow_cast-place : goal.overflow_cast-place
overflow_cast-place c =
    let i = c.self.inside in
    let n = seen i.spec i.epoch i.window i.waiting.items c.args.self.now c.self.view_is in
    let a = waits i.spec.r i.window i.waiting.items c.self.invariant in
    let b = c.self.invariant.bound in
    let q = c.requires in
    omega arith

pub mark-requires-clause-place : goal.mark-requires-clause-place
mark-requires-clause-place c =
    let i = c.self.inside in
    let n = seen i.spec i.epoch i.window i.waiting.items c.args.self.now c.self.view_is in
    let a = waits i.spec.r i.window i.waiting.items c.self.invariant in
    let e = c.lng-lng.ensures.value in
    let q = c.requires in
    omega arith

pub drop_first-requires : goal.drop_first-requires
drop_first-requires c =
    let i = c.self.inside in
    let n = seen i.spec i.epoch i.window i.waiting.items c.args.self.now c.self.view_is in
    let q = c.requires in
    let w = counted_within i.spec i.window c.mark.new.window i.waiting.items c.store_at-was.new.waiting.items c.args.place c.args.node c.lng-lng.result c.store_at-was.result.0 c.store_at-was.result.1
    c.self.invariant (omega arith) c.store_at-was.ensures c.lng-lng.ensures.value c.mark.ensures in
    subst (λ k. k - c.lng-lng.result ≤ length c.store_at-was.new.waiting.items) (sym c.lng.ensures.value) w

pub invariant_of-self : goal.invariant_of-self
invariant_of-self c =
    let i = c.self.inside in
    let n = seen i.spec i.epoch i.window i.waiting.items c.args.self.now c.self.view_is in
    let q = c.requires in
    let k = counted_keeps i.spec i.window c.mark.new.window i.waiting.items c.store_at-was.new.waiting.items c.args.place c.args.node c.lng-lng.result c.store_at-was.result.0 c.store_at-was.result.1
    c.self.invariant (omega arith) c.store_at-was.ensures c.lng-lng.ensures.value c.mark.ensures in
    subst (IsInStep i.spec.r c.mark.new.window) (sym c.drop_first.ensures)
    (subst (λ k. IsInStep i.spec.r c.mark.new.window (drop (k - c.lng-lng.result) c.store_at-was.new.waiting.items)) (sym c.lng.ensures.value) k)

pub returns-clause-row : goal.returns-clause-row
returns-clause-row c =
    let i = c.self.inside in
    let n = seen i.spec i.epoch i.window i.waiting.items c.args.self.now c.self.view_is in
    let q = c.requires in
    let l : c.args.place < length i.waiting.items = omega arith in
    subst (λ r. (number : ℕ) → number ≡ numbered r.epoch (r.lng + 1) + c.args.place → shown i.spec i.epoch c.mark.new.window c.drop_first.new.waiting.items ≡ stores r c.args.node number (find number r.appends)) c.self.view_is
    (λ number e. ap (shown i.spec i.epoch c.mark.new.window) c.drop_first.ensures
    ∙ (ap (λ k. shown i.spec i.epoch c.mark.new.window (drop (k - c.lng-lng.result) c.store_at-was.new.waiting.items)) c.lng.ensures.value
    ∙ counted_row i.spec i.window c.mark.new.window i.waiting.items c.store_at-was.new.waiting.items c.args.place c.args.node c.lng-lng.result c.store_at-was.result.0 c.store_at-was.result.1
    c.self.invariant l c.store_at-was.ensures c.lng-lng.ensures.value c.mark.ensures i.epoch number e))

pub returns-clause-acked : goal.returns-clause-acked
returns-clause-acked c =
    let i = c.self.inside in
    let n = seen i.spec i.epoch i.window i.waiting.items c.args.self.now c.self.view_is in
    let q = c.requires in
    let l : c.args.place < length i.waiting.items = omega arith in
    let both : c.if-is.result ≡ (c.store_at-was.result.1 && not c.store_at-was.result.0) = elim c.if-is.branch [
      | then-is w ↦ w.result-is ∙ sym (ap (λ b. b && not c.store_at-was.result.0) w.if-is.true)
      | else-is w ↦ w.result-is ∙ (w.if-is.false ∙ sym (ap (λ b. b && not c.store_at-was.result.0) w.if-is.false))
    ] in
    subst (λ r. (number : ℕ) → number ≡ numbered r.epoch (r.lng + 1) + c.args.place → c.if-is.result ≡ acks r.spec c.args.node (find number r.appends)) c.self.view_is
    (λ number e. both ∙ counted_acks i.spec i.window c.mark.new.window i.waiting.items c.store_at-was.new.waiting.items c.args.place c.args.node c.lng-lng.result c.store_at-was.result.0 c.store_at-was.result.1
    c.self.invariant l c.store_at-was.ensures c.lng-lng.ensures.value c.mark.ensures i.epoch number e)
