use Rattle.std.proofs.Common.{◌≡◌, ◌≤◌, ℕ, List, length, take, [], Some, sym, ◌∙◌, ap, arith}
use Rattle.std.proofs.lemmas.List.{append-nil}
use Rattle.ld_disk.specs.Record.{extent, state_of, pieces, painted}
use Rattle.ld_disk.specs.declared.entry.Entry.TheVariants as entries
use Rattle.ld_disk.specs.declared.disk.Picture.{Picture}
use Rattle.ld_disk.specs.declared.kept.Kept.{Kept}
use Rattle.ld_disk.proofs.Fronts.{painted_front}
use Rattle.ld_disk.proofs.History.{extent-push}
use Rattle.ld_disk.proofs.Calls.{told_crash, elapses_to}
use Rattle.ld_disk.proofs.kept.Kept.crash.Goals as goal

pub invariant_of-self-clause-calls_within : goal.invariant_of-self-clause-calls_within
invariant_of-self-clause-calls_within c = omega (arith, extent-push c.args.self.now.calls.items (entries.Sync (Some c.args.picture)), ap extent c.push_within.ensures.items, c.args.self.now.calls_within)

pub invariant_of-self-clause-told : goal.invariant_of-self-clause-told
invariant_of-self-clause-told c =
    let k = c.args.self.now in let a = c.deref in let b = c.deref-2 in let d = c.deref-3 in
    let bytes_is : c.paint.new.bytes.items ≡ painted c.args.picture k.stable.items (pieces k.arena.items k.pending.items) = c.paint.ensures.bytes ∙ (λ i. painted c.args.picture (a.ensures.value i) (pieces (b.ensures.value i) (d.ensures.value i))) in
    told_crash k.arena.items k.calls.items c.push_within.new.items.items k.stable.items k.bytes.items k.pending.items k.told c.args.picture c.paint.new.bytes.items c.push_within.ensures.items bytes_is

pub returns-clause-time : goal.returns-clause-time
returns-clause-time c =
    let k = c.args.self.now in let a = c.deref in let b = c.deref-2 in let d = c.deref-3 in
    let bytes_is : c.paint.new.bytes.items ≡ painted c.args.picture k.stable.items (pieces k.arena.items k.pending.items) = c.paint.ensures.bytes ∙ (λ i. painted c.args.picture (a.ensures.value i) (pieces (b.ensures.value i) (d.ensures.value i))) in
    elapses_to k.arena.items [] k.arena.items k.calls.items c.push_within.new.items.items (entries.Sync (Some c.args.picture)) (state_of k.stable.items (pieces k.arena.items k.pending.items) c.paint.new.bytes.items) k.calls_within (sym (append-nil k.arena.items)) c.push_within.ensures.items (told_crash k.arena.items k.calls.items c.push_within.new.items.items k.stable.items k.bytes.items k.pending.items k.told c.args.picture c.paint.new.bytes.items c.push_within.ensures.items bytes_is)

bytes_front : (k : Kept) (picture : Picture) (bytes : List ℕ) → bytes ≡ painted picture k.stable.items (pieces k.arena.items k.pending.items) → (take k.untouched bytes ≡ take k.untouched k.stable.items) × (k.untouched ≤ length bytes)
bytes_front k picture bytes is =
    let front = painted_front picture k.arena.items k.untouched k.stable.items k.pending.items k.untouched_fits.1 k.writes_behind in
    (ap (λ (l : List ℕ). take k.untouched l) is ∙ front.0, omega (arith, front.1, ap length is))

pub invariant_of-self-clause-untouched_fits : goal.invariant_of-self-clause-untouched_fits
invariant_of-self-clause-untouched_fits c =
    let k = c.args.self.now in let a = c.deref in let b = c.deref-2 in let d = c.deref-3 in
    let bytes_is : c.paint.new.bytes.items ≡ painted c.args.picture k.stable.items (pieces k.arena.items k.pending.items) = c.paint.ensures.bytes ∙ (λ i. painted c.args.picture (a.ensures.value i) (pieces (b.ensures.value i) (d.ensures.value i))) in
    ((bytes_front k c.args.picture c.paint.new.bytes.items bytes_is).1, k.untouched_fits.1)

pub invariant_of-self-clause-untouched_is_safe : goal.invariant_of-self-clause-untouched_is_safe
invariant_of-self-clause-untouched_is_safe c =
    let k = c.args.self.now in let a = c.deref in let b = c.deref-2 in let d = c.deref-3 in
    let bytes_is : c.paint.new.bytes.items ≡ painted c.args.picture k.stable.items (pieces k.arena.items k.pending.items) = c.paint.ensures.bytes ∙ (λ i. painted c.args.picture (a.ensures.value i) (pieces (b.ensures.value i) (d.ensures.value i))) in
    (bytes_front k c.args.picture c.paint.new.bytes.items bytes_is).0
