use Rattle.std.proofs.Common.{◌≡◌, List, ℕ, [], take, None, sym, ap, arith}
use Rattle.std.proofs.lemmas.List.{append-nil}
use Rattle.ld_disk.specs.Record.{extent, state_of, pieces}
use Rattle.ld_disk.specs.declared.entry.Entry.TheVariants as entries
use Rattle.ld_disk.proofs.History.{extent-push}
use Rattle.ld_disk.proofs.Fronts.{synced_is}
use Rattle.ld_disk.proofs.Calls.{told_sync, elapses_to}
use Rattle.ld_disk.proofs.kept.Kept.sync.Goals as goal

pub invariant_of-self-clause-calls_within : goal.invariant_of-self-clause-calls_within
invariant_of-self-clause-calls_within c = omega (arith, extent-push c.args.self.now.calls.items (entries.Sync None), ap extent c.push_within.ensures.items, c.args.self.now.calls_within)

pub invariant_of-self-clause-told : goal.invariant_of-self-clause-told
invariant_of-self-clause-told c =
    let k = c.args.self.now in
    let stable_is : c.extend_within.new.bytes.items ≡ k.bytes.items = synced_is k.stable.items k.bytes.items c.deref.result.now c.truncate.new.self.items c.extend_within.new.bytes.items k.untouched k.untouched_is_safe c.truncate.ensures.items c.deref.ensures.value c.extend_within.ensures.items in
    told_sync k.arena.items k.calls.items c.push_within.new.items.items k.stable.items k.bytes.items k.pending.items k.told c.extend_within.new.bytes.items c.clear.new.self.items c.push_within.ensures.items stable_is c.clear.ensures.items

pub returns-clause-time : goal.returns-clause-time
returns-clause-time c =
    let k = c.args.self.now in
    let stable_is : c.extend_within.new.bytes.items ≡ k.bytes.items = synced_is k.stable.items k.bytes.items c.deref.result.now c.truncate.new.self.items c.extend_within.new.bytes.items k.untouched k.untouched_is_safe c.truncate.ensures.items c.deref.ensures.value c.extend_within.ensures.items in
    elapses_to k.arena.items [] k.arena.items k.calls.items c.push_within.new.items.items (entries.Sync None) (state_of c.extend_within.new.bytes.items (pieces k.arena.items c.clear.new.self.items) k.bytes.items) k.calls_within (sym (append-nil k.arena.items)) c.push_within.ensures.items (told_sync k.arena.items k.calls.items c.push_within.new.items.items k.stable.items k.bytes.items k.pending.items k.told c.extend_within.new.bytes.items c.clear.new.self.items c.push_within.ensures.items stable_is c.clear.ensures.items)

pub invariant_of-self-clause-untouched_is_safe : goal.invariant_of-self-clause-untouched_is_safe
invariant_of-self-clause-untouched_is_safe c =
    let k = c.args.self.now in
    let stable_is : c.extend_within.new.bytes.items ≡ k.bytes.items = synced_is k.stable.items k.bytes.items c.deref.result.now c.truncate.new.self.items c.extend_within.new.bytes.items k.untouched k.untouched_is_safe c.truncate.ensures.items c.deref.ensures.value c.extend_within.ensures.items in
    ap (λ (l : List ℕ). take c.len-self.result l) (sym stable_is)
