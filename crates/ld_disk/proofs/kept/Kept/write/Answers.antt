use Rattle.std.proofs.Common.{◌≡◌, ◌≤◌, refl, ◌∙◌, ap, arith, length, length-append}
use Rattle.ld_disk.specs.Record.{extent, nearest, needed, farthest, state_of, pieces, read_after}
use Rattle.ld_disk.specs.declared.entry.Piece.{Piece}
use Rattle.ld_disk.specs.declared.entry.Entry.TheVariants as entries
use Rattle.ld_disk.proofs.History.{extent-push, needed-push, farthest-push}
use Rattle.ld_disk.proofs.Fronts.{behind_push, written_front}
use Rattle.ld_disk.proofs.Calls.{told_write, elapses_to, spend}
use Rattle.ld_disk.proofs.kept.Kept.write.Goals as goal

pub tear-requires-clause-fit : goal.tear-requires-clause-fit
tear-requires-clause-fit c =
    let k = c.args.self.now in
    let p : Piece = record { at = c.args.at; from = c.len.result; len = length c.args.bytes.now } in (
      omega (arith, c.len.ensures, ap needed c.deref-3.ensures.value, ap needed c.push_within.ensures.items, needed-push k.pending.items p, k.pieces_fit.0, ap length c.deref-2.ensures.value, ap length c.extend_within.ensures.items, length-append k.arena.items c.args.bytes.now),
      omega (arith, ap farthest c.deref-3.ensures.value, ap farthest c.push_within.ensures.items, farthest-push k.pending.items p, k.pieces_fit.1, c.requires.place),
    )

pub invariant_of-self-clause-told : goal.invariant_of-self-clause-told
invariant_of-self-clause-told c =
    let k = c.args.self.now in
    let p : Piece = record { at = c.args.at; from = c.len.result; len = length c.args.bytes.now } in
    let from_is : c.len.result ≡ length k.arena.items = omega (arith, c.len.ensures) in
    let arena = c.extend_within.new.bytes.items in
    let pending = c.push_within.new.items.items in
    let bytes_is : c.tear.new.bytes.items ≡ read_after c.args.crash k.stable.items (pieces arena pending) c.put.new.bytes.items =
    c.tear.ensures.bytes ∙ (λ i. read_after c.args.crash (c.deref.ensures.value i) (pieces (c.deref-2.ensures.value i) (c.deref-3.ensures.value i)) c.put.new.bytes.items) in
    let told = told_write k.arena.items k.calls.items c.push_within-2.new.items.items k.stable.items k.bytes.items k.pending.items k.told c.args.bytes.now arena c.args.at p pending c.extend_within.ensures.items c.push_within.ensures.items refl from_is refl k.pieces_fit.0 k.calls_within c.args.crash c.put.new.bytes.items c.tear.new.bytes.items c.push_within-2.ensures.items c.put.ensures.bytes bytes_is in
    told.0

pub invariant_of-self-clause-calls_within : goal.invariant_of-self-clause-calls_within
invariant_of-self-clause-calls_within c =
    let k = c.args.self.now in
    let p : Piece = record { at = c.args.at; from = c.len.result; len = length c.args.bytes.now } in
    omega (arith, c.len.ensures, extent-push k.calls.items (entries.Write p c.args.crash), ap extent c.push_within-2.ensures.items, k.calls_within, ap length c.extend_within.ensures.items, length-append k.arena.items c.args.bytes.now)

pub invariant_of-self-clause-pieces_fit : goal.invariant_of-self-clause-pieces_fit
invariant_of-self-clause-pieces_fit c =
    let k = c.args.self.now in
    let p : Piece = record { at = c.args.at; from = c.len.result; len = length c.args.bytes.now } in (
      omega (arith, c.len.ensures, ap needed c.push_within.ensures.items, needed-push k.pending.items p, k.pieces_fit.0, ap length c.extend_within.ensures.items, length-append k.arena.items c.args.bytes.now),
      omega (arith, ap farthest c.push_within.ensures.items, farthest-push k.pending.items p, k.pieces_fit.1, c.requires.place),
    )

pub invariant_of-self-clause-arena_fits : goal.invariant_of-self-clause-arena_fits
invariant_of-self-clause-arena_fits c =
    let k = c.args.self.now in
    omega (arith, spend k.room k.reach c.requires.room, k.arena_fits, c.extend_within.ensures.capacity, ap length c.extend_within.ensures.items, length-append k.arena.items c.args.bytes.now, c.requires.place)

pub returns-clause-state : goal.returns-clause-state
returns-clause-state c =
    let k = c.args.self.now in
    let p : Piece = record { at = c.args.at; from = c.len.result; len = length c.args.bytes.now } in
    let from_is : c.len.result ≡ length k.arena.items = omega (arith, c.len.ensures) in
    let arena = c.extend_within.new.bytes.items in
    let pending = c.push_within.new.items.items in
    let bytes_is : c.tear.new.bytes.items ≡ read_after c.args.crash k.stable.items (pieces arena pending) c.put.new.bytes.items =
    c.tear.ensures.bytes ∙ (λ i. read_after c.args.crash (c.deref.ensures.value i) (pieces (c.deref-2.ensures.value i) (c.deref-3.ensures.value i)) c.put.new.bytes.items) in
    let told = told_write k.arena.items k.calls.items c.push_within-2.new.items.items k.stable.items k.bytes.items k.pending.items k.told c.args.bytes.now arena c.args.at p pending c.extend_within.ensures.items c.push_within.ensures.items refl from_is refl k.pieces_fit.0 k.calls_within c.args.crash c.put.new.bytes.items c.tear.new.bytes.items c.push_within-2.ensures.items c.put.ensures.bytes bytes_is in
    told.1

pub returns-clause-time : goal.returns-clause-time
returns-clause-time c =
    let k = c.args.self.now in
    let p : Piece = record { at = c.args.at; from = c.len.result; len = length c.args.bytes.now } in
    let from_is : c.len.result ≡ length k.arena.items = omega (arith, c.len.ensures) in
    let arena = c.extend_within.new.bytes.items in
    let pending = c.push_within.new.items.items in
    let bytes_is : c.tear.new.bytes.items ≡ read_after c.args.crash k.stable.items (pieces arena pending) c.put.new.bytes.items =
    c.tear.ensures.bytes ∙ (λ i. read_after c.args.crash (c.deref.ensures.value i) (pieces (c.deref-2.ensures.value i) (c.deref-3.ensures.value i)) c.put.new.bytes.items) in
    let told = told_write k.arena.items k.calls.items c.push_within-2.new.items.items k.stable.items k.bytes.items k.pending.items k.told c.args.bytes.now arena c.args.at p pending c.extend_within.ensures.items c.push_within.ensures.items refl from_is refl k.pieces_fit.0 k.calls_within c.args.crash c.put.new.bytes.items c.tear.new.bytes.items c.push_within-2.ensures.items c.put.ensures.bytes bytes_is in
    elapses_to k.arena.items c.args.bytes.now arena k.calls.items c.push_within-2.new.items.items (entries.Write p c.args.crash) (state_of k.stable.items (pieces arena pending) c.tear.new.bytes.items) k.calls_within c.extend_within.ensures.items c.push_within-2.ensures.items told.0

pub invariant_of-self-clause-untouched_fits : goal.invariant_of-self-clause-untouched_fits
invariant_of-self-clause-untouched_fits c =
    let k = c.args.self.now in
    let p : Piece = record { at = c.args.at; from = c.len.result; len = length c.args.bytes.now } in
    let arena = c.extend_within.new.bytes.items in
    let pending = c.push_within.new.items.items in
    let bytes_is : c.tear.new.bytes.items ≡ read_after c.args.crash k.stable.items (pieces arena pending) c.put.new.bytes.items =
    c.tear.ensures.bytes ∙ (λ i. read_after c.args.crash (c.deref.ensures.value i) (pieces (c.deref-2.ensures.value i) (c.deref-3.ensures.value i)) c.put.new.bytes.items) in
    let front = c.min-self.result in
    let behind : front ≤ nearest front pending = omega (arith, ap (nearest front) c.push_within.ensures.items, behind_push front k.untouched k.pending.items p (omega (arith, c.min-self.ensures)) (omega (arith, c.min-self.ensures)) k.writes_behind) in
    let both = written_front c.args.crash arena k.stable.items k.bytes.items c.put.new.bytes.items c.args.bytes.now c.tear.new.bytes.items c.args.at front k.untouched pending k.untouched_is_safe k.untouched_fits.0 k.untouched_fits.1 (omega (arith, c.min-self.ensures)) behind c.put.ensures.bytes bytes_is in
    (both.1, omega (arith, c.min-self.ensures, k.untouched_fits.1))

pub invariant_of-self-clause-untouched_is_safe : goal.invariant_of-self-clause-untouched_is_safe
invariant_of-self-clause-untouched_is_safe c =
    let k = c.args.self.now in
    let p : Piece = record { at = c.args.at; from = c.len.result; len = length c.args.bytes.now } in
    let arena = c.extend_within.new.bytes.items in
    let pending = c.push_within.new.items.items in
    let bytes_is : c.tear.new.bytes.items ≡ read_after c.args.crash k.stable.items (pieces arena pending) c.put.new.bytes.items =
    c.tear.ensures.bytes ∙ (λ i. read_after c.args.crash (c.deref.ensures.value i) (pieces (c.deref-2.ensures.value i) (c.deref-3.ensures.value i)) c.put.new.bytes.items) in
    let front = c.min-self.result in
    let behind : front ≤ nearest front pending = omega (arith, ap (nearest front) c.push_within.ensures.items, behind_push front k.untouched k.pending.items p (omega (arith, c.min-self.ensures)) (omega (arith, c.min-self.ensures)) k.writes_behind) in
    let both = written_front c.args.crash arena k.stable.items k.bytes.items c.put.new.bytes.items c.args.bytes.now c.tear.new.bytes.items c.args.at front k.untouched pending k.untouched_is_safe k.untouched_fits.0 k.untouched_fits.1 (omega (arith, c.min-self.ensures)) behind c.put.ensures.bytes bytes_is in
    both.0

pub invariant_of-self-clause-writes_behind : goal.invariant_of-self-clause-writes_behind
invariant_of-self-clause-writes_behind c =
    let k = c.args.self.now in
    let p : Piece = record { at = c.args.at; from = c.len.result; len = length c.args.bytes.now } in
    let arena = c.extend_within.new.bytes.items in
    let pending = c.push_within.new.items.items in
    let bytes_is : c.tear.new.bytes.items ≡ read_after c.args.crash k.stable.items (pieces arena pending) c.put.new.bytes.items =
    c.tear.ensures.bytes ∙ (λ i. read_after c.args.crash (c.deref.ensures.value i) (pieces (c.deref-2.ensures.value i) (c.deref-3.ensures.value i)) c.put.new.bytes.items) in
    let front = c.min-self.result in
    let behind : front ≤ nearest front pending = omega (arith, ap (nearest front) c.push_within.ensures.items, behind_push front k.untouched k.pending.items p (omega (arith, c.min-self.ensures)) (omega (arith, c.min-self.ensures)) k.writes_behind) in
    let both = written_front c.args.crash arena k.stable.items k.bytes.items c.put.new.bytes.items c.args.bytes.now c.tear.new.bytes.items c.args.at front k.untouched pending k.untouched_is_safe k.untouched_fits.0 k.untouched_fits.1 (omega (arith, c.min-self.ensures)) behind c.put.ensures.bytes bytes_is in
    behind
