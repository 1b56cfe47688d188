use Rattle.std.proofs.Common.{◌≡◌, ◌≢◌, ◌-◌, length, map, drop, min, refl, ap, ◌∙◌, arith}
use Rattle.std.proofs.lemmas.List.{take_at}
use Rattle.ld_table.specs.Words.{numbers_from}
use Rattle.ld_op.specs.Cells.{byte_at}
use Rattle.ld_store.specs.Open.{within}
use Rattle.ld_store.specs.declared.fault.StoreFault.TheVariants as stores
use Rattle.ld_store.proofs.Faults.{err_is, same_place}
use Rattle.ld_store.proofs.Filling.{payload_is, ends_early}
use Rattle.ld_segment.proofs.ReadSlots.{if_some}
use Rattle.ld_store.proofs.payloads.read_payload.Goals as goal

pub returns-then-count-len-clause-damaged : goal.returns-then-count-len-clause-damaged
returns-then-count-len-clause-damaged g c at is =
    let place = c.args.place in
    let lent : length c.deref_mut.result.now ≡ place.len = omega (arith, c.deref_mut.ensures.len, c.in_ok-bytes.ensures) in
    let short = c.if-count-len.true in (
      same_place at place.at (err_is _ (stores.Damaged at) (λ e. e ≡ stores.Damaged place.at) refl is),
      if_some (g.D.Disk.seen c.args.disk.now) _ (λ bytes. map (within (length bytes)) (numbers_from place.at place.len) ≢ numbers_from place.at place.len) c.in_ok-count.ensures.bytes
          (λ bytes read. ends_early place.at place.len c.in_ok-count.count bytes (omega (arith, short, c.len.ensures, c.in_ok-bytes.ensures)) (read.0 ∙ ap (min (length bytes - place.at)) lent)),
    )

pub returns-clause-payload : goal.returns-clause-payload
returns-clause-payload g c =
    let place = c.args.place in
    let buf = c.read.new.buf in
    let lent : length c.deref_mut.result.now ≡ place.len = omega (arith, c.deref_mut.ensures.len, c.in_ok-bytes.ensures) in
    let full : length buf ≡ place.len = c.in_ok-count.ensures.len ∙ lent in
    let same = take_at buf (drop (length buf) c.in_ok-bytes.bytes.items) c.in_ok-bytes.bytes.len (omega (arith, full, c.in_ok-bytes.ensures)) in
    if_some (g.D.Disk.seen c.args.disk.now) _ (λ bytes. c.new-2.result ≡ map (byte_at bytes) (numbers_from place.at place.len)) c.in_ok-count.ensures.bytes
    (λ bytes read. c.new-2.ensures.value ∙ (same ∙ payload_is place.at place.len c.in_ok-count.count buf bytes full (omega (arith, c.if-count-len.false, c.len.ensures, c.in_ok-bytes.ensures)) (read.0 ∙ ap (min (length bytes - place.at)) lent, read.1)))
