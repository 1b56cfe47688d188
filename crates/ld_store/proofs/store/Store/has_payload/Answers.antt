use Rattle.std.proofs.Common.{◌≡◌, refl, map, ap, Bool, Err, true, ◌∙◌, rules}
use Rattle.std.specs.Result.{IsErrOf}
use Rattle.ld_table.specs.Named.{same}
use Rattle.ld_table.specs.Words.{numbers_from}
use Rattle.ld_op.specs.Cells.{byte_at}
use Rattle.ld_segment.proofs.ReadSlots.{if_some}
use Rattle.ld_store.specs.declared.fault.StoreFault.{StoreFault}
use Rattle.ld_store.specs.declared.fault.StoreFault.TheVariants as stores
use Rattle.ld_store.specs.Open.{told_plain, index_of}
use Rattle.ld_store.proofs.Ahead.{ahead_too, or_holds}
use Rattle.ld_store.proofs.store.Store.has_payload.Goals as goal

pub returns-in-Ok-clause-has : goal.returns-in-Ok-clause-has
unfolding same
returns-in-Ok-clause-has g c =
    let place = c.args.place in
    if_some (g.D.Disk.seen c.args.self.now.disk) _ (λ bytes. c.eq.result ≡ same (map (byte_at bytes) (numbers_from place.at place.len)) c.args.payload.now) c.in-Ok.ensures.payload
    (λ bytes read. c.eq.ensures ∙ ap (λ l. same l c.args.payload.now) read)

pub returns-in-Ok-clause-compared : goal.returns-in-Ok-clause-compared
unfolding same
returns-in-Ok-clause-compared g c = record { bytes = c.in-Ok.read; long = c.in-Ok.ensures.long; same = c.eq.ensures }

pub returns-in-Err-clause-ahead : goal.returns-in-Err-clause-ahead
returns-in-Err-clause-ahead g c p h =
    let D = g.D.Disk in
    let same = c.in-Err.ensures.same in
    let failed : c.eq-self.result ≡ true → IsErrOf {T = Bool} {E = StoreFault} (Err c.in-Err.fault) stores.Disk = search rules in
    or_holds c.eq-self.result failed
    (λ works. ahead_too D.seen D.may_leave c.args.self.now _ p same.bytes same.crash refl refl refl refl works (ap (λ t. told_plain t (index_of c.args.self.now)) same.bytes) h)
