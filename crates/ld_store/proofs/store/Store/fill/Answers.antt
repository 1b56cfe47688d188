use Rattle.std.proofs.Common.{◌≡◌, refl, ap, Err, true, rules}
use Rattle.std.specs.Result.{IsErrOf}
use Rattle.ld_msg.specs.declared.msg.Msg.{Msg}
use Rattle.ld_store.specs.declared.fault.StoreFault.{StoreFault}
use Rattle.ld_store.specs.declared.fault.StoreFault.TheVariants as stores
use Rattle.ld_store.specs.Open.{told_plain, index_of}
use Rattle.ld_store.proofs.Ahead.{ahead_too, or_holds}
use Rattle.ld_store.proofs.store.Store.fill.Goals as goal

pub returns-in-Err-clause-ahead : goal.returns-in-Err-clause-ahead
returns-in-Err-clause-ahead g c p h =
    let D = g.D.Disk in
    let same = c.in-Err.ensures.same in
    let failed : c.eq-self.result ≡ true → IsErrOf {T = Msg} {E = StoreFault} (Err c.in-Err.fault) stores.Disk = search rules in
    or_holds c.eq-self.result failed
    (λ works. ahead_too D.seen D.may_leave c.args.self.now _ p same.bytes same.crash refl refl refl refl works (ap (λ t. told_plain t (index_of c.args.self.now)) same.bytes) h)
