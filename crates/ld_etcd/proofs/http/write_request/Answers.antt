use Rattle.std.proofs.Common.{◌≡◌, subst}
use Rattle.ld_etcd.specs.Request.{posted}
use Rattle.ld_etcd.proofs.Posting.{posts}
use Rattle.ld_etcd.proofs.http.write_request.Goals as goal

pub returns : goal.returns
returns c = subst (λ h. c.write_end.new.output.items ≡ posted c.args.client.now h c.args.path.now c.args.body.now) c.as_bytes.ensures.value
    (posts c.args.client.now c.write_request.new.self c.write_data.new.self c.as_bytes.result.now c.args.path.now c.args.body.now c.new-out.result.items c.write_request.new.output.items c.write_data.new.output.items c.write_end.new.output.items
    c.new-out.ensures.items c.in-Ok.ensures.ok c.in-Ok.ensures.next c.in-Ok-write_data.ensures.ok c.in-Ok-write_data.ensures.counted c.in-Ok-write_end.ensures.ok)
