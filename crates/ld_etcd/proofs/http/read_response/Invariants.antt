use Rattle.std.proofs.Common.{◌≡◌, ◌≤◌, ◌^◌, length}
use Rattle.ld_etcd.proofs.http.read_response.Given as goal

abbrev pub invariant-steps : goal.invariant-steps
invariant-steps g l = (g.M.Members.did l.members ≡ g.M.Members.did l.fn.members) × (length l.response.body.items ≤ 2 ^ 24)
