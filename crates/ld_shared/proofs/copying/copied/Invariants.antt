use Rattle.std.proofs.Common.{◌≡◌, ◌<◌, ℕ, List, Some, length, map}
use Rattle.ld_shared.specs.Copies.{HasCopied}
use Rattle.ld_shared.proofs.copying.copied.Given as goal

-- the values are those of the records up to this offset
abbrev pub invariant-records : goal.invariant-records
invariant-records g l = record {
  same : g.D.Disk.seen l.disk ≡ g.D.Disk.seen l.fn.disk;
  copied : (bytes : List ℕ) → g.D.Disk.seen l.fn.disk ≡ Some bytes → 0 < length bytes → l.len ≡ length bytes → HasCopied bytes l.at l.number (map (λ v. v.items) l.values.items);
}
