-- When a batch is refused.
use Rattle.std.specs.Prelude.{◌≡◌, ℕ, ◌≤◌, ◌<◌}
use Rattle.ld_batch.specs.Batch.{batch_limit, Unpacked, Bad}
use Rattle.ld_batch.specs.declared.fault.UnpackFault.{UnpackFault}
use Rattle.ld_batch.specs.declared.fault.UnpackFault.TheVariants as unpack_faults
use Rattle.ld_batch.specs.declared.fault.PushFault.{PushFault}
use Rattle.ld_batch.specs.declared.fault.PushFault.TheVariants as push_faults

-- no batch, and where it has a syntax error
abbrev pub IsNoBatch : Unpacked → UnpackFault → Type 0
IsNoBatch found (unpack_faults.BadBatch place) = found ≡ Bad place
IsNoBatch found unpack_faults.NoMemory = Unit {0}

-- a payload that would have so many bytes, of a batch that has so many messages
abbrev pub IsRefused : ℕ → ℕ → PushFault → Type 0
IsRefused long count (push_faults.TooLong bytes) = (bytes ≡ long) × (65535 < long)
IsRefused long count push_faults.Full = (long ≤ 65535) × (count ≡ batch_limit)
IsRefused long count push_faults.NoMemory = (long ≤ 65535) × (count < batch_limit)
