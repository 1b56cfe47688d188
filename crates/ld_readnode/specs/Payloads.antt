-- Which payloads an answer carries.
use Rattle.std.specs.Prelude.{ℕ, Bool, true}
use Rattle.ld_readnode.specs.Answered.{is_sender}
use Rattle.ld_readnode.specs.declared.payloads.Payloads.{Payloads}
use Rattle.ld_readnode.specs.declared.payloads.Payloads.TheVariants as payloads

abbrev pub carries_of : Payloads → ℕ → Bool
carries_of payloads.All number = true
carries_of (payloads.Share node set excluded) number = is_sender node set excluded number
