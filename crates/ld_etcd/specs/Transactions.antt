-- How a transaction ended.
use Rattle.std.specs.Prelude.{ℕ, List}
use Rattle.serde_json.specs.Data.{Data}
use Rattle.ld_etcd.specs.Gateway.{IsMade, IsThere}
use Rattle.ld_etcd.specs.declared.gateway.Transaction.{Transaction}
use Rattle.ld_etcd.specs.declared.gateway.Transaction.TheVariants as transactions

abbrev pub Ended : List ℕ → ℕ → Data → Transaction → Type 0
Ended prefix n answer transactions.Made = IsMade answer
Ended prefix n answer (transactions.There value) = IsThere prefix n answer value.items
