-- A message to a node in memory, as the machine has it.
use Rattle.std.proofs.Common.{◌≡◌, ◌++◌, ℕ, Bool, true, false, ◌&&◌, List, refl, sym, ◌∙◌, subst}
use Rattle.std.proofs.lemmas.Bool.{and_from}
use Rattle.std.proofs.lemmas.List.{append-nil}
use Rattle.ld_table.specs.Table.{put}
use Rattle.ld_config.specs.declared.config.Config.{Config}
use Rattle.ld_msg.specs.declared.msg.Msg.{Msg}
use Rattle.ld_machine.specs.Config.{has_log}
use Rattle.ld_machine.specs.Disk.{Node}
use Rattle.ld_machine.specs.State.{Done}
use Rattle.ld_host.specs.declared.hosts.Hosts.{Hosts}
use Rattle.ld_host.specs.Done.{message_done}
use Rattle.ld_host.specs.Standing.{AreHosts, node_in}
use Rattle.ld_host.proofs.Messaging.{if_not, node_up}
use Rattle.ld_dial.specs.Far.{alone, is_up_in, handed}

-- hosts that are what the message leaves of the nodes, with its answers behind these
abbrev pub AreHanded : Config → Hosts → List Msg → List Msg → Done → Type 0
AreHanded c hosts before now d = AreHosts c hosts d.state.nodes × (now ≡ before ++ d.sends)

no_and : (a b : Bool) → b ≡ false → (a && b) ≡ false
no_and true b h = h
no_and false b h = refl

module _ (c : Config) (nodes : List (ℕ × Node)) (y : ℕ) (m : Msg) (hosts : Hosts) (before now : List Msg) where
  pub not_known : has_log c m.log ≡ false → AreHosts c hosts nodes → now ≡ before → AreHanded c hosts before now (handed c nodes y m)
  not_known out are same = subst (λ d. AreHanded c hosts before now d) (sym (if_not _ _ _ (no_and (is_up_in nodes y) (has_log c m.log) out))) (are, same ∙ sym (append-nil before))

  pub is_handed : is_up_in nodes y ≡ true → has_log c m.log ≡ true → AreHosts c hosts (put y (message_done y (node_in nodes y) m).node nodes) → now ≡ before ++ (message_done y (node_in nodes y) m).sends
      → AreHanded c hosts before now (handed c nodes y m)
  is_handed up has are same = subst (λ d. AreHanded c hosts before now d) (sym (node_up c (alone nodes) y m (and_from _ _ up has))) (are, same)
