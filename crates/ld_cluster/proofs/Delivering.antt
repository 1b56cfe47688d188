-- Messages that are delivered or lost.
use Rattle.std.proofs.Common.{◌≡◌, ℕ, true, false, ◌&&◌, [], Option, Some, None, refl, ap, sym, ◌∙◌, subst}
use Rattle.ld_table.specs.Table.{put}
use Rattle.ld_config.specs.declared.config.Config.{Config}
use Rattle.ld_schedule.specs.declared.event.Event.TheVariants as events
use Rattle.ld_msg.specs.declared.msg.Msg.{Msg}
use Rattle.ld_msg.specs.Bounds.{IsMessage}
use Rattle.ld_msg.specs.Network.{Network, message, mark}
use Rattle.ld_machine.specs.Config.{has_log}
use Rattle.ld_machine.specs.Disk.{is_up}
use Rattle.ld_machine.specs.State.{State, Done, node_at}
use Rattle.ld_machine.specs.Step as step
use Rattle.ld_machine.specs.Step.{happens, marked, kept_lines}
use Rattle.ld_bounds.proofs.Steps.{message_in, marked_is}
use Rattle.ld_host.specs.declared.hosts.Hosts.{Hosts}
use Rattle.ld_host.specs.Standing.{AreHosts, node_in}
use Rattle.ld_host.specs.Done.{message_done}
use Rattle.ld_host.proofs.Messaging.{if_not, node_up}
use Rattle.ld_clients.specs.declared.outcome.Outcome.{Outcome}
use Rattle.ld_cluster.specs.declared.cluster.Cluster.{Cluster}
use Rattle.ld_cluster.specs.Standing.{config_of, state_of, Parts, Stands, IsReached}
use Rattle.ld_cluster.specs.Outcomes.{IsDone}
use Rattle.ld_cluster.proofs.Parting.{nothing_done, with_network, with_hosts}

-- ---- the message ----

marked_parts : (k : Cluster) (s : State) (w : Network) (i : ℕ) → Parts k s → w ≡ mark k.network i → Parts (record k { network = w }) (marked s i)
marked_parts k s w i p e =
    let here : w ≡ mark s.network i = e ∙ ap (λ x. mark x i) (sym p.network) in
    subst (λ (x : Network). Parts (record k { network = w }) (record s { network = x })) here (with_network k s w p)

pub marked_stands : (k : Cluster) (w : Network) (i : ℕ) → IsReached k → w ≡ mark k.network i → Stands (record k { network = w }) (marked (state_of k) i)
marked_stands k w i r e = record { parts = marked_parts k (state_of k) w i r.parts e; bounds = r.bounds; sound = marked_is (config_of k) (state_of k) r.sound i }

pub lose_done : (k : Cluster) (s : State) (w : Network) (i : ℕ) (o : Outcome) → Parts k s → w ≡ mark k.network i → o.lines.items ≡ [] → o.sends ≡ []
    → IsDone k (record k { network = w }) o (happens (config_of k) s (events.Lose i))
unfolding happens
lose_done k s w i o p e ls ms = record { same = record { config = refl; past = refl }; parts = marked_parts k s w i p e; lines = ls; sends = ms }

deliver_is : (c : Config) (s : State) (i : ℕ) (m : Option Msg) → message s.network i ≡ m → happens c s (events.Deliver i) ≡ step.delivers_it c s i m
unfolding happens step.delivers
deliver_is c s i m h = ap (step.delivers_it c s i) h

pub no_message : (k : Cluster) (s : State) (i : ℕ) (o : Outcome) → Parts k s → message k.network i ≡ None → o.lines.items ≡ [] → o.sends ≡ [] → IsDone k k o (happens (config_of k) s (events.Deliver i))
no_message k s i o p h ls ms = nothing_done k s o _ p (deliver_is (config_of k) s i None (ap (λ w. message w i) p.network ∙ h)) ls ms

pub is_message : (k : Cluster) (i : ℕ) (m : Msg) → IsReached k → message k.network i ≡ Some m → IsMessage m
is_message k i m r h = message_in (state_of k).network i m r.sound.messages (ap (λ w. message w i) r.parts.network ∙ h)

pub delivered : (k k2 : Cluster) (w : Network) (i : ℕ) (m : Msg) (o : Outcome) → Parts k (state_of k) → message k.network i ≡ Some m
    → IsDone (record k { network = w }) k2 o (step.comes_to (config_of k) (marked (state_of k) i) m m.to) → IsDone k k2 o (happens (config_of k) (state_of k) (events.Deliver i))
delivered k k2 w i m o p h d = subst (λ (x : Done). IsDone k k2 o x) (sym (deliver_is (config_of k) (state_of k) i (Some m) (ap (λ x. message x i) p.network ∙ h)))
    (record { same = record { config = d.same.config; past = d.same.past }; parts = d.parts; lines = d.lines; sends = d.sends })

-- ---- to a node ----

pub not_served : (k : Cluster) (s : State) (n : ℕ) (m : Msg) (o : Outcome) → Parts k s → (is_up (node_at s n).status && has_log (config_of k) m.log) ≡ false → o.lines.items ≡ [] → o.sends ≡ []
    → IsDone k k o (step.to_node (config_of k) s n m)
not_served k s n m o p h ls ms = nothing_done k s o _ p (if_not _ _ _ h) ls ms

pub served_done : (k : Cluster) (s : State) (hosts : Hosts) (n : ℕ) (m : Msg) (o : Outcome) → Parts k s → (is_up (node_at s n).status && has_log (config_of k) m.log) ≡ true
    → AreHosts k.config hosts (put n (message_done n (node_in s.nodes n) m).node s.nodes) → o.lines.items ≡ kept_lines n [] (message_done n (node_in s.nodes n) m).end → o.sends ≡ (message_done n (node_in s.nodes n) m).sends
    → IsDone k (record k { hosts = hosts }) o (step.to_node (config_of k) s n m)
served_done k s hosts n m o p h a ls ms = with_hosts k s hosts _ _ _ o _ p a (node_up (config_of k) s n m h) ls ms

-- ---- to whom it goes ----

pub goes_to : (c : Config) (s : State) (m : Msg) (k k' : Cluster) (o : Outcome) (d : Done) → step.comes_to c s m m.to ≡ d → IsDone k k' o d → IsDone k k' o (step.comes_to c s m m.to)
goes_to c s m k k' o d e h = subst (λ (x : Done). IsDone k k' o x) (sym e) h
