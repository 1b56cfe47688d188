-- Nodes that stop, load and lose their disks, and what is armed.
use Rattle.std.proofs.Common.{◌≡◌, ℕ, Bool, true, false, ◌&&◌, ◌||◌, [], ◌∷◌, Some, None, refl, ap, sym, subst, map}
use Rattle.ld_table.specs.Table.{put}
use Rattle.ld_config.specs.declared.config.Config.{Config}
use Rattle.ld_schedule.specs.declared.event.Event.TheVariants as events
use Rattle.ld_schedule.specs.declared.event.Picture.{Picture}
use Rattle.ld_transcript.specs.declared.line.Line.TheVariants as lines
use Rattle.ld_machine.specs.Config.{has_node}
use Rattle.ld_machine.specs.Disk.{new_node, is_up, is_failed, is_down, load, load_end}
use Rattle.ld_machine.specs.State.{State, node_at, with_node, unchanged, only_state, with_line}
use Rattle.ld_machine.specs.Step.{happens, stopped, with_fault, kept_lines, armed}
use Rattle.ld_register.specs.Arming.{Foresees}
use Rattle.ld_host.specs.declared.hosts.Hosts.{Hosts}
use Rattle.ld_host.specs.Standing.{AreHosts, node_in}
use Rattle.ld_clients.specs.declared.outcome.Outcome.{Outcome}
use Rattle.ld_cluster.specs.declared.cluster.Cluster.{Cluster}
use Rattle.ld_cluster.specs.Standing.{as_move, config_of, Parts}
use Rattle.ld_cluster.specs.Outcomes.{IsDone}
use Rattle.ld_cluster.proofs.Chosen.{where_yes, where_not, where_here, where_nowhere}
use Rattle.ld_cluster.proofs.Parting.{nothing_done, with_hosts, hosted_done}

-- ---- what each event does ----

down_is : (c : Config) (s : State) (n : ℕ) → (has_node c n && (is_up (node_at s n).status || is_failed (node_at s n).status)) ≡ true → happens c s (events.Down n) ≡ with_line (with_node s n (stopped (node_at s n))) (lines.NodeDown n)
unfolding happens
down_is c s n h = where_yes c s n _ _ h

down_not : (c : Config) (s : State) (n : ℕ) → (has_node c n && (is_up (node_at s n).status || is_failed (node_at s n).status)) ≡ false → happens c s (events.Down n) ≡ unchanged s
unfolding happens
down_not c s n h = where_not c s n _ _ h

up_is : (c : Config) (s : State) (n : ℕ) → (has_node c n && is_down (node_at s n).status) ≡ true
    → happens c s (events.Up n) ≡ record { state = with_node s n (load (node_at s n)); lines = kept_lines n (lines.NodeUp n ∷ []) (load_end (node_at s n)); sends = [] }
unfolding happens
up_is c s n h = where_yes c s n _ _ h

up_not : (c : Config) (s : State) (n : ℕ) → (has_node c n && is_down (node_at s n).status) ≡ false → happens c s (events.Up n) ≡ unchanged s
unfolding happens
up_not c s n h = where_not c s n _ _ h

wipe_is : (c : Config) (s : State) (n : ℕ) → has_node c n ≡ true → happens c s (events.Wipe n) ≡ with_line (with_node s n new_node) (lines.NodeWiped n)
unfolding happens
wipe_is c s n h = where_here c s n _ h

wipe_not : (c : Config) (s : State) (n : ℕ) → has_node c n ≡ false → happens c s (events.Wipe n) ≡ unchanged s
unfolding happens
wipe_not c s n h = where_nowhere c s n _ h

fail_is : (c : Config) (s : State) (n k : ℕ) → has_node c n ≡ true → happens c s (events.Fail n k) ≡ only_state (with_node s n (with_fault (node_at s n) (record { left = k; crash = None })))
unfolding happens
fail_is c s n k h = where_here c s n _ h

fail_not : (c : Config) (s : State) (n k : ℕ) → has_node c n ≡ false → happens c s (events.Fail n k) ≡ unchanged s
unfolding happens
fail_not c s n k h = where_nowhere c s n _ h

tear_is : (c : Config) (s : State) (n k : ℕ) (p : Picture) → has_node c n ≡ true → happens c s (events.Tear n k p) ≡ only_state (with_node s n (with_fault (node_at s n) (record { left = k; crash = Some p })))
unfolding happens
tear_is c s n k p h = where_here c s n _ h

tear_not : (c : Config) (s : State) (n k : ℕ) (p : Picture) → has_node c n ≡ false → happens c s (events.Tear n k p) ≡ unchanged s
unfolding happens
tear_not c s n k p h = where_nowhere c s n _ h

-- ---- what a cluster makes of it ----

module _ (k : Cluster) (s : State) (p : Parts k s) (n : ℕ) (o : Outcome) where
  pub not_stopped : (has_node (config_of k) n && (is_up (node_at s n).status || is_failed (node_at s n).status)) ≡ false → o.lines.items ≡ [] → o.sends ≡ [] → IsDone k k o (happens (config_of k) s (events.Down n))
  not_stopped h ls ms = nothing_done k s o _ p (down_not (config_of k) s n h) ls ms

  pub stopped_done : (hosts : Hosts) → (has_node (config_of k) n && (is_up (node_at s n).status || is_failed (node_at s n).status)) ≡ true → AreHosts k.config hosts (put n (stopped (node_in s.nodes n)) s.nodes)
      → o.lines.items ≡ lines.NodeDown n ∷ [] → o.sends ≡ [] → IsDone k (record k { hosts = hosts }) o (happens (config_of k) s (events.Down n))
  stopped_done hosts h a ls ms = with_hosts k s hosts _ _ _ o _ p a (down_is (config_of k) s n h) ls ms

  pub not_loaded : (has_node (config_of k) n && is_down (node_at s n).status) ≡ false → o.lines.items ≡ [] → o.sends ≡ [] → IsDone k k o (happens (config_of k) s (events.Up n))
  not_loaded h ls ms = nothing_done k s o _ p (up_not (config_of k) s n h) ls ms

  pub loaded_done : (hosts : Hosts) → (has_node (config_of k) n && is_down (node_at s n).status) ≡ true → AreHosts k.config hosts (put n (load (node_in s.nodes n)) s.nodes)
      → o.lines.items ≡ kept_lines n (lines.NodeUp n ∷ []) (load_end (node_in s.nodes n)) → o.sends ≡ [] → IsDone k (record k { hosts = hosts }) o (happens (config_of k) s (events.Up n))
  loaded_done hosts h a ls ms = with_hosts k s hosts _ _ _ o _ p a (up_is (config_of k) s n h) ls ms

  pub not_wiped : has_node (config_of k) n ≡ false → o.lines.items ≡ [] → o.sends ≡ [] → IsDone k k o (happens (config_of k) s (events.Wipe n))
  not_wiped h ls ms = nothing_done k s o _ p (wipe_not (config_of k) s n h) ls ms

  pub wiped_done : (hosts : Hosts) → has_node (config_of k) n ≡ true → AreHosts k.config hosts (put n new_node s.nodes)
      → o.lines.items ≡ lines.NodeWiped n ∷ [] → o.sends ≡ [] → IsDone k (record k { hosts = hosts }) o (happens (config_of k) s (events.Wipe n))
  wiped_done hosts h a ls ms = with_hosts k s hosts _ _ _ o _ p a (wipe_is (config_of k) s n h) ls ms

  pub not_failed : (call : ℕ) → has_node (config_of k) n ≡ false → o.lines.items ≡ [] → o.sends ≡ [] → IsDone k k o (happens (config_of k) s (events.Fail n call))
  not_failed call h ls ms = nothing_done k s o _ p (fail_not (config_of k) s n call h) ls ms

  pub failed_done : (hosts : Hosts) (call : ℕ) → has_node (config_of k) n ≡ true → AreHosts k.config hosts (put n (with_fault (node_in s.nodes n) (record { left = call; crash = None })) s.nodes)
      → o.lines.items ≡ [] → o.sends ≡ [] → IsDone k (record k { hosts = hosts }) o (happens (config_of k) s (events.Fail n call))
  failed_done hosts call h a ls ms = with_hosts k s hosts _ _ _ o _ p a (fail_is (config_of k) s n call h) ls ms

  pub not_torn : (call : ℕ) (picture : Picture) → has_node (config_of k) n ≡ false → o.lines.items ≡ [] → o.sends ≡ [] → IsDone k k o (happens (config_of k) s (events.Tear n call picture))
  not_torn call picture h ls ms = nothing_done k s o _ p (tear_not (config_of k) s n call picture h) ls ms

  pub torn_done : (hosts : Hosts) (call : ℕ) (picture : Picture) → has_node (config_of k) n ≡ true → AreHosts k.config hosts (put n (with_fault (node_in s.nodes n) (record { left = call; crash = Some picture })) s.nodes)
      → o.lines.items ≡ [] → o.sends ≡ [] → IsDone k (record k { hosts = hosts }) o (happens (config_of k) s (events.Tear n call picture))
  torn_done hosts call picture h a ls ms = with_hosts k s hosts _ _ _ o _ p a (tear_is (config_of k) s n call picture h) ls ms

pub armed_done : (k k' : Cluster) (s : State) (call : ℕ) (done : Bool) (o : Outcome) → Parts k s
    → k'.config ≡ k.config → k'.past ≡ k.past → k'.hosts ≡ k.hosts → k'.network ≡ k.network → k'.sequencers ≡ k.sequencers → k'.readers ≡ k.readers → k'.specs ≡ k.specs
    → Foresees k'.register (armed s.register call done) → o.lines.items ≡ [] → o.sends ≡ [] → IsDone k k' o (happens (config_of k) s (events.RegFail call done))
unfolding happens
armed_done k k' s call done o p e f h n q r x reg ls ms =
    hosted_done k k' s s.nodes (armed s.register call done) o _ p e (ap (λ v. map as_move v.items) f) n q r x (subst (λ hs. AreHosts k.config hs s.nodes) (sym h) p.nodes) reg refl ls ms

-- a flow is some deliveries, and nothing beside
pub nothing_flows : (k : Cluster) (s : State) (most : ℕ) (o : Outcome) → Parts k s → o.lines.items ≡ [] → o.sends ≡ [] → IsDone k k o (happens (config_of k) s (events.Flow most))
unfolding happens
nothing_flows k s most o p ls ms = nothing_done k s o _ p refl ls ms

pub nothing_calms : (k : Cluster) (s : State) (o : Outcome) → Parts k s → o.lines.items ≡ [] → o.sends ≡ [] → IsDone k k o (happens (config_of k) s events.Calm)
unfolding happens
nothing_calms k s o p ls ms = nothing_done k s o _ p refl ls ms
