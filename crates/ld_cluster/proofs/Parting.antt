-- A cluster of which some parts have changed.
use Rattle.std.proofs.Common.{◌≡◌, ◌≤◌, ℕ, List, [], true, false, Option, Some, None, refl, sym, ap, ◌∙◌, subst}
use Rattle.std.specs.Option.{unwrap_or}
use Rattle.ld_table.specs.Table.{find}
use Rattle.ld_config.specs.Bounds.{IsInBounds}
use Rattle.ld_msg.specs.declared.msg.Summary.{Summary}
use Rattle.ld_msg.specs.Register.{Epochs, no_epochs, is_crowded}
use Rattle.ld_machine.specs.Config.{has_log}
use Rattle.ld_machine.specs.Disk.{Status, Blank, Up, Down, Failed, is_blank}
use Rattle.ld_bounds.specs.Sound.{IsSound}
use Rattle.ld_bounds.specs.Registers.{IsClosedBy, IsEpochs, IsKnownLog}
use Rattle.ld_node_bounds.proofs.Alls.{all-find}
use Rattle.ld_bounds.proofs.Fewness.{room_there}
use Rattle.ld_node.specs.Looks.{AreClosed}
use Rattle.ld_config.specs.declared.config.Config.{Config}
use Rattle.ld_msg.specs.Register.{Register}
use Rattle.ld_msg.specs.Network.{Network}
use Rattle.ld_transcript.specs.declared.line.Line.{Line}
use Rattle.ld_msg.specs.declared.msg.Msg.{Msg}
use Rattle.ld_host.specs.declared.hosts.Hosts.{Hosts}
use Rattle.ld_machine.specs.Disk.{Node}
use Rattle.ld_table.specs.Named.{find_named}
use Rattle.ld_ids.specs.Set.{members}
use Rattle.ld_msg.specs.Network.{no_messages}
use Rattle.ld_msg.specs.Register.{empty_register}
use Rattle.ld_machine.specs.State.{State, Done, unchanged, start, new_nodes}
use Rattle.ld_bounds.proofs.Steps.{start_is}
use Rattle.ld_register.specs.Arming.{Foresees}
use Rattle.ld_host.specs.Standing.{AreHosts}
pub use Rattle.ld_host.proofs.Messaging.{up_is}
use Rattle.ld_clients.specs.declared.outcome.Outcome.{Outcome}
use Rattle.ld_clients.specs.Serving.{sequencers_of, KnowTheirLogs}
use Rattle.ld_clients.specs.Followers as followers
use Rattle.ld_clients.specs.Acting.{AreSequencers, IsActed}
use Rattle.ld_clients.specs.Reads.{AreReaders, IsRead}
use Rattle.ld_cluster.specs.Standing.{config_of, past_of, state_by, state_of, Parts, IsReached}
use Rattle.ld_cluster.specs.Outcomes.{IsSame, IsDone}
use Rattle.ld_cluster.specs.declared.cluster.Cluster.{Cluster}

same : (k : Cluster) → IsSame k k
same k = record { config = refl; past = refl }

-- nothing is done
pub nothing_done : (k : Cluster) (s : State) (o : Outcome) (d : Done) → Parts k s → d ≡ unchanged s → o.lines.items ≡ [] → o.sends ≡ [] → IsDone k k o d
nothing_done k s o d p is lines sends = subst (λ (x : Done). IsDone k k o x) (sym is) (record { same = same k; parts = p; lines = lines; sends = sends })

-- a message is marked or sent
pub with_network : (k : Cluster) (s : State) (w : Network) → Parts k s → Parts (record k { network = w }) (record s { network = w })
with_network k s w p = record {
  nodes = p.nodes;
  register = p.register;
  network = refl;
  sequencers = record { sequencers = p.sequencers.sequencers; logs = p.sequencers.logs };
  readers = record { readers = p.readers.readers; logs = p.readers.logs };
  specs = p.specs;
}

-- the readers have changed, and the register tells what it told
pub read_done : (k k' : Cluster) (s : State) (o : Outcome) (told : Register → Type 0) (d : Done) → Parts k s
    → k'.config ≡ k.config → past_of k' ≡ past_of k → k'.hosts ≡ k.hosts → k'.network ≡ k.network → k'.sequencers ≡ k.sequencers → k'.specs ≡ k.specs
    → IsRead s k'.readers o told d → (told d.state.register → Foresees k'.register d.state.register) → followers.KnowTheirLogs k'.config k'.readers
    → IsDone k k' o d
read_done k k' s o told d p e f h n q x r reg logs =
    let t : State = record s { readers = followers.readers_of k'.readers } in
    let parts : Parts k' t = record {
      nodes = subst (λ c. AreHosts c k'.hosts s.nodes) (sym e) (subst (λ hs. AreHosts k.config hs s.nodes) (sym h) p.nodes);
      register = subst (λ g. Foresees k'.register g) (ap (λ (y : State). y.register) r.state) (reg r.register);
      network = p.network ∙ sym n;
      sequencers = subst (λ c. AreSequencers c t k'.sequencers) (sym e) (subst (λ ks. AreSequencers k.config t ks) (sym q) (record { sequencers = p.sequencers.sequencers; logs = p.sequencers.logs }));
      readers = record { readers = refl; logs = logs };
      specs = p.specs ∙ sym x;
    } in
    record {
      same = record { config = e; past = f };
      parts = subst (λ (y : State). Parts k' y) (sym r.state) parts;
      lines = r.lines;
      sends = r.sends;
    }

-- the sequencers and perhaps the register have changed
pub acted_done : (k k' : Cluster) (s : State) (o : Outcome) (told : Register → Type 0) (d : Done) → Parts k s
    → k'.config ≡ k.config → past_of k' ≡ past_of k → k'.hosts ≡ k.hosts → k'.network ≡ k.network → k'.readers ≡ k.readers → k'.specs ≡ k.specs
    → IsActed s k'.sequencers o told d → (told d.state.register → Foresees k'.register d.state.register) → KnowTheirLogs k'.config k'.sequencers
    → IsDone k k' o d
acted_done k k' s o told d p e f h n r x a reg logs =
    let t : State = record s { sequencers = d.state.sequencers; register = d.state.register } in
    let parts : Parts k' t = record {
      nodes = subst (λ c. AreHosts c k'.hosts s.nodes) (sym e) (subst (λ hs. AreHosts k.config hs s.nodes) (sym h) p.nodes);
      register = reg a.register;
      network = p.network ∙ sym n;
      sequencers = record { sequencers = a.sequencers; logs = logs };
      readers = subst (λ c. AreReaders c t k'.readers) (sym e) (subst (λ ds. AreReaders k.config t ds) (sym r) (record { readers = p.readers.readers; logs = p.readers.logs }));
      specs = p.specs ∙ sym x;
    } in
    record {
      same = record { config = e; past = f };
      parts = subst (λ (y : State). Parts k' y) (sym a.state) parts;
      lines = a.lines;
      sends = a.sends;
    }

-- hosts and perhaps the register have changed
pub hosted_done : (k k' : Cluster) (s : State) (nodes : List (ℕ × Node)) (r : Register) (o : Outcome) (d : Done) → Parts k s
    → k'.config ≡ k.config → past_of k' ≡ past_of k → k'.network ≡ k.network → k'.sequencers ≡ k.sequencers → k'.readers ≡ k.readers → k'.specs ≡ k.specs
    → AreHosts k.config k'.hosts nodes → Foresees k'.register r → d.state ≡ record s { nodes = nodes; register = r }
    → o.lines.items ≡ d.lines → o.sends ≡ d.sends → IsDone k k' o d
hosted_done k k' s nodes r o d p e f n q ds w h reg st lines sends =
    let t : State = record s { nodes = nodes; register = r } in
    let parts : Parts k' t = record {
      nodes = subst (λ c. AreHosts c k'.hosts nodes) (sym e) h;
      register = reg;
      network = p.network ∙ sym n;
      sequencers = subst (λ c. AreSequencers c t k'.sequencers) (sym e) (subst (λ ks. AreSequencers k.config t ks) (sym q) (record { sequencers = p.sequencers.sequencers; logs = p.sequencers.logs }));
      readers = subst (λ c. AreReaders c t k'.readers) (sym e) (subst (λ xs. AreReaders k.config t xs) (sym ds) (record { readers = p.readers.readers; logs = p.readers.logs }));
      specs = p.specs ∙ sym w;
    } in
    record {
      same = record { config = e; past = f };
      parts = subst (λ (x : State). Parts k' x) (sym st) parts;
      lines = lines;
      sends = sends;
    }

-- only hosts have changed
pub with_hosts : (k : Cluster) (s : State) (hosts : Hosts) (nodes : List (ℕ × Node)) (ls : List Line) (ms : List Msg) (o : Outcome) (d : Done) → Parts k s → AreHosts k.config hosts nodes
    → d ≡ record { state = record s { nodes = nodes }; lines = ls; sends = ms } → o.lines.items ≡ ls → o.sends ≡ ms → IsDone k (record k { hosts = hosts }) o d
with_hosts k s hosts nodes ls ms o d p h is lines sends =
    hosted_done k (record k { hosts = hosts }) s nodes s.register o d p refl refl refl refl refl refl h p.register (ap (λ (x : Done). x.state) is) (lines ∙ ap (λ (x : Done). x.lines) (sym is)) (sends ∙ ap (λ (x : Done). x.sends) (sym is))

-- the list of steps has grown
pub grown_parts : (k k' : Cluster) (s : State) → Parts k s → k'.config ≡ k.config → k'.hosts ≡ k.hosts → k'.network ≡ k.network → k'.sequencers ≡ k.sequencers → k'.readers ≡ k.readers → k'.specs ≡ k.specs
    → Foresees k'.register s.register → Parts k' s
grown_parts k k' s p e h n q r x reg = record {
  nodes = subst (λ c. AreHosts c k'.hosts s.nodes) (sym e) (subst (λ hs. AreHosts k.config hs s.nodes) (sym h) p.nodes);
  register = reg;
  network = p.network ∙ sym n;
  sequencers = subst (λ c. AreSequencers c s k'.sequencers) (sym e) (subst (λ ks. AreSequencers k.config s ks) (sym q) p.sequencers);
  readers = subst (λ c. AreReaders c s k'.readers) (sym e) (subst (λ ds. AreReaders k.config s ds) (sym r) p.readers);
  specs = p.specs ∙ sym x;
}

-- ---- what is known of a sound state ----

pub blank_is : (x : Status) → is_blank x ≡ true → x ≡ Blank
blank_is Blank h = refl
blank_is Up h = absurd cc
blank_is Down h = absurd cc
blank_is Failed h = absurd cc

pub room_is : (c : Config) (s : State) → IsSound c s → IsInBounds c → (l : ℕ) → has_log c l ≡ true → is_crowded s.register l ≡ false
room_is c s h b l k = room_there c b s.register l h.register k

closed_by : (c : Config) (l : ℕ) (o : Option Epochs) (e : ℕ) (y : Summary) → ((v : Epochs) → o ≡ Some v → IsEpochs c l v) → find e (unwrap_or o no_epochs).summaries ≡ Some y
    → (1 ≤ e) × (e ≤ (unwrap_or o no_epochs).lce)
unfolding find
closed_by c l None e y h f = absurd cc
closed_by c l (Some v) e y h f = let q = all-find (IsClosedBy v.lce) e v.summaries y (h v refl).summaries f in (q.summary.epoch.0, q.closed)

pub closed_are : (c : Config) (s : State) → IsSound c s → (l : ℕ) → AreClosed s.register l
closed_are c s h l = λ e y f. closed_by c l (find l s.register.logs) e y (λ v g. (all-find (IsKnownLog c) l s.register.logs v h.register.logs g).epochs) f

-- ---- a new cluster ----

no_clients : (c : Config) → KnowTheirLogs c []
unfolding find_named
no_clients c = λ name k h. absurd cc

no_followers : (c : Config) → followers.KnowTheirLogs c []
unfolding find_named
no_followers c = λ name f h. absurd cc

pub fresh : (k : Cluster) → IsInBounds (config_of k) → past_of k ≡ [] → AreHosts k.config k.hosts (new_nodes (members (config_of k).nodes)) → Foresees k.register empty_register
    → k.network ≡ no_messages → k.sequencers ≡ [] → k.readers ≡ [] → k.specs ≡ [] → IsReached k
fresh k b past hosts register network sequencers readers specs =
    let c : Config = config_of k in
    let at : state_of k ≡ start c = ap (λ ms. state_by c (start c) ms) past in
    let parts : Parts k (start c) = record {
      nodes = hosts;
      register = register;
      network = sym network;
      sequencers = record { sequencers = ap sequencers_of (sym sequencers); logs = subst (λ ks. KnowTheirLogs c ks) (sym sequencers) (no_clients c) };
      readers = record { readers = ap followers.readers_of (sym readers); logs = subst (λ ds. followers.KnowTheirLogs c ds) (sym readers) (no_followers c) };
      specs = sym specs;
    } in
    record { parts = subst (λ (s : State). Parts k s) (sym at) parts; bounds = b; sound = subst (λ (s : State). IsSound c s) (sym at) (start_is c b) }
