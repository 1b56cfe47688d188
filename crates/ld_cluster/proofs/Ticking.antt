-- Nodes that look at the register.
use Rattle.std.proofs.Common.{◌≡◌, ℕ, Bool, true, false, ◌&&◌, List, [], ◌∷◌, refl, ap, sym, ◌∙◌, if◌then◌else◌}
use Rattle.ld_config.specs.declared.config.Config.{Config}
use Rattle.ld_schedule.specs.declared.event.Event.TheVariants as events
use Rattle.ld_transcript.specs.declared.line.Line.TheVariants as lines
use Rattle.ld_msg.specs.declared.msg.Msg.{Msg}
use Rattle.ld_op.specs.declared.op.Op.TheVariants as ops
use Rattle.ld_op.specs.Ticks.{Ticked, Cleans, Rebuilt, Asks, Nothing}
use Rattle.ld_machine.specs.Calm.{cleans, cleans_by}
use Rattle.ld_machine.specs.Config.{has_node, has_log, all_nodes}
use Rattle.ld_machine.specs.Disk.{Node, Kept, Written, DiskFailed, Crashed, JournalFull, is_up, keep_op, keep_end}
use Rattle.ld_machine.specs.State.{State, Done, node_at, with_node, unchanged}
use Rattle.ld_machine.specs.Step.{happens, ticks, ticks_as, kept_lines, is_written}
use Rattle.ld_register.specs.Arming.{Foresees}
use Rattle.ld_node.specs.Looks.{op_of, answer_of}
use Rattle.ld_node.specs.declared.tick.Ticked as declared
use Rattle.ld_node.specs.declared.tick.Ticked.TheVariants as answers
use Rattle.ld_host.specs.Standing.{AreHosts, node_in}
use Rattle.ld_host.specs.Done.{op_done, tick_of, tick_done, tick_answer, kept_nodes}
use Rattle.ld_clients.specs.declared.outcome.Outcome.{Outcome}
use Rattle.ld_cluster.specs.declared.cluster.Cluster.{Cluster}
use Rattle.ld_cluster.specs.Standing.{config_of, past_of, Parts}
use Rattle.ld_cluster.specs.Outcomes.{IsDone}
use Rattle.ld_cluster.specs.Ticking.{tick_lines, asks_of, has_cleaned}
use Rattle.ld_cluster.proofs.Chosen.{where_here, where_nowhere, if_yes, if_not}
use Rattle.ld_cluster.proofs.Parting.{nothing_done, hosted_done}

cleaned_lines : (n l e : ℕ) (w : Kept) → kept_lines n [] w ≡ kept_lines n (tick_lines n l (if is_written w then answers.Cleaned e else answers.Nothing)) w
cleaned_lines n l e Written = refl
cleaned_lines n l e DiskFailed = refl
cleaned_lines n l e Crashed = refl
cleaned_lines n l e JournalFull = refl

abbrev nothing : List Msg
nothing = []

cleaned_sends : (e : ℕ) (b : Bool) → (if b then nothing else nothing) ≡ asks_of (if b then answers.Cleaned e else answers.Nothing)
cleaned_sends e true = refl
cleaned_sends e false = refl

rebuilt_lines : (n l : ℕ) (w : Kept) → kept_lines n (lines.NodeRebuilt n l ∷ []) w ≡ kept_lines n (tick_lines n l (if is_written w then answers.Rebuilt else answers.Nothing)) w
rebuilt_lines n l Written = refl
rebuilt_lines n l DiskFailed = refl
rebuilt_lines n l Crashed = refl
rebuilt_lines n l JournalFull = refl

rebuilt_sends : (b : Bool) → (if b then nothing else nothing) ≡ asks_of (if b then answers.Rebuilt else answers.Nothing)
rebuilt_sends true = refl
rebuilt_sends false = refl

-- what a tick keeps, and what it answers where that was written
abbrev answer_by : Config → ℕ → Node → ℕ → Ticked → declared.Ticked
answer_by c n x l t = if is_written (op_done x (op_of l t) []).end then answer_of n l (all_nodes c) t else answers.Nothing

tick_by : (c : Config) (s : State) (n l : ℕ) (t : Ticked) → ticks_as c s n l t ≡ record {
  state = record s { nodes = kept_nodes n (op_of l t) s.nodes };
  lines = kept_lines n (tick_lines n l (answer_by c n (node_in s.nodes n) l t)) (op_done (node_in s.nodes n) (op_of l t) []).end;
  sends = asks_of (answer_by c n (node_in s.nodes n) l t);
}
tick_by c s n l (Cleans e y) = let w : Kept = keep_end (node_in s.nodes n) (ops.Clean l e y) in
    λ i. record { state = with_node s n (keep_op (node_in s.nodes n) (ops.Clean l e y)); lines = cleaned_lines n l e w i; sends = cleaned_sends e (is_written w) i }
tick_by c s n l Rebuilt = let w : Kept = keep_end (node_in s.nodes n) (ops.Refilled l) in
    λ i. record { state = with_node s n (keep_op (node_in s.nodes n) (ops.Refilled l)); lines = rebuilt_lines n l w i; sends = rebuilt_sends (is_written w) i }
tick_by c s n l (Asks from) = refl
tick_by c s n l Nothing = refl

tick_is : (c : Config) (s : State) (n l : ℕ) → has_node c n ≡ true → (is_up (node_at s n).status && has_log c l) ≡ true
    → happens c s (events.Tick n l) ≡ ticks_as c s n l (tick_of (node_in s.nodes n) l s.register)
unfolding happens
tick_is c s n l h k = where_here c s n (ticks c s n l) h ∙ if_yes _ _ _ k

tick_nowhere : (c : Config) (s : State) (n l : ℕ) → has_node c n ≡ false → happens c s (events.Tick n l) ≡ unchanged s
unfolding happens
tick_nowhere c s n l h = where_nowhere c s n (ticks c s n l) h

tick_not : (c : Config) (s : State) (n l : ℕ) → has_node c n ≡ true → (is_up (node_at s n).status && has_log c l) ≡ false → happens c s (events.Tick n l) ≡ unchanged s
unfolding happens
tick_not c s n l h k = where_here c s n (ticks c s n l) h ∙ if_not _ _ _ k

module _ (k : Cluster) (s : State) (p : Parts k s) (n l : ℕ) (o : Outcome) where
  pub nowhere : has_node (config_of k) n ≡ false → o.lines.items ≡ [] → o.sends ≡ [] → IsDone k k o (happens (config_of k) s (events.Tick n l))
  nowhere h ls ms = nothing_done k s o _ p (tick_nowhere (config_of k) s n l h) ls ms

  pub not_ticking : has_node (config_of k) n ≡ true → (is_up (node_at s n).status && has_log (config_of k) l) ≡ false → o.lines.items ≡ [] → o.sends ≡ [] → IsDone k k o (happens (config_of k) s (events.Tick n l))
  not_ticking h b ls ms = nothing_done k s o _ p (tick_not (config_of k) s n l h b) ls ms

  pub ticked_done : (k' : Cluster) → k'.config ≡ k.config → past_of k' ≡ past_of k → k'.network ≡ k.network → k'.sequencers ≡ k.sequencers → k'.readers ≡ k.readers → k'.specs ≡ k.specs
      → has_node (config_of k) n ≡ true → (is_up (node_at s n).status && has_log (config_of k) l) ≡ true
      → AreHosts k.config k'.hosts (kept_nodes n (op_of l (tick_of (node_in s.nodes n) l s.register)) s.nodes) → Foresees k'.register s.register
      → o.lines.items ≡ kept_lines n (tick_lines n l (tick_answer (config_of k) n (node_in s.nodes n) l s.register)) (tick_done (config_of k) n (node_in s.nodes n) l s.register).end
      → o.sends ≡ asks_of (tick_answer (config_of k) n (node_in s.nodes n) l s.register) → IsDone k k' o (happens (config_of k) s (events.Tick n l))
  ticked_done k' e f w q r x h b a reg ls ms =
      let is = tick_is (config_of k) s n l h b ∙ tick_by (config_of k) s n l (tick_of (node_in s.nodes n) l s.register) in
      hosted_done k k' s _ s.register o _ p e f w q r x a reg (ap (λ (x : Done). x.state) is) (ls ∙ ap (λ (x : Done). x.lines) (sym is)) (ms ∙ ap (λ (x : Done). x.sends) (sym is))

-- ---- whether it cleaned ----

cleaned_or : (e : ℕ) (b : Bool) → has_cleaned (if b then answers.Cleaned e else answers.Nothing) ≡ b
cleaned_or e true = refl
cleaned_or e false = refl

rebuilt_or : (b : Bool) → has_cleaned (if b then answers.Rebuilt else answers.Nothing) ≡ false
rebuilt_or true = refl
rebuilt_or false = refl

cleaned_by : (c : Config) (n l : ℕ) (x : Node) (t : Ticked) → has_cleaned (answer_by c n x l t) ≡ cleans_by x l t
cleaned_by c n l x (Cleans e y) = cleaned_or e (is_written (keep_end x (ops.Clean l e y)))
cleaned_by c n l x Rebuilt = rebuilt_or (is_written (keep_end x (ops.Refilled l)))
cleaned_by c n l x (Asks from) = refl
cleaned_by c n l x Nothing = refl

-- what a tick answers says whether it cleaned
pub cleaned_is : (c : Config) (s : State) (n l : ℕ) (t : declared.Ticked) (b : Bool) → is_up (node_at s n).status ≡ true → t ≡ tick_answer c n (node_in s.nodes n) l s.register → b ≡ has_cleaned t → b ≡ cleans s n l
cleaned_is c s n l t b u e h = h ∙ (ap has_cleaned e ∙ (cleaned_by c n l (node_at s n) (tick_of (node_at s n) l s.register) ∙ ap (λ x. x && cleans_by (node_at s n) l (tick_of (node_at s n) l s.register)) (sym u)))

-- a node that isn't up cleans nothing
pub cleaned_not : (c : Config) (s : State) (n l : ℕ) → has_log c l ≡ true → (is_up (node_at s n).status && has_log c l) ≡ false → false ≡ cleans s n l
cleaned_not c s n l h b = down (is_up (node_at s n).status) (has_log c l) (cleans_by (node_at s n) l (tick_of (node_at s n) l s.register)) h b where
  down : (u g x : Bool) → g ≡ true → (u && g) ≡ false → false ≡ (u && x)
  down false g x h b = refl
  down true g x h b = let e : true ≡ false = sym h ∙ b in absurd cc
